-- Bytes that are put into a file at a place: outside of the range each byte is the old one, in every cut too.
-- `range_left` is the step from a `WroteAt` on a synced file to `ChangesRange`.
use Rattle.std.proofs.Common.{◌≡◌, ◌+◌, ◌-◌, ◌<◌, ◌≤◌, ◌++◌, ◌⊎◌, inl, inr, ⊎_elim, ℕ, List, [], ◌∷◌, Option, Some, None, IsSomeAnd, IfSome, false, length, get_or, take, drop, refl, ◌∙◌, ap, arith, length-append, length-drop}
use Rattle.std.proofs.lemmas.Bool.{cases_lt}
use Rattle.std.proofs.lemmas.Bool.Decides.{nat_tests}
use Rattle.std.proofs.lemmas.List.{get_or-append_right, get_or-drop, get_or-take, get_or_append_left, length-take-le}
use Rattle.std.proofs.lemmas.List.Folds.{list_any-append}
use Rattle.std.specs.Option.{option_map}
use Rattle.acfg_device.specs.Calls.{loosened, overwritten, spliced}
use Rattle.acfg_device.specs.Disk.{File, IsSynced, Loose, MayHold, MayStand, Replaced, SameOutside, Within, in_ranges}

-- a place that is in no such range is before it or behind it
pub outside_range : (at size place : ℕ) → in_ranges ((at, size) ∷ []) place ≡ false → (place < at) ⊎ (at + size ≤ place)
outside_range at size place out = elim (cases_lt place at) [
  | inl low ↦ inl low
  | inr from ↦ elim (cases_lt place (at + size)) [
    | inl to ↦ absurd (grind (arith, nat_tests))
    | inr high ↦ inr high
  ]
]

module _ (held other : List ℕ) (at : ℕ) (fits : at + length other ≤ length held) where
  front : length (take at held ++ other) ≡ at + length other
  front = length-append (take at held) other ∙ ap (λ (n : ℕ). n + length other) (length-take-le at held (omega arith))

  pub spliced_length : length (spliced held at other) ≡ length held
  spliced_length = length-append (take at held ++ other) (drop (at + length other) held) ∙ omega (arith, front, length-drop (at + length other) held)

  pub spliced_outside : (place : ℕ) → in_ranges ((at, length other) ∷ []) place ≡ false → get_or (spliced held at other) place 0 ≡ get_or held place 0
  spliced_outside place out = ⊎_elim
      (λ low. get_or_append_left (take at held ++ other) (drop (at + length other) held) 0 place (omega (arith, front, low))
      ∙ get_or_append_left (take at held) other 0 place (omega (arith, low, length-take-le at held (omega arith)))
      ∙ get_or-take at held place 0 low)
      (λ high. get_or-append_right (take at held ++ other) (drop (at + length other) held) (at + length other) place 0 front high
      ∙ get_or-drop (at + length other) held (place - (at + length other)) 0
      ∙ ap (λ (n : ℕ). get_or held n 0) (omega (arith, high)))
      (outside_range at (length other) place out)

-- What a cut leaves of a synced file after a write at a place has the old bytes outside of the range.
pub range_left : (was : Option File) (left : Option (List ℕ)) (at : ℕ) (other : List ℕ) → IfSome was (λ (file : File). IsSynced file.loose)
    → IsSomeAnd (option_map (λ (file : File). file.bytes) was) (λ (held : List ℕ). at + length other ≤ length held) → MayStand (option_map (overwritten at other) was) left
    → IsSomeAnd (option_map (λ (file : File). file.bytes) was) (λ (held : List ℕ). IsSomeAnd left (SameOutside ((at, length other) ∷ []) held))
range_left None left at other synced fits stands = fits
range_left (Some file) None at other synced fits stands = stands
range_left (Some file) (Some left) at other synced fits stands = by_loose file.loose synced stands
  where
    by_loose : (loose : Loose) → IsSynced loose → MayHold (loosened loose at (length other)) (spliced file.bytes at other) left → SameOutside ((at, length other) ∷ []) file.bytes left
    by_loose Replaced lost holds = absurd lost
    by_loose (Within ranges) none holds = record {
      length = holds.length ∙ spliced_length file.bytes other at fits;
      outside = λ place out.
          holds.outside place (list_any-append _ ranges ((at, length other) ∷ []) ∙ rw (none place) out)
          ∙ spliced_outside file.bytes other at fits place out;
    }

-- a file that has the range has it, as it is
pub range_here : (held : Option (List ℕ)) (at size : ℕ) → IsSomeAnd held (λ (bytes : List ℕ). at + size ≤ length bytes) → IsSomeAnd held (λ (bytes : List ℕ). IsSomeAnd held (SameOutside ((at, size) ∷ []) bytes))
range_here None at size fits = fits
range_here (Some bytes) at size fits = record { length = refl; outside = λ place out. refl }
