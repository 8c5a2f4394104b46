-- Name changes are undone, the newest first.
use Rattle.std.proofs.Common.{◌≡◌, inl, inr, ℕ, ◌≤◌, List, [], ◌∷◌, Option, None, true, length, cond, refl, sym, ◌∙◌, ap, arith, nat_lt}
use Rattle.std.proofs.lemmas.Bool.Decides.{nat_tests}
use Rattle.std.proofs.lemmas.List.{length-map, length-reverse}
use Rattle.std.specs.Map.{update}
use Rattle.std.specs.Str.{bytes_eq}
use Rattle.acfg_device.specs.Disk as disk
use Rattle.acfg_device.proofs.Naming.{functions, same_name, update_apart, update_here}
use Rattle.acfg_memdev.specs.Cut.{kept}
use Rattle.acfg_memdev.specs.Slots.{changes_of}
use Rattle.acfg_memdev.specs.declared.disk.Change.{Change}

-- a slot that is emptied before it is filled again may as well not have been
pub moved_back : (names : disk.Names) (from to : List ℕ) (moved lost : Option disk.File)
    → update bytes_eq (update bytes_eq (update bytes_eq names to None) from moved) to lost ≡ update bytes_eq (update bytes_eq names from moved) to lost
moved_back names from to moved lost = functions _ (update bytes_eq (update bytes_eq names from moved) to lost) each
  where
    emptied : disk.Names
    emptied = update bytes_eq names to None

    each : (name : List ℕ) → update bytes_eq (update bytes_eq (update bytes_eq names to None) from moved) to lost name ≡ update bytes_eq (update bytes_eq names from moved) to lost name
    each name = elim (same_name to name) [
      | inl same ↦ ap (update bytes_eq (update bytes_eq (update bytes_eq names to None) from moved) to lost) same
          ∙ update_here (update bytes_eq (update bytes_eq names to None) from moved) to lost
          ∙ sym (ap (update bytes_eq (update bytes_eq names from moved) to lost) same ∙ update_here (update bytes_eq names from moved) to lost)
      | inr apart ↦ update_apart (update bytes_eq (update bytes_eq names to None) from moved) to lost name apart
          ∙ ap (λ (file : Option disk.File). cond (bytes_eq from name) moved file) (update_apart names to None name apart)
          ∙ sym (update_apart (update bytes_eq names from moved) to lost name apart)
    ]

-- no more changes than are kept
pub all_kept : (count : ℕ) (changes : List disk.Change) (names : disk.Names) → length changes ≤ count → kept count changes names ≡ names
all_kept count [] names few = refl
all_kept count (newest ∷ older) names few = let low : nat_lt (length older) count ≡ true = grind (arith, nat_tests) in rw low refl

pub length-changes_of : (changes : List Change) → length (changes_of changes) ≡ length changes
length-changes_of changes = simp (length-reverse, length-map) refl

-- a file was moved back to its name, and the other name got its own back
pub back : (old zero one two three : disk.Names) (from to : List ℕ) (moved lost : Option disk.File) → zero ≡ old → one ≡ update bytes_eq zero to None → moved ≡ zero to
    → two ≡ update bytes_eq one from moved → three ≡ update bytes_eq two to lost → three ≡ update bytes_eq (update bytes_eq old from (old to)) to lost
back old zero one two three from to moved lost same emptied was filled again =
    again ∙ ap (λ (names : disk.Names). update bytes_eq names to lost) (filled ∙ ap (λ (names : disk.Names). update bytes_eq names from moved) emptied)
    ∙ moved_back zero from to moved lost
    ∙ ap (λ (file : Option disk.File). update bytes_eq (update bytes_eq zero from file) to lost) was
    ∙ ap (λ (names : disk.Names). update bytes_eq (update bytes_eq names from (names to)) to lost) same
