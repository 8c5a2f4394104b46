-- A text is a template or has a first bad place; and it is a filter or has a first bad condition.
use Rattle.std.proofs.Common.{◌≡◌, ℕ, zero, suc, ◌+◌, ◌<◌, ◌≤◌, Bool, true, false, if◌then◌else◌, List, [], ◌∷◌, ◌++◌, length, map, codes, refl, sym, ap, ◌∙◌, inl, inr, arith, append_assoc, All}
use Rattle.std.specs.List.{flat_map, AllZip}
use Rattle.std.specs.Prelude.{sum_by}
use Rattle.std.proofs.lemmas.Grind.{flat_map-append}
use Rattle.std.proofs.lemmas.List.{append-nil, length-append}
use Rattle.std.proofs.lemmas.List.Elements.{All-cons, All-nil}
use Rattle.std.proofs.lemmas.List.Sums.{sum_by-cons}
use Rattle.acfg_dump.specs.declared.conditions.Condition.{Condition}
use Rattle.acfg_dump.specs.declared.parts.Part.{Part}
use Rattle.acfg_dump.specs.declared.parts.Part.TheVariants.{Byte, Value}
use Rattle.acfg_dump.specs.Filter.{condition_texts, extent, IsBadAmong, IsBadCondition, IsCondition, IsFilter, IsFirstBad, IsSome}
use Rattle.acfg_dump.specs.Parts.{is_brace, spelled}
use Rattle.acfg_dump.specs.Template.{IsBadPlace}

-- ---- templates

spelled_long : (part : Part) → 0 < length (spelled part)
spelled_long (Byte byte) = go (is_brace byte)
  where
    go : (brace : Bool) → 0 < length (if brace then byte ∷ byte ∷ [] else byte ∷ [])
    go true = omega arith
    go false = omega arith
spelled_long (Value value) = omega arith

module _ (text : List ℕ) (none : (parts : List Part) → text ≡ flat_map spelled parts → ⊥) (never : (place : ℕ) → IsBadPlace text place → ⊥) where
  -- parts so far, and so many bytes behind them at most
  go : (most : ℕ) (before : List Part) (behind : List ℕ) → length behind ≤ most → text ≡ flat_map spelled before ++ behind → ⊥
  go most before [] few cut = none before (cut ∙ append-nil (flat_map spelled before))
  go zero before (byte ∷ behind) few cut = omega (arith, few)
  go (suc most) before (byte ∷ behind) few cut = never (length (flat_map spelled before)) (record {
    before = before;
    behind = byte ∷ behind;
    cut = cut;
    at = refl;
    more = omega arith;
    none = λ part rest is.
        let long : length (byte ∷ behind) ≡ length (spelled part) + length rest = ap length is ∙ length-append (spelled part) rest in
        let more : flat_map spelled (before ++ part ∷ []) ≡ flat_map spelled before ++ spelled part = flat_map-append spelled before (part ∷ []) ∙ ap (λ last. flat_map spelled before ++ last) (append-nil (spelled part)) in
        go most (before ++ part ∷ []) rest (omega (arith, long, few, spelled_long part))
        (cut ∙ ap (λ rest. flat_map spelled before ++ rest) is ∙ sym (append_assoc (flat_map spelled before) (spelled part) rest) ∙ ap (λ front. front ++ rest) (sym more));
  })

  pub some_template : ⊥
  some_template = go (length text) [] text (omega arith) refl

-- ---- filters

later : (text : List ℕ) (texts : List (List ℕ)) (start place : ℕ) → IsSome text → IsFirstBad texts (start + (length text + 1)) place → IsFirstBad (text ∷ texts) start place
later text texts start place some first = record {
  before = text ∷ first.before;
  bad = first.bad;
  behind = first.behind;
  cut = ap (λ rest. text ∷ rest) first.cut;
  at = let sum = sum_by-cons (λ (text : List ℕ). length text + 1) text first.before in omega (arith, sum, first.at);
  lawful = All-cons IsSome text first.before some first.lawful;
  none = first.none;
}

some_conditions : (texts : List (List ℕ)) (start : ℕ) → ((conditions : List Condition) → AllZip IsCondition texts conditions → ⊥) → ((place : ℕ) → IsFirstBad texts start place → ⊥) → ⊥
some_conditions [] start none never = none [] tt
some_conditions (text ∷ texts) start none never = never start (record {
  before = [];
  bad = text;
  behind = texts;
  cut = refl;
  at = omega arith;
  lawful = All-nil IsSome;
  none = λ some. some_conditions texts (start + (length text + 1)) (λ conditions all. none (some.0 ∷ conditions) (some.1, all))
      (λ place first. never place (later text texts start place some first));
})

moved : (texts : List (List ℕ)) (by start place : ℕ) → IsFirstBad texts start place → IsFirstBad texts (by + start) (by + place)
moved texts by start place first = record {
  before = first.before;
  bad = first.bad;
  behind = first.behind;
  cut = first.cut;
  at = omega (arith, first.at);
  lawful = first.lawful;
  none = first.none;
}

among_later : (texts : List (List ℕ)) (more : List (List (List ℕ))) (place : ℕ) → All IsSome texts → IsBadAmong more place → IsBadAmong (texts ∷ more) (extent texts + place)
among_later texts more place some bad = record {
  before = texts ∷ bad.before;
  bad = bad.bad;
  behind = bad.behind;
  cut = ap (λ rest. texts ∷ rest) bad.cut;
  lawful = All-cons (All IsSome) texts bad.before some bad.lawful;
  first = rw (sum_by-cons extent texts bad.before) (moved bad.bad (extent texts) (sum_by extent bad.before) place bad.first);
}

all_some : (texts : List (List ℕ)) (conditions : List Condition) → AllZip IsCondition texts conditions → All IsSome texts
all_some [] [] all = All-nil IsSome
all_some [] (condition ∷ conditions) all = absurd all
all_some (text ∷ texts) [] all = absurd all
all_some (text ∷ texts) (condition ∷ conditions) all = All-cons IsSome text texts (condition, all.0) (all_some texts conditions all.1)

some_alternatives : (texts : List (List (List ℕ))) → ((filter : List (List Condition)) → AllZip (AllZip IsCondition) texts filter → ⊥) → ((place : ℕ) → IsBadAmong texts place → ⊥) → ⊥
some_alternatives [] none never = none [] tt
some_alternatives (texts ∷ more) none never =
    some_conditions texts 0
    (λ conditions all. some_alternatives more (λ filter rest. none (conditions ∷ filter) (all, rest)) (λ place bad. never (extent texts + place) (among_later texts more place (all_some texts conditions all) bad)))
    (λ place first. never place (record { before = []; bad = texts; behind = more; cut = refl; lawful = All-nil (All IsSome); first = first }))

pub some_filter : (text : List ℕ) → ((filter : List (List Condition)) → IsFilter text filter → ⊥) → ((place : ℕ) → IsBadCondition text place → ⊥) → ⊥
some_filter text none never =
    let other : text ≡ codes "all" → ⊥ = λ is. none ([] ∷ []) (inl (is, refl)) in
    some_alternatives (condition_texts text) (λ filter all. none filter (inr (other, all))) (λ place among. never place (record { other = other; among = among }))
