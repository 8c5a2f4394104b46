-- A cache has one reading or one first fault, and lists one first clash.
use Rattle.std.proofs.Common.{◌≡◌, ℕ, Bool, List, [], ◌∷◌, map, Ordering, Less, Equal, Greater, refl, sym, subst, ◌∙◌, ap, arith, inl, inr}
use Rattle.std.specs.List.{AllByRecursion}
use Rattle.std.specs.Ordering.{nat_cmp, ordering_reverse}
use Rattle.std.specs.Cmp.Lexicographic.{slice_cmp}
use Rattle.std.proofs.lemmas.Cmp.{nat_list_cmp_total}
use Rattle.std.proofs.lemmas.Map.Lookups.{exact_bytes}
use Rattle.acfg_decls.specs.declared.flags.Flag.{Flag}
use Rattle.acfg_cache.specs.declared.fault.CacheFault.{CacheFault}
use Rattle.acfg_cache.specs.Reading.{FirstFails, FirstFault, Holds, Reads, Test, cache_tests, flag_in, messages}
use Rattle.acfg_cache.specs.Merging.{FirstClashIn, IsFirstClash, IsMerged, StandsIn}

one_first : (tests : List Test) (fault other : CacheFault) → FirstFails tests fault → FirstFails tests other → fault ≡ other
one_first [] fault other fails others = absurd fails
one_first (test ∷ tests) fault other (inl here) (inl there) = here.1 ∙ sym there.1
one_first (test ∷ tests) fault other (inl here) (inr there) = absurd (here.0 there.0)
one_first (test ∷ tests) fault other (inr here) (inl there) = absurd (there.0 here.0)
one_first (test ∷ tests) fault other (inr here) (inr there) = one_first tests fault other here.1 there.1

none_fails : (tests : List Test) (fault : CacheFault) → AllByRecursion Holds tests → FirstFails tests fault → ⊥
none_fails [] fault holds fails = fails
none_fails (test ∷ tests) fault holds (inl here) = here.0 holds.0
none_fails (test ∷ tests) fault holds (inr later) = none_fails tests fault holds.1 later.1

some_first : (tests : List Test) → (AllByRecursion Holds tests → ⊥) → ((fault : CacheFault) → FirstFails tests fault → ⊥) → ⊥
some_first [] hold fail = hold tt
some_first (test ∷ tests) hold fail = fail _ (inl ((λ holds. some_first tests (λ rest. hold (holds, rest)) (λ fault later. fail fault (inr (holds, later)))), refl))

pub reads_once : (bytes : List ℕ) (flags other : List Flag) → Reads bytes flags → Reads bytes other → flags ≡ other
reads_once bytes flags other here there = here.are ∙ sym there.are

pub fails_once : (bytes : List ℕ) (fault other : CacheFault) → FirstFault bytes fault → FirstFault bytes other → fault ≡ other
fails_once bytes fault other = one_first (cache_tests bytes) fault other

pub reads_apart : (bytes : List ℕ) (flags : List Flag) (fault : CacheFault) → Reads bytes flags → FirstFault bytes fault → ⊥
reads_apart bytes flags fault reads = none_fails (cache_tests bytes) fault reads.passed

pub some_reading : (bytes : List ℕ) → ((flags : List Flag) → Reads bytes flags → ⊥) → ((fault : CacheFault) → FirstFault bytes fault → ⊥) → ⊥
some_reading bytes read fail = some_first (cache_tests bytes) (λ passed. read (map flag_in (messages bytes)) (record { passed = passed; are = refl })) fail

-- of two texts of which neither is less, each is the other
same_name : (a b : List ℕ) → (slice_cmp nat_cmp a b ≡ Less → ⊥) → (slice_cmp nat_cmp b a ≡ Less → ⊥) → a ≡ b
same_name a b below above = at (slice_cmp nat_cmp a b) refl
  where
    at : (r : Ordering) → slice_cmp nat_cmp a b ≡ r → a ≡ b
    at Less is = absurd (below is)
    at Equal is = exact_bytes a b is
    at Greater is = absurd (above (nat_list_cmp_total.antisymm b a ∙ ap ordering_reverse is))

pub clash_once : (lists : List (List Flag)) (dedup : Bool) (i j : ℕ) (name other : List ℕ) → IsFirstClash lists dedup i name → IsFirstClash lists dedup j other → (i ≡ j) × (name ≡ other)
clash_once lists dedup i j name other here there =
    let names : name ≡ other = same_name name other (there.least i name here.clashes) (here.least j other there.clashes) in
    let moved = subst (λ (n : List ℕ). FirstClashIn (StandsIn lists) dedup j n) (sym names) there in
    let one = here.first j moved.clashes in
    let two = moved.first i here.clashes in
    let lists_same : i ≡ j = omega (arith, one, two) in
    (lists_same, names)

pub merged_apart : (lists : List (List Flag)) (dedup : Bool) (flags : List Flag) (i : ℕ) (name : List ℕ) → IsMerged lists dedup flags → IsFirstClash lists dedup i name → ⊥
merged_apart lists dedup flags i name merged clash = merged.apart i name clash.clashes
