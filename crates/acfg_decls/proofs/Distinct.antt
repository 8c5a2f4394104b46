-- Flags that a map finds by their names are compiled flags once they are sorted.
use Rattle.std.proofs.Common.{◌≡◌, ℕ, suc, ◌+◌, ◌<◌, Bool, true, false, cond, List, [], ◌∷◌, ◌++◌, length, map, get_or, count_by, IsPermutation, Some, Bor, refl, sym, ap, ◌∙◌, subst, inl, inr, arith}
use Rattle.std.specs.Prelude.{All}
use Rattle.std.specs.HashMap.{HashMap}
use Rattle.std.specs.Ordering.{nat_cmp, eq_by_cmp}
use Rattle.std.specs.Cmp.Lexicographic.{slice_cmp}
use Rattle.std.proofs.lemmas.List.{append_cancel_left, get_or-map, length-map}
use Rattle.std.proofs.lemmas.List.Sums.{sum_by-cons}
use Rattle.std.proofs.lemmas.Map.Text.{is_eq-slice_cmp}
use Rattle.std.proofs.lemmas.Slice.Eq.{bytes_eq-Decides}
use Rattle.std.specs.Ordering.{is_eq}
use Rattle.std.specs.Cmp.{tied_itself}
use Rattle.std.specs.Cmp.Lexicographic.{nat_list_cmp_total}
use Rattle.std.proofs.lemmas.List.Sorted.{Contains-permutation, IsPermutation-refl, IsPermutation-sym, sum_by-IsPermutation}
use Rattle.acfg_base.specs.Names.{dot}
use Rattle.acfg_base.specs.declared.releases.Entry.{Entry}
use Rattle.acfg_base.specs.Places.{AreInOrder}
use Rattle.acfg_base.specs.Release.{HasTwins, key_cmp, key_of}
use Rattle.acfg_base.proofs.Keys.{key_exact}
use Rattle.acfg_base.proofs.Rows.{Equal_of}
use Rattle.acfg_decls.specs.declared.flags.Flag.{Flag}
use Rattle.acfg_decls.specs.declared.declared.FlagValue.{FlagValue}
use Rattle.acfg_decls.specs.declared.declared.DeclaredFlag.{DeclaredFlag}
use Rattle.acfg_decls.specs.Compile.{flag_of}
use Rattle.acfg_decls.specs.Flags.{AreNoFlags, IsLawful, full_name}
use Rattle.acfg_decls.specs.Places.{Finds, at, names}
use Rattle.acfg_decls.specs.Releases.{entry_of}
use Rattle.acfg_decls.proofs.Blank.{blank, blank_declared}
use Rattle.acfg_decls.proofs.Twins.{far_counted, no_twins}

module _ {Y : Type 0} (p : Y → Bool) where
  abbrev number : Y → ℕ
  number y = cond (p y) 1 0

  -- some element passes
  one_of : (ys : List Y) → 0 < count_by p ys → (k : ℕ) × (k < length ys) × ((d : Y) → p (get_or ys k d) ≡ true)
  one_of [] some = absurd (omega (arith, some))
  one_of (y ∷ ys) some = elim (p y) as (λ b. p y ≡ b → (k : ℕ) × (k < length (y ∷ ys)) × ((d : Y) → p (get_or (y ∷ ys) k d) ≡ true)) [
    | true ↦ λ is. (0, omega arith, λ d. is)
    | false ↦ λ is.
        let counted = sum_by-cons number y ys ∙ ap (λ b. cond b 1 0 + count_by p ys) is in
        let rest = one_of ys (omega (arith, some, counted)) in
        (suc rest.0, omega (arith, rest.1), rest.2)
  ] refl

  -- and two elements do where more than one is counted
  two_of : (ys : List Y) → 1 < count_by p ys → (j : ℕ) × (k : ℕ) × (j < k) × (k < length ys) × ((d : Y) → p (get_or ys j d) ≡ true) × ((d : Y) → p (get_or ys k d) ≡ true)
  two_of [] more = absurd (omega (arith, more))
  two_of (y ∷ ys) more = elim (p y) as (λ b. p y ≡ b → (j : ℕ) × (k : ℕ) × (j < k) × (k < length (y ∷ ys)) × ((d : Y) → p (get_or (y ∷ ys) j d) ≡ true) × ((d : Y) → p (get_or (y ∷ ys) k d) ≡ true)) [
    | true ↦ λ is.
        let counted = sum_by-cons number y ys ∙ ap (λ b. cond b 1 0 + count_by p ys) is in
        let rest = one_of ys (omega (arith, more, counted)) in
        (0, suc rest.0, omega arith, omega (arith, rest.1), (λ d. is), rest.2)
    | false ↦ λ is.
        let counted = sum_by-cons number y ys ∙ ap (λ b. cond b 1 0 + count_by p ys) is in
        let rest = two_of ys (omega (arith, more, counted)) in
        (suc rest.0, suc rest.1, omega (arith, rest.2), omega (arith, rest.3), rest.4, rest.5)
  ] refl

named : (name other : List ℕ) → eq_by_cmp (slice_cmp nat_cmp) name other ≡ true → name ≡ other
named name other same = (bytes_eq-Decides name other).0 (sym (is_eq-slice_cmp name other) ∙ same)

pub distinct : {S : Type 0} («package» container : List ℕ) (values : List (List ℕ × FlagValue)) (declared : List (List ℕ × DeclaredFlag)) (flags : List Flag) (places : HashMap (Bor (List ℕ)) ℕ S)
    → flags ≡ map (flag_of «package» container values) declared → Finds places (names flags) → All IsLawful flags → AreNoFlags flags → ⊥
distinct «package» container values declared flags places made finds lawful (inr (k, flag, within, is, unlawful)) =
    unlawful (subst IsLawful is (lawful k flag within))
distinct «package» container values declared flags places made finds lawful (inl (name, more)) =
    let two = two_of (λ flag. eq_by_cmp (slice_cmp nat_cmp) name (full_name flag)) flags more in
    let count = ap length made ∙ length-map declared (flag_of «package» container values) in
    let counted = length-map flags (λ flag. flag.name) in
    let first : name ≡ full_name (get_or flags two.0 blank) = named _ _ (two.4 blank) in
    let second : name ≡ full_name (get_or flags two.1 blank) = named _ _ (two.5 blank) in
    let of : (i : ℕ) → i < length flags → (get_or flags i blank).package ≡ «package» =
    λ i within. ap (λ fs. (get_or fs i blank).package) made ∙ ap (λ flag. flag.package) (get_or-map (flag_of «package» container values) declared i blank_declared blank (omega (arith, within, count))) in
    let low : two.0 < length flags = omega (arith, two.2, two.3) in
    let same : «package» ++ dot ∷ (get_or flags two.0 blank).name ≡ «package» ++ dot ∷ (get_or flags two.1 blank).name =
    ap (λ p. p ++ dot ∷ (get_or flags two.0 blank).name) (sym (of two.0 low)) ∙ sym first ∙ second ∙ ap (λ p. p ++ dot ∷ (get_or flags two.1 blank).name) (of two.1 two.3) in
    let tails : dot ∷ (get_or flags two.0 blank).name ≡ dot ∷ (get_or flags two.1 blank).name = append_cancel_left «package» _ _ same in
    let one : (get_or flags two.0 blank).name ≡ (get_or flags two.1 blank).name = cc in
    let here = finds.there two.0 (omega (arith, low, counted)) in
    let there = finds.there two.1 (omega (arith, two.3, counted)) in
    let alike : Some two.0 ≡ Some two.1 =
    sym here ∙ ap (at places) (get_or-map (λ flag. flag.name) flags two.0 blank [] low ∙ one ∙ sym (get_or-map (λ flag. flag.name) flags two.1 blank [] two.3)) ∙ there in
    let places_alike : two.0 ≡ two.1 = cc in
    omega (arith, two.2, places_alike)

-- nor does another order of flags make a list that is none into one
pub no_flags_back : (xs ys : List Flag) → IsPermutation xs ys → AreNoFlags ys → AreNoFlags xs
no_flags_back xs ys moved (inl (name, more)) =
    let counted = sum_by-IsPermutation (λ flag. cond (eq_by_cmp (slice_cmp nat_cmp) name (full_name flag)) 1 0) xs ys moved in
    inl (name, omega (arith, more, counted))
no_flags_back xs ys moved (inr (k, flag, within, is, unlawful)) =
    let there = Contains-permutation ys xs flag (IsPermutation-sym xs ys moved) (k, within, is) in
    inr (there.0, flag, there.1, there.2, unlawful)

blank_entry : Entry
blank_entry = entry_of blank

-- flags in order make a release: no two have one key
pub no_key_twice : (flags : List Flag) → AreInOrder (slice_cmp nat_cmp) full_name flags → HasTwins (map entry_of flags) → ⊥
no_key_twice flags sorted (key, more) =
    let two = two_of (λ entry. eq_by_cmp key_cmp key (key_of entry)) (map entry_of flags) more in
    let count = length-map flags entry_of in
    let high : two.1 < length flags = omega (arith, two.3, count) in
    let low : two.0 < length flags = omega (arith, two.2, high) in
    let at : (i : ℕ) → i < length flags → eq_by_cmp key_cmp key (key_of (get_or (map entry_of flags) i blank_entry)) ≡ true → key ≡ ((get_or flags i blank).package, (get_or flags i blank).name) =
    λ i within same. key_exact key _ (Equal_of _ same) ∙ ap key_of (get_or-map entry_of flags i blank blank_entry within) in
    let one = at two.0 low (two.4 blank_entry) in
    let other = at two.1 high (two.5 blank_entry) in
    let name : full_name (get_or flags two.0 blank) ≡ full_name (get_or flags two.1 blank) = ap (λ (k : List ℕ × List ℕ). k.0 ++ dot ∷ k.1) (sym one ∙ other) in
    let first : eq_by_cmp (slice_cmp nat_cmp) (full_name (get_or flags two.0 blank)) (full_name (get_or flags two.0 blank)) ≡ true = ap is_eq (tied_itself nat_list_cmp_total (full_name (get_or flags two.0 blank))) in
    let second = ap (eq_by_cmp (slice_cmp nat_cmp) (full_name (get_or flags two.0 blank))) (sym name) ∙ first in
    no_twins nat_list_cmp_total full_name flags flags (IsPermutation-refl flags) sorted (full_name (get_or flags two.0 blank)) (far_counted nat_list_cmp_total full_name _ flags two.0 two.1 blank two.2 high first second)
