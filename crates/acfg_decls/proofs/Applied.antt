-- A value applied to the flags that a map finds by their names.
use Rattle.std.proofs.Common.{◌≡◌, ℕ, ◌<◌, Bool, true, false, not, ◌&&◌, List, [], ◌∷◌, ◌++◌, length, map, get_or, set, Some, None, Bor, refl, sym, ap, ◌∙◌, true≢false, arith}
use Rattle.std.specs.Prelude.{IsTrue}
use Rattle.std.specs.HashMap.{HashMap}
use Rattle.std.specs.Str.{bytes_eq}
use Rattle.std.proofs.lemmas.List.{get_or-map, length-map, get_or_default}
use Rattle.std.proofs.lemmas.Slice.Eq.{bytes_eq-Decides}
use Rattle.acfg_decls.specs.declared.flags.Flag.{Flag}
use Rattle.acfg_decls.specs.declared.declared.FlagValue.{FlagValue}
use Rattle.acfg_decls.specs.declared.declared.DeclaredFlag.{DeclaredFlag}
use Rattle.acfg_decls.specs.Compile.{Frees, flag_of}
use Rattle.acfg_decls.specs.Places.{Finds, WhereMade, at, names, with_point}
use Rattle.acfg_decls.proofs.Blank.{blank, blank_declared}
use Rattle.acfg_decls.proofs.Valued.{all_unaffected, one_affected}

both : (a b : Bool) → a ≡ true → b ≡ true → (a && b) ≡ true
both true b p q = q
both false b p q = absurd (true≢false (sym p))

first_false : (a b : Bool) → a ≡ false → (a && b) ≡ false
first_false true b p = absurd (true≢false p)
first_false false b p = refl

second_false : (a b : Bool) → b ≡ false → (a && b) ≡ false
second_false true b p = p
second_false false b p = refl

-- what a comparison of two texts answered
pub differ : (a b : List ℕ) (ne : Bool) → ne ≡ not (bytes_eq a b) → ne ≡ true → a ≡ b → ⊥
differ a b ne is true_is same = let e = sym is ∙ true_is in let t = (bytes_eq-Decides a b).1 same in cc

pub alike : (a b : List ℕ) (ne : Bool) → ne ≡ not (bytes_eq a b) → ne ≡ false → a ≡ b
alike a b ne is false_is = elim (bytes_eq a b) as (λ t. bytes_eq a b ≡ t → a ≡ b) [ true ↦ λ t. (bytes_eq-Decides a b).0 t | false ↦ λ t. absurd (true≢false (ap not (sym t) ∙ sym is ∙ false_is)) ] refl

pub both_true : (a b : Bool) → (a && b) ≡ true → (a ≡ true) × (b ≡ true)
both_true true b p = (refl, p)
both_true false b p = absurd (true≢false (sym p))

apart : (a b : List ℕ) → (a ≡ b → ⊥) → bytes_eq a b ≡ false
apart a b differ = elim (bytes_eq a b) as (λ t. bytes_eq a b ≡ t → t ≡ false) [ true ↦ λ is. absurd (differ ((bytes_eq-Decides a b).0 is)) | false ↦ λ is. refl ] refl

module _ {S : Type 0} («package» : List ℕ) (places : HashMap (Bor (List ℕ)) ℕ S) (flags : List Flag) (source : List ℕ) (value : FlagValue) (finds : Finds places (names flags)) where
  -- the name of a flag is that of its declaration
  module _ (container : List ℕ) (values : List (List ℕ × FlagValue)) (declared : List (List ℕ × DeclaredFlag)) (made : flags ≡ map (flag_of «package» container values) declared) where
    count : length flags ≡ length declared
    count = ap length made ∙ length-map declared (flag_of «package» container values)

    named : (k : ℕ) (d : List ℕ × DeclaredFlag) → k < length declared → get_or (names flags) k [] ≡ (get_or declared k d).1.name.text
    named k d within =
        let inside : k < length flags = omega (arith, count) in
        get_or-map (λ flag. flag.name) flags k blank [] inside
        ∙ ap (λ fs. (get_or fs k blank).name) made
        ∙ ap (λ flag. flag.name) (get_or-map (flag_of «package» container values) declared k d blank within)

    there : (k : ℕ) (d : List ℕ × DeclaredFlag) → k < length declared → at places (get_or declared k d).1.name.text ≡ Some k
    there k d within =
        let inside : k < length (names flags) = omega (arith, count, length-map flags (λ flag. flag.name)) in
        ap (at places) (sym (named k d within)) ∙ finds.there k inside

  -- a value of another package changes no flag
  pub of_another : (value.package.text ≡ «package» → ⊥) → WhereMade «package» flags (λ container values declared. flags ≡ map (flag_of «package» container (values ++ (source, value) ∷ [])) declared)
  of_another differ container values declared made =
      made ∙ sym (all_unaffected «package» container values (source, value) declared (λ k d within. first_false _ _ (apart value.package.text «package» differ)))

  module _ (missed : at places value.name.text ≡ None) where
    -- nor does one of a flag that isn't declared
    undeclared : (container : List ℕ) (values : List (List ℕ × FlagValue)) (declared : List (List ℕ × DeclaredFlag)) → flags ≡ map (flag_of «package» container values) declared
        → (k : ℕ) (d : List ℕ × DeclaredFlag) → k < length declared → value.name.text ≡ (get_or declared k d).1.name.text → ⊥
    undeclared container values declared made k d within same =
        let contrary = sym missed ∙ ap (at places) same ∙ there container values declared made k d within in cc

    pub of_none : WhereMade «package» flags (λ container values declared. flags ≡ map (flag_of «package» container (values ++ (source, value) ∷ [])) declared)
    of_none container values declared made =
        made ∙ sym (all_unaffected «package» container values (source, value) declared (λ k d within. second_false _ _ (apart value.name.text (get_or declared k d).1.name.text (undeclared container values declared made k d within))))

    pub frees_none : WhereMade «package» flags (λ container values declared. Frees «package» declared value → ⊥)
    frees_none container values declared made frees =
        let (k, flag, within, is, of) = frees.fixed in
        undeclared container values declared made k flag within (sym (ap (λ f. f.1.name.text) is ∙ of.0))

  module _ (i : ℕ) (found : at places value.name.text ≡ Some i) where
    pub within : i < length flags
    within = omega (arith, (finds.only value.name.text i found).0, length-map flags (λ flag. flag.name))

    module _ (container : List ℕ) (values : List (List ℕ × FlagValue)) (declared : List (List ℕ × DeclaredFlag)) (made : flags ≡ map (flag_of «package» container values) declared) where
      inside : i < length declared
      inside = omega (arith, within, count container values declared made)

      its_name : (d : List ℕ × DeclaredFlag) → value.name.text ≡ (get_or declared i d).1.name.text
      its_name d = sym (finds.only value.name.text i found).1 ∙ named container values declared made i d inside

      only_it : (k : ℕ) (d : List ℕ × DeclaredFlag) → k < length declared → value.name.text ≡ (get_or declared k d).1.name.text → k ≡ i
      only_it k d low same =
          let here = sym (there container values declared made k d low) ∙ ap (at places) (sym same) ∙ found in
          let one : Some k ≡ Some i = here in
          cc

      its_fixed : (d : List ℕ × DeclaredFlag) → (get_or flags i blank).fixed ≡ (get_or declared i d).1.fixed
      its_fixed d = ap (λ fs. (get_or fs i blank).fixed) made ∙ ap (λ flag. flag.fixed) (get_or-map (flag_of «package» container values) declared i d blank inside)

    -- the flag that is found gets the value's point
    pub of_one : (other : Flag) → value.package.text ≡ «package» → WhereMade «package» flags (λ container values declared.
        set flags i (with_point (get_or flags i other) (source, value)) ≡ map (flag_of «package» container (values ++ (source, value) ∷ [])) declared)
    of_one other same container values declared made =
        ap (λ fs. set fs i (with_point (get_or fs i other) (source, value))) made
        ∙ sym (one_affected «package» container values (source, value) declared i other (inside container values declared made)
        (λ k d low differ. second_false _ _ (apart value.name.text (get_or declared k d).1.name.text (λ e. differ (only_it container values declared made k d low e))))
        (λ d. both _ _ ((bytes_eq-Decides value.package.text «package»).1 same) ((bytes_eq-Decides value.name.text _).1 (its_name container values declared made d))))

    -- it is freed where it is fixed and the value is READ_WRITE
    pub frees_one : value.package.text ≡ «package» → IsTrue value.writable → (get_or flags i blank).fixed ≡ true → WhereMade «package» flags (λ container values declared. Frees «package» declared value)
    frees_one same writable fixed container values declared made =
        let flag = get_or declared i blank_declared in
        record {
          of = same;
          writable = writable;
          fixed = (i, flag, inside container values declared made, get_or_default declared i flag blank_declared (inside container values declared made), (sym (its_name container values declared made blank_declared), sym (its_fixed container values declared made blank_declared) ∙ fixed));
        }

    pub frees_other : ((get_or flags i blank).fixed && value.writable) ≡ false → WhereMade «package» flags (λ container values declared. Frees «package» declared value → ⊥)
    frees_other safe container values declared made frees =
        let (k, flag, low, is, of) = frees.fixed in
        let here = only_it container values declared made k flag low (sym (ap (λ f. f.1.name.text) is ∙ of.0)) in
        let fixed : (get_or flags i blank).fixed ≡ true =
        its_fixed container values declared made flag ∙ ap (λ n. (get_or declared n flag).1.fixed) (sym here) ∙ ap (λ f. f.1.fixed) is ∙ of.1 in
        true≢false (sym (both _ _ fixed frees.writable) ∙ safe)
