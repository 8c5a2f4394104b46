-- Tests have one first failure or none, and flags have one order.
use Rattle.std.proofs.Common.{◌≡◌, ℕ, ◌+◌, List, [], ◌∷◌, map, IsPermutation, Option, None, Some, refl, subst, sym, ap, ◌∙◌, inl, inr}
use Rattle.std.specs.List.{AllByRecursion}
use Rattle.std.specs.Ordering.{nat_cmp}
use Rattle.std.specs.Cmp.Lexicographic.{slice_cmp, nat_list_cmp_total}
use Rattle.std.specs.FinMap.{entries}
use Rattle.std.proofs.lemmas.Map.Lookups.{exact_bytes}
use Rattle.acfg_base.specs.Places.{AreInOrder}
use Rattle.acfg_base.proofs.Rows.{entries-map_of, map_of-permuted}
use Rattle.acfg_decls.specs.declared.flags.Flag.{Flag}
use Rattle.acfg_decls.specs.declared.faults.DeclWhat.{DeclWhat}
use Rattle.acfg_decls.specs.declared.declared.DeclarationsFile.{DeclarationsFile}
use Rattle.acfg_decls.specs.declared.declared.ValuesFile.{ValuesFile}
use Rattle.acfg_decls.specs.declared.declared.Placed.{Placed}
use Rattle.acfg_decls.specs.declared.faults.DeclWhat.TheVariants.{MissingField}
use Rattle.std.specs.Prelude.{MatchOption}
use Rattle.acfg_decls.specs.Compile.{Compiles, CompilesOwn, FailsOwn, FailsToCompile, container_read, Test, Holds, FirstFails, FirstFailsIn, all_tests}
use Rattle.acfg_decls.specs.Flags.{full_name}

one_first : (tests : List Test) (place other_place : ℕ) (fault other : DeclWhat) → FirstFails tests place fault → FirstFails tests other_place other → (place ≡ other_place) × (fault ≡ other)
one_first [] place other_place fault other fails others = absurd fails
one_first (test ∷ tests) place other_place fault other (inl here) (inl there) = (here.1 ∙ sym there.1, here.2 ∙ sym there.2)
one_first (test ∷ tests) place other_place fault other (inl here) (inr there) = absurd (here.0 there.0)
one_first (test ∷ tests) place other_place fault other (inr here) (inl there) = absurd (there.0 here.0)
one_first (test ∷ tests) place other_place fault other (inr here) (inr there) = one_first tests place other_place fault other here.1 there.1

none_fails : (tests : List Test) (place : ℕ) (fault : DeclWhat) → AllByRecursion Holds tests → FirstFails tests place fault → ⊥
none_fails [] place fault holds fails = fails
none_fails (test ∷ tests) place fault holds (inl here) = here.0 holds.0
none_fails (test ∷ tests) place fault holds (inr later) = none_fails tests place fault holds.1 later.1

some_first : (tests : List Test) → (AllByRecursion Holds tests → ⊥) → ((place : ℕ) (fault : DeclWhat) → FirstFails tests place fault → ⊥) → ⊥
some_first [] hold fail = hold tt
some_first (test ∷ tests) hold fail = fail _ _ (inl ((λ holds. some_first tests (λ rest. hold (holds, rest)) (λ place fault later. fail place fault (inr (holds, later)))), refl, refl))

one_first_in : (number : ℕ) (tests : List (List Test)) (file place other_file other_place : ℕ) (fault other : DeclWhat)
    → FirstFailsIn number tests file place fault → FirstFailsIn number tests other_file other_place other → (file ≡ other_file) × (place ≡ other_place) × (fault ≡ other)
one_first_in number [] file place other_file other_place fault other fails others = absurd fails
one_first_in number (here ∷ tests) file place other_file other_place fault other (inl a) (inl b) =
    let same = one_first here place other_place fault other a.1 b.1 in (a.0 ∙ sym b.0, same.0, same.1)
one_first_in number (here ∷ tests) file place other_file other_place fault other (inl a) (inr b) = absurd (none_fails here place fault b.0 a.1)
one_first_in number (here ∷ tests) file place other_file other_place fault other (inr a) (inl b) = absurd (none_fails here other_place other a.0 b.1)
one_first_in number (here ∷ tests) file place other_file other_place fault other (inr a) (inr b) = one_first_in (number + 1) tests file place other_file other_place fault other a.1 b.1

none_fails_in : (number : ℕ) (tests : List (List Test)) (file place : ℕ) (fault : DeclWhat) → AllByRecursion (AllByRecursion Holds) tests → FirstFailsIn number tests file place fault → ⊥
none_fails_in number [] file place fault holds fails = fails
none_fails_in number (here ∷ tests) file place fault holds (inl first) = none_fails here place fault holds.0 first.1
none_fails_in number (here ∷ tests) file place fault holds (inr later) = none_fails_in (number + 1) tests file place fault holds.1 later.1

pub some_first_in : (number : ℕ) (tests : List (List Test)) → (AllByRecursion (AllByRecursion Holds) tests → ⊥) → ((file place : ℕ) (fault : DeclWhat) → FirstFailsIn number tests file place fault → ⊥) → ⊥
some_first_in number [] hold fail = hold tt
some_first_in number (here ∷ tests) hold fail =
    some_first here
    (λ holds. some_first_in (number + 1) tests (λ rest. hold (holds, rest)) (λ file place fault later. fail file place fault (inr (holds, later))))
    (λ place fault first. fail number place fault (inl (refl, first)))

flags_back : (flags : List Flag) → map (λ e. e.1) (map {B = List ℕ × Flag} (λ flag. (full_name flag, flag)) flags) ≡ flags
flags_back [] = refl
flags_back (flag ∷ flags) = ap (λ rest. flag ∷ rest) (flags_back flags)

one_list : (made flags other : List Flag) → IsPermutation made flags → IsPermutation made other → AreInOrder (slice_cmp nat_cmp) full_name flags → AreInOrder (slice_cmp nat_cmp) full_name other → flags ≡ other
one_list made flags other moved again sorted rising =
    let same = map_of-permuted nat_list_cmp_total full_name exact_bytes (λ flag. flag) made flags moved sorted ∙ sym (map_of-permuted nat_list_cmp_total full_name exact_bytes (λ flag. flag) made other again rising) in
    let listed = sym (entries-map_of nat_list_cmp_total full_name exact_bytes (λ flag. flag) flags sorted) ∙ ap entries same ∙ entries-map_of nat_list_cmp_total full_name exact_bytes (λ flag. flag) other rising in
    sym (flags_back flags) ∙ ap (map (λ e. e.1)) listed ∙ flags_back other

-- compiling has one answer
pub compiles_unique : («package» container : List ℕ) (files : List DeclarationsFile) (values : List ValuesFile) (flags other : List Flag) → Compiles «package» container files values flags → Compiles «package» container files values other → flags ≡ other
compiles_unique «package» container files values flags other here there = one_list _ flags other here.same there.same here.are.sorted there.are.sorted

pub fails_unique : («package» container : List ℕ) (files : List DeclarationsFile) (values : List ValuesFile) (file place other_file other_place : ℕ) (fault other : DeclWhat)
    → FailsToCompile (all_tests «package» container files values) file place fault → FailsToCompile (all_tests «package» container files values) other_file other_place other → (file ≡ other_file) × (place ≡ other_place) × (fault ≡ other)
fails_unique «package» container files values = one_first_in 0 (all_tests «package» container files values)

pub compiles_apart : («package» container : List ℕ) (files : List DeclarationsFile) (values : List ValuesFile) (flags : List Flag) (file place : ℕ) (fault : DeclWhat) → Compiles «package» container files values flags → FailsToCompile (all_tests «package» container files values) file place fault → ⊥
compiles_apart «package» container files values flags file place fault here = none_fails_in 0 (all_tests «package» container files values) file place fault here.passed

-- so has a file that is compiled by itself
pub own_unique : (file : DeclarationsFile) (flags other : List Flag) → CompilesOwn file flags → CompilesOwn file other → flags ≡ other
own_unique file flags other here there =
    let named : Some here.container ≡ Some there.container = sym here.named ∙ there.named in
    let same : here.container ≡ there.container = cc in
    compiles_unique file.package.text (container_read there.container.text) (file ∷ []) [] flags other (subst (λ (c : Placed). Compiles file.package.text (container_read c.text) (file ∷ []) [] flags) same here.compiles) there.compiles

-- what fails where a container is named, and where none is
abbrev FailsWith : DeclarationsFile → Option Placed → ℕ → ℕ → DeclWhat → Type 0
FailsWith file named number place fault =
    MatchOption named ((number ≡ 0) × (place ≡ file.end) × (fault ≡ MissingField)) (λ container. FailsToCompile (all_tests file.package.text (container_read container.text) (file ∷ []) []) number place fault)

own_fails : (file : DeclarationsFile) (named : Option Placed) (number place other_number other_place : ℕ) (fault other : DeclWhat)
    → FailsWith file named number place fault → FailsWith file named other_number other_place other → (place ≡ other_place) × (fault ≡ other)
own_fails file None number place other_number other_place fault other a b = (a.1 ∙ sym b.1, a.2 ∙ sym b.2)
own_fails file (Some container) number place other_number other_place fault other a b =
    let same = fails_unique file.package.text (container_read container.text) (file ∷ []) [] number place other_number other_place fault other a b in
    (same.1, same.2)

pub own_fails_unique : (file : DeclarationsFile) (number place other_number other_place : ℕ) (fault other : DeclWhat) → FailsOwn file number place fault → FailsOwn file other_number other_place other → (place ≡ other_place) × (fault ≡ other)
own_fails_unique file = own_fails file file.container

pub own_apart : (file : DeclarationsFile) (flags : List Flag) (number place : ℕ) (fault : DeclWhat) → CompilesOwn file flags → FailsOwn file number place fault → ⊥
own_apart file flags number place fault compiles fails =
    let named = subst (λ named. FailsWith file named number place fault) compiles.named fails in
    compiles_apart file.package.text (container_read compiles.container.text) (file ∷ []) [] flags number place fault compiles.compiles named
