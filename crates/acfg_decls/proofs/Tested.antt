-- Tests one after another, and the first that fails.
use Rattle.std.proofs.Common.{◌≡◌, ℕ, suc, ◌+◌, ◌<◌, List, [], ◌∷◌, ◌++◌, length, map, take, drop, drop-cons, get_or, add-one, append_assoc, sym, ap, ◌∙◌, inl, inr}
use Rattle.std.proofs.lemmas.List.{map-append, map_more}
use Rattle.std.specs.List.{AllByRecursion, flat_map}
use Rattle.acfg_decls.specs.declared.faults.DeclWhat.{DeclWhat}
use Rattle.acfg_decls.specs.declared.faults.DeclFault.{DeclFault}
use Rattle.acfg_decls.specs.declared.faults.DeclFault.TheVariants.{At, OutOfMemory}
use Rattle.acfg_decls.specs.declared.flags.Flag.{Flag}
use Rattle.acfg_decls.specs.declared.declared.DeclaredFlag.{DeclaredFlag}
use Rattle.acfg_decls.specs.Compile.{Test, Holds, FirstFails, IfAt, tests_behind, flag_tests}
use Rattle.acfg_decls.specs.Places.{names}

pub fails_front : (tests more : List Test) (place : ℕ) (fault : DeclWhat) → FirstFails tests place fault → FirstFails (tests ++ more) place fault
fails_front [] more place fault fails = absurd fails
fails_front (test ∷ tests) more place fault fails = elim fails [ inl here ↦ inl here | inr (holds, later) ↦ inr (holds, fails_front tests more place fault later) ]

pub fails_behind : (tests more : List Test) (place : ℕ) (fault : DeclWhat) → AllByRecursion Holds tests → FirstFails more place fault → FirstFails (tests ++ more) place fault
fails_behind [] more place fault passed fails = fails
fails_behind (test ∷ tests) more place fault passed fails = inr (passed.0, fails_behind tests more place fault passed.1 fails)

pub holds_append : (tests more : List Test) → AllByRecursion Holds tests → AllByRecursion Holds more → AllByRecursion Holds (tests ++ more)
holds_append [] more passed rest = rest
holds_append (test ∷ tests) more passed rest = (passed.0, holds_append tests more passed.1 rest)

-- the same of the tests of files
pub all_hold : (front rest : List (List Test)) → AllByRecursion (AllByRecursion Holds) front → AllByRecursion (AllByRecursion Holds) rest → AllByRecursion (AllByRecursion Holds) (front ++ rest)
all_hold [] rest passed more = more
all_hold (tests ∷ front) rest passed more = (passed.0, all_hold front rest passed.1 more)

-- What was tested of these tests passed: they fail and hold as what is left of them does.
pub record Passed (rest whole : List Test) : Type 0 where
  pub fails : (place : ℕ) (fault : DeclWhat) → FirstFails rest place fault → FirstFails whole place fault
  pub holds : AllByRecursion Holds rest → AllByRecursion Holds whole

pub front_passed : (front rest whole : List Test) → AllByRecursion Holds front → Passed (front ++ rest) whole → Passed rest whole
front_passed front rest whole holds passed = record {
  fails = λ place fault fails. passed.fails place fault (fails_behind front rest place fault holds fails);
  holds = λ more. passed.holds (holds_append front rest holds more);
}

pub at_weaker : (fault : DeclFault) (P Q : ℕ → DeclWhat → Type 0) → ((place : ℕ) (what : DeclWhat) → P place what → Q place what) → IfAt fault P → IfAt fault Q
at_weaker (At place what) P Q f p = f place what p
at_weaker OutOfMemory P Q f p = tt

-- the flag at a place, and the flags behind it
pub flag_next : (earlier : List (List ℕ)) (flags : List DeclaredFlag) (i : ℕ) (flag : DeclaredFlag) → i < length flags → flag ≡ get_or flags i flag
    → flag_tests earlier (drop i flags) ≡ tests_behind earlier flag ++ flag_tests (earlier ++ flag.name.text ∷ []) (drop (i + 1) flags)
flag_next earlier flags i flag within is =
    ap (flag_tests earlier) (drop-cons flags i flag within ∙ ap (λ f. f ∷ drop (suc i) flags) (sym is))
    ∙ ap (λ rest. tests_behind earlier flag ++ flag_tests (earlier ++ flag.name.text ∷ []) rest) (ap (λ n. drop n flags) (sym (add-one i)))

-- the names of flags behind one more
pub names_next : (flags more : List Flag) (flag : Flag) → more ≡ flags ++ flag ∷ [] → names more ≡ names flags ++ flag.name ∷ []
names_next flags more flag is = ap names is ∙ map-append (λ flag. flag.name) flags (flag ∷ [])

-- flags made of the first few declarations, and of one more
pub made_next : (make : DeclaredFlag → Flag) (before flags more : List Flag) (declared : List DeclaredFlag) (i : ℕ) (flag : DeclaredFlag) → i < length declared → flag ≡ get_or declared i flag
    → flags ≡ before ++ map make (take i declared) → more ≡ flags ++ make flag ∷ [] → more ≡ before ++ map make (take (i + 1) declared)
made_next make before flags more declared i flag within is old new =
    new ∙ ap (λ fs. fs ++ make flag ∷ []) old ∙ append_assoc before (map make (take i declared)) (make flag ∷ [])
    ∙ ap (λ fs. before ++ fs) (ap (λ f. map make (take i declared) ++ make f ∷ []) is ∙ sym (map_more make declared i flag within))

-- the tests of the item at a place, and of those behind it
pub flat_next : {X : Type 0} (tests : X → List Test) (xs : List X) (i : ℕ) (x : X) → i < length xs → x ≡ get_or xs i x → flat_map tests (drop i xs) ≡ tests x ++ flat_map tests (drop (i + 1) xs)
flat_next tests xs i x within is =
    ap (flat_map tests) (drop-cons xs i x within ∙ ap (λ y. y ∷ drop (suc i) xs) (sym is)) ∙ ap (λ rest. tests x ++ flat_map tests rest) (ap (λ n. drop n xs) (sym (add-one i)))

-- the first few items made into others, and one more
pub more_next : {X Y : Type 0} (make : X → Y) (before : List Y) (xs : List X) (i : ℕ) (x : X) → i < length xs → x ≡ get_or xs i x → (before ++ map make (take i xs)) ++ make x ∷ [] ≡ before ++ map make (take (i + 1) xs)
more_next make before xs i x within is =
    append_assoc before (map make (take i xs)) (make x ∷ []) ∙ ap (λ ys. before ++ ys) (ap (λ y. map make (take i xs) ++ make y ∷ []) is ∙ sym (map_more make xs i x within))
