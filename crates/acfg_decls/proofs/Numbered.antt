-- The tests of files one after another, and what each file adds.
use Rattle.std.proofs.Common.{◌≡◌, ℕ, suc, ◌+◌, ◌<◌, List, [], ◌∷◌, ◌++◌, length, map, take, drop, drop-cons, get_or, add-one, append_assoc, refl, sym, ap, ◌∙◌, subst, inl, inr, arith}
use Rattle.std.specs.List.{AllByRecursion, flat_map}
use Rattle.std.proofs.lemmas.List.{append-nil, flat_map_more, get_or_default, map-append, take_more}
use Rattle.std.proofs.lemmas.Grind.{flat_map-append}
use Rattle.std.proofs.lemmas.Simd.{map-map}
use Rattle.acfg_decls.specs.declared.flags.Flag.{Flag}
use Rattle.acfg_decls.specs.declared.declared.DeclaredFlag.{DeclaredFlag}
use Rattle.acfg_decls.specs.declared.declared.DeclarationsFile.{DeclarationsFile}
use Rattle.acfg_decls.specs.declared.declared.FlagValue.{FlagValue}
use Rattle.acfg_decls.specs.declared.declared.ValuesFile.{ValuesFile}
use Rattle.acfg_decls.specs.declared.faults.DeclWhat.{DeclWhat}
use Rattle.acfg_decls.specs.declared.faults.DeclFault.{DeclFault}
use Rattle.acfg_decls.specs.declared.faults.DeclFault.TheVariants.{At, OutOfMemory}
use Rattle.acfg_decls.specs.declared.faults.CompileFault.{CompileFault}
use Rattle.acfg_decls.specs.declared.faults.CompileFault.TheVariants as compile
use Rattle.acfg_decls.specs.declared.faults.CompileFault.TheVariants.{In}
use Rattle.acfg_decls.specs.Compile.{Test, Holds, FirstFails, FirstFailsIn, IfAt, IfIn, declarations_tests, declared, flag_of, flag_tests, header_tests, file_tests, in_file, names_of, sourced}
use Rattle.acfg_decls.specs.Places.{WhereMade, names}

pub in_front : (number : ℕ) (tests more : List (List Test)) (file place : ℕ) (fault : DeclWhat) → FirstFailsIn number tests file place fault → FirstFailsIn number (tests ++ more) file place fault
in_front number [] more file place fault fails = absurd fails
in_front number (here ∷ tests) more file place fault fails = elim fails [ inl first ↦ inl first | inr (holds, later) ↦ inr (holds, in_front (number + 1) tests more file place fault later) ]

pub in_behind : (number : ℕ) (tests more : List (List Test)) (file place : ℕ) (fault : DeclWhat) → AllByRecursion (AllByRecursion Holds) tests → FirstFailsIn (number + length tests) more file place fault → FirstFailsIn number (tests ++ more) file place fault
in_behind number [] more file place fault passed fails = subst (λ n. FirstFailsIn n more file place fault) (omega arith) fails
in_behind number (here ∷ tests) more file place fault passed fails =
    let same : number + length (here ∷ tests) ≡ number + 1 + length tests = omega arith in
    inr (passed.0, in_behind (number + 1) tests more file place fault passed.1 (subst (λ n. FirstFailsIn n more file place fault) same fails))

pub all_hold : (tests more : List (List Test)) → AllByRecursion (AllByRecursion Holds) tests → AllByRecursion (AllByRecursion Holds) more → AllByRecursion (AllByRecursion Holds) (tests ++ more)
all_hold [] more passed rest = rest
all_hold (here ∷ tests) more passed rest = (passed.0, all_hold tests more passed.1 rest)

pub length-declarations_tests : («package» container : List ℕ) (earlier : List (List ℕ)) (files : List DeclarationsFile) → length (declarations_tests «package» container earlier files) ≡ length files
length-declarations_tests «package» container earlier [] = refl
length-declarations_tests «package» container earlier (file ∷ files) = ap suc (length-declarations_tests «package» container (earlier ++ names_of file.flags) files)

-- The files before this number passed: the tests from the first one on fail and hold as what is left of them does.
pub record PassedIn (first number : ℕ) (rest whole : List (List Test)) : Type 0 where
  pub fails : (file place : ℕ) (fault : DeclWhat) → FirstFailsIn number rest file place fault → FirstFailsIn first whole file place fault
  pub holds : AllByRecursion (AllByRecursion Holds) rest → AllByRecursion (AllByRecursion Holds) whole

pub file_passed : (first number : ℕ) (here : List Test) (rest whole : List (List Test)) → AllByRecursion Holds here → PassedIn first number (here ∷ rest) whole → PassedIn first (number + 1) rest whole
file_passed first number here rest whole holds passed = record {
  fails = λ file place fault fails. passed.fails file place fault (inr (holds, fails));
  holds = λ more. passed.holds (holds, more);
}

-- the names of flags behind those of a file
pub names_behind : («package» container source : List ℕ) (before after : List Flag) (flags : List DeclaredFlag) → after ≡ before ++ map (λ flag. flag_of «package» container [] (source, flag)) flags → names after ≡ names before ++ names_of flags
names_behind «package» container source before after flags is =
    ap names is ∙ map-append (λ flag. flag.name) before _ ∙ ap (λ ns. names before ++ ns) (map-map (λ flag. flag.name) (λ flag. flag_of «package» container [] (source, flag)) flags)

-- the tests of a file and of those behind it
pub file_next : («package» container : List ℕ) (earlier : List (List ℕ)) (files : List DeclarationsFile) (i : ℕ) (file : DeclarationsFile) → i < length files → file ≡ get_or files i file
    → declarations_tests «package» container earlier (drop i files) ≡ (header_tests «package» container file ++ flag_tests earlier file.flags) ∷ declarations_tests «package» container (earlier ++ names_of file.flags) (drop (i + 1) files)
file_next «package» container earlier files i file within is =
    ap (declarations_tests «package» container earlier) (drop-cons files i file within ∙ ap (λ f. f ∷ drop (suc i) files) (sym is))
    ∙ ap (λ rest. (header_tests «package» container file ++ flag_tests earlier file.flags) ∷ declarations_tests «package» container (earlier ++ names_of file.flags) rest) (ap (λ n. drop n files) (sym (add-one i)))

-- flags made of the declarations of the first few files, and of one more
pub declared_next : («package» container : List ℕ) (before flags after : List Flag) (files : List DeclarationsFile) (i : ℕ) (file : DeclarationsFile) → i < length files → file ≡ get_or files i file
    → flags ≡ before ++ map (flag_of «package» container []) (declared (take i files)) → after ≡ flags ++ map (λ flag. flag_of «package» container [] (file.source, flag)) file.flags
    → after ≡ before ++ map (flag_of «package» container []) (declared (take (i + 1) files))
declared_next «package» container before flags after files i file within is old new =
    let make = flag_of «package» container [] in
    let of = λ (f : DeclarationsFile). map (λ flag. (f.source, flag)) f.flags in
    let one : declared (take (i + 1) files) ≡ declared (take i files) ++ of file =
    ap declared (take_more files i file within ∙ ap (λ f. take i files ++ f ∷ []) (sym is)) ∙ flat_map-append of (take i files) (file ∷ []) ∙ ap (λ fs. declared (take i files) ++ fs) (append-nil (of file)) in
    new ∙ ap (λ fs. fs ++ map (λ flag. make (file.source, flag)) file.flags) old ∙ append_assoc before (map make (declared (take i files))) _
    ∙ ap (λ fs. before ++ (map make (declared (take i files)) ++ fs)) (sym (map-map make (λ flag. (file.source, flag)) file.flags))
    ∙ ap (λ fs. before ++ fs) (sym (map-append make (declared (take i files)) (of file)) ∙ ap (map make) (sym one))

-- the values of the first few files, and of one more
pub sourced_next : (before : List (List ℕ × FlagValue)) (files : List ValuesFile) (i : ℕ) (file : ValuesFile) → i < length files → file ≡ get_or files i file
    → (before ++ flat_map sourced (take i files)) ++ sourced file ≡ before ++ flat_map sourced (take (i + 1) files)
sourced_next before files i file within is =
    flat_map_more sourced before (take i files) file ∙ ap (λ fs. before ++ flat_map sourced fs) (ap (λ f. take i files ++ f ∷ []) is ∙ sym (take_more files i file within))

-- the tests of a values file and of those behind it
pub tests_next : (tests : ValuesFile → List Test) (files : List ValuesFile) (i : ℕ) (file : ValuesFile) → i < length files → file ≡ get_or files i file → map tests (drop i files) ≡ tests file ∷ map tests (drop (i + 1) files)
tests_next tests files i file within is =
    ap (map tests) (drop-cons files i file within ∙ ap (λ f. f ∷ drop (suc i) files) (sym is)) ∙ ap (λ rest. tests file ∷ map tests rest) (ap (λ n. drop n files) (sym (add-one i)))

-- a fault of the values file of this number, wherever the flags are made so
pub values_fail : (fault : DeclFault) («package» : List ℕ) (before now : List Flag) (first number : ℕ) (more : List (List ℕ × FlagValue)) (files : List ValuesFile) (i : ℕ) (file : ValuesFile) → i < length files → file ≡ get_or files i file
    → WhereMade «package» before (λ container set declared. now ≡ map (flag_of «package» container (set ++ more)) declared)
    → WhereMade «package» before (λ container set declared. PassedIn first number (map (file_tests «package» declared) (drop i files)) (map (file_tests «package» declared) files))
    → IfAt fault (λ place what. WhereMade «package» now (λ container set declared. FirstFails (file_tests «package» declared file) place what))
    → IfIn (in_file number fault) (λ at place what. WhereMade «package» before (λ container set declared. FirstFailsIn first (map (file_tests «package» declared) files) at place what))
values_fail (At place what) «package» before now first number more files i file within is made passed fails = λ container set declared was.
    let here = subst (λ tests. PassedIn first number tests (map (file_tests «package» declared) files)) (tests_next (file_tests «package» declared) files i file within is) (passed container set declared was) in
    here.fails number place what (inl (refl, fails container (set ++ more) declared (made container set declared was)))
values_fail OutOfMemory «package» before now first number more files i file within is made passed fails = tt

-- a file that was read of the item at a place is that item
pub same_item : {X : Type 0} (xs : List X) (i : ℕ) (item read : X) → i < length xs → item ≡ get_or xs i item → read ≡ item → read ≡ get_or xs i read
same_item xs i item read within is same = same ∙ is ∙ get_or_default xs i item read within

pub in_weaker : (fault : CompileFault) (P Q : ℕ → ℕ → DeclWhat → Type 0) → ((file place : ℕ) (what : DeclWhat) → P file place what → Q file place what) → IfIn fault P → IfIn fault Q
in_weaker (In file place what) P Q f p = f file place what p
in_weaker compile.OutOfMemory P Q f p = tt
