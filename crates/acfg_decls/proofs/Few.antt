-- Flags whose tests hold are no more than a package may have.
use Rattle.std.proofs.Common.{ℕ, ◌+◌, ◌≤◌, Bool, true, false, cond, List, [], ◌∷◌, ◌++◌, length, map, arith, length-append}
use Rattle.std.specs.List.{AllByRecursion, flat_map}
use Rattle.std.specs.FinMap.{contains_key, from_entries, len, len-empty, len-insert}
use Rattle.std.proofs.lemmas.List.{length-map}
use Rattle.std.proofs.lemmas.List.Sorted.{length_permutation}
use Rattle.acfg_base.specs.declared.releases.Entry.{Entry}
use Rattle.acfg_base.specs.declared.releases.Kind.{Kind}
use Rattle.acfg_base.specs.Release.{facts_of, key_cmp, key_of, release_of}
use Rattle.acfg_base.proofs.Keys.{key_total}
use Rattle.acfg_decls.specs.Releases.{entry_of, release}
use Rattle.acfg_decls.specs.declared.flags.Flag.{Flag}
use Rattle.acfg_decls.specs.declared.declared.DeclaredFlag.{DeclaredFlag}
use Rattle.acfg_decls.specs.declared.declared.DeclarationsFile.{DeclarationsFile}
use Rattle.acfg_decls.specs.declared.declared.ValuesFile.{ValuesFile}
use Rattle.acfg_decls.specs.Compile.{Compiles, Holds, declarations_tests, declared, flag_of, flag_tests, file_tests, header_tests, names_of, own_tests, sourced, tests_behind, New, Room}

pub holds_behind : {X : Type 0} (P : X → Type 0) (front rest : List X) → AllByRecursion P (front ++ rest) → AllByRecursion P rest
holds_behind P [] rest holds = holds
holds_behind P (x ∷ front) rest holds = holds_behind P front rest holds.1

pub holds_in_front : {X : Type 0} (P : X → Type 0) (front rest : List X) → AllByRecursion P (front ++ rest) → AllByRecursion P front
holds_in_front P [] rest holds = tt
holds_in_front P (x ∷ front) rest holds = (holds.0, holds_in_front P front rest holds.1)

flags_few : (earlier : List (List ℕ)) (flags : List DeclaredFlag) → AllByRecursion Holds (flag_tests earlier flags) → length earlier ≤ 65535 → length earlier + length flags ≤ 65535
flags_few earlier [] holds few = omega arith
flags_few earlier (flag ∷ flags) holds few =
    let behind = holds_behind Holds (own_tests flag) (New earlier flag ∷ Room earlier flag ∷ []) (holds_in_front Holds (tests_behind earlier flag) _ holds) in
    let room = behind.1.0 in
    let more = length-append earlier (flag.name.text ∷ []) in
    omega (arith, room, more, flags_few (earlier ++ flag.name.text ∷ []) flags (holds_behind Holds (tests_behind earlier flag) _ holds) (omega (arith, room, more)))

files_few : («package» container : List ℕ) (earlier : List (List ℕ)) (files : List DeclarationsFile) → AllByRecursion (AllByRecursion Holds) (declarations_tests «package» container earlier files) → length earlier ≤ 65535
    → length earlier + length (declared files) ≤ 65535
files_few «package» container earlier [] holds few = omega arith
files_few «package» container earlier (file ∷ files) holds few =
    let here = flags_few earlier file.flags (holds_behind Holds (header_tests «package» container file) _ holds.0) few in
    let more = length-append earlier (names_of file.flags) in
    let named = length-map file.flags (λ flag. flag.name.text) in
    let behind = files_few «package» container (earlier ++ names_of file.flags) files holds.1 (omega (arith, here, more, named)) in
    let own = length-map {B = List ℕ × DeclaredFlag} file.flags (λ flag. (file.source, flag)) in
    let all = length-append (map {B = List ℕ × DeclaredFlag} (λ flag. (file.source, flag)) file.flags) (declared files) in
    omega (arith, behind, more, named, own, all)

pub compiled_few : («package» container : List ℕ) (files : List DeclarationsFile) (values : List ValuesFile) (flags : List Flag) → Compiles «package» container files values flags → length flags ≤ 65535
compiled_few «package» container files values flags compiles =
    let tests = declarations_tests «package» container [] files in
    let few = files_few «package» container [] files (holds_in_front (AllByRecursion Holds) tests (map (file_tests «package» (declared files)) values) compiles.passed) (omega arith) in
    let made = map (flag_of «package» container (flat_map sourced values)) (declared files) in
    omega (arith, few, length_permutation made flags compiles.same, length-map (declared files) (flag_of «package» container (flat_map sourced values)))

one_more : (b : Bool) (n : ℕ) → cond b n (n + 1) ≤ n + 1
one_more true n = omega arith
one_more false n = omega arith

entries_few : (entries : List Entry) → len (release_of entries) ≤ length entries
entries_few [] = omega (arith, len-empty key_cmp (Kind × Bool))
entries_few (e ∷ entries) =
    let old = from_entries {R = key_cmp} (map (λ row. (key_of row, facts_of row)) entries) in
    let more = len-insert key_total old (key_of e) (facts_of e) in
    omega (arith, more, one_more (contains_key old (key_of e)) (len old), entries_few entries)

-- a release has no more flags than it is made of
pub released_few : (flags : List Flag) → len (release flags) ≤ length flags
released_few flags = omega (arith, entries_few (map entry_of flags), length-map flags entry_of)
