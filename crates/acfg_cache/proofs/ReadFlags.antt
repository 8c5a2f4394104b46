-- Flags that a cache is read as are compiled flags: in order, and each lawful.
use Rattle.std.proofs.Common.{◌≡◌, ℕ, List, [], ◌∷◌, ◌++◌, length, map, None, append_assoc, sym, subst, arith}
use Rattle.std.specs.Prelude.{All}
use Rattle.std.specs.List.{AllByRecursion, last_or}
use Rattle.std.proofs.lemmas.List.{append-nil}
use Rattle.std.proofs.lemmas.List.Elements.{All-push}
use Rattle.acfg_decls.specs.declared.flags.Flag.{Flag}
use Rattle.acfg_decls.specs.Flags.{AreFlags, IsLawful}
use Rattle.acfg_cache.specs.Parts.{opened}
use Rattle.acfg_cache.specs.Counted.{counting}
use Rattle.acfg_cache.specs.Reading.{Holds, Reads, Test, cache_tests, fields_of_flag, fields_tests, flag_in, flag_tests, flags_tests, made_tests, messages, order_tests, wire_tests}
use Rattle.acfg_cache.specs.Bodies.{Rise}
use Rattle.acfg_cache.proofs.MadeFlags.{lawful_made}
use Rattle.acfg_cache.proofs.Orders.{are_flags, rise_more}

-- where all of two lists of tests hold, each list's do
front_holds : (front rest : List Test) → AllByRecursion Holds (front ++ rest) → AllByRecursion Holds front
front_holds [] rest holds = tt
front_holds (test ∷ front) rest holds = (holds.0, front_holds front rest holds.1)

rest_holds : (front rest : List Test) → AllByRecursion Holds (front ++ rest) → AllByRecursion Holds rest
rest_holds [] rest holds = holds
rest_holds (test ∷ front) rest holds = rest_holds front rest holds.1

-- a flag whose tests hold is lawful
flag_lawful : (i : ℕ) (message : ℕ × List ℕ) → AllByRecursion Holds (flag_tests i message) → IsLawful (flag_in message)
flag_lawful i message holds =
    let parts = fields_of_flag message in
    let behind = rest_holds (wire_tests (opened message.0 message.1)) (fields_tests i parts ++ made_tests i (counting parts)) holds in
    lawful_made i (counting parts) (rest_holds (fields_tests i parts) (made_tests i (counting parts)) behind)

tested_flags : (before : List Flag) (found : List (ℕ × List ℕ)) → Rise before → All IsLawful before → AllByRecursion Holds (flags_tests before found) → AreFlags (before ++ map flag_in found)
tested_flags before [] rise lawful holds = subst AreFlags (sym (append-nil before)) (are_flags before rise lawful)
tested_flags before (message ∷ found) rise lawful holds =
    let flag = flag_in message in
    let own = flag_tests (length before) message in
    let order = order_tests (length before) (last_or None before) flag in
    let later = flags_tests (before ++ flag ∷ []) found in
    let here = front_holds (own ++ order) later holds in
    let risen = rise_more before flag (length before) rise (rest_holds own order here) in
    let each = All-push IsLawful before flag lawful (flag_lawful (length before) message (front_holds own order here)) in
    subst AreFlags (append_assoc before (flag ∷ []) (map flag_in found)) (tested_flags (before ++ flag ∷ []) found risen each (rest_holds (own ++ order) later holds))

pub read_flags : (bytes : List ℕ) (flags : List Flag) → Reads bytes flags → AreFlags flags
read_flags bytes flags reads =
    subst AreFlags (sym reads.are)
    (tested_flags [] (messages bytes) (λ k d within. absurd (omega (arith, within))) (λ k d within. absurd (omega (arith, within)))
    (rest_holds (wire_tests (opened 0 bytes)) (flags_tests [] (messages bytes)) reads.passed))
