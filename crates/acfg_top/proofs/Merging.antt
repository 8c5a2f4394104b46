-- The flags of a cache that is read are in order.
use Rattle.std.proofs.Common.{ℕ, List, [], ◌∷◌, ◌++◌, length, map, sym, subst, append_assoc, arith}
use Rattle.std.specs.Prelude.{All}
use Rattle.std.specs.List.{AllByRecursion, last_or}
use Rattle.std.specs.Prelude.{None}
use Rattle.std.proofs.lemmas.List.{append-nil}
use Rattle.std.proofs.lemmas.List.Elements.{All-nil, All-push}
use Rattle.acfg_decls.specs.declared.flags.Flag.{Flag}
use Rattle.acfg_decls.specs.Flags.{AreFlags, IsLawful}
use Rattle.acfg_cache.specs.Bodies.{Rise}
use Rattle.acfg_cache.specs.Counted.{counting}
use Rattle.acfg_cache.specs.Parts.{opened}
use Rattle.acfg_cache.specs.Reading.{Holds, Reads, Test, fields_of_flag, fields_tests, flag_in, flag_tests, flags_tests, made_tests, messages, order_tests, wire_tests}
use Rattle.acfg_cache.proofs.MadeFlags.{lawful_made}
use Rattle.acfg_cache.proofs.Orders.{are_flags, rise_more}

front_holds : (front rest : List Test) → AllByRecursion Holds (front ++ rest) → AllByRecursion Holds front
front_holds [] rest holds = tt
front_holds (test ∷ front) rest holds = (holds.0, front_holds front rest holds.1)

rest_holds : (front rest : List Test) → AllByRecursion Holds (front ++ rest) → AllByRecursion Holds rest
rest_holds [] rest holds = holds
rest_holds (test ∷ front) rest holds = rest_holds front rest holds.1

flags_are : (before : List Flag) (them : List (ℕ × List ℕ)) → Rise before → All IsLawful before → AllByRecursion Holds (flags_tests before them) → AreFlags (before ++ map flag_in them)
flags_are before [] rise lawful holds = subst AreFlags (sym (append-nil before)) (are_flags before rise lawful)
flags_are before (message ∷ them) rise lawful holds =
    let n = length before in
    let own_tests = flag_tests n message in
    let place_tests = order_tests n (last_or None before) (flag_in message) in
    let counts = counting (fields_of_flag message) in
    let both = front_holds (own_tests ++ place_tests) (flags_tests (before ++ flag_in message ∷ []) them) holds in
    let own = front_holds own_tests place_tests both in
    let place = rest_holds own_tests place_tests both in
    let wire = wire_tests (opened message.0 message.1) in
    let fields = fields_tests n (fields_of_flag message) in
    let made = rest_holds fields (made_tests n counts) (rest_holds wire (fields ++ made_tests n counts) own) in
    subst AreFlags (append_assoc before (flag_in message ∷ []) (map flag_in them))
    (flags_are (before ++ flag_in message ∷ []) them (rise_more before (flag_in message) n rise place) (All-push IsLawful before (flag_in message) lawful (lawful_made n counts made))
    (rest_holds (own_tests ++ place_tests) (flags_tests (before ++ flag_in message ∷ []) them) holds))

pub read_are_flags : (bytes : List ℕ) (flags : List Flag) → Reads bytes flags → AreFlags flags
read_are_flags bytes flags reads =
    subst AreFlags (sym reads.are)
    (flags_are [] (messages bytes) (λ k d within. absurd (omega (arith, within))) (All-nil IsLawful) (rest_holds (wire_tests (opened 0 bytes)) (flags_tests [] (messages bytes)) reads.passed))
