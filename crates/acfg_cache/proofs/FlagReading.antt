-- A flag by itself: its message, its fields, and what they make.
use Rattle.std.proofs.Common.{◌≡◌, ℕ, List, ◌++◌, Result, Ok, sym, ap, ◌∙◌, subst}
use Rattle.std.specs.List.{AllByRecursion}
use Rattle.acfg_decls.specs.declared.flags.Flag.{Flag}
use Rattle.acfg_wire.specs.declared.fault.WireFault.{WireFault}
use Rattle.acfg_cache.specs.declared.fault.CacheFault.{CacheFault}
use Rattle.acfg_cache.specs.Parts.{Part, opened, parts_of}
use Rattle.acfg_cache.specs.Counted.{Counting, counting}
use Rattle.acfg_cache.specs.Reading.{FirstFails, Holds, IfFault, Test, fields_tests, flag_in, flag_of, flag_tests, made_tests, wire_tests}
use Rattle.acfg_cache.proofs.Passed.{all_joined, if_weaker, in_behind, in_front}

-- the tests of a flag whose message is opened as this
abbrev tests_of : ℕ → Result (List Part) WireFault → List Test
tests_of i read = wire_tests read ++ (fields_tests i (parts_of read) ++ made_tests i (counting (parts_of read)))

pub fields_fail : (i at : ℕ) (content : List ℕ) (parts : List Part) (fault : CacheFault) → opened at content ≡ Ok parts
    → IfFault fault (FirstFails (fields_tests i parts)) → IfFault fault (FirstFails (flag_tests i (at, content)))
fields_fail i at content parts fault is fails =
    subst (λ read. IfFault fault (FirstFails (tests_of i read))) (sym is)
    (if_weaker fault _ _ (λ told first. in_front (fields_tests i parts) (made_tests i (counting parts)) told first) fails)

pub made_fails : (i at : ℕ) (content : List ℕ) (parts : List Part) (counts : Counting) (told : CacheFault) → opened at content ≡ Ok parts → counts ≡ counting parts
    → AllByRecursion Holds (fields_tests i parts) → FirstFails (made_tests i counts) told → FirstFails (flag_tests i (at, content)) told
made_fails i at content parts counts told is counted passed fails =
    subst (λ read. FirstFails (tests_of i read) told) (sym is)
    (in_behind (fields_tests i parts) (made_tests i (counting parts)) told passed (subst (λ (c : Counting). FirstFails (made_tests i c) told) counted fails))

pub flag_passes : (i at : ℕ) (content : List ℕ) (parts : List Part) (counts : Counting) → opened at content ≡ Ok parts → counts ≡ counting parts
    → AllByRecursion Holds (fields_tests i parts) → AllByRecursion Holds (made_tests i counts) → AllByRecursion Holds (flag_tests i (at, content))
flag_passes i at content parts counts is counted passed holds =
    subst (λ read. AllByRecursion Holds (tests_of i read)) (sym is)
    (all_joined (fields_tests i parts) (made_tests i (counting parts)) passed (subst (λ (c : Counting). AllByRecursion Holds (made_tests i c)) counted holds))

pub flag_made : (at : ℕ) (content : List ℕ) (parts : List Part) (counts : Counting) (flag : Flag) → opened at content ≡ Ok parts → counts ≡ counting parts
    → flag ≡ flag_of counts → flag ≡ flag_in (at, content)
flag_made at content parts counts flag is counted made =
    made ∙ ap flag_of counted ∙ ap (λ read. flag_of (counting (parts_of read))) (sym is)
