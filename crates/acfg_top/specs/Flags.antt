-- The outcome of `flags FILE`: the flags of one declarations file, compiled by itself.
use Rattle.std.specs.Prelude.{◌≡◌, ℕ, ◌⊎◌, List, [], ◌++◌, Option, None, Some, codes}
use Rattle.std.specs.List.{flat_map}
use Rattle.std.specs.Fmt.{decimal}
use Rattle.acfg_text.specs.declared.fault.TextWhat.{TextWhat}
use Rattle.acfg_text.specs.declared.fault.TextWhat.TheVariants as text
use Rattle.acfg_decls.specs.declared.flags.Flag.{Flag}
use Rattle.acfg_decls.specs.declared.declared.DeclarationsFile.{DeclarationsFile}
use Rattle.acfg_decls.specs.declared.faults.DeclWhat.{DeclWhat}
use Rattle.acfg_decls.specs.declared.faults.DeclWhat.TheVariants as what
use Rattle.acfg_decls.specs.declared.messages.Message.TheVariants.{FlagDeclarations}
use Rattle.acfg_decls.specs.Compile.{CompilesOwn, FailsOwn}
use Rattle.acfg_decls.specs.Reading.{Declares, Refuses}
use Rattle.acfg_dump.specs.Lines.{flag_line}
use Rattle.acfg_top.specs.Outcome.{Outcome, Refused, Done}

-- a fault of a text, as it is printed
abbrev pub text_words : TextWhat → List ℕ
text_words text.BadByte = codes "bad-byte"
text_words text.BadEscape = codes "bad-escape"
text_words text.OpenString = codes "open-string"
text_words text.Unexpected = codes "unexpected"
text_words text.TooDeep = codes "too-deep"
text_words text.BadUtf8 = codes "bad-utf8"

-- a fault of declarations or values
abbrev pub what_words : DeclWhat → List ℕ
what_words (what.Text fault) = text_words fault
what_words what.UnknownField = codes "unknown-field"
what_words what.TwiceGiven = codes "twice-given"
what_words what.BadScalar = codes "bad-scalar"
what_words what.MissingField = codes "missing-field"
what_words what.BadName = codes "bad-name"
what_words what.EmptyDescription = codes "empty-description"
what_words (what.BugCount count) = codes "bug-count " ++ decimal count
what_words what.WrongPackage = codes "wrong-package"
what_words what.WrongContainer = codes "wrong-container"
what_words what.Declared = codes "declared"
what_words what.TooMany = codes "too-many"
what_words what.FixedFlag = codes "fixed-flag"

-- a fault and its place
abbrev pub fault_words : ℕ → DeclWhat → List ℕ
fault_words place fault = what_words fault ++ codes " at " ++ decimal place

-- the first fault of a file: of reading it, or of compiling it by itself
abbrev pub FileFails : List ℕ → List ℕ → ℕ → DeclWhat → Type 0
FileFails name bytes place fault =
    Refuses FlagDeclarations bytes place fault
    ⊎ ((file : DeclarationsFile) × (number : ℕ) × Declares name bytes file × FailsOwn file number place fault)

-- the outcome for what is at FILE: a line a flag, in the order of the bytes of their full names
abbrev pub FlagsGives : List ℕ → Option (List ℕ) → Outcome → Type 0
FlagsGives name None outcome = outcome ≡ Refused name (codes "missing")
FlagsGives name (Some bytes) outcome =
    ((file : DeclarationsFile) × (flags : List Flag) × Declares name bytes file × CompilesOwn file flags
    × (outcome ≡ Done (flat_map flag_line flags) []))
    ⊎ ((place : ℕ) × (fault : DeclWhat) × FileFails name bytes place fault
    × (outcome ≡ Refused name (fault_words place fault)))
