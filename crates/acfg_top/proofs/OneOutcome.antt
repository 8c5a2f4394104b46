-- Words and files have one outcome.
use Rattle.std.proofs.Common.{◌≡◌, ℕ, List, [], sym, ◌∙◌, ap, subst, inl, inr}
use Rattle.std.specs.Prelude.{Option, None, Some}
use Rattle.std.specs.List.{flat_map}
use Rattle.std.specs.FinMap.{empty}
use Rattle.acfg_daemon.specs.Lines.{lines}
use Rattle.acfg_daemon.proofs.OneTranscript.{one_transcript}
use Rattle.acfg_device.specs.Panel.{Files}
use Rattle.acfg_decls.specs.declared.flags.Flag.{Flag}
use Rattle.acfg_decls.specs.declared.declared.DeclarationsFile.{DeclarationsFile}
use Rattle.acfg_decls.specs.declared.faults.DeclWhat.{DeclWhat}
use Rattle.acfg_decls.specs.declared.messages.Message.TheVariants.{FlagDeclarations}
use Rattle.acfg_decls.specs.Compile.{CompilesOwn, FailsOwn}
use Rattle.acfg_decls.specs.Reading.{Declares}
use Rattle.acfg_decls.proofs.OneAnswer.{own_apart, own_fails_unique, own_unique}
use Rattle.acfg_decls.proofs.Unique.{declares_unique, passes_apart, refuses_unique}
use Rattle.acfg_dump.specs.Lines.{flag_line}
use Rattle.acfg_top.specs.Words.{Command, Flags, Rehearse, Replay, Query, Dump, CreateCache, CreateStorage, CreateAll, Asks}
use Rattle.acfg_top.specs.Commands.{CommandGives, Gives}
use Rattle.acfg_top.specs.Flags.{FileFails, FlagsGives, fault_words}
use Rattle.acfg_top.specs.Outcome.{Outcome, Refused, Done}
use Rattle.acfg_top.specs.Rehearsal.{RehearseGives}
use Rattle.acfg_top.proofs.Asking.{asks_unique}
use Rattle.acfg_top.proofs.Creating.{create_cache_unique}
use Rattle.acfg_top.proofs.Dumping.{dump_gives_unique}
use Rattle.acfg_top.proofs.JobOutcome.{create_all_unique}
use Rattle.acfg_top.proofs.Replaying.{replay_gives_unique}
use Rattle.acfg_top.proofs.Storing.{create_storage_unique}

-- a file that is read and compiled is refused nowhere
never_fails : (name bytes : List ℕ) (file : DeclarationsFile) (flags : List Flag) (place : ℕ) (fault : DeclWhat) → Declares name bytes file → CompilesOwn file flags → FileFails name bytes place fault → ⊥
never_fails name bytes file flags place fault declares compiles (inl refuses) = passes_apart FlagDeclarations bytes declares.0 place fault declares.1 refuses
never_fails name bytes file flags place fault declares compiles (inr (other, number, declares_too, fails)) =
    let same = declares_unique name bytes other file declares_too declares in
    own_apart file flags number place fault compiles (subst (λ f. FailsOwn f number place fault) same fails)

-- and a file has one first fault
one_failure : (name bytes : List ℕ) (place other_place : ℕ) (fault other : DeclWhat) → FileFails name bytes place fault → FileFails name bytes other_place other → (place ≡ other_place) × (fault ≡ other)
one_failure name bytes place other_place fault other (inl a) (inl b) = refuses_unique FlagDeclarations bytes place other_place fault other a b
one_failure name bytes place other_place fault other (inl a) (inr (file, number, declares, fails)) = absurd (passes_apart FlagDeclarations bytes declares.0 place fault declares.1 a)
one_failure name bytes place other_place fault other (inr (file, number, declares, fails)) (inl b) = absurd (passes_apart FlagDeclarations bytes declares.0 other_place other declares.1 b)
one_failure name bytes place other_place fault other (inr (file, number, declares, fails)) (inr (file_too, number_too, declares_too, fails_too)) =
    let same = declares_unique name bytes file file_too declares declares_too in
    (own_fails_unique file_too number place number_too other_place fault other (subst (λ f. FailsOwn f number place fault) same fails) fails_too)

-- `flags FILE` has one outcome
pub flags_gives_unique : (name : List ℕ) (found : Option (List ℕ)) (a b : Outcome) → FlagsGives name found a → FlagsGives name found b → a ≡ b
flags_gives_unique name None a b gives also = gives ∙ sym also
flags_gives_unique name (Some bytes) a b (inl (file, flags, declares, compiles, is)) (inl (file_too, flags_too, declares_too, compiles_too, is_too)) =
    let same = declares_unique name bytes file file_too declares declares_too in
    let listed = own_unique file_too flags flags_too (subst (λ f. CompilesOwn f flags) same compiles) compiles_too in
    is ∙ ap (λ flags. Done (flat_map flag_line flags) []) listed ∙ sym is_too
flags_gives_unique name (Some bytes) a b (inl (file, flags, declares, compiles, is)) (inr (place, fault, fails, is_too)) = absurd (never_fails name bytes file flags place fault declares compiles fails)
flags_gives_unique name (Some bytes) a b (inr (place, fault, fails, is)) (inl (file, flags, declares, compiles, is_too)) = absurd (never_fails name bytes file flags place fault declares compiles fails)
flags_gives_unique name (Some bytes) a b (inr (place, fault, fails, is)) (inr (other_place, other, fails_too, is_too)) =
    let same = one_failure name bytes place other_place fault other fails fails_too in
    is ∙ (λ j. Refused name (fault_words (same.0 j) (same.1 j))) ∙ sym is_too

-- `rehearse SCRIPT` has one outcome
pub rehearse_gives_unique : (script : List ℕ) (files : Files) (found : Option (List ℕ)) (a b : Outcome) → RehearseGives script files found a → RehearseGives script files found b → a ≡ b
rehearse_gives_unique script files None a b gives also = gives ∙ sym also
rehearse_gives_unique script files (Some bytes) a b (text, transcript, is) (other, transcript_too, is_too) =
    is ∙ ap (λ t. Done t []) (one_transcript files empty 1 (lines bytes) text other transcript transcript_too) ∙ sym is_too

pub command_gives_unique : (command : Command) (files : Files) (a b : Outcome) → CommandGives command files a → CommandGives command files b → a ≡ b
command_gives_unique (Flags file) files a b gives also = flags_gives_unique file (files file) a b gives also
command_gives_unique (Rehearse script) files a b gives also = rehearse_gives_unique script files (files script) a b gives also
command_gives_unique (Replay script dir) files a b gives also = replay_gives_unique script dir files (files script) a b gives also
command_gives_unique (Query dir name flag) files a b gives also = gives ∙ sym also
command_gives_unique (Dump format filter names) files a b gives also = dump_gives_unique format filter names files a b gives also
command_gives_unique (CreateCache name container out names) files a b gives also = create_cache_unique name container out names files a b gives also
command_gives_unique (CreateStorage container dir names) files a b gives also = create_storage_unique container dir names files a b gives also
command_gives_unique (CreateAll list) files a b gives also = create_all_unique list files a b gives also

pub gives_unique : (words : List (List ℕ)) (files : Files) (a b : Outcome) → Gives words files a → Gives words files b → a ≡ b
gives_unique words files a b (inl (command, asks, gives)) (inl (other, asks_too, gives_too)) =
    command_gives_unique other files a b (subst (λ c. CommandGives c files a) (asks_unique words command other asks asks_too) gives) gives_too
gives_unique words files a b (inl (command, asks, gives)) (inr (none, is)) = absurd (none command asks)
gives_unique words files a b (inr (none, is)) (inl (command, asks, gives)) = absurd (none command asks)
gives_unique words files a b (inr (none, is)) (inr (never, is_too)) = is ∙ sym is_too

-- the outcome of words is that of the command that they ask for
pub gives_command : (words : List (List ℕ)) (command : Command) (files : Files) (outcome : Outcome) → Asks words command → Gives words files outcome → CommandGives command files outcome
gives_command words command files outcome asks (inl (other, asked, gives)) = subst (λ c. CommandGives c files outcome) (asks_unique words other command asked asks) gives
gives_command words command files outcome asks (inr (none, is)) = absurd (none command asks)
