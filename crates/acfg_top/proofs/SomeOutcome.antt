-- Words and files have an outcome.
use Rattle.std.proofs.Common.{◌≡◌, ℕ, List, [], ◌∷◌, refl, sym, subst, inl, inr, ⊎_elim, codes}
use Rattle.std.specs.Prelude.{Option, None, Some, MatchOption}
use Rattle.std.specs.List.{flat_map}
use Rattle.std.specs.FinMap.{empty}
use Rattle.acfg_decls.specs.declared.declared.DeclarationsFile.{DeclarationsFile}
use Rattle.acfg_decls.specs.declared.declared.Placed.{Placed}
use Rattle.acfg_decls.specs.declared.faults.DeclWhat.{DeclWhat}
use Rattle.acfg_decls.specs.declared.faults.DeclWhat.TheVariants.{MissingField}
use Rattle.acfg_decls.specs.declared.messages.Message.TheVariants.{FlagDeclarations}
use Rattle.acfg_decls.specs.Compile.{FailsOwn, FailsToCompile, container_read, all_tests}
use Rattle.acfg_decls.specs.Reading.{Declares, declarations_in}
use Rattle.acfg_decls.proofs.Exists.{compiles_or_fails}
use Rattle.acfg_decls.proofs.Unique.{read_or_refused}
use Rattle.acfg_device.specs.Panel.{Files}
use Rattle.acfg_dump.specs.Lines.{flag_line}
use Rattle.acfg_daemon.specs.Lines.{lines}
use Rattle.acfg_daemon.proofs.OneLine.{transcript_runs}
use Rattle.acfg_daemon.proofs.SomeTranscript.{some_run, some_transcript, Some_}
use Rattle.acfg_daemon.specs.Replayed.{ImageLoads}
use Rattle.acfg_model.specs.State.{State}
use Rattle.acfg_store.specs.Damage.{HoldBytes}
use Rattle.acfg_store.specs.Loading.{image_load}
use Rattle.acfg_store.specs.Stands.{Stands}
use Rattle.acfg_store.proofs.Faultless.{some_damage}
use Rattle.acfg_top.specs.Commands.{CommandGives, Gives}
use Rattle.acfg_top.specs.Flags.{FlagsGives, fault_words}
use Rattle.acfg_top.specs.Outcome.{Outcome, Usage, Refused, Damaged, Done, Replayed}
use Rattle.acfg_top.specs.Rehearsal.{RehearseGives}
use Rattle.acfg_top.specs.Replay.{ReplayGives}
use Rattle.acfg_top.specs.Query.{judged, set_in}
use Rattle.acfg_top.specs.Words.{Asks, Command, Flags, Rehearse, Replay, Query, Dump, CreateCache, CreateStorage, CreateAll}
use Rattle.acfg_top.proofs.Creating.{some_create_cache}
use Rattle.acfg_top.proofs.Dumping.{some_dump}
use Rattle.acfg_top.proofs.JobOutcome.{some_create_all}
use Rattle.acfg_top.proofs.Storing.{some_create_storage}

-- what a file gives that is read and doesn't compile
fails : (name bytes : List ℕ) (file : DeclarationsFile) → Declares name bytes file → (number place : ℕ) (fault : DeclWhat) → FailsOwn file number place fault → (outcome : Outcome) × FlagsGives name (Some bytes) outcome
fails name bytes file declares number place fault own = (Refused name (fault_words place fault), inr (place, fault, inr (file, number, declares, own), refl))

-- what fails of a file where a container is named, and where none is
abbrev OwnFails : DeclarationsFile → Option Placed → ℕ → ℕ → DeclWhat → Type 0
OwnFails file named number place fault =
    MatchOption named ((number ≡ 0) × (place ≡ file.end) × (fault ≡ MissingField))
    (λ container. FailsToCompile (all_tests file.package.text (container_read container.text) (file ∷ []) []) number place fault)

-- declarations that were read compile by themselves, or have a first fault
some_own : (name bytes : List ℕ) (file : DeclarationsFile) → Declares name bytes file → Some_ ((outcome : Outcome) × FlagsGives name (Some bytes) outcome)
some_own name bytes file declares none = go file.container refl
  where
    go : (named : Option Placed) → file.container ≡ named → ⊥
    go None is = none (fails name bytes file declares 0 file.end MissingField (subst (λ named. OwnFails file named 0 file.end MissingField) (sym is) (refl, refl, refl)))
    go (Some container) is =
        compiles_or_fails file.package.text (container_read container.text) (file ∷ []) []
        (λ flags compiles. none (Done (flat_map flag_line flags) [], inl (file, flags, declares, record { container = container; named = is; compiles = compiles }, refl)))
        (λ number place fault first. none (fails name bytes file declares number place fault (subst (λ named. OwnFails file named number place fault) (sym is) first)))

-- `flags` gives something for each file
some_flags : (file : List ℕ) (found : Option (List ℕ)) → Some_ ((outcome : Outcome) × FlagsGives file found outcome)
some_flags file None = λ none. none (Refused file (codes "missing"), refl)
some_flags file (Some bytes) =
    ⊎_elim
    (λ read. some_own file bytes (declarations_in file read.0) (read.0, read.1, refl))
    (λ refused none. none (Refused file (fault_words refused.0 refused.1), inr (refused.0, refused.1, inl refused.2, refl)))
    (read_or_refused FlagDeclarations bytes)

some_rehearsal : (script : List ℕ) (files : Files) (found : Option (List ℕ)) → Some_ ((outcome : Outcome) × RehearseGives script files found outcome)
some_rehearsal script files None none = none (Refused script (codes "missing"), refl)
some_rehearsal script files (Some bytes) none = some_transcript files empty 1 (lines bytes) (λ text. none (Done text.0 [], (text.0, text.1, refl)))

-- a script leads somewhere from the state for which files stand
some_played : (script dir : List ℕ) (files : Files) (bytes : List ℕ) (state : State) → Stands files dir state → Some_ ((outcome : Outcome) × ReplayGives script dir files (Some bytes) outcome)
some_played script dir files bytes state stands none =
    some_run (ImageLoads files) (λ request found. found (image_load files request, refl)) state 1 (lines bytes) (λ found.
    let runs = transcript_runs (ImageLoads files) state 1 (lines bytes) found.0 found.1 in
    none (Replayed dir found.0 runs.0, inr (state, runs.0, found.0, stands, runs.1, refl)))

some_replay : (script dir : List ℕ) (files : Files) → HoldBytes files → (found : Option (List ℕ)) → Some_ ((outcome : Outcome) × ReplayGives script dir files found outcome)
some_replay script dir files hold None none = none (Refused script (codes "missing"), refl)
some_replay script dir files hold (Some bytes) none =
    some_damage files hold dir
    (λ state stands. some_played script dir files bytes state stands none)
    (λ file damaged. none (Damaged file, inl (file, damaged, refl)))

-- of a replay this is said of files of bytes
abbrev NeedsBytes : Command → Files → Type 0
NeedsBytes command files = (script dir : List ℕ) → command ≡ Replay script dir → HoldBytes files

some_command : (command : Command) (files : Files) → NeedsBytes command files → Some_ ((outcome : Outcome) × CommandGives command files outcome)
some_command (Flags file) files hold none = some_flags file (files file) none
some_command (Replay script dir) files hold none = some_replay script dir files (hold script dir refl) (files script) none
some_command (Rehearse script) files hold none = some_rehearsal script files (files script) none
some_command (Query dir name flag) files hold none = none (judged dir name flag (set_in dir files), refl)
some_command (Dump format filter names) files hold none = some_dump format filter names files (λ outcome given. none (outcome, given))
some_command (CreateCache name container out names) files hold none = some_create_cache name container out names files (λ outcome given. none (outcome, given))
some_command (CreateStorage container dir names) files hold none = some_create_storage container dir names files (λ outcome given. none (outcome, given))
some_command (CreateAll list) files hold none = some_create_all list files (λ outcome given. none (outcome, given))

pub some_outcome : (words : List (List ℕ)) (files : Files) → ((script dir : List ℕ) → Asks words (Replay script dir) → HoldBytes files) → Some_ ((outcome : Outcome) × Gives words files outcome)
some_outcome words files hold none =
    none (
      Usage,
      inr (
        λ command asks.
            some_command command files (λ script dir is. hold script dir (subst (Asks words) is asks)) (λ found. none (found.0, inl (command, asks, found.1))),
        refl,
      ),
    )
