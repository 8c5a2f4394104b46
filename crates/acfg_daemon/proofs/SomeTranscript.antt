-- A script has a transcript.
use Rattle.std.proofs.Common.{◌≡◌, ℕ, ◌+◌, List, [], ◌∷◌, ◌++◌, length, Option, None, Some, refl, subst, inl, inr, ⊎_elim}
use Rattle.std.proofs.lemmas.Bool.{cases_lt}
use Rattle.sha2.specs.Sha256.{sha256}
use Rattle.acfg_decls.specs.declared.declared.DeclarationsFile.{DeclarationsFile}
use Rattle.acfg_decls.specs.declared.faults.DeclWhat.TheVariants.{WrongContainer}
use Rattle.acfg_decls.specs.declared.messages.Message.TheVariants.{FlagDeclarations}
use Rattle.acfg_decls.specs.Reading.{Declares, declarations_in}
use Rattle.acfg_decls.specs.Releases.{release}
use Rattle.acfg_decls.proofs.Exists.{compiles_or_fails}
use Rattle.acfg_decls.proofs.Unique.{read_or_refused}
use Rattle.acfg_device.specs.Panel.{Files}
use Rattle.acfg_model.specs.declared.requests.Loaded.{Loaded}
use Rattle.acfg_model.specs.declared.requests.Loaded.TheVariants.{Bad, Disagree, Missing, Release}
use Rattle.acfg_model.specs.declared.requests.Reply.{Reply}
use Rattle.acfg_model.specs.declared.requests.Request.{Request}
use Rattle.acfg_model.specs.declared.requests.Request.TheVariants.{Update, Server, Local, Unset, Boot, Get}
use Rattle.acfg_model.specs.State.{State}
use Rattle.acfg_model.specs.Step.{step}
use Rattle.acfg_daemon.specs.Lines.{Event, Complete, TooLong, BadLine, IsEvent, IsGood, most_bytes}
use Rattle.acfg_daemon.specs.Replies.{reply_line}
use Rattle.acfg_daemon.specs.Requests.{Spells}
use Rattle.acfg_daemon.specs.Sources.{BytesLoad, FailsFor, FileLoads, Loads, source_path}
use Rattle.acfg_daemon.specs.Transcript.{bad_line, bad_request, too_long, EventSays, Serves, Transcript}

-- what can't be absent
abbrev pub Some_ : Type 0 → Type 0
Some_ A = ¬ ¬ A

-- it holds or it doesn't, wherever that is asked for a fact that can't be absent
by_cases : {P A : Type 0} → (P → Some_ A) → (¬ P → Some_ A) → Some_ A
by_cases here absent none = absent (λ p. here p none) none

then : {A B : Type 0} → Some_ A → (A → Some_ B) → Some_ B
then some f none = some (λ a. f a none)

-- declarations that were read compile, or have a first fault
some_compiled : (container path bytes : List ℕ) (file : DeclarationsFile) → Declares path bytes file → Some_ ((loaded : Loaded) × BytesLoad container path bytes loaded)
some_compiled container path bytes file declares none =
    compiles_or_fails file.package.text container (file ∷ []) []
    (λ flags compiles. none (Release (sha256 bytes) (release flags), (file, flags, declares, compiles, refl, refl)))
    (λ number place fault first.
    let fails : FailsFor container file fault = record { number = number; place = place; first = first } in
    by_cases {P = fault ≡ WrongContainer}
    (λ is none. none (Disagree, (file, declares, subst (FailsFor container file) is fails)))
    (λ other none. none (Bad, inr (file, fault, declares, fails, other)))
    none)

-- all bytes load something
pub some_bytes : (container path bytes : List ℕ) → Some_ ((loaded : Loaded) × BytesLoad container path bytes loaded)
some_bytes container path bytes =
    ⊎_elim
    (λ read. some_compiled container path bytes (declarations_in path read.0) (read.0, read.1, refl))
    (λ refused none. none (Bad, inl refused))
    (read_or_refused FlagDeclarations bytes)

some_file : (container path : List ℕ) (file : Option (List ℕ)) → Some_ ((loaded : Loaded) × FileLoads container path file loaded)
some_file container path None none = none (Missing, refl)
some_file container path (Some bytes) none = some_bytes container path bytes none

some_source : (files : Files) (request : Request) → Some_ ((loaded : Option Loaded) × Loads files request loaded)
some_source files (Update name dir) none = some_file name (source_path dir) (files (source_path dir)) (λ found. none (Some found.0, found.1))
some_source files (Server name «package» flag value) none = none (None, refl)
some_source files (Local name «package» flag value now) none = none (None, refl)
some_source files (Unset name «package» flag now) none = none (None, refl)
some_source files Boot none = none (None, refl)
some_source files (Get name «package» flag) none = none (None, refl)

-- something can be loaded for each request
abbrev pub IsSomeLoad : (Request → Option Loaded → Type 0) → Type 0
IsSomeLoad loads = (request : Request) → Some_ ((loaded : Option Loaded) × loads request loaded)

module _ (loads : Request → Option Loaded → Type 0) (some_load : IsSomeLoad loads) where
  some_serving : (state : State) (text : List ℕ) → Some_ ((after : State) × (reply : Reply) × Serves loads state text after reply)
  some_serving state text =
      by_cases {P = (request : Request) × Spells text request}
      (λ asked. then (some_load asked.0) (λ found none. let made = step state asked.0 found.0 in none (made.0, made.1, inl (asked.0, found.0, asked.1, found.1, refl))))
      (λ never none. none (state, bad_request, inr (λ request spells. never (request, spells), refl, refl)))

  some_answer : (state : State) (event : Event) → Some_ ((after : State) × (said : List ℕ) × EventSays loads state event after said)
  some_answer state (Complete client text) none = some_serving state text (λ served. none (served.0, reply_line client served.1, (served.1, served.2, refl)))
  some_answer state (TooLong client) none = none (state, reply_line client too_long, (refl, refl))
  some_answer state (BadLine number) none = none (state, bad_line number, (refl, refl))

  some_event : (number : ℕ) (line : List ℕ) → Some_ ((event : Event) × IsEvent number line event)
  some_event number line =
      by_cases {P = (client : ℕ) × (piece : List ℕ) × IsGood line client piece}
      (λ good none. ⊎_elim (λ over. none (TooLong good.0, (good.1, good.2, over))) (λ fits. none (Complete good.0 good.1, (good.2, fits))) (cases_lt most_bytes (length good.1)))
      (λ never none. none (BadLine number, (refl, λ client piece good. never (client, piece, good))))

  pub some_run : (state : State) (number : ℕ) (lines : List (List ℕ)) → Some_ ((text : List ℕ) × Transcript loads state number lines text)
  some_run state number [] none = none ([], refl)
  some_run state number (line ∷ lines) none =
      some_event number line (λ event.
      some_answer state event.0 (λ answer.
      some_run answer.0 (number + 1) lines (λ rest.
      none (answer.1 ++ rest.0, (answer.0, answer.1, rest.0, (event.0, event.1, answer.2), rest.1, refl)))))

pub some_transcript : (files : Files) (state : State) (number : ℕ) (lines : List (List ℕ)) → Some_ ((text : List ℕ) × Transcript (Loads files) state number lines text)
some_transcript files = some_run (Loads files) (some_source files)
