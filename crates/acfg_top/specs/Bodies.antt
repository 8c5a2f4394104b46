-- Words of private bodies: how commands answer, and how `run` makes a status of that. No public clause cites them.
use Rattle.std.specs.Prelude.{◌≡◌, ℕ, Bool, true, false, ◌++◌, List, [], ◌∷◌, map, option_map, Option, None, Some}
use Rattle.std.specs.Prelude.{Result, Ok, Err}
use Rattle.std.specs.Borrow.{Bor}
use Rattle.std.specs.Prelude.{codes, string_bytes}
use Rattle.std.specs.Fmt.{decimal}
use Rattle.acfg_commit.specs.declared.several.NewFile.{NewFile}
use Rattle.acfg_commit.specs.Written.{IsNameAmong}
use Rattle.acfg_decls.specs.declared.faults.DeclFault.{DeclFault}
use Rattle.acfg_decls.specs.declared.flags.Flag.{Flag}
use Rattle.acfg_decls.specs.declared.faults.DeclFault.TheVariants as decl
use Rattle.acfg_base.specs.Names.{IsContainer, IsPackage}
use Rattle.acfg_device.specs.declared.panel.Panel.{Ghosts}
use Rattle.acfg_device.specs.declared.panel.ReadFault.{ReadFault}
use Rattle.acfg_device.specs.declared.panel.ReadFault.TheVariants as read
use Rattle.acfg_daemon.specs.declared.fault.DaemonFault.{DaemonFault}
use Rattle.acfg_daemon.specs.declared.fault.DaemonFault.TheVariants as daemon
use Rattle.acfg_top.specs.declared.ending.Ending.{Ending}
use Rattle.acfg_top.specs.declared.ending.Ending.TheVariants as end
use Rattle.acfg_top.specs.declared.ending.Stop.{Stop}
use Rattle.acfg_top.specs.declared.ending.Stop.TheVariants.{Failed, OutOfMemory}
use Rattle.acfg_top.specs.declared.told.Refusal.{Refusal}
use Rattle.acfg_top.specs.declared.told.Refusal.TheVariants as refusal
use Rattle.acfg_top.specs.declared.told.Told.{Told}
use Rattle.acfg_top.specs.declared.told.Halt.{Halt}
use Rattle.acfg_top.specs.declared.told.Halt.TheVariants as halt
use Rattle.acfg_top.specs.declared.output.Output.{Output}
use Rattle.acfg_top.specs.declared.inputs.Input.{Input}
use Rattle.acfg_top.specs.declared.inputs.Seen.{Seen}
use Rattle.acfg_top.specs.declared.inputs.Found.{Found}
use Rattle.acfg_top.specs.declared.inputs.Found.TheVariants as found
use Rattle.acfg_top.specs.declared.words as source
use Rattle.acfg_top.specs.Caches.{IsBadCache, IsCache, cache_words}
use Rattle.acfg_top.specs.CreateStorage.{IsNoOwnCache, IsOwnCache, limit_words}
use Rattle.acfg_top.specs.Flags.{fault_words}
use Rattle.acfg_top.specs.Inputs.{Given}
use Rattle.acfg_top.specs.Outcome.{Outcome, Usage, Refused, Damaged, Done, Replayed, IsDone, Writes, said_for}
use Rattle.acfg_top.specs.Outcome.{writes_of}
use Rattle.acfg_top.specs.Query.{image_words}
use Rattle.acfg_top.specs.Words.{Command, Flags, Rehearse, Replay, Query, Dump, CreateCache, CreateStorage}
use Rattle.acfg_top.specs.Words.{CreateAll}

abbrev pub command_of : source.Command.Command → Command
command_of (source.Command.TheVariants.Flags file) = Flags file.now
command_of (source.Command.TheVariants.Rehearse script) = Rehearse script.now
command_of (source.Command.TheVariants.Replay script dir) = Replay script.now dir.now
command_of (source.Command.TheVariants.Query dir asked) = Query dir.now asked.package.now asked.flag.now
command_of (source.Command.TheVariants.Dump asked) =
    Dump asked.format.now asked.filter.now (map string_bytes asked.files.now)
command_of (source.Command.TheVariants.CreateCache asked) =
    CreateCache asked.package.now asked.container.now asked.out.now (map string_bytes asked.files.now)
command_of (source.Command.TheVariants.CreateStorage asked) =
    CreateStorage asked.container.now asked.dir.now (map string_bytes asked.caches.now)
command_of (source.Command.TheVariants.CreateAll list) = CreateAll list.now

-- the names that a command builds with are lawful
abbrev pub HasNames : Command → Type 0
HasNames (CreateCache name container out files) = IsPackage name × IsContainer container
HasNames (CreateStorage container dir caches) = IsContainer container
HasNames _ = Unit {0}

-- a promise of a replay alone
abbrev pub OfReplay : Command → (List ℕ → List ℕ → Type 0) → Type 0
OfReplay (Replay script dir) promise = promise script dir
OfReplay _ promise = Unit {0}

abbrev pub stop_of_read : ReadFault → Stop
stop_of_read read.Failed = Failed
stop_of_read read.OutOfMemory = OutOfMemory

-- The first line is no rule: damage is told, and is no stop.
abbrev pub stop_of_daemon : DaemonFault → Stop
stop_of_daemon (daemon.Damaged name) = Failed
stop_of_daemon daemon.Device = Failed
stop_of_daemon daemon.OutOfMemory = OutOfMemory

-- how a command ends with an outcome, which isn't the usage
abbrev pub IsEnding : Outcome → Ending → Type 0
IsEnding Usage answer = ⊥
IsEnding (Refused file what) answer = answer ≡ end.Refused
IsEnding (Damaged file) answer = answer ≡ end.Damaged
IsEnding (Done text writes) answer = answer ≡ end.Done
IsEnding (Replayed dir text state) answer = answer ≡ end.Done

abbrev pub status_of : Result Ending Stop → ℕ
status_of (Ok end.Done) = 0
status_of (Ok end.Refused) = 2
status_of (Ok end.Damaged) = 3
status_of (Err Failed) = 4
status_of (Err OutOfMemory) = 5

-- why an input is refused, as it is printed
abbrev pub refusal_words : Refusal → List ℕ
refusal_words refusal.Missing = codes "missing"
refusal_words (refusal.Declarations place what) = fault_words place what
refusal_words (refusal.Image fault) = image_words fault
refusal_words (refusal.Placeholder place) = codes "bad-placeholder at " ++ decimal place
refusal_words (refusal.Filter place) = codes "bad-filter at " ++ decimal place
refusal_words (refusal.Cache fault) = cache_words fault
refusal_words (refusal.Stranger position) = codes "wrong-container flag " ++ decimal position
refusal_words (refusal.Clash name) = codes "clash " ++ name.now
refusal_words (refusal.Limit fault) = limit_words fault
refusal_words (refusal.BadLine number) = codes "bad-line " ++ decimal number

-- files as a command writes them
abbrev pub writes_in : List NewFile → Writes
writes_in files = map (λ file. (string_bytes file.name, file.bytes.items)) files

-- what is to be told is that of an outcome that writes no file
pub record IsOf (outcome : Outcome) (told : Told) : Type 0 where
  pub ending : IsEnding outcome told.ending
  pub text : told.text.items ≡ said_for outcome
  pub nothing : writes_of outcome ≡ Some []

-- what is to be told is of one of these outcomes
abbrev pub IsAnswer : (Outcome → Type 0) → Told → Type 0
IsAnswer gives told = (outcome : Outcome) × gives outcome × IsOf outcome told

-- why inputs are judged no further: one is refused, so and so, or memory was
abbrev pub IfRefused : (List ℕ → List ℕ → Type 0) → Halt → Type 0
IfRefused refuses (halt.Refused told) = (file what : List ℕ) × refuses file what × IsOf (Refused file what) told
IfRefused refuses halt.OutOfMemory = Unit {0}

-- these files are all that an outcome writes before its words
abbrev pub AreWrites : Outcome → Writes → Type 0
AreWrites Usage all = [] ≡ all
AreWrites (Refused file what) all = [] ≡ all
AreWrites (Damaged file) all = [] ≡ all
AreWrites (Done text writes) all = writes ≡ all
AreWrites (Replayed dir text state) all = ⊥

-- what is written and told is that of an outcome
pub record IsOutputOf (outcome : Outcome) (output : Output) : Type 0 where
  pub ending : IsEnding outcome output.told.ending
  pub text : output.told.text.items ≡ said_for outcome
  pub files : AreWrites outcome (writes_in output.files.items)

-- of one of these outcomes
abbrev pub IsProduct : (Outcome → Type 0) → Output → Type 0
IsProduct gives output = (outcome : Outcome) × gives outcome × IsOutputOf outcome output

-- of one of these outcomes, by which all is done
pub record IsMade (gives : Outcome → Type 0) (output : Output) : Type 0 where
  pub text : List ℕ
  pub writes : Writes
  pub given : gives (Done text writes)
  pub is : IsOutputOf (Done text writes) output

-- each file has one of these names
abbrev pub AreAmong : (List ℕ → Type 0) → Output → Type 0
AreAmong names output = (other : List ℕ) → IsNameAmong output.files.items other → names other

-- all files have this name
abbrev pub AreAt : List ℕ → Output → Type 0
AreAt name output = (other : List ℕ) → IsNameAmong output.files.items other → other ≡ name

-- an input is accepted and added, where it is one of those that are looked at
abbrev pub IsAdded : {X : Type 0} → (Given → X → Type 0) → Bool → Given → List X → List X → Type 0
IsAdded {X} accepts true input old new = (x : X) × accepts input x × (new ≡ old ++ x ∷ [])
IsAdded {X} accepts false input old new = new ≡ old

-- a text that may be given, as bytes
abbrev pub text_in : Option (Bor (List ℕ)) → Option (List ℕ)
text_in given = option_map (λ text. text.now) given

-- a cache is taken as flags, all of them the container's where one is given; or it is refused
abbrev pub IsTaken : Option (List ℕ) → Given → List Flag → Type 0
IsTaken None = IsCache
IsTaken (Some container) = IsOwnCache container

abbrev pub IsNotTaken : Option (List ℕ) → Given → List ℕ → Type 0
IsNotTaken None = IsBadCache
IsNotTaken (Some container) = IsNoOwnCache container

-- the fault of a file of declarations or values, as it is printed
abbrev pub IsFault : DeclFault → List ℕ → Type 0
IsFault (decl.At place fault) what = what ≡ fault_words place fault
IsFault decl.OutOfMemory what = ⊥

-- input files as they were read
abbrev pub input_of : Input → Given
input_of input = record { name = input.name.now; bytes = input.bytes.items }

abbrev pub inputs_of : List Input → List Given
inputs_of inputs = map input_of inputs

-- the files that were read, or the name of the first that isn't there
abbrev pub found_of : Found → Result (List Given) (List ℕ)
found_of (found.All inputs) = Ok (inputs_of inputs.items)
found_of (found.Missing name) = Err name.now

-- the name of the first file that isn't there
abbrev pub missing_of : Result (List Given) (List ℕ) → Option (List ℕ)
missing_of (Ok inputs) = None
missing_of (Err missing) = Some missing

-- what was read so far and what is there of the rest, together
abbrev pub read_then : List Given → Option (List ℕ) → Result (List Given) (List ℕ) → Result (List Given) (List ℕ)
read_then inputs (Some missing) rest = Err missing
read_then inputs None (Ok rest) = Ok (inputs ++ rest)
read_then inputs None (Err missing) = Err missing

abbrev pub seen_then : Seen → Result (List Given) (List ℕ) → Result (List Given) (List ℕ)
seen_then seen rest = read_then (inputs_of seen.inputs.items) (option_map (λ name. name.now) seen.missing) rest

-- an answer that is the ending of an outcome, one of those that are given, with all done that it asks for
pub record Comes {P : Type 0} (panel : Ghosts P) (gives : Outcome → Type 0) (answer : Ending) (before after : P)
    : Type 0 where
  pub outcome : Outcome
  pub given : gives outcome
  pub is : IsEnding outcome answer
  pub done : IsDone panel outcome before after
