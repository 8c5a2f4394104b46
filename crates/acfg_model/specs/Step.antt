-- One step of the plain machine: the reply to a request, and the state after it.
use Rattle.std.specs.Prelude.{◌≡◌, ℕ, Bool, false, List, Option, Some, None, Result, Ok, Err, option_map}
use Rattle.std.specs.Prelude.{option_and_then}
use Rattle.std.specs.Prelude.{if◌then◌else◌, IsNone, bytes_eq, nat_le, ◌<◌, ◌^◌}
use Rattle.std.specs.FinMap.{get, insert, remove, empty, len, contains_key, retain_keys}
use Rattle.acfg_base.specs.declared.releases.Kind.{Kind}
use Rattle.acfg_base.specs.declared.releases.Kind.TheVariants.{ReadWrite, ReadOnly, Fixed}
use Rattle.acfg_base.specs.Maps.{map_values}
use Rattle.acfg_base.specs.Release.{Key, ReleaseMap, is_read_write}
use Rattle.acfg_model.specs.declared.changes.Change.{Change}
use Rattle.acfg_model.specs.declared.changes.Change.TheVariants.{SetServer, SetLocal, UnsetLocal}
use Rattle.acfg_model.specs.declared.refusals.Refusal.{Refusal}
use Rattle.acfg_model.specs.declared.refusals.Refusal.TheVariants as refusal
use Rattle.acfg_model.specs.declared.requests.Loaded.{Loaded}
use Rattle.acfg_model.specs.declared.requests.Loaded.TheVariants.{Missing, Bad, Disagree, Release}
use Rattle.acfg_model.specs.declared.requests.Reply.{Reply}
use Rattle.acfg_model.specs.declared.requests.Reply.TheVariants.{Fine, Updated, Unchanged, Value, Refused}
use Rattle.acfg_model.specs.declared.requests.Request.{Request}
use Rattle.acfg_model.specs.declared.requests.Request.TheVariants.{Update, Server, Local, Unset, Boot, Get}
use Rattle.acfg_model.specs.Refusals.{number_of}
use Rattle.acfg_model.specs.State.{BootedFlag, BootMap, Container, OverrideMap, State}
use Rattle.acfg_model.specs.State.{is_writable, pick, most_containers}

-- a refused request leaves the state as it was
abbrev pub refused : State → Refusal → State × Reply
refused state why = (state, Refused (number_of why))

-- an override needs a flag of the release, and a read-write one
abbrev pub set_refusal : Option (Kind × Bool) → Option Refusal
set_refusal None = Some refusal.UnknownFlag
set_refusal (Some (ReadWrite, value)) = None
set_refusal (Some (ReadOnly, value)) = Some refusal.ReadOnly
set_refusal (Some (Fixed, value)) = Some refusal.ReadOnly

-- what is unset needs a flag of the release, and one with a local override
abbrev pub unset_refusal : Option (Kind × Bool) → Option Bool → Option Refusal
unset_refusal None override = Some refusal.UnknownFlag
unset_refusal (Some facts) None = Some refusal.NoOverride
unset_refusal (Some facts) (Some value) = None

-- why a change of the overrides over a release is refused, where it is
abbrev pub change_refusal : ReleaseMap → OverrideMap → Change → Option Refusal
change_refusal release local (SetServer key value) = set_refusal (get release key)
change_refusal release local (SetLocal key value) = set_refusal (get release key)
change_refusal release local (UnsetLocal key) = unset_refusal (get release key) (get local key)

-- the container with a change
abbrev pub changed : Container → Change → Container
changed container (SetServer key value) = record container { server = insert container.server key value }
changed container (SetLocal key value) = record container { local = insert container.local key value }
changed container (UnsetLocal key) = record container { local = remove container.local key }

-- the new container, unless something refuses
abbrev pub unless : Option Refusal → Container → Result Container Refusal
unless None container = Ok container
unless (Some why) container = Err why

abbrev pub with_change : Container → Change → Result Container Refusal
with_change container change =
    unless (change_refusal container.release container.local change) (changed container change)

-- the flag that a change is of
abbrev pub changed_key : Change → Key
changed_key (SetServer key value) = key
changed_key (SetLocal key value) = key
changed_key (UnsetLocal key) = key

-- the state and the reply where one container is changed, or none of that name is there
abbrev pub replaced : State → List ℕ → Option (Result Container Refusal) → State × Reply
replaced state name None = refused state refusal.UnknownContainer
replaced state name (Some (Ok container)) = (insert state name container, Fine)
replaced state name (Some (Err why)) = refused state why

-- a flag of the release as it is booted: with its pick, and a note of each override that it has
abbrev pub booted_flag_of : Container → Key → Kind × Bool → BootedFlag
booted_flag_of container key facts = record {
  kind = facts.0;
  value = pick container key facts.1;
  server = contains_key container.server key;
  local = contains_key container.local key;
}

abbrev pub boot_map : Container → BootMap
boot_map container = map_values (booted_flag_of container) container.release

abbrev pub booted : Container → Container
booted container = record container { boot = Some (boot_map container) }

-- the boot copy has the flag, and it is read-write there
abbrev pub entry_refusal : Option BootedFlag → Option Refusal
entry_refusal None = Some refusal.NotBooted
entry_refusal (Some flag) = if is_read_write flag.kind then None else Some refusal.NotBooted

-- a change for now needs a boot copy first, then what the change needs, and then the flag in the boot copy
abbrev pub boot_refusal : Option Refusal → Option BootMap → Key → Option Refusal
boot_refusal why None key = Some refusal.NoBootCopy
boot_refusal (Some why) (Some boot) key = Some why
boot_refusal None (Some boot) key = entry_refusal (get boot key)

-- where the boot copy has a flag, it takes a value there
abbrev pub IsRenewable : Option BootMap → Key → Type 0
IsRenewable None key = Unit {0}
IsRenewable (Some boot) key = entry_refusal (get boot key) ≡ None

abbrev pub now_refusal : Container → Change → Option Refusal
now_refusal container change =
    boot_refusal (change_refusal container.release container.local change) container.boot (changed_key change)

-- A booted flag with the pick and the present overrides, and the kind that it has. It is none where the boot copy or
-- the release lacks the flag, of which a change for now is refused.
abbrev pub renewed_flag : Container → Key → Option BootedFlag → Option BootedFlag
renewed_flag container key booted =
    option_and_then
    (λ was. option_map
    (λ facts. record (booted_flag_of container key facts) { kind = was.kind })
    (get container.release key))
    booted

abbrev pub with_flag : BootMap → Key → Option BootedFlag → BootMap
with_flag boot key None = boot
with_flag boot key (Some flag) = insert boot key flag

-- the container with that flag's entry in the boot copy anew
abbrev pub renewed : Container → Key → Container
renewed container key = record container {
  boot = option_map (λ boot. with_flag boot key (renewed_flag container key (get boot key))) container.boot;
}

abbrev pub with_change_now : Container → Change → Result Container Refusal
with_change_now container change =
    unless (now_refusal container change) (renewed (changed container change) (changed_key change))

-- the container with a change of its overrides, which is for now or for the next boot
abbrev pub with_override : Bool → Container → Change → Result Container Refusal
with_override now container change =
    if now then with_change_now container change else with_change container change

abbrev pub change_step : Bool → State → List ℕ → Change → State × Reply
change_step now state name change =
    replaced state name (option_map (λ container. with_override now container change) (get state name))

-- what the boot copy has at a flag
abbrev pub boot_value_in : Option BootMap → Key → Result (Option Bool) Refusal
boot_value_in None key = Err refusal.NoBootCopy
boot_value_in (Some boot) key = Ok (option_map (λ flag. flag.value) (get boot key))

-- a flag's value in the boot copy of a container, where there are all three
abbrev pub booted_value : State → List ℕ → Key → Option Bool
booted_value state name key =
    option_and_then
    (λ container. option_and_then (λ boot. option_map (λ flag. flag.value) (get boot key)) container.boot)
    (get state name)

abbrev pub value_reply : Option (Result (Option Bool) Refusal) → Reply
value_reply None = Refused (number_of refusal.UnknownContainer)
value_reply (Some (Ok value)) = Value value
value_reply (Some (Err why)) = Refused (number_of why)

abbrev pub get_reply : State → List ℕ → Key → Reply
get_reply state name key = value_reply (option_map (λ container. boot_value_in container.boot key) (get state name))

-- a container with another release keeps the overrides of the flags that are read-write there, and its boot copy
abbrev pub with_release : Container → List ℕ → ReleaseMap → Container
with_release container digest release = record {
  digest = digest;
  release = release;
  server = retain_keys container.server (is_writable release);
  local = retain_keys container.local (is_writable release);
  boot = container.boot;
}

-- a new container
abbrev pub fresh : List ℕ → ReleaseMap → Container
fresh digest release = record { digest = digest; release = release; server = empty; local = empty; boot = None }

-- the state and the reply where a container's release is updated
abbrev pub release_step : State → List ℕ → List ℕ → ReleaseMap → Option Container → State × Reply
release_step state name digest release (Some container) =
    if bytes_eq container.digest digest then (state, Unchanged)
    else (insert state name (with_release container digest release), Updated digest (len release))
release_step state name digest release None =
    if nat_le most_containers (len state) then refused state refusal.TooManyContainers
    else (insert state name (fresh digest release), Updated digest (len release))

-- The first line is no rule: an update comes with what was loaded for it, so it gives what that file's absence gives.
abbrev pub update_step : State → List ℕ → Option Loaded → State × Reply
update_step state name None = refused state refusal.MissingFile
update_step state name (Some Missing) = refused state refusal.MissingFile
update_step state name (Some Bad) = refused state refusal.BadImage
update_step state name (Some Disagree) = refused state refusal.FilesDisagree
update_step state name (Some (Release digest release)) = release_step state name digest release (get state name)

-- the state and the reply after a request; an update comes with what was loaded for it (`IsLoadedFor`)
abbrev pub step : State → Request → Option Loaded → State × Reply
step state (Update name dir) loaded = update_step state name loaded
step state (Server name «package» flag value) loaded =
    change_step false state name (SetServer («package», flag) value)
step state (Local name «package» flag value now) loaded = change_step now state name (SetLocal («package», flag) value)
step state (Unset name «package» flag now) loaded = change_step now state name (UnsetLocal («package», flag))
step state Boot loaded = (map_values (λ name. booted) state, Fine)
step state (Get name «package» flag) loaded = (state, get_reply state name («package», flag))

-- an update comes with what was loaded for it, of at most 4,294,967,295 flags, and nothing else comes with anything
abbrev pub Fits : Loaded → Type 0
Fits Missing = Unit {0}
Fits Bad = Unit {0}
Fits Disagree = Unit {0}
Fits (Release digest release) = len release < 2 ^ 32

abbrev pub IsLoadedFor : Request → Option Loaded → Type 0
IsLoadedFor (Update name dir) None = ⊥
IsLoadedFor (Update name dir) (Some loaded) = Fits loaded
IsLoadedFor (Server name «package» flag value) loaded = IsNone loaded
IsLoadedFor (Local name «package» flag value now) loaded = IsNone loaded
IsLoadedFor (Unset name «package» flag now) loaded = IsNone loaded
IsLoadedFor Boot loaded = IsNone loaded
IsLoadedFor (Get name «package» flag) loaded = IsNone loaded

abbrev pub IsRefused : Reply → Type 0
IsRefused Fine = ⊥
IsRefused (Updated digest count) = ⊥
IsRefused Unchanged = ⊥
IsRefused (Value value) = ⊥
IsRefused (Refused number) = Unit {0}
