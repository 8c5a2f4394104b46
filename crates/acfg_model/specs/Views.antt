-- What the machine shows of its state: rows in order, and the finite maps that they make.
use Rattle.std.specs.Prelude.{ℕ, List, option_map}
use Rattle.acfg_base.specs.Places.{map_of}
use Rattle.acfg_base.specs.Release.{Key, key_cmp, key_of}
use Rattle.acfg_model.specs.declared.views.Booted.{Booted}
use Rattle.acfg_model.specs.declared.views.ContainerState.{ContainerState}
use Rattle.acfg_model.specs.declared.views.Override.{Override}
use Rattle.acfg_model.specs.State.{BootMap, BootedFlag, Container, OverrideMap, State, name_cmp}

abbrev pub override_key : Override → Key
override_key override = (override.package, override.flag)

abbrev pub overrides_of : List Override → OverrideMap
overrides_of list = map_of key_cmp override_key list (λ override. override.value)

abbrev pub booted_key : Booted → Key
booted_key booted = key_of booted.entry

abbrev pub booted_flag : Booted → BootedFlag
booted_flag booted =
    record { kind = booted.entry.kind; value = booted.entry.value; server = booted.server; local = booted.local }

abbrev pub boot_of : List Booted → BootMap
boot_of list = map_of key_cmp booted_key list booted_flag

abbrev pub name_of_state : ContainerState → List ℕ
name_of_state state = state.name

-- a container, its name aside
abbrev pub container_of : ContainerState → Container
container_of state = record {
  digest = state.digest;
  release = state.release;
  server = overrides_of state.server;
  local = overrides_of state.local;
  boot = option_map boot_of state.boot;
}

abbrev pub state_from : List ContainerState → State
state_from list = map_of name_cmp name_of_state list container_of
