-- Words of private bodies: no public clause cites them.
use Rattle.std.specs.Prelude.{ℕ, Bool, List, Option, None, Result}
use Rattle.std.specs.Prelude.{if◌then◌else◌, is_some, unwrap_or, option_and_then}
use Rattle.std.specs.FinMap.{get}
use Rattle.acfg_base.specs.Places.{row_at}
use Rattle.acfg_base.specs.Release.{Key, key_cmp, key_of, is_read_write}
use Rattle.acfg_base.specs.declared.releases.Entry.{Entry}
use Rattle.acfg_model.specs.declared.containers.FlagState.{FlagState}
use Rattle.acfg_model.specs.declared.containers.Setter.{Setter}
use Rattle.acfg_model.specs.declared.containers.Setter.TheVariants.{Server, Local}
use Rattle.acfg_model.specs.declared.refusals.Refusal.{Refusal}
use Rattle.acfg_model.specs.declared.views.Booted.{Booted}
use Rattle.acfg_model.specs.declared.views.Override.{Override}
use Rattle.acfg_model.specs.FlagStates.{local_in, release_in, row_key, IsPlaceUnless}
use Rattle.acfg_model.specs.Step.{set_refusal, unset_refusal}

-- a row's override of one kind
abbrev pub override_in : Setter → FlagState → Option Bool
override_in Server row = row.server
override_in Local row = row.local

abbrev pub override_row : FlagState → Bool → Override
override_row row value = record { «package» = row.entry.package; flag = row.entry.flag; value = value }

abbrev pub entry_in : FlagState → Entry
entry_in row = row.entry

-- a row's pick, and its notes
abbrev pub booted_row : FlagState → Booted
booted_row row = record {
  entry = record row.entry { value = unwrap_or row.local (unwrap_or row.server row.entry.value) };
  server = is_some row.server;
  local = is_some row.local;
}

-- an entry with the overrides that it had among other rows, where it is read-write
abbrev pub carried_row : List FlagState → Entry → FlagState
carried_row old entry =
    let row = if is_read_write entry.kind then row_at key_cmp row_key old (key_of entry) else None in
    record {
      entry = entry;
      server = option_and_then (λ (r : FlagState). r.server) row;
      local = option_and_then (λ (r : FlagState). r.local) row;
    }

-- what a search answers for a flag whose override is set, or unset
abbrev pub IsSettable : List FlagState → Key → Result ℕ Refusal → Type 0
IsSettable rows key r = IsPlaceUnless rows key (set_refusal (get (release_in rows) key)) r

abbrev pub IsUnsettable : List FlagState → Key → Result ℕ Refusal → Type 0
IsUnsettable rows key r = IsPlaceUnless rows key (unset_refusal (get (release_in rows) key) (get (local_in rows) key)) r

-- what a flag's entry in the boot copy takes of its row: the pick, and a note of each override
abbrev pub renewed_row : FlagState → Booted → Booted
renewed_row row was = record {
  entry = record was.entry { value = unwrap_or row.local (unwrap_or row.server row.entry.value) };
  server = is_some row.server;
  local = is_some row.local;
}
