-- What each command gives, and what it does to a device at most: one case a command.
use Rattle.std.specs.Prelude.{◌≡◌, ℕ, ◌⊎◌, List}
use Rattle.acfg_device.specs.Only.{OnlySays}
use Rattle.acfg_device.specs.Panel.{Files}
use Rattle.acfg_device.specs.declared.panel.Panel.{Ghosts}
use Rattle.acfg_top.specs.CreateAll.{CreateAllGives, IsStorageFile}
use Rattle.acfg_top.specs.CreateCache.{CreateCacheGives}
use Rattle.acfg_top.specs.CreateStorage.{CreateStorageGives, IsFileIn}
use Rattle.acfg_top.specs.Dump.{DumpGives}
use Rattle.acfg_top.specs.Flags.{FlagsGives}
use Rattle.acfg_top.specs.Outcome.{OnlyWrites, Outcome, Usage}
use Rattle.acfg_top.specs.Query.{QueryGives}
use Rattle.acfg_store.specs.Names.{IsOfDirectory}
use Rattle.acfg_top.specs.Rehearsal.{RehearseGives}
use Rattle.acfg_top.specs.Replay.{ReplayGives}
use Rattle.acfg_top.specs.Words.{Command, Flags, Rehearse, Replay, Query, Dump, CreateCache, CreateStorage}
use Rattle.acfg_top.specs.Words.{CreateAll, Asks}

abbrev pub CommandGives : Command → Files → Outcome → Type 0
CommandGives (Flags file) files outcome = FlagsGives file (files file) outcome
CommandGives (Rehearse script) files outcome = RehearseGives script files (files script) outcome
CommandGives (Replay script dir) files outcome = ReplayGives script dir files (files script) outcome
CommandGives (Query dir name flag) files outcome = QueryGives dir name flag files outcome
CommandGives (Dump format filter names) files outcome = DumpGives format filter names files outcome
CommandGives (CreateCache name container out names) files outcome =
    CreateCacheGives name container out names files outcome
CommandGives (CreateStorage container dir names) files outcome = CreateStorageGives container dir names files outcome
CommandGives (CreateAll list) files outcome = CreateAllGives list files outcome

-- The outcome of words on files: that of the command they ask for, and usage where they ask for none.
abbrev pub Gives : List (List ℕ) → Files → Outcome → Type 0
Gives words files outcome =
    ((command : Command) × Asks words command × CommandGives command files outcome)
    ⊎ (((command : Command) → Asks words command → ⊥) × (outcome ≡ Usage))

-- a command that writes no file only says; any other one changes no file but those that it writes
abbrev pub Only : {P : Type 0} → Ghosts P → Command → P → P → Type 0 → Type 0
Only panel (Flags file) before after fails = OnlySays panel before after fails
Only panel (Rehearse script) before after fails = OnlySays panel before after fails
Only panel (Replay script dir) before after fails = OnlyWrites panel (IsOfDirectory dir) before after fails
Only panel (Query dir name flag) before after fails = OnlySays panel before after fails
Only panel (Dump format filter names) before after fails = OnlySays panel before after fails
Only panel (CreateCache name container out names) before after fails =
    OnlyWrites panel (λ other. other ≡ out) before after fails
Only panel (CreateStorage container dir names) before after fails =
    OnlyWrites panel (IsFileIn dir) before after fails
Only panel (CreateAll list) before after fails = OnlyWrites panel IsStorageFile before after fails
