-- Private: a container's files as they were read. No public clause cites it.
use Rattle.std.specs.Prelude.{◌≡◌, ℕ, List, Option, Some, None}
use Rattle.acfg_device.specs.Panel.{Files}
use Rattle.acfg_store.specs.declared.boots.BootFiles.{BootFiles}
use Rattle.acfg_store.specs.declared.boots.BootFiles.TheVariants.{Absent, Bad, Named}
use Rattle.acfg_store.specs.declared.containers.ContainerFiles.{ContainerFiles}
use Rattle.acfg_store.specs.declared.names.OverrideFile.{OverrideFile}
use Rattle.acfg_store.specs.declared.names.OverrideFile.TheVariants as override
use Rattle.acfg_store.specs.declared.names.Part.TheVariants.{Pointer}
use Rattle.acfg_store.specs.declared.names.Slot.{Slot}
use Rattle.acfg_store.specs.declared.records.Recorded.{Recorded}
use Rattle.acfg_store.specs.Damage.{boot_name, override_path, release_name}
use Rattle.acfg_store.specs.Judged.{AreReadAs}
use Rattle.acfg_store.specs.Names.{path}
use Rattle.acfg_store.specs.Over.{read_over}
use Rattle.acfg_store.specs.Records.{pointer_bytes}

module _ (files : Files) (dir : List ℕ) (row : Recorded) where
  -- the files of the override slot were read
  pub record AreOverridesRead (held : OverrideFile → Option (List ℕ)) : Type 0 where
    pub values : held override.FlagVal ≡ files (override_path files dir row override.FlagVal)
    pub infos : held override.FlagInfo ≡ files (override_path files dir row override.FlagInfo)
    pub locals : held override.Local ≡ files (override_path files dir row override.Local)

  -- there is a pointer, that names no slot
  pub record NamesNone : Type 0 where
    pub bytes : List ℕ
    pub there : files (path dir row.name Pointer) ≡ Some bytes
    pub none : (slot : Slot) → bytes ≡ pointer_bytes slot → ⊥

  -- the pointer was read, and the files of the slot that it names
  abbrev pub IsBootRead : BootFiles → Type 0
  IsBootRead Absent = files (path dir row.name Pointer) ≡ None
  IsBootRead Bad = NamesNone
  IsBootRead (Named slot read) =
      (files (path dir row.name Pointer) ≡ Some (pointer_bytes slot))
      × AreReadAs files (boot_name files dir row slot) read

  pub record AreContainerRead (read : ContainerFiles) : Type 0 where
    pub release : AreReadAs files (release_name files dir row) read.release
    pub overrides : AreOverridesRead (read_over read.overrides)
    pub boot : IsBootRead read.boot
