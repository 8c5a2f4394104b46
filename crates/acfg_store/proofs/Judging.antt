-- From what is found of one slot to what is found of a container.
use Rattle.std.proofs.Common.{◌≡◌, ℕ, ◌<◌, List, length, Option, Some, inl, inr, sym, ◌∙◌, subst}
use Rattle.std.specs.Prelude.{All, IfSome, Result, Ok, Err}
use Rattle.acfg_device.specs.Panel.{Files}
use Rattle.acfg_images.specs.declared.fault.FileType.{FileType}
use Rattle.acfg_images.specs.declared.purpose.Use.TheVariants as purpose
use Rattle.acfg_images.specs.Faults.{Opened, checked, parts_in}
use Rattle.acfg_images.specs.Files as four
use Rattle.acfg_images.specs.Set.{Listed, listing}
use Rattle.acfg_images.proofs.Law.{checked_same}
use Rattle.acfg_model.specs.declared.containers.FlagState.{FlagState}
use Rattle.acfg_store.specs.declared.boots.BootFiles.TheVariants.{Bad, Named}
use Rattle.acfg_store.specs.declared.faults.Fault.{Fault}
use Rattle.acfg_store.specs.declared.faults.Fault.TheVariants.{At, OutOfMemory}
use Rattle.acfg_store.specs.declared.containers.Kept.{Kept}
use Rattle.acfg_store.specs.declared.names.OverrideFile.{OverrideFile}
use Rattle.acfg_store.specs.declared.names.OverrideFile.TheVariants as override
use Rattle.acfg_store.specs.declared.names.Part.{Part}
use Rattle.acfg_store.specs.declared.names.Part.TheVariants.{Release, Override, Pointer, Boot}
use Rattle.acfg_store.specs.declared.names.Slot.{Slot}
use Rattle.acfg_store.specs.declared.placed.Placed.{Placed}
use Rattle.acfg_store.specs.declared.records.Recorded.{Recorded}
use Rattle.acfg_store.specs.declared.sets.SlotFiles.{SlotFiles}
use Rattle.acfg_store.specs.Copies.{IsCopyAt}
use Rattle.acfg_store.specs.Damage.{IsFirst, IsItsRelease, IsSoundIn, boot_name, release_name}
use Rattle.acfg_store.specs.Judged.{AreReadAs, Blames, IsBlamed, IsMeantSet, Judges, fault_in, four_types}
use Rattle.acfg_store.specs.Kept.{AreRowsOf, IsFaultWhere, IsMadeWhere, OverridesStand, RowsStand}
use Rattle.acfg_store.specs.Over.{AreBytesIn, HasInfos, IsSoundOver, three_files}
use Rattle.acfg_store.specs.Placed.{AreFlagsOf, IsValueAt}
use Rattle.acfg_store.proofs.Faulting.{blamed_first, boot_at, missing_first, over_at, pointer_at, release_at, stand_as}
use Rattle.acfg_store.proofs.Overlaid.{one_over}
use Rattle.acfg_store.proofs.Placing.{all_held, flag_count, indexes_below}
use Rattle.acfg_views.specs.Fields.{IsBytes}
use Rattle.acfg_views.specs.Layout.{flag_val_type}
use Rattle.acfg_views.specs.Reading.{OpenList}

-- ---- answers

-- a fault of a part is one of the whole
pub fault_told : {Y W : Type 0} (bad : Y → Type 0) (worse : W → Type 0) (part : Y → W) → ((y : Y) → bad y → worse (part y)) → (fault : Fault Y) (made : Fault W) → made ≡ fault_in part fault
    → Blames bad fault → Blames worse made
fault_told bad worse part goes (At y) made is told = subst (Blames worse) (sym is) (goes y told)
fault_told bad worse part goes OutOfMemory made is told = subst (Blames worse) (sym is) tt

pub same_fault : {Y : Type 0} (bad worse : Y → Type 0) → ((y : Y) → bad y → worse y) → (fault : Fault Y) → Blames bad fault → Blames worse fault
same_fault bad worse goes (At y) told = goes y told
same_fault bad worse goes OutOfMemory told = tt

-- what is found where more is given
pub given_more : (row : Recorded) (Given More : Files → List ℕ → Type 0) → ((files : Files) (dir : List ℕ) → More files dir → Given files dir) → (found : Result Kept (Fault Part))
    → Judges (IsMadeWhere row Given) (IsFaultWhere row Given) found → Judges (IsMadeWhere row More) (IsFaultWhere row More) found
given_more row Given More less (Ok kept) told = record { listed = told.listed; valid = told.valid; indexed = told.indexed; copied = told.copied; holds = λ files dir more. told.holds files dir (less files dir more); keeps = λ files dir more. told.keeps files dir (less files dir more) }
given_more row Given More less (Err (At part)) told = λ files dir more. told files dir (less files dir more)
given_more row Given More less (Err OutOfMemory) told = tt

-- ---- the override slot over a release

module _ (row : Recorded) (set : four.Files) (opened : Opened) (is : IsMeantSet purpose.Release (IsItsRelease row set) set opened) where
  -- how many flags the release lists
  pub flags_counted : opened.flag_map.count ≡ length (listing (parts_in opened))
  flags_counted = flag_count opened (purpose.Release, subst (λ (s : four.Files). checked purpose.Release s ≡ Ok opened) (sym (checked_same purpose.Release set opened is.passes)) is.passes)

  pub flags_within : (flags : List Placed) → AreFlagsOf (parts_in opened) flags → (count : ℕ) → count ≡ opened.flag_map.count → All (λ (x : Placed). x.found.index < count) flags
  flags_within flags are count same =
      subst (λ (n : ℕ). All (λ (x : Placed). x.found.index < n) flags) (sym (same ∙ flags_counted))
      (all_held (parts_in opened) flags are (λ (r : Listed). r.index < length (listing (parts_in opened))) (indexes_below purpose.Release set (parts_in opened) is.is_set))

  pub overrides_fault : (flags : List Placed) → AreFlagsOf (parts_in opened) flags → (count : ℕ) → count ≡ opened.flag_map.count → (held : OverrideFile → Option (List ℕ)) → AreBytesIn held → (file : OverrideFile)
      → IsFirst (IsSoundOver row.name count flags held) three_files file → IsFaultWhere row (OverridesStand row set held) (Override row.overrides file)
  overrides_fault flags are count same held fits file first files dir given =
      over_at files dir row set given.stand opened is flags are count (same ∙ flags_counted) held given.overrides (fits_in held fits) file first
    where
      fits_in : (held : OverrideFile → Option (List ℕ)) → AreBytesIn held → (file : OverrideFile) (bytes : List ℕ) → held file ≡ Some bytes → IsBytes bytes
      fits_in held fits file bytes is = subst (λ (o : Option (List ℕ)). IfSome o IsBytes) is (fits file)

pub release_fault : (row : Recorded) (set : four.Files) (held : OverrideFile → Option (List ℕ)) (file : FileType) → IsBlamed (IsItsRelease row set) (checked purpose.Release set) file
    → IsFaultWhere row (OverridesStand row set held) (Release row.release file)
release_fault row set held file blamed files dir given =
    release_at files dir row file (blamed_first files (release_name files dir row) purpose.Release (IsItsRelease row) set given.stand file blamed)

-- ---- behind the override slot

abbrev Meant : List ℕ → four.Files → Opened → Type 0
Meant container set opened = opened.package_map.container ≡ container

first_copy : (files : Files) (name_of : FileType → List ℕ) (container : List ℕ) (read : SlotFiles) → AreReadAs files name_of read → (file : FileType) → IsCopyAt container read file
    → IsFirst (IsSoundIn files name_of purpose.Copy (Meant container)) four_types file
first_copy files name_of container read given file (inl missing) = missing_first files name_of purpose.Copy (Meant container) read given file missing
first_copy files name_of container read given file (inr fault) =
    blamed_first files name_of purpose.Copy (Meant container) fault.set (stand_as files name_of read given fault.set fault.all) file fault.blamed

module _ (row : Recorded) (set : four.Files) (rows : List FlagState) where
  module _ (held : OverrideFile → Option (List ℕ)) (of : AreRowsOf row set held rows) where
    overs_sound : (file : OverrideFile) → IsSoundOver row.name of.count of.flags held file
    overs_sound override.FlagVal = (of.over.values, of.over.has_values)
    overs_sound override.FlagInfo = λ values has. (
      of.over.infos,
      subst (λ (v : OpenList). HasInfos row.name of.count of.flags (held override.FlagInfo) v of.over.infos)
          (one_over row.name of.count of.flags (held override.FlagVal) flag_val_type IsValueAt IsValueAt of.over.values values of.over.has_values has) of.over.has_infos,
    )
    overs_sound override.Local = (of.over.locals, of.over.has_locals)
    overs_sound override.Log = tt

    fits_in : AreBytesIn held → (file : OverrideFile) (bytes : List ℕ) → held file ≡ Some bytes → IsBytes bytes
    fits_in fits file bytes is = subst (λ (o : Option (List ℕ)). IfSome o IsBytes) is (fits file)

  pub pointer_fault : IsFaultWhere row (RowsStand row set rows Bad) Pointer
  pointer_fault files dir given =
      pointer_at files dir row set given.stand given.of.opened given.of.is given.of.flags given.of.are given.of.count given.of.count_is given.held given.overrides
      (fits_in given.held given.of given.fits) (overs_sound given.held given.of) given.booted

  pub copy_fault : (slot : Slot) (read : SlotFiles) (file : FileType) → IsCopyAt row.name read file → IsFaultWhere row (RowsStand row set rows (Named slot read)) (Boot slot file)
  copy_fault slot read file at files dir given =
      boot_at files dir row set given.stand given.of.opened given.of.is given.of.flags given.of.are given.of.count given.of.count_is given.held given.overrides
      (fits_in given.held given.of given.fits) (overs_sound given.held given.of) slot given.booted.0 file (first_copy files (boot_name files dir row slot) row.name read given.booted.1 file at)
