-- Private: what is kept of a container, by the files that were read. No public clause cites it.
use Rattle.std.specs.Prelude.{◌≡◌, ⊤, ℕ, List, length, map, Option, None, Some, option_map}
use Rattle.acfg_base.specs.declared.releases.Entry.{Entry as FlagEntry}
use Rattle.acfg_base.specs.Places.{row_at}
use Rattle.acfg_base.specs.Release.{HasLawfulKeys, ReleaseMap, entries_of, key_cmp, key_of}
use Rattle.acfg_device.specs.Panel.{Files}
use Rattle.acfg_images.specs.declared.purpose.Use.TheVariants as purpose
use Rattle.acfg_images.specs.Faults.{Opened, parts_in}
use Rattle.acfg_images.specs.Files as four
use Rattle.acfg_images.specs.Laws.{release_of}
use Rattle.acfg_images.specs.Set.{IsSetOf, SetParts, listed_key, listing, release_in}
use Rattle.acfg_model.specs.declared.containers.FlagState.{FlagState}
use Rattle.acfg_model.specs.State.{BootMap, IsValidContainer}
use Rattle.acfg_store.specs.declared.boots.BootFiles.{BootFiles}
use Rattle.acfg_store.specs.declared.containers.Kept.{Kept}
use Rattle.acfg_store.specs.declared.names.OverrideFile.{OverrideFile}
use Rattle.acfg_store.specs.declared.names.Part.{Part}
use Rattle.acfg_store.specs.declared.placed.Placed.{Placed}
use Rattle.acfg_store.specs.declared.records.Recorded.{Recorded}
use Rattle.acfg_store.specs.Damage.{IsFirst, IsItsRelease, IsSound, parts_of, release_name}
use Rattle.acfg_store.specs.Gathered.{AreOverridesRead, IsBootRead}
use Rattle.acfg_store.specs.Judged.{IsMeantSet}
use Rattle.acfg_store.specs.Over.{AreBytesIn, AreOverrides}
use Rattle.acfg_store.specs.Placed.{AreFlagsOf}
use Rattle.acfg_store.specs.Renewing.{IsCopyWith}
use Rattle.acfg_store.specs.Sets.{AreSetsOf, Sets}
use Rattle.acfg_store.specs.Stands.{AreFiles, Entry, Holds, recorded}

abbrev pub kept_name : Kept → List ℕ
kept_name kept = kept.name

-- how a container that is kept lies in the directory
abbrev pub entry_of : Kept → Entry
entry_of kept = record {
  name = kept.name;
  release_slot = kept.release_slot;
  override_slot = kept.override_slot;
  boot_slot = option_map (λ boot. boot.slot) kept.boot;
  container = kept.container;
}

-- the files that are kept of it
abbrev pub sets_of : Kept → Sets
sets_of kept = record { release = kept.release; boot = option_map (λ boot. boot.set) kept.boot }

-- the global index that a set lists of a flag
abbrev pub index_listed : SetParts → FlagEntry → Option ℕ
index_listed parts entry = option_map (λ row. row.index) (row_at key_cmp listed_key (listing parts) (key_of entry))

-- The set is of the release. The indexes are those that it lists of the release's flags, in order, and it lists so many
-- flags.
pub record AreIndexesOf (set : four.Files) (release : ReleaseMap) (indexes : List ℕ) (count : ℕ) : Type 0 where
  pub parts : SetParts
  pub is_set : IsSetOf set purpose.Release parts
  pub are : map (λ index. Some index) indexes ≡ map (index_listed parts) (entries_of release)
  pub count_is : count ≡ length (listing parts)
  pub release_is : release_in parts ≡ release

-- each flag's global index is kept beside the container, and how many there are
abbrev pub IsIndexed : Kept → Type 0
IsIndexed kept = AreIndexesOf kept.release kept.container.release kept.indexes.items kept.count

-- The files that are kept of a boot copy are a set of the boot copy that the container has, and the name in them counts
-- for nothing. There are some exactly where there is a boot copy.
abbrev pub IsCopySet : four.Files → BootMap → Type 0
IsCopySet set boot = (name : List ℕ) × IsCopyWith set name boot

abbrev pub HasCopy : Option four.Files → Option BootMap → Type 0
HasCopy None None = ⊤
HasCopy None (Some boot) = ⊥
HasCopy (Some set) None = ⊥
HasCopy (Some set) (Some boot) = IsCopySet set boot

abbrev pub IsCopied : Kept → Type 0
IsCopied kept = HasCopy (sets_of kept).boot kept.container.boot

module _ (row : Recorded) where
  -- the part is the first of the container at fault
  abbrev pub IsFirstPart : Files → List ℕ → Part → Type 0
  IsFirstPart files dir part = IsFirst (IsSound files dir row) (parts_of row) part

  module _ (Given : Files → List ℕ → Type 0) where
    -- a container of the list, that lies in each directory where this is given, and whose files stand there
    pub record IsMadeWhere (kept : Kept) : Type 0 where
      pub listed : recorded (entry_of kept) ≡ row
      pub valid : IsValidContainer kept.container
      pub indexed : IsIndexed kept
      pub copied : IsCopied kept
      pub holds : (files : Files) (dir : List ℕ) → Given files dir → Holds files dir (entry_of kept)
      pub keeps : (files : Files) (dir : List ℕ) → Given files dir → AreSetsOf files dir (entry_of kept) (sets_of kept)

    -- the part is the first at fault in each directory where this is given
    abbrev pub IsFaultWhere : Part → Type 0
    IsFaultWhere part = (files : Files) (dir : List ℕ) → Given files dir → IsFirstPart files dir part

  module _ (set : four.Files) where
    -- the rows are the flags of the release, with the overrides
    pub record AreRowsOf (held : OverrideFile → Option (List ℕ)) (rows : List FlagState) : Type 0 where
      pub opened : Opened
      pub is : IsMeantSet purpose.Release (IsItsRelease row set) set opened
      pub flags : List Placed
      pub are : AreFlagsOf (parts_in opened) flags
      pub keys : HasLawfulKeys (release_of opened)
      pub count : ℕ
      pub count_is : count ≡ length (listing (parts_in opened))
      pub over : AreOverrides row.name count flags held rows

    -- the release's files stand in the directory, and the files of the override slot were read there
    pub record OverridesStand (held : OverrideFile → Option (List ℕ)) (files : Files) (dir : List ℕ) : Type 0 where
      pub stand : AreFiles files (release_name files dir row) set
      pub overrides : AreOverridesRead files dir row held

    -- and so were those of the boot slot
    pub record SetStands (held : OverrideFile → Option (List ℕ)) (boot : BootFiles) (files : Files) (dir : List ℕ)
        : Type 0 where
      pub stand : AreFiles files (release_name files dir row) set
      pub overrides : AreOverridesRead files dir row held
      pub booted : IsBootRead files dir row boot

    -- the same, where rows were made of the release and the overrides
    pub record RowsStand (rows : List FlagState) (boot : BootFiles) (files : Files) (dir : List ℕ) : Type 0 where
      pub held : OverrideFile → Option (List ℕ)
      pub of : AreRowsOf held rows
      pub fits : AreBytesIn held
      pub stand : AreFiles files (release_name files dir row) set
      pub overrides : AreOverridesRead files dir row held
      pub booted : IsBootRead files dir row boot
