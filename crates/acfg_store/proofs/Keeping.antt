-- The container that code makes of what it read lies in the directory.
use Rattle.std.proofs.Common.{◌≡◌, ℕ, ◌+◌, ◌<◌, List, map, length, Option, Some, None, option_map, refl, sym, ap, ◌∙◌, subst, arith, ◌||◌}
use Rattle.std.specs.Prelude.{All, IsTrue}
use Rattle.std.specs.FinMap.{get}
use Rattle.std.proofs.lemmas.List.{length-drop}
use Rattle.acfg_base.specs.Places.{AreInOrder}
use Rattle.acfg_base.specs.Release.{HasLawfulKeys, IsKey, Key, ReleaseMap, key_cmp, is_read_write}
use Rattle.acfg_device.specs.Panel.{Files}
use Rattle.acfg_images.specs.declared.purpose.Use.TheVariants as purpose
use Rattle.acfg_images.specs.Faults.{parts_in}
use Rattle.acfg_images.specs.Files as four
use Rattle.acfg_images.specs.Set.{IsSet, SetParts, listing, notes_in}
use Rattle.acfg_images.proofs.Law.{has_count}
use Rattle.acfg_model.specs.declared.containers.FlagState.{FlagState}
use Rattle.acfg_model.specs.declared.views.Booted.{Booted}
use Rattle.acfg_model.specs.FlagStates.{IsLawful, container_in, release_in, row_key}
use Rattle.acfg_model.specs.State.{BootMap, BootedFlag, Container, IsDigest, IsValidContainer}
use Rattle.acfg_model.specs.Views.{boot_of}
use Rattle.acfg_store.specs.declared.boots.BootFiles.{BootFiles}
use Rattle.acfg_store.specs.declared.containers.Kept.{Kept}
use Rattle.acfg_store.specs.declared.names.OverrideFile.{OverrideFile}
use Rattle.acfg_store.specs.declared.names.Slot.{Slot}
use Rattle.acfg_store.specs.declared.placed.Placed.{Placed}
use Rattle.acfg_store.specs.declared.records.Recorded.{Recorded}
use Rattle.acfg_store.specs.Copies.{IsCopyOf}
use Rattle.acfg_store.specs.Damage.{release_name}
use Rattle.acfg_store.specs.Gathered.{AreOverridesRead, IsBootRead}
use Rattle.acfg_store.specs.Kept.{AreIndexesOf, AreRowsOf, HasCopy, IsMadeWhere, RowsStand}
use Rattle.acfg_store.specs.Placed.{IsListOver, boot_row, state_row}
use Rattle.acfg_store.specs.Sets.{AreSetsOf, IsBootSet, Sets}
use Rattle.acfg_store.specs.Stands.{AreFiles, Booted as IsBooted, Entry, Holds, HoldsOverrides, HoldsRelease, boot_notes, boot_release}
use Rattle.acfg_store.proofs.Holding.{boot_keys, boot_noted, boot_notes_same, boot_release_same, copy_noted, infos_same, local_writable, locals_same, release_same, rows_in_order, server_writable, values_same}
use Rattle.acfg_views.specs.Fields.{IsBytes}
use Rattle.acfg_views.specs.Layout.{flag_info_type, flag_val_type}
use Rattle.acfg_views.specs.Parts.{list_parts_of}
use Rattle.acfg_views.specs.Reading.{IsOpenList, OpenList}
use Rattle.acfg_views.proofs.FileFacts.{opened_list-offsets}
use Rattle.acfg_views.proofs.Parts.{open_list_has_parts}

-- what makes a container valid of its boot copy
pub record IsBootValid (boot : Option BootMap) : Type 0 where
  pub booted : (map : BootMap) (key : Key) (flag : BootedFlag) → boot ≡ Some map → get map key ≡ Some flag → IsKey key
  pub noted : (map : BootMap) (key : Key) (flag : BootedFlag) → boot ≡ Some map → get map key ≡ Some flag → IsTrue (flag.server || flag.local) → IsTrue (is_read_write flag.kind)

pub unbooted : IsBootValid None
unbooted = record { booted = λ map key flag some got. absurd cc; noted = λ map key flag some got noted. absurd cc }

module _ (container : List ℕ) (set : four.Files) (copy : List Booted) (of : IsCopyOf container set copy) where
  some_is : (a b : BootMap) → Some a ≡ Some b → a ≡ b
  some_is a b e = cc

  copied : boot_of copy ≡ boot_of (map boot_row of.flags)
  copied = ap boot_of of.copy_is

  pub copy_valid : IsBootValid (Some (boot_of copy))
  copy_valid = record {
    booted = λ map key flag some got.
        let at : get (boot_of (map_of_flags)) key ≡ Some flag = ap (λ (m : BootMap). get m key) (sym copied ∙ some_is (boot_of copy) map some) ∙ got in
        boot_keys (parts_in of.opened) of.flags of.are of.keys key flag at;
    noted = λ map key flag some got.
        let at : get (boot_of (map_of_flags)) key ≡ Some flag = ap (λ (m : BootMap). get m key) (sym copied ∙ some_is (boot_of copy) map some) ∙ got in
        boot_noted (parts_in of.opened) of.flags of.are (copy_noted set (parts_in of.opened) of.is.is_set) key flag at;
  }
    where
      map_of_flags : List Booted
      map_of_flags = map boot_row of.flags

  pub copy_set : IsSet set purpose.Copy container (boot_release (boot_of copy)) (boot_notes (boot_of copy))
  copy_set = record {
    parts = parts_in of.opened;
    files_are = of.is.is_set;
    container_is = of.is.meant;
    release_is = boot_release_same (parts_in of.opened) of.flags of.are ∙ ap boot_release (sym copied);
    notes_are = boot_notes_same (parts_in of.opened) of.flags of.are ∙ ap boot_notes (sym copied);
  }

-- bytes that open are bytes
open_bytes : (file_type : ℕ) (bytes : List ℕ) (list : OpenList) → IsOpenList file_type list → (container : List ℕ) (count : ℕ) (IsByte : Placed → ℕ → Type 0) (flags : List Placed)
    → IsListOver file_type bytes container count IsByte flags list → IsBytes bytes
open_bytes file_type bytes list opens container count IsByte flags is = subst IsBytes (opened_list-offsets file_type bytes list is.opened).file opens.bytes

module _ (row : Recorded) (set : four.Files) (held : OverrideFile → Option (List ℕ)) (rows : List FlagState) (of : AreRowsOf row set held rows) where
  abbrev parts : SetParts
  parts = parts_in of.opened

  abbrev made : List FlagState
  made = map (state_row of.over.values of.over.infos of.over.locals) of.flags

  module _ (digest : IsDigest row.digest) (boot : Option BootMap) (boot_valid : IsBootValid boot) where
    made_valid : IsValidContainer (container_in row.digest made boot)
    made_valid = record {
      digest = digest;
      keys = subst HasLawfulKeys (release_same parts of.flags of.are of.over.values of.over.infos of.over.locals) of.keys;
      booted = boot_valid.booted;
      server = server_writable parts of.flags of.are of.over.values of.over.infos of.over.locals of.over.has_infos.is.each of.over.has_values.is.each;
      local = local_writable parts of.flags of.are of.over.values of.over.infos of.over.locals of.over.has_locals.is.writable;
      noted = boot_valid.noted;
    }

    pub rows_valid : IsValidContainer (container_in row.digest rows boot)
    rows_valid = subst (λ (rows : List FlagState). IsValidContainer (container_in row.digest rows boot)) (sym of.over.rows_are) made_valid

    pub rows_lawful : IsLawful rows (container_in row.digest rows boot)
    rows_lawful = record {
      order = subst (AreInOrder key_cmp row_key) (sym of.over.rows_are) (rows_in_order parts of.flags of.are of.over.values of.over.infos of.over.locals);
      valid = rows_valid;
    }

  module _ (files : Files) (dir : List ℕ) (stand : AreFiles files (release_name files dir row) set) (given : AreOverridesRead files dir row held) (boot_slot : Option Slot) (boot : Option BootMap)
      (booted : IsBooted files dir row.name boot_slot boot) where
    abbrev entry_with : List FlagState → Entry
    entry_with rows = record { name = row.name; release_slot = row.release; override_slot = row.overrides; boot_slot = boot_slot; container = container_in row.digest rows boot }

    release_held : HoldsRelease files dir (entry_with made)
    release_held = record {
      set = set;
      notes = notes_in parts;
      stand = record { package_map = stand.package_map; flag_map = stand.flag_map; flag_val = stand.flag_val; flag_info = stand.flag_info };
      is_set = record {
        parts = parts;
        files_are = of.is.is_set;
        container_is = of.is.meant.name;
        release_is = release_same parts of.flags of.are of.over.values of.over.infos of.over.locals;
        notes_are = refl;
      };
      digest = of.is.meant.digest;
    }

    overrides_held : HoldsOverrides files dir (entry_with made) (listing parts)
    overrides_held =
        let over = of.over in
        let values = over.has_values in
        let infos = over.has_infos in
        let v_ends = has_count flag_val_type values.bytes over.values values.is.opened in
        let i_ends = has_count flag_info_type infos.bytes over.infos infos.is.opened in
        record {
          values = values.bytes;
          infos = infos.bytes;
          locals = over.has_locals.bytes;
          values_stand = sym given.values ∙ values.there;
          infos_stand = sym given.infos ∙ infos.there;
          locals_stand = sym given.locals ∙ over.has_locals.there;
          values_are = record {
            parts = list_parts_of over.values;
            are = open_list_has_parts flag_val_type values.bytes over.values (open_bytes flag_val_type values.bytes over.values over.values_open row.name of.count _ of.flags values.is) values.is.opened;
            container = values.is.container_is;
            count = counted over.values v_ends values.is.count_is;
            each = values_same parts of.flags of.are over.values over.infos over.locals values.is.each infos.is.each;
          };
          infos_are = record {
            parts = list_parts_of over.infos;
            are = open_list_has_parts flag_info_type infos.bytes over.infos (open_bytes flag_info_type infos.bytes over.infos over.infos_open row.name of.count _ of.flags infos.is) infos.is.opened;
            container = infos.is.container_is;
            count = counted over.infos i_ends infos.is.count_is;
            each = infos_same parts of.flags of.are over.values over.infos over.locals values.is.each infos.is.each;
          };
          locals_are = record {
            overrides = over.locals;
            spells = over.has_locals.is.spells;
            indexes = subst (λ (n : ℕ). All (λ row. row.index < n) over.locals) of.count_is over.has_locals.is.indexes;
            each = locals_same parts of.flags of.are over.values over.infos over.locals;
          };
        }
      where
        counted : (list : OpenList) → list.first_byte + list.count ≡ length list.file → list.count ≡ of.count → length (list_parts_of list).bytes ≡ length (listing parts)
        counted list ends same = omega (arith, ends, same, of.count_is, length-drop list.first_byte list.file)

    pub rows_held : Holds files dir (entry_with rows)
    unfolding release_held
    rows_held = subst (λ (rows : List FlagState). Holds files dir (entry_with rows)) (sym of.over.rows_are) (record { release = release_held; overrides = overrides_held; boot = booted })

-- a container that is made of these rows lies in each directory where they stand
pub kept_made : (row : Recorded) (set : four.Files) (rows : List FlagState) (read : BootFiles) (kept : Kept) (boot_slot : Option Slot) (boot : Option BootMap) (boot_set : Option four.Files) → IsDigest row.digest → IsBootValid boot
    → (held : OverrideFile → Option (List ℕ)) → AreRowsOf row set held rows
    → ((files : Files) (dir : List ℕ) → IsBootRead files dir row read → IsBooted files dir row.name boot_slot boot)
    → ((files : Files) (dir : List ℕ) → IsBootRead files dir row read → IsBootSet files dir row.name boot_slot boot_set)
    → kept.name ≡ row.name → kept.release_slot ≡ row.release → kept.override_slot ≡ row.overrides → option_map (λ b. b.slot) kept.boot ≡ boot_slot
    → kept.container ≡ container_in row.digest rows boot → kept.release ≡ set → option_map (λ b. b.set) kept.boot ≡ boot_set → AreIndexesOf set (release_in rows) kept.indexes.items kept.count → HasCopy boot_set boot
    → IsMadeWhere row (RowsStand row set rows read) kept
kept_made row set rows read kept boot_slot boot boot_set digest boot_valid held of booted stands n r o b c s t indexes copied = record {
  listed = λ i. record { name = n i; release = r i; overrides = o i; digest = (c i).digest };
  valid = subst IsValidContainer (sym c) (rows_valid row set held rows of digest boot boot_valid);
  indexed = subst (λ (both : four.Files × ReleaseMap). AreIndexesOf both.0 both.1 kept.indexes.items kept.count) (λ i. (sym s i, (sym c i).release)) indexes;
  copied = subst (λ (both : Option four.Files × Container). HasCopy both.0 both.1.boot) (λ i. (sym t i, sym c i)) copied;
  holds = λ files dir given.
      subst (Holds files dir) (λ i. record { name = sym n i; release_slot = sym r i; override_slot = sym o i; boot_slot = sym b i; container = sym c i })
      (rows_held row set given.held rows given.of files dir given.stand given.overrides boot_slot boot (booted files dir given.booted));
  keeps = λ files dir given.
      subst (λ (both : Entry × Sets). AreSetsOf files dir both.0 both.1) (λ i. (
        record { name = sym n i; release_slot = sym r i; override_slot = sym o i; boot_slot = sym b i; container = sym c i },
        record { release = sym s i; boot = sym t i },
      ))
      (record {
        release = record { package_map = given.stand.package_map; flag_map = given.stand.flag_map; flag_val = given.stand.flag_val; flag_info = given.stand.flag_info };
        boot = stands files dir given.booted;
      });
}
