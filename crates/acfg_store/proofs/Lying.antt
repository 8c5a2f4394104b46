-- Files that agree on the names that a directory uses stand for the same.
use Rattle.std.proofs.Common.{◌≡◌, ℕ, ◌<◌, List, [], length, get_or, Option, Some, None, inl, inr, refl, sym, ◌∙◌}
use Rattle.std.specs.Prelude.{Contains, IsSomeAnd}
use Rattle.std.proofs.lemmas.List.{get_or_default}
use Rattle.acfg_device.specs.Panel.{Files}
use Rattle.acfg_images.specs.declared.fault.FileType.{FileType}
use Rattle.acfg_images.specs.declared.fault.FileType.TheVariants as image
use Rattle.acfg_images.specs.Files as four
use Rattle.acfg_model.specs.State.{BootMap, State}
use Rattle.acfg_store.specs.declared.names.OverrideFile.TheVariants as override
use Rattle.acfg_store.specs.declared.names.Part.{Part}
use Rattle.acfg_store.specs.declared.names.Part.TheVariants.{Records, Release, Override, Pointer, Boot}
use Rattle.acfg_store.specs.declared.names.Slot.{Slot}
use Rattle.acfg_store.specs.Names.{path}
use Rattle.acfg_store.specs.Stands.{AreFiles, AreListed, Booted, Entry, Holds, IsUsed, Lies, Stands, Uses}

module _ (before after : Files) (dir : List ℕ) where
  pub set_frame : (name_of : FileType → List ℕ) (set : four.Files) → ((file : FileType) → after (name_of file) ≡ before (name_of file))
      → AreFiles before name_of set → AreFiles after name_of set
  set_frame name_of set same files = record {
    package_map = same image.PackageMap ∙ files.package_map;
    flag_map = same image.FlagMap ∙ files.flag_map;
    flag_val = same image.FlagVal ∙ files.flag_val;
    flag_info = same image.FlagInfo ∙ files.flag_info;
  }

  pub booted_frame : (name : List ℕ) (slot : Option Slot) (boot : Option BootMap) → after (path dir name Pointer) ≡ before (path dir name Pointer)
      → ((other : Slot) (file : FileType) → IsSomeAnd slot (λ named. other ≡ named) → after (path dir name (Boot other file)) ≡ before (path dir name (Boot other file)))
      → Booted before dir name slot boot → Booted after dir name slot boot
  booted_frame name None None pointer same booted = pointer ∙ booted
  booted_frame name None (Some boot) pointer same booted = booted
  booted_frame name (Some slot) None pointer same booted = booted
  booted_frame name (Some slot) (Some boot) pointer same booted = record {
    set = booted.set;
    pointer = pointer ∙ booted.pointer;
    stand = set_frame (λ (file : FileType). path dir name (Boot slot file)) booted.set (λ file. same slot file refl) booted.stand;
    is_set = booted.is_set;
  }

  -- a container is held where its used files are the same
  pub holds_frame : (entry : Entry) → ((part : Part) → Uses entry part → after (path dir entry.name part) ≡ before (path dir entry.name part))
      → Holds before dir entry → Holds after dir entry
  holds_frame entry same holds =
      let release = holds.release in
      let overrides = holds.overrides in
      record {
        release = record {
          set = release.set;
          notes = release.notes;
          stand = set_frame (λ (file : FileType). path dir entry.name (Release entry.release_slot file)) release.set (λ file. same (Release entry.release_slot file) refl) release.stand;
          is_set = release.is_set;
          digest = release.digest;
        };
        overrides = record {
          values = overrides.values;
          infos = overrides.infos;
          locals = overrides.locals;
          values_stand = same (Override entry.override_slot override.FlagVal) (refl, tt) ∙ overrides.values_stand;
          infos_stand = same (Override entry.override_slot override.FlagInfo) (refl, tt) ∙ overrides.infos_stand;
          locals_stand = same (Override entry.override_slot override.Local) (refl, tt) ∙ overrides.locals_stand;
          values_are = overrides.values_are;
          infos_are = overrides.infos_are;
          locals_are = overrides.locals_are;
        };
        boot = booted_frame entry.name entry.boot_slot entry.container.boot (same Pointer tt) (λ slot file uses. same (Boot slot file) uses) holds.boot;
      }

  among : (entries : List Entry) (k : ℕ) (d : Entry) → k < length entries → Contains entries (get_or entries k d)
  among entries k d within = (k, within, get_or_default entries k (get_or entries k d) d within)

  -- containers lie in a directory where its used files are the same
  pub lies_frame : (entries : List Entry) → ((name : List ℕ) → IsUsed dir entries name → after name ≡ before name)
      → Lies before dir entries → Lies after dir entries
  lies_frame entries same lies = record {
    listed = listed_frame lies.listed;
    lawful = lies.lawful;
    each = λ k d within.
        let entry = get_or entries k d in
        holds_frame entry
        (λ part uses. same (path dir entry.name part) (inr (record { entry = entry; among = among entries k d within; part = part; uses = uses; spelled = refl })))
        (lies.each k d within);
  }
    where
      listed_frame : AreListed before dir entries → AreListed after dir entries
      listed_frame (inl e) = inl (same (path dir [] Records) (inl refl) ∙ e)
      listed_frame (inr e) = inr (e.0, same (path dir [] Records) (inl refl) ∙ e.1)

  -- and stand for the same state
  pub stands_frame : (state : State) (stands : Stands before dir state) → ((name : List ℕ) → IsUsed dir stands.entries name → after name ≡ before name)
      → Stands after dir state
  stands_frame state stands same = record {
    entries = stands.entries;
    state_is = stands.state_is;
    valid = stands.valid;
    lies = lies_frame stands.entries same stands.lies;
  }

some_is : {A : Type 0} (x y : A) → Some x ≡ Some y → x ≡ y
some_is x y e = cc

-- four names have the files of one set at most
pub one_files : (files : Files) (name_of : FileType → List ℕ) (a b : four.Files) → AreFiles files name_of a → AreFiles files name_of b → a ≡ b
one_files files name_of a b at_a at_b =
    let p = some_is a.package_map b.package_map (sym at_a.package_map ∙ at_b.package_map) in
    let f = some_is a.flag_map b.flag_map (sym at_a.flag_map ∙ at_b.flag_map) in
    let v = some_is a.flag_val b.flag_val (sym at_a.flag_val ∙ at_b.flag_val) in
    let n = some_is a.flag_info b.flag_info (sym at_a.flag_info ∙ at_b.flag_info) in
    λ i. record { package_map = p i; flag_map = f i; flag_val = v i; flag_info = n i }
