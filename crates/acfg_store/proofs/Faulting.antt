-- From what is found of files that were read to the first part of a container that is at fault.
use Rattle.std.proofs.Common.{◌≡◌, ℕ, List, [], ◌∷◌, ◌++◌, map, length, get_or, Option, Some, inl, inr, refl, sym, ap, ◌∙◌, subst, lit<, slice_index}
use Rattle.std.specs.Prelude.{All, IsSome, Ok, Result}
use Rattle.std.proofs.lemmas.List.Elements.{All-map}
use Rattle.acfg_device.specs.Panel.{Files}
use Rattle.acfg_images.specs.declared.fault.FileType.{FileType}
use Rattle.acfg_images.specs.declared.fault.FileType.TheVariants.{PackageMap, FlagMap, FlagVal, FlagInfo}
use Rattle.acfg_images.specs.declared.fault.ImageFault.{ImageFault}
use Rattle.acfg_images.specs.declared.purpose.Use.{Use}
use Rattle.acfg_images.specs.declared.purpose.Use.TheVariants as purpose
use Rattle.acfg_images.specs.Faults.{Opened, checked, parts_in}
use Rattle.acfg_images.specs.Files as four
use Rattle.acfg_images.specs.Set.{Listed, listing}
use Rattle.acfg_store.specs.declared.names.OverrideFile.{OverrideFile}
use Rattle.acfg_store.specs.declared.names.OverrideFile.TheVariants as override
use Rattle.acfg_store.specs.declared.names.Part.{Part}
use Rattle.acfg_store.specs.declared.names.Part.TheVariants.{Release, Override, Pointer, Boot}
use Rattle.acfg_store.specs.declared.names.Slot.{Slot}
use Rattle.acfg_store.specs.declared.names.Slot.TheVariants.{Zero, One}
use Rattle.acfg_store.specs.declared.placed.Placed.{Placed}
use Rattle.acfg_store.specs.declared.records.Recorded.{Recorded}
use Rattle.acfg_store.specs.declared.sets.SlotFiles.{SlotFiles}
use Rattle.acfg_store.specs.Damage.{HasBytes, HasLocals, IsElsewhere, IsFirst, IsInfoOver, IsItsRelease, IsSound, IsSoundIn, IsValue, ListsFlags, boot_name, override_path, parts_of, release_name}
use Rattle.acfg_store.specs.Gathered.{AreOverridesRead, NamesNone}
use Rattle.acfg_store.specs.Judged.{AreReadAs, IsAllOf, IsBlamed, IsMeantSet, IsThere, four_types, read_of}
use Rattle.acfg_store.specs.Names.{path}
use Rattle.acfg_store.specs.Over.{HasInfos, HasValues, IsSoundOver, three_files}
use Rattle.acfg_store.specs.Placed.{AreFlagsOf, IsInfoAt, IsValueAt}
use Rattle.acfg_store.specs.Records.{pointer_bytes}
use Rattle.acfg_store.specs.Stands.{AreFiles}
use Rattle.acfg_store.proofs.Damaging.{first_behind}
use Rattle.acfg_store.proofs.OneState.{one_file, one_four, pointer_is}
use Rattle.acfg_store.proofs.Overlaid.{byte_at, info_listed, info_placed, locals_listed, locals_placed, over_listed, over_placed}
use Rattle.acfg_views.specs.Fields.{IsBytes}
use Rattle.acfg_views.specs.Layout.{ListParts, flag_info_type, flag_val_type}
use Rattle.acfg_views.specs.Parts.{open_list_parts}
use Rattle.acfg_views.specs.Reading.{OpenList, byte_in}
use Rattle.acfg_views.proofs.Parts.{list_parts_open}

-- ---- the first that isn't sound

module _ {X : Type 0} (P : X → Type 0) where
  pub first_not : (xs : List X) (x : X) → IsFirst P xs x → P x → ⊥
  first_not [] x first p = first
  first_not (z ∷ xs) x (inl first) p = first.1 (subst P first.0 p)
  first_not (z ∷ xs) x (inr first) p = first_not xs x first.1 p

  first_ahead : (xs ys : List X) (x : X) → IsFirst P xs x → IsFirst P (xs ++ ys) x
  first_ahead [] ys x first = absurd first
  first_ahead (z ∷ xs) ys x (inl first) = inl first
  first_ahead (z ∷ xs) ys x (inr first) = inr (first.0, first_ahead xs ys x first.1)

first_map : {X Y : Type 0} (P : X → Type 0) (Q : Y → Type 0) (f : X → Y) → ((x : X) → P x → Q (f x)) → ((x : X) → Q (f x) → P x) → (xs : List X) (x : X) → IsFirst P xs x → IsFirst Q (map f xs) (f x)
first_map P Q f goes back [] x first = first
first_map P Q f goes back (z ∷ xs) x (inl first) = inl (ap f first.0, λ q. first.1 (back z q))
first_map P Q f goes back (z ∷ xs) x (inr first) = inr (goes z first.0, first_map P Q f goes back xs x first.1)

each_of : {X Y : Type 0} (Q : Y → Type 0) (f : X → Y) (xs : List X) → ((x : X) → Q (f x)) → All Q (map f xs)
each_of Q f xs each = All-map Q f xs (λ k d within. each (get_or xs k d))

some_of : {A : Type 0} (o : Option A) (v : A) → o ≡ Some v → IsSome o
some_of o v e = rw e refl

-- ---- a slot of four files

pub stand_as : (files : Files) (name_of : FileType → List ℕ) (read : SlotFiles) → AreReadAs files name_of read → (set : four.Files) → IsAllOf read set → AreFiles files name_of set
stand_as files name_of read given set all = record {
  package_map = sym given.package_map ∙ all.package_map;
  flag_map = sym given.flag_map ∙ all.flag_map;
  flag_val = sym given.flag_val ∙ all.flag_val;
  flag_info = sym given.flag_info ∙ all.flag_info;
}

module _ (files : Files) (name_of : FileType → List ℕ) (use_of : Use) (IsMeant : four.Files → Opened → Type 0) (read : SlotFiles) (given : AreReadAs files name_of read) where
  read_as : (file : FileType) → read_of read file ≡ files (name_of file)
  read_as PackageMap = given.package_map
  read_as FlagMap = given.flag_map
  read_as FlagVal = given.flag_val
  read_as FlagInfo = given.flag_info

  lacks : (file : FileType) → (IsThere read file → ⊥) → (set : four.Files) → AreFiles files name_of set → ⊥
  lacks PackageMap none set stand = none (some_of (read_of read PackageMap) set.package_map (given.package_map ∙ stand.package_map))
  lacks FlagMap none set stand = none (some_of (read_of read FlagMap) set.flag_map (given.flag_map ∙ stand.flag_map))
  lacks FlagVal none set stand = none (some_of (read_of read FlagVal) set.flag_val (given.flag_val ∙ stand.flag_val))
  lacks FlagInfo none set stand = none (some_of (read_of read FlagInfo) set.flag_info (given.flag_info ∙ stand.flag_info))

  -- the first file that isn't there is the first at fault
  pub missing_first : (file : FileType) → IsFirst (IsThere read) four_types file → IsFirst (IsSoundIn files name_of use_of IsMeant) four_types file
  missing_first file first =
      let gone = first_not (IsThere read) four_types file first in
      first_map (IsThere read) (IsSoundIn files name_of use_of IsMeant) (λ (f : FileType). f)
      (λ other there. record { there = subst IsSome (read_as other) there; clear = λ set stand. absurd (lacks file gone set stand) })
      (λ other sound. subst IsSome (sym (read_as other)) sound.there) four_types file first

module _ (files : Files) (name_of : FileType → List ℕ) (use_of : Use) (IsMeant : four.Files → Opened → Type 0) (set : four.Files) (stand : AreFiles files name_of set) where
  there : (file : FileType) → IsSome (files (name_of file))
  there PackageMap = some_of _ set.package_map stand.package_map
  there FlagMap = some_of _ set.flag_map stand.flag_map
  there FlagVal = some_of _ set.flag_val stand.flag_val
  there FlagInfo = some_of _ set.flag_info stand.flag_info

  sound_where : (file : FileType) → IsElsewhere file (IsMeant set) (checked use_of set) → IsSoundIn files name_of use_of IsMeant file
  sound_where file elsewhere = record {
    there = there file;
    clear = λ other other-stand. subst (λ (s : four.Files). IsElsewhere file (IsMeant s) (checked use_of s)) (one_four files name_of set other stand other-stand) elsewhere;
  }

  -- the file that is blamed is the first at fault
  pub blamed_first : (file : FileType) → IsBlamed (IsMeant set) (checked use_of set) file → IsFirst (IsSoundIn files name_of use_of IsMeant) four_types file
  blamed_first file blamed = go file blamed
    where
      unsound : (file : FileType) → IsBlamed (IsMeant set) (checked use_of set) file → IsSoundIn files name_of use_of IsMeant file → ⊥
      unsound file blamed sound = blamed.here (sound.clear set stand)

      go : (file : FileType) → IsBlamed (IsMeant set) (checked use_of set) file → IsFirst (IsSoundIn files name_of use_of IsMeant) four_types file
      go PackageMap b = inl (refl, unsound PackageMap b)
      go FlagMap b = inr (sound_where PackageMap (b.alone PackageMap (λ e. cc)), inl (refl, unsound FlagMap b))
      go FlagVal b = inr (sound_where PackageMap (b.alone PackageMap (λ e. cc)), inr (sound_where FlagMap (b.alone FlagMap (λ e. cc)), inl (refl, unsound FlagVal b)))
      go FlagInfo b =
          inr (
            sound_where PackageMap (b.alone PackageMap (λ e. cc)),
            inr (sound_where FlagMap (b.alone FlagMap (λ e. cc)), inr (sound_where FlagVal (b.alone FlagVal (λ e. cc)), inl (refl, unsound FlagInfo b))),
          )

  -- a set that is the one that is meant has no file at fault
  pub meant_sound : (opened : Opened) → IsMeantSet use_of (IsMeant set) set opened → (file : FileType) → IsSoundIn files name_of use_of IsMeant file
  meant_sound opened is file = sound_where file (subst (IsElsewhere file (IsMeant set)) (sym is.passes) (record { meant = λ _. is.meant }))

-- ---- a container

module _ (files : Files) (dir : List ℕ) (row : Recorded) where
  abbrev Sound : Part → Type 0
  Sound = IsSound files dir row

  abbrev boots : List Part
  boots = map (Boot Zero) four_types ++ map (Boot One) four_types

  abbrev overs : List Part
  overs = map (Override row.overrides) three_files

  abbrev releases : List Part
  releases = map (Release row.release) four_types

  pub release_at : (file : FileType) → IsFirst (IsSoundIn files (release_name files dir row) purpose.Release (IsItsRelease row)) four_types file → IsFirst Sound (parts_of row) (Release row.release file)
  release_at file first =
      first_ahead Sound releases (overs ++ Pointer ∷ boots) (Release row.release file)
      (first_map (IsSoundIn files (release_name files dir row) purpose.Release (IsItsRelease row)) Sound (Release row.release) (λ f s. s) (λ f s. s) four_types file first)

  module _ (set : four.Files) (stand : AreFiles files (release_name files dir row) set) (opened : Opened) (is : IsMeantSet purpose.Release (IsItsRelease row set) set opened) where
    releases_sound : All Sound releases
    releases_sound = each_of Sound (Release row.release) four_types (meant_sound files (release_name files dir row) purpose.Release (IsItsRelease row) set stand opened is)

    lists : ListsFlags files dir row (listing (parts_in opened))
    lists = record { set = set; opened = opened; stand = stand; is_set = is.passes; are = refl }

    -- the release lists these flags, and no others
    same_flags : (flags : List Listed) → ListsFlags files dir row flags → listing (parts_in opened) ≡ flags
    same_flags flags other =
        let same = one_four files (release_name files dir row) set other.set stand other.stand in
        let passes : checked purpose.Release other.set ≡ Ok opened = subst (λ (s : four.Files). checked purpose.Release s ≡ Ok opened) same is.passes in
        ap (λ (o : Opened). listing (parts_in o)) (ok_one opened other.opened (sym passes ∙ other.is_set)) ∙ sym other.are
      where
        done : Opened → Result Opened ImageFault
        done o = Ok o

        ok_one : (a b : Opened) → done a ≡ done b → a ≡ b
        ok_one a b e = cc

    module _ (flags : List Placed) (are : AreFlagsOf (parts_in opened) flags) (count : ℕ) (count_is : count ≡ length (listing (parts_in opened))) (held : OverrideFile → Option (List ℕ)) (given : AreOverridesRead files dir row held)
        (fits : (file : OverrideFile) (bytes : List ℕ) → held file ≡ Some bytes → IsBytes bytes) where
      abbrev values_path : List ℕ
      values_path = override_path files dir row override.FlagVal

      abbrev infos_path : List ℕ
      infos_path = override_path files dir row override.FlagInfo

      abbrev locals_path : List ℕ
      locals_path = override_path files dir row override.Local

      values_over : (it : HasBytes files values_path flag_val_type row.name IsValue (listing (parts_in opened))) → HasValues row.name count flags (held override.FlagVal) (open_list_parts it.bytes it.hold.parts)
      values_over it = record {
        bytes = it.bytes;
        there = given.values ∙ it.there;
        is = over_placed (parts_in opened) flags are row.name count count_is flag_val_type (lit< tt) IsValue IsValueAt it.bytes (λ x b p. p) it.hold;
      }

      values_back : (values : OpenList) → HasValues row.name count flags (held override.FlagVal) values → HasBytes files values_path flag_val_type row.name IsValue (listing (parts_in opened))
      values_back values has = record {
        bytes = has.bytes;
        there = sym given.values ∙ has.there;
        hold = (over_listed (parts_in opened) flags are row.name count count_is flag_val_type (lit< tt) IsValue IsValueAt has.bytes (λ x b p. p) (fits override.FlagVal has.bytes has.there) values has.is).0;
      }

      infos_over : (values : OpenList) (bytes : List ℕ) → ((i : ℕ) → byte_in values i ≡ slice_index bytes i) → (it : HasBytes files infos_path flag_info_type row.name (IsInfoOver bytes) (listing (parts_in opened)))
          → HasInfos row.name count flags (held override.FlagInfo) values (open_list_parts it.bytes it.hold.parts)
      infos_over values bytes same it = record {
        bytes = it.bytes;
        there = given.infos ∙ it.there;
        is = over_placed (parts_in opened) flags are row.name count count_is flag_info_type (lit< tt) (IsInfoOver bytes) (IsInfoAt values) it.bytes (info_placed values bytes same) it.hold;
      }

      infos_back : (values : OpenList) (bytes : List ℕ) → ((i : ℕ) → byte_in values i ≡ slice_index bytes i) → (infos : OpenList) → HasInfos row.name count flags (held override.FlagInfo) values infos
          → HasBytes files infos_path flag_info_type row.name (IsInfoOver bytes) (listing (parts_in opened))
      infos_back values bytes same infos has = record {
        bytes = has.bytes;
        there = sym given.infos ∙ has.there;
        hold = (over_listed (parts_in opened) flags are row.name count count_is flag_info_type (lit< tt) (IsInfoOver bytes) (IsInfoAt values) has.bytes (info_listed values bytes same) (fits override.FlagInfo has.bytes has.there) infos has.is).0;
      }

      -- the values as they are listed are those that code reads
      same_values : (it : HasBytes files values_path flag_val_type row.name IsValue (listing (parts_in opened))) (i : ℕ) → byte_in (open_list_parts it.bytes it.hold.parts) i ≡ slice_index it.hold.parts.bytes i
      same_values it i =
          sym (byte_at (open_list_parts it.bytes it.hold.parts) i) ∙ ap (λ (p : ListParts). slice_index p.bytes i) (list_parts_open flag_val_type (lit< tt) it.bytes it.hold.parts it.hold.are).1

      pub over_sound : (file : OverrideFile) → IsSoundOver row.name count flags held file → Sound (Override row.overrides file)
      over_sound override.FlagVal sound = λ listed is-listed. subst (HasBytes files values_path flag_val_type row.name IsValue) (same_flags listed is-listed) (values_back sound.0 sound.1)
      over_sound override.FlagInfo sound = λ listed is-listed it.
          let same = same_flags listed is-listed in
          subst (λ (fs : List Listed). (h : HasBytes files values_path flag_val_type row.name IsValue fs) → HasBytes files infos_path flag_info_type row.name (IsInfoOver h.hold.parts.bytes) fs) same
          (λ h.
          let found = sound (open_list_parts h.bytes h.hold.parts) (values_over h) in
          infos_back (open_list_parts h.bytes h.hold.parts) h.hold.parts.bytes (same_values h) found.0 found.1) it
      over_sound override.Local sound = λ listed is-listed. subst (HasLocals files locals_path) (same_flags listed is-listed) (record {
        bytes = sound.1.bytes;
        there = sym given.locals ∙ sound.1.there;
        hold = locals_listed (parts_in opened) flags are row.name count count_is sound.1.bytes sound.0 sound.1.is;
      })
      over_sound override.Log sound = tt

      pub over_back : (file : OverrideFile) → Sound (Override row.overrides file) → IsSoundOver row.name count flags held file
      over_back override.FlagVal sound = let it = sound (listing (parts_in opened)) lists in (open_list_parts it.bytes it.hold.parts, values_over it)
      over_back override.FlagInfo sound = λ values has.
          let by = over_listed (parts_in opened) flags are row.name count count_is flag_val_type (lit< tt) IsValue IsValueAt has.bytes (λ x b p. p) (fits override.FlagVal has.bytes has.there) values has.is in
          let it : HasBytes files values_path flag_val_type row.name IsValue (listing (parts_in opened)) = record { bytes = has.bytes; there = sym given.values ∙ has.there; hold = by.0 } in
          let infos = sound (listing (parts_in opened)) lists it in
          (open_list_parts infos.bytes infos.hold.parts, infos_over values by.0.parts.bytes (λ i. sym (byte_at values i) ∙ ap (λ (p : ListParts). slice_index p.bytes i) (sym by.1)) infos)
      over_back override.Local sound = let it = sound (listing (parts_in opened)) lists in (
        it.hold.overrides,
        record {
          bytes = it.bytes;
          there = given.locals ∙ it.there;
          is = locals_placed (parts_in opened) flags are row.name count count_is it.bytes it.hold;
        },
      )
      over_back override.Log sound = tt

      pub over_at : (file : OverrideFile) → IsFirst (IsSoundOver row.name count flags held) three_files file → IsFirst Sound (parts_of row) (Override row.overrides file)
      over_at file first =
          first_behind Sound releases (overs ++ Pointer ∷ boots) (Override row.overrides file) releases_sound
          (first_ahead Sound overs (Pointer ∷ boots) (Override row.overrides file)
          (first_map (IsSoundOver row.name count flags held) Sound (Override row.overrides) over_sound over_back three_files file first))

      module _ (overs_sound : (file : OverrideFile) → IsSoundOver row.name count flags held file) where
        before_pointer : (part : Part) → IsFirst Sound (Pointer ∷ boots) part → IsFirst Sound (parts_of row) part
        before_pointer part first =
            first_behind Sound releases (overs ++ Pointer ∷ boots) part releases_sound
            (first_behind Sound overs (Pointer ∷ boots) part (each_of Sound (Override row.overrides) three_files (λ file. over_sound file (overs_sound file))) first)

        pub pointer_at : NamesNone files dir row → IsFirst Sound (parts_of row) Pointer
        pointer_at bad = before_pointer Pointer (inl (refl, λ sound. let named = sound bad.bytes bad.there in bad.none named.0 named.1))

        abbrev CopySound : Slot → FileType → Type 0
        CopySound slot = IsSoundIn files (boot_name files dir row slot) purpose.Copy (λ (set : four.Files) (o : Opened). o.package_map.container ≡ row.name)

        pub boot_at : (slot : Slot) → files (path dir row.name Pointer) ≡ Some (pointer_bytes slot) → (file : FileType) → IsFirst (CopySound slot) four_types file → IsFirst Sound (parts_of row) (Boot slot file)
        boot_at slot pointer file first =
            before_pointer (Boot slot file) (inr (λ bytes it. (slot, one_file _ bytes (pointer_bytes slot) it pointer), among slot pointer first))
          where
            apart : Zero ≡ One → ⊥
            apart e = cc

            here : (slot : Slot) → files (path dir row.name Pointer) ≡ Some (pointer_bytes slot) → IsFirst (CopySound slot) four_types file → IsFirst Sound (map (Boot slot) four_types) (Boot slot file)
            here slot pointer first = first_map (CopySound slot) Sound (Boot slot) (λ f s. λ _. s) (λ f s. s pointer) four_types file first

            among : (slot : Slot) → files (path dir row.name Pointer) ≡ Some (pointer_bytes slot) → IsFirst (CopySound slot) four_types file → IsFirst Sound boots (Boot slot file)
            among Zero pointer first = first_ahead Sound (map (Boot Zero) four_types) (map (Boot One) four_types) (Boot Zero file) (here Zero pointer first)
            among One pointer first = first_behind Sound (map (Boot Zero) four_types) (map (Boot One) four_types) (Boot One file)
                (each_of Sound (Boot Zero) four_types (λ f other. absurd (apart (pointer_is Zero One (one_file _ (pointer_bytes Zero) (pointer_bytes One) other pointer))))) (here One pointer first)
