-- Image sets: four files that belong together, and which release and notes they hold.
use Rattle.std.specs.Prelude.{◌≡◌, ℕ, ◌+◌, ◌/◌, ◌%◌, ◌<◌, ◌≤◌, ◌⊎◌, List, length, map, find, slice_index, All, Bool}
use Rattle.std.specs.Prelude.{◌==◌, ◌&&◌, [], Option, unwrap_or}
use Rattle.std.specs.Option.{option_map}
use Rattle.std.specs.FinMap.{FinMap}
use Rattle.std.specs.Str.{bytes_eq}
use Rattle.acfg_base.specs.declared.releases.Kind.{Kind}
use Rattle.acfg_base.specs.Release.{Key, key_cmp, ReleaseMap, is_read_write}
use Rattle.acfg_base.specs.Places.{map_of}
use Rattle.acfg_views.specs.Layout.{Package, Flag, MapParts, ListParts, IsPackageMapFile, IsFlagMapFile, IsListFile}
use Rattle.acfg_views.specs.Layout.{flag_val_type, flag_info_type, MOST_BYTES}
use Rattle.acfg_images.specs.declared.purpose.Use.{Use}
use Rattle.acfg_images.specs.declared.purpose.Use.TheVariants.{Release, Copy}
use Rattle.acfg_images.specs.Files.{Files, bytes_in_all}
use Rattle.acfg_images.specs.Words.{AreNumbered}
use Rattle.acfg_images.specs.Links.{AreLinked, links_of_packages, links_of_flags}

-- what the four files are made of
pub record SetParts : Type 0 where
  pub package_map : MapParts Package
  pub flag_map : MapParts Flag
  pub values : ListParts
  pub infos : ListParts

abbrev pub packages_of : SetParts → List Package
packages_of parts = parts.package_map.nodes

abbrev pub flags_of : SetParts → List Flag
flags_of parts = parts.flag_map.nodes

-- ---- flags by their numbers

-- the package with an id
abbrev pub package_with : List Package → ℕ → Option Package
package_with packages id = find (λ node. node.id == id) packages

-- the start of the package with an id
abbrev pub start_of : List Package → ℕ → ℕ
start_of packages id = unwrap_or (option_map (λ node. node.start) (package_with packages id)) 0

-- a flag's global index: its package's start and its index there, as plain numbers
abbrev pub index_of : List Package → Flag → ℕ
index_of packages flag = start_of packages flag.package_id + flag.index

-- ---- info bytes: 1 has a server override, 2 is read-write, 4 has a local override

abbrev pub has_server : ℕ → Bool
has_server byte = byte % 2 == 1

abbrev pub has_read_write : ℕ → Bool
has_read_write byte = byte / 2 % 2 == 1

abbrev pub has_local : ℕ → Bool
has_local byte = byte / 4 % 2 == 1

-- A release's info bytes have no notes. Those of a copy have them on read-write flags alone. No other bit is set.
abbrev pub IsInfo : Use → ℕ → Type 0
IsInfo Release byte = (byte ≡ 0) ⊎ (byte ≡ 2)
IsInfo Copy byte = (byte ≡ 0) ⊎ (byte ≡ 2) ⊎ (byte ≡ 3) ⊎ (byte ≡ 6) ⊎ (byte ≡ 7)

-- ---- what has to agree among the four files

pub record Agree (parts : SetParts) : Type 0 where
  pub flag_map_container : parts.flag_map.container ≡ parts.package_map.container
  pub values_container : parts.values.container ≡ parts.package_map.container
  pub infos_container : parts.infos.container ≡ parts.package_map.container
  -- the ids are 0 to one less than the number of packages, each once
  pub ids : AreNumbered (map (λ node. node.id) (packages_of parts))
  pub value_count : length parts.values.bytes ≡ length (flags_of parts)
  pub info_count : length parts.infos.bytes ≡ length (flags_of parts)
  pub packages : All (λ flag. flag.package_id < length (packages_of parts)) (flags_of parts)
  -- the global indexes are 0 to one less than the number of flags, each once
  pub indexes : AreNumbered (map (index_of (packages_of parts)) (flags_of parts))
  -- the read-write bit is the flag's type
  pub kinds : All (λ flag. has_read_write (slice_index parts.infos.bytes (index_of
      (packages_of parts) flag)) ≡ is_read_write flag.kind) (flags_of parts)

-- the files are a set of these parts
pub record IsSetOf (files : Files) (purpose : Use) (parts : SetParts) : Type 0 where
  pub size : bytes_in_all files ≤ MOST_BYTES
  pub package_map : IsPackageMapFile files.package_map parts.package_map
  pub flag_map : IsFlagMapFile files.flag_map parts.flag_map
  pub values : IsListFile flag_val_type files.flag_val parts.values
  pub infos : IsListFile flag_info_type files.flag_info parts.infos
  pub packages_linked : AreLinked parts.package_map.buckets (links_of_packages parts.package_map)
  pub flags_linked : AreLinked parts.flag_map.buckets (links_of_flags parts.flag_map)
  pub value_bytes : All (λ byte. byte ≤ 1) parts.values.bytes
  pub info_bytes : All (IsInfo purpose) parts.infos.bytes
  pub agree : Agree parts

-- ---- the flags that a set lists

-- a flag with its package's name, its value and its bits
pub record Listed : Type 0 where
  pub «package» : List ℕ
  pub flag : List ℕ
  pub kind : Kind
  pub value : Bool
  pub bits : ℕ
  pub index : ℕ

abbrev pub listed_flag : SetParts → Flag → Listed
listed_flag parts flag =
    let index = index_of (packages_of parts) flag in
    record {
      «package» = unwrap_or (option_map (λ node. node.name) (package_with (packages_of parts) flag.package_id)) [];
      flag = flag.name;
      kind = flag.kind;
      value = slice_index parts.values.bytes index == 1;
      bits = slice_index parts.infos.bytes index;
      index = index;
    }

-- the flags of a set, in file order
abbrev pub listing : SetParts → List Listed
listing parts = map (listed_flag parts) (flags_of parts)

-- what the set lists for a package and a flag, or none
abbrev pub listed : SetParts → List ℕ → List ℕ → Option Listed
listed parts «package» flag = find (λ row. bytes_eq row.package «package» && bytes_eq row.flag flag) (listing parts)

abbrev pub listed_key : Listed → Key
listed_key row = (row.package, row.flag)

-- the release that a set holds
abbrev pub release_in : SetParts → ReleaseMap
release_in parts = map_of key_cmp listed_key (listing parts) (λ row. (row.kind, row.value))

-- which flags have a server override, and a local one
abbrev pub Notes : Type 0
Notes = FinMap key_cmp (Bool × Bool)

abbrev pub notes_in : SetParts → Notes
notes_in parts = map_of key_cmp listed_key (listing parts) (λ row. (has_server row.bits, has_local row.bits))

-- the files are a set for this use, of a container, a release and notes
pub record IsSet (files : Files) (purpose : Use) (container : List ℕ) (release : ReleaseMap)
    (notes : Notes) : Type 0 where
  pub parts : SetParts
  pub files_are : IsSetOf files purpose parts
  pub container_is : parts.package_map.container ≡ container
  pub release_is : release_in parts ≡ release
  pub notes_are : notes_in parts ≡ notes
