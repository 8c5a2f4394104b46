-- Private structs of a build as what they stand for, and the steps of it as functions. No public clause cites them.
use Rattle.std.specs.Prelude.{◌≡◌, ℕ, ◌+◌, ◌*◌, ◌<◌, List, [], ◌∷◌, ◌++◌, length, map, fold, All}
use Rattle.std.specs.Prelude.{slice_index, if◌then◌else◌}
use Rattle.std.specs.List.{flat_map}
use Rattle.std.specs.Str.{bytes_eq}
use Rattle.std.specs.Borrow.{Bor}
use Rattle.std.specs.Global.{Vec}
use Rattle.acfg_views.specs.Layout.{VERSION, Package, Flag, MapParts, package_node, flag_node, map_header}
use Rattle.acfg_views.specs.Layout.{map_header_size, new_info}
use Rattle.acfg_views.specs.Layout.{map_file, list_file, package_map_type, flag_map_type, flag_val_type, flag_info_type}
use Rattle.acfg_images.specs.declared.building.groups.Row.{Row}
use Rattle.acfg_images.specs.declared.building.packages.PackageRow.{PackageRow}
use Rattle.acfg_images.specs.declared.building.flags.FlagRow.{FlagRow}
use Rattle.acfg_images.specs.declared.building.Parts.{Parts}
use Rattle.acfg_images.specs.Files.{Files}
use Rattle.acfg_images.specs.Links.{NodeKey, Link, package_key, flag_node_key, bucket_of, links_from, first_in}
use Rattle.acfg_images.specs.Set.{SetParts}
use Rattle.acfg_images.specs.Image.{Compiled, numbers_below, by_bucket, bucket_count, linked, map_parts}
use Rattle.acfg_images.specs.Image.{files_of}

-- ---- flags of one package

abbrev pub row_of : Row → Compiled
row_of row = record { «package» = row.package.now; flag = row.flag.now; kind = row.kind; value = row.value }

-- a package with its flags
abbrev pub Group : Type 0
Group = List ℕ × List Compiled

abbrev pub group_of : Bor (List ℕ) × Vec Row → Group
group_of entry = (entry.0.now, map row_of entry.1.items)

abbrev pub groups_of : List (Bor (List ℕ) × Vec Row) → List Group
groups_of entries = map group_of entries

-- groups with one more flag
abbrev pub grown : List Group → Compiled → List Group
grown [] flag = (flag.package, flag ∷ []) ∷ []
grown (group ∷ groups) flag =
    if bytes_eq flag.package group.0 then (group.0, group.1 ++ flag ∷ []) ∷ groups else group ∷ grown groups flag

abbrev pub grouped : List Compiled → List Group
grouped flags = fold grown [] flags

-- how many flags groups have
abbrev pub total : List Group → ℕ
total [] = 0
total (group ∷ groups) = length group.1 + total groups

-- all flags of groups
abbrev pub all_flags : List Group → List Compiled
all_flags groups = flat_map (λ group. group.1) groups

-- ---- nodes

abbrev pub package_of : PackageRow → Package
package_of row = record { name = row.name.now; id = row.id; start = row.start; next = row.next }

abbrev pub flag_of : FlagRow → Flag
flag_of row = record {
  package_id = row.package_id;
  name = row.row.flag.now;
  kind = row.row.kind;
  index = row.index;
  next = row.next;
}

abbrev pub source_of : FlagRow → Compiled
source_of row = row_of row.row

-- the nodes of packages from an id and a start on
abbrev pub packages_from : (id start : ℕ) → List Group → List Package
packages_from id start [] = []
packages_from id start (group ∷ groups) =
    record { name = group.0; id = id; start = start; next = 0 }
    ∷ packages_from (id + 1) (start + length group.1) groups

-- the nodes of one package's flags from an index on
abbrev pub flags_from : (id index : ℕ) → List Compiled → List Flag
flags_from id index [] = []
flags_from id index (flag ∷ flags) =
    record { package_id = id; name = flag.flag; kind = flag.kind; index = index; next = 0 }
    ∷ flags_from id (index + 1) flags

-- the nodes of flags, of packages from an id on
abbrev pub flag_nodes_from : ℕ → List Group → List Flag
flag_nodes_from id [] = []
flag_nodes_from id (group ∷ groups) = flags_from id 0 group.1 ++ flag_nodes_from (id + 1) groups

abbrev pub PackageHasBucket : ℕ → PackageRow → Type 0
PackageHasBucket count row = row.bucket ≡ bucket_of count (package_key (package_of row))

abbrev pub PackagesHaveBuckets : ℕ → List PackageRow → Type 0
PackagesHaveBuckets count rows = All (PackageHasBucket count) rows

abbrev pub FlagHasBucket : ℕ → FlagRow → Type 0
FlagHasBucket count row = row.bucket ≡ bucket_of count (flag_node_key (flag_of row))

abbrev pub FlagsHaveBuckets : ℕ → List FlagRow → Type 0
FlagsHaveBuckets count rows = All (FlagHasBucket count) rows

-- ---- links

-- a node that leads to where its bucket's first node so far stands
abbrev pub led_package : List ℕ → PackageRow → PackageRow
led_package firsts row = record row { next = slice_index firsts row.bucket }

abbrev pub led_flag : List ℕ → FlagRow → FlagRow
led_flag firsts row = record row { next = slice_index firsts row.bucket }

abbrev pub package_with : Package → ℕ → Package
package_with node next = record node { next = next }

abbrev pub flag_with : Flag → ℕ → Flag
flag_with node next = record node { next = next }

abbrev pub linked_packages : (count at : ℕ) → List Package → List Package
linked_packages = linked package_node package_key package_with

abbrev pub linked_flags : (count at : ℕ) → List Flag → List Flag
linked_flags = linked flag_node flag_node_key flag_with

-- where nodes stand, their links aside
abbrev pub unlinked_packages : ℕ → List Package → List Link
unlinked_packages = links_from package_node package_key (λ _. 0)

abbrev pub unlinked_flags : ℕ → List Flag → List Link
unlinked_flags = links_from flag_node flag_node_key (λ _. 0)

-- ---- files

abbrev pub map_size_of : {N : Type 0} → (N → List ℕ) → List ℕ → (buckets : ℕ) → List N → ℕ
map_size_of node container buckets nodes =
    map_header_size container + 4 * buckets + length (flat_map node nodes)

-- the header of a new map file with so many buckets
abbrev pub new_map_header : (container : List ℕ) (file_type size count buckets : ℕ) → List ℕ
new_map_header container file_type size count buckets =
    map_header VERSION container file_type size count
    (map_header_size container) (map_header_size container + 4 * buckets)

-- a map file's parts from its nodes in order of their buckets
abbrev pub parts_in_order : {N : Type 0} → (N → List ℕ) → (N → NodeKey) → (N → ℕ
    → N) → List ℕ → (count : ℕ) → List N → MapParts N
parts_in_order node key with_next container count nodes =
    let first = map_header_size container + 4 * count in
    record {
      version = VERSION;
      container = container;
      buckets = map (λ b. first_in count b (links_from node key (λ _. 0) first nodes)) (numbers_below count);
      nodes = linked node key with_next count first nodes;
    }

abbrev pub value_byte : Compiled → ℕ
value_byte flag = if flag.value then 1 else 0

abbrev pub info_byte : Compiled → ℕ
info_byte flag = new_info flag.kind

-- the image of groups
unfoldable pub grouped_parts : List ℕ → List Group → SetParts
grouped_parts container groups = record {
  package_map = map_parts package_node package_key package_with container (packages_from 0 0 groups);
  flag_map = map_parts flag_node flag_node_key flag_with container (flag_nodes_from 0 groups);
  values = record { version = VERSION; container = container; bytes = map value_byte (all_flags groups) };
  infos = record { version = VERSION; container = container; bytes = map info_byte (all_flags groups) };
}

abbrev pub grouped_image : List ℕ → List Group → Files
grouped_image container groups = files_of (grouped_parts container groups)

-- the nodes of groups in order of their buckets, and their bytes of flag.val and flag.info
pub record Holds (groups : List Group) (parts : Parts) : Type 0 where
  pub package_buckets : parts.package_buckets ≡ bucket_count (length groups)
  pub packages : map package_of parts.packages.items ≡ by_bucket package_key parts.package_buckets
      (packages_from 0 0 groups)
  pub packages_have : PackagesHaveBuckets parts.package_buckets parts.packages.items
  pub some_package : 0 < parts.package_buckets
  pub flag_buckets : parts.flag_buckets ≡ bucket_count (total groups)
  pub flags : map flag_of parts.flags.items ≡ by_bucket flag_node_key parts.flag_buckets (flag_nodes_from 0 groups)
  pub flags_have : FlagsHaveBuckets parts.flag_buckets parts.flags.items
  pub some_flag : 0 < parts.flag_buckets
  pub values : parts.values.items ≡ map value_byte (all_flags groups)
  pub infos : parts.infos.items ≡ map info_byte (all_flags groups)

-- the files of parts
abbrev pub files_in_order : List ℕ → Parts → Files
files_in_order container parts = record {
  package_map = map_file package_map_type package_node (parts_in_order package_node package_key package_with container
      parts.package_buckets (map package_of parts.packages.items));
  flag_map = map_file flag_map_type flag_node (parts_in_order flag_node flag_node_key flag_with container
      parts.flag_buckets (map flag_of parts.flags.items));
  flag_val = list_file flag_val_type (record { version = VERSION; container = container; bytes = parts.values.items });
  flag_info = list_file flag_info_type (record { version = VERSION; container = container; bytes = parts.infos.items });
}
