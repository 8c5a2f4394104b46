-- The four storage files of AOSP's aconfig_storage_file, version 1, as tables of fields.
use Rattle.std.specs.Prelude.{◌≡◌, ℕ, ◌+◌, ◌*◌, ◌<◌, ◌≤◌, ◌^◌, List, [], ◌∷◌, ◌++◌, length, All, if◌then◌else◌}
use Rattle.std.specs.List.{concat, flat_map}
use Rattle.acfg_base.specs.Names.{IsName, IsPackage, IsContainer}
use Rattle.acfg_base.specs.Release.{kind_number, is_read_write}
use Rattle.acfg_base.specs.declared.releases.Kind.{Kind}
use Rattle.acfg_views.specs.Fields.{number, string}

-- the version of the files
abbrev pub VERSION : ℕ
VERSION = 1

-- the numbers of the files' types
abbrev pub package_map_type : ℕ
package_map_type = 0

abbrev pub flag_map_type : ℕ
flag_map_type = 1

abbrev pub flag_val_type : ℕ
flag_val_type = 2

abbrev pub flag_info_type : ℕ
flag_info_type = 3

-- ---- nodes

-- a node of package.map: a package, the number of flags before its own, and where the next node of its bucket stands
pub record Package : Type 0 where
  pub name : List ℕ
  pub id : ℕ
  pub start : ℕ
  pub next : ℕ

-- a node of flag.map: a flag of a package, and where the next node of its bucket stands
pub record Flag : Type 0 where
  pub package_id : ℕ
  pub name : List ℕ
  pub kind : Kind
  pub index : ℕ
  pub next : ℕ

unfoldable pub package_node : Package → List ℕ
package_node node = concat (
    string node.name
    ∷ number 4 node.id
    ∷ number 4 node.start
    ∷ number 4 node.next ∷ [])

unfoldable pub flag_node : Flag → List ℕ
flag_node node = concat (
    number 4 node.package_id
    ∷ string node.name
    ∷ number 2 (kind_number node.kind)
    ∷ number 2 node.index
    ∷ number 4 node.next ∷ [])

-- what has a place in a node
pub record IsPackageNode (node : Package) : Type 0 where
  pub name : IsPackage node.name
  pub id : node.id < 2 ^ 32
  pub start : node.start < 2 ^ 32
  pub next : node.next < 2 ^ 32

pub record IsFlagNode (node : Flag) : Type 0 where
  pub package_id : node.package_id < 2 ^ 32
  pub name : IsName node.name
  pub index : node.index < 2 ^ 16
  pub next : node.next < 2 ^ 32

-- ---- headers

-- the header of package.map and flag.map, with the file's size, its number of nodes, and where buckets and nodes begin
unfoldable pub map_header : (version : ℕ) (container : List ℕ) (file_type size count first_bucket first_node : ℕ)
    → List ℕ
map_header version container file_type size count first_bucket first_node = concat (
    number 4 version
    ∷ string container
    ∷ number 1 file_type
    ∷ number 4 size
    ∷ number 4 count
    ∷ number 4 first_bucket
    ∷ number 4 first_node ∷ [])

-- the header of flag.val and flag.info, with the file's size, its number of flags, and where their bytes begin
unfoldable pub list_header : (version : ℕ) (container : List ℕ) (file_type size count first_byte : ℕ) → List ℕ
list_header version container file_type size count first_byte = concat (
    number 4 version
    ∷ string container
    ∷ number 1 file_type
    ∷ number 4 size
    ∷ number 4 count
    ∷ number 4 first_byte ∷ [])

-- how long a map's header is: four numbers of four bytes behind the container, one byte, and the version
abbrev pub map_header_size : List ℕ → ℕ
map_header_size container = 25 + length container

abbrev pub list_header_size : List ℕ → ℕ
list_header_size container = 21 + length container

-- ---- whole files

-- what a map file is made of
pub record MapParts (N : Type 0) : Type 0 where
  pub version : ℕ
  pub container : List ℕ
  pub buckets : List ℕ
  pub nodes : List N

-- what flag.val and flag.info are made of: one byte a flag, by global index
pub record ListParts : Type 0 where
  pub version : ℕ
  pub container : List ℕ
  pub bytes : List ℕ

-- where a map's nodes begin: behind the buckets, of four bytes each
abbrev pub first_node_of : {N : Type 0} → MapParts N → ℕ
first_node_of parts = map_header_size parts.container + 4 * length parts.buckets

abbrev pub map_size : {N : Type 0} → (N → List ℕ) → MapParts N → ℕ
map_size node parts = first_node_of parts + length (flat_map node parts.nodes)

abbrev pub list_size : ListParts → ℕ
list_size parts = list_header_size parts.container + length parts.bytes

-- a map file: its header with true sizes, counts and offsets, the buckets and the nodes joined
unfoldable pub map_file : {N : Type 0} → (file_type : ℕ) → (N → List ℕ) → MapParts N → List ℕ
map_file file_type node parts =
    map_header parts.version parts.container file_type (map_size node parts) (length parts.nodes)
    (map_header_size parts.container) (first_node_of parts)
    ++ (flat_map (number 4) parts.buckets ++ flat_map node parts.nodes)

-- flag.val or flag.info
unfoldable pub list_file : (file_type : ℕ) → ListParts → List ℕ
list_file file_type parts =
    list_header parts.version parts.container file_type (list_size parts) (length parts.bytes)
    (list_header_size parts.container)
    ++ parts.bytes

-- the bytes are the map file of these parts, whose nodes are lawful and whose numbers have their places
pub record IsMapFile {N : Type 0} (file_type : ℕ) (node : N → List ℕ) (IsNode : N
    → Type 0) (bytes : List ℕ) (parts : MapParts N) : Type 0 where
  pub spelled : bytes ≡ map_file file_type node parts
  pub version : parts.version ≡ VERSION
  pub container : IsContainer parts.container
  pub some_bucket : 1 ≤ length parts.buckets
  pub buckets : All (λ bucket. bucket < 2 ^ 32) parts.buckets
  pub nodes : All IsNode parts.nodes
  pub count : length parts.nodes < 2 ^ 32
  pub size : length bytes < 2 ^ 32

-- the bytes are the file of these parts, with one byte a flag
pub record IsListFile (file_type : ℕ) (bytes : List ℕ) (parts : ListParts) : Type 0 where
  pub spelled : bytes ≡ list_file file_type parts
  pub version : parts.version ≡ VERSION
  pub container : IsContainer parts.container
  pub size : length bytes < 2 ^ 32

-- package.map and flag.map
abbrev pub IsPackageMapFile : List ℕ → MapParts Package → Type 0
IsPackageMapFile = IsMapFile package_map_type package_node IsPackageNode

abbrev pub IsFlagMapFile : List ℕ → MapParts Flag → Type 0
IsFlagMapFile = IsMapFile flag_map_type flag_node IsFlagNode

-- ---- limits and new bytes

-- the most bytes that the four files have together: 4 MiB
abbrev pub MOST_BYTES : ℕ
MOST_BYTES = 4194304

-- a new byte of flag.info: read-write or not, and no notes
abbrev pub new_info : Kind → ℕ
new_info kind = if is_read_write kind then 2 else 0
