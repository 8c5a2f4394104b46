-- How files of parts open, and which parts an open file has.
use Rattle.std.specs.Prelude.{◌≡◌, ℕ, List, length, drop, All, Ok}
use Rattle.std.specs.List.{flat_map}
use Rattle.acfg_views.specs.Fields.{IsBytes, numbers}
use Rattle.acfg_views.specs.Layout.{MapParts, ListParts, map_header_size, list_header_size, first_node_of, IsMapFile}
use Rattle.acfg_views.specs.Layout.{IsListFile}
use Rattle.acfg_views.specs.Reading.{OpenMap, OpenList, opened_map, opened_list, bucket_count}

-- how a map file of these parts opens
abbrev pub open_parts : {N : Type 0} → List ℕ → MapParts N → OpenMap
open_parts bytes parts = record {
  file = bytes;
  version = parts.version;
  container = parts.container;
  count = length parts.nodes;
  first_bucket = map_header_size parts.container;
  first_node = first_node_of parts;
}

-- the parts of an open map whose nodes are these
abbrev pub parts_of : {N : Type 0} → OpenMap → List N → MapParts N
parts_of map nodes = record {
  version = map.version;
  container = map.container;
  buckets = numbers (bucket_count map) (drop map.first_bucket map.file);
  nodes = nodes;
}

-- how flag.val or flag.info of these parts opens
abbrev pub open_list_parts : List ℕ → ListParts → OpenList
open_list_parts bytes parts = record {
  file = bytes;
  version = parts.version;
  container = parts.container;
  count = length parts.bytes;
  first_byte = list_header_size parts.container;
}

-- the parts of an open list
abbrev pub list_parts_of : OpenList → ListParts
list_parts_of list = record {
  version = list.version;
  container = list.container;
  bytes =
      drop list.first_byte list.file;
}

-- the nodes of an open map are these: they stand from its first node to the file's end, as many as its header says
pub record HasNodes {N : Type 0} (node : N → List ℕ) (IsNode : N
    → Type 0) (map : OpenMap) (nodes : List N) : Type 0 where
  pub spelled : drop map.first_node map.file ≡ flat_map node nodes
  pub lawful : All IsNode nodes
  pub count : length nodes ≡ map.count

-- ---- the two directions

module _ {N : Type 0} (file_type : ℕ) (node : N → List ℕ) (IsNode : N → Type 0) where
  -- the file of parts opens, and has their nodes
  abbrev pub MapPartsOpen : Type 0
  MapPartsOpen = (bytes : List ℕ) (parts : MapParts N) → IsMapFile file_type node IsNode bytes parts
      → (opened_map file_type bytes ≡ Ok (open_parts bytes parts))
      × HasNodes node IsNode (open_parts bytes parts) parts.nodes
      × (parts_of (open_parts bytes parts) parts.nodes ≡ parts)

  -- an open file that has nodes is the file of its parts
  abbrev pub OpenMapHasParts : Type 0
  OpenMapHasParts = (bytes : List ℕ) (map : OpenMap) (nodes : List N) → IsBytes bytes
      → opened_map file_type bytes ≡ Ok map
      → HasNodes node IsNode map nodes → IsMapFile file_type node IsNode bytes (parts_of map nodes)

abbrev pub ListPartsOpen : ℕ → Type 0
ListPartsOpen file_type = (bytes : List ℕ) (parts : ListParts) → IsListFile file_type bytes parts
    → (opened_list file_type bytes ≡ Ok (open_list_parts bytes parts))
    × (list_parts_of (open_list_parts bytes parts) ≡ parts)

abbrev pub OpenListHasParts : ℕ → Type 0
OpenListHasParts file_type = (bytes : List ℕ) (list : OpenList) → IsBytes bytes → opened_list file_type bytes ≡ Ok list
    → IsListFile file_type bytes (list_parts_of list)
