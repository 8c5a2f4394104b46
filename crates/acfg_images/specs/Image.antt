-- The one image of a list of flags: AOSP's aconfig_storage_file as this project writes it.
use Rattle.std.specs.Prelude.{ℕ, zero, suc, ◌+◌, ◌*◌, List, [], ◌∷◌, ◌++◌, length, map, filter, take, Bool, ◌==◌, not}
use Rattle.std.specs.Prelude.{unwrap_or, if◌then◌else◌}
use Rattle.std.specs.List.{flat_map, enumerate_from}
use Rattle.std.specs.Str.{bytes_eq}
use Rattle.acfg_base.specs.declared.releases.Kind.{Kind}
use Rattle.acfg_sip.specs.Buckets.{size}
use Rattle.acfg_views.specs.Layout.{VERSION, Package, Flag, package_node, flag_node, MapParts, map_header_size}
use Rattle.acfg_views.specs.Layout.{map_file, list_file, package_map_type, flag_map_type, flag_val_type}
use Rattle.acfg_views.specs.Layout.{flag_info_type, new_info}
use Rattle.acfg_images.specs.Links.{NodeKey, package_key, flag_node_key, bucket_of, links_from, first_in}
use Rattle.acfg_images.specs.Files.{Files}
use Rattle.acfg_images.specs.Set.{SetParts}

-- a flag as it is compiled, for an image
pub record Compiled : Type 0 where
  pub «package» : List ℕ
  pub flag : List ℕ
  pub kind : Kind
  pub value : Bool

-- texts in the order in which they first appear
abbrev pub first_seen : List (List ℕ) → List (List ℕ)
first_seen [] = []
first_seen (text ∷ texts) = text ∷ filter (λ other. not (bytes_eq other text)) (first_seen texts)

-- the packages of flags, each at the place that is its id
abbrev pub package_names : List Compiled → List (List ℕ)
package_names flags = first_seen (map (λ flag. flag.package) flags)

-- the flags of a package, each at the place that is its index
abbrev pub flags_in : List Compiled → List ℕ → List Compiled
flags_in flags name = filter (λ flag. bytes_eq flag.package name) flags

-- all flags by global index: package by package, in order of ids
abbrev pub by_index : List Compiled → List Compiled
by_index flags = flat_map (flags_in flags) (package_names flags)

-- the number of flags of smaller ids
abbrev pub start_at : List Compiled → ℕ → ℕ
start_at flags id = length (flat_map (flags_in flags) (take id (package_names flags)))

-- the nodes without their links: packages in order of ids, flags in order of global indexes
abbrev pub package_nodes : List Compiled → List Package
package_nodes flags = map (λ at. record {
  name = at.1;
  id = at.0;
  start = start_at flags at.0;
  next =
      0;
}) (enumerate_from 0 (package_names flags))

abbrev pub flag_nodes_in : List Compiled → ℕ × List ℕ → List Flag
flag_nodes_in flags at = map (λ flag. record {
  package_id = at.0;
  name = flag.1.flag;
  kind = flag.1.kind;
  index =
      flag.0;
  next = 0;
}) (enumerate_from 0 (flags_in flags at.1))

abbrev pub flag_nodes : List Compiled → List Flag
flag_nodes flags = flat_map (flag_nodes_in flags) (enumerate_from 0 (package_names flags))

-- so many numbers from 0
abbrev pub numbers_below : ℕ → List ℕ
numbers_below zero = []
numbers_below (suc n) = numbers_below n ++ n ∷ []

-- nodes in order of their buckets, those of one bucket as they stood
abbrev pub by_bucket : {N : Type 0} → (N → NodeKey) → ℕ → List N → List N
by_bucket key count nodes = flat_map (λ b. filter (λ node. bucket_of count (key node) == b) nodes) (numbers_below count)

-- each node with the place of the next one of its bucket, for nodes that stand from an offset on
abbrev pub linked : {N : Type 0} → (N → List ℕ) → (N → NodeKey) → (N → ℕ → N) → (count at : ℕ) → List N → List N
linked node key with_next count at [] = []
linked node key with_next count at (n ∷ ns) =
    with_next n (first_in count (bucket_of count (key n)) (links_from node key (λ _. 0) (at + length (node n)) ns))
    ∷ linked node key with_next count (at + length (node n)) ns

-- the count of buckets for so many nodes. Over 196,620 there is none, and no image has as many.
abbrev pub bucket_count : ℕ → ℕ
bucket_count nodes = unwrap_or (size nodes) 0

-- a map file's parts from its nodes in order of ids or global indexes
abbrev pub map_parts : {N : Type 0} → (N → List ℕ) → (N → NodeKey) → (N → ℕ → N) → List ℕ → List N → MapParts N
map_parts node key with_next container nodes =
    let count = bucket_count (length nodes) in
    let first = map_header_size container + 4 * count in
    let in_order = by_bucket key count nodes in
    record {
      version = VERSION;
      container = container;
      buckets = map (λ b. first_in count b (links_from node key (λ _. 0) first in_order)) (numbers_below count);
      nodes = linked node key with_next count first in_order;
    }

-- the parts of the image of flags, in the order of the caches and within them
unfoldable pub image_parts : List ℕ → List Compiled → SetParts
image_parts container flags = record {
  package_map = map_parts package_node package_key (λ node next. record node {
    next =
        next;
  }) container (package_nodes flags);
  flag_map = map_parts flag_node flag_node_key (λ node next. record node { next = next }) container (flag_nodes flags);
  values = record {
    version = VERSION;
    container = container;
    bytes =
        map (λ flag. if flag.value then 1 else 0) (by_index flags);
  };
  infos = record {
    version = VERSION;
    container = container;
    bytes =
        map (λ flag. new_info flag.kind) (by_index flags);
  };
}

-- the files of parts
unfoldable pub files_of : SetParts → Files
files_of parts = record {
  package_map = map_file package_map_type package_node parts.package_map;
  flag_map = map_file flag_map_type flag_node parts.flag_map;
  flag_val = list_file flag_val_type parts.values;
  flag_info = list_file flag_info_type parts.infos;
}

-- the image of a container's flags
abbrev pub image : List ℕ → List Compiled → Files
image container flags = files_of (image_parts container flags)
