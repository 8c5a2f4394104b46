-- Buckets and links of AOSP's aconfig_storage_file: the whole list of a map's nodes determines every one of them.
use Rattle.std.specs.Prelude.{◌≡◌, ◌≢◌, ℕ, ◌+◌, ◌<◌, List, [], ◌∷◌, length, slice_index, AllPairs, Bool, true, false}
use Rattle.std.specs.Prelude.{◌==◌, ◌&&◌, Option, Some, None, if◌then◌else◌}
use Rattle.std.specs.Str.{bytes_eq}
use Rattle.acfg_sip.specs.Buckets.{hash, flag_key}
use Rattle.acfg_views.specs.Layout.{Package, Flag, package_node, flag_node, MapParts, first_node_of}

-- a node's key: the name of a package, or the id of a flag's package and the flag's name
pub record NodeKey : Type 0 where
  pub owner : Option ℕ
  pub name : List ℕ

abbrev pub package_key : Package → NodeKey
package_key node = record { owner = None; name = node.name }

abbrev pub flag_node_key : Flag → NodeKey
flag_node_key node = record { owner = Some node.package_id; name = node.name }

-- the bytes of a key that its bucket hashes
abbrev pub hashed : Option ℕ → List ℕ → List ℕ
hashed None name = name
hashed (Some id) name = flag_key id name

-- a key's bucket among so many
abbrev pub bucket_of : ℕ → NodeKey → ℕ
bucket_of count key = hash (hashed key.owner key.name) count

abbrev pub same_owner : Option ℕ → Option ℕ → Bool
same_owner None None = true
same_owner (Some a) (Some b) = a == b
same_owner _ _ = false

abbrev pub same_key : NodeKey → NodeKey → Bool
same_key a b = same_owner a.owner b.owner && bytes_eq a.name b.name

-- a node as buckets and links see it: where it stands, its key, and its next
pub record Link : Type 0 where
  pub at : ℕ
  pub key : NodeKey
  pub next : ℕ

-- nodes that stand one after another from an offset on
abbrev pub links_from : {N : Type 0} → (N → List ℕ) → (N → NodeKey) → (N → ℕ) → ℕ → List N → List Link
links_from node key next at [] = []
links_from node key next at (n ∷ ns) = record {
  at = at;
  key = key n;
  next =
      next n;
} ∷ links_from node key next (at + length (node n)) ns

abbrev pub package_links : ℕ → List Package → List Link
package_links first nodes = links_from package_node package_key (λ n. n.next) first nodes

abbrev pub flag_links : ℕ → List Flag → List Link
flag_links first nodes = links_from flag_node flag_node_key (λ n. n.next) first nodes

-- where the first of these nodes with this bucket stands, or 0 where there is none
abbrev pub first_in : (count bucket : ℕ) → List Link → ℕ
first_in count bucket [] = 0
first_in count bucket (link ∷ links) =
    if bucket_of count link.key == bucket then link.at else first_in count bucket links

-- no two nodes have one key
abbrev pub HaveOwnKeys : List Link → Type 0
HaveOwnKeys links = AllPairs (λ a b. a.key ≢ b.key) links

-- each bucket holds where its first node stands, in file order, or 0
abbrev pub HoldFirst : List ℕ → List Link → Type 0
HoldFirst buckets links = (b : ℕ) → b < length buckets → slice_index buckets b ≡ first_in (length buckets) b links

-- each node's next is where the next node of its bucket stands, in file order, or 0
abbrev pub LeadOn : ℕ → List Link → Type 0
LeadOn count [] = Unit {0}
LeadOn count (link ∷ links) = (link.next ≡ first_in count (bucket_of count link.key) links) × LeadOn count links

-- the buckets and links of a map whose nodes are these
pub record AreLinked (buckets : List ℕ) (links : List Link) : Type 0 where
  pub keys : HaveOwnKeys links
  pub heads : HoldFirst buckets links
  pub nexts : LeadOn (length buckets) links

abbrev pub links_of_packages : MapParts Package → List Link
links_of_packages parts = package_links (first_node_of parts) parts.nodes

abbrev pub links_of_flags : MapParts Flag → List Link
links_of_flags parts = flag_links (first_node_of parts) parts.nodes
