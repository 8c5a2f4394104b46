-- The look-up in the lists of a set's nodes, and how many nodes a look-up may read.
use Rattle.std.specs.Prelude.{ℕ, ◌+◌, List, find, count_by, ◌==◌, ◌&&◌, Option, Some, None}
use Rattle.std.specs.Str.{bytes_eq}
use Rattle.acfg_views.specs.Layout.{Package, Flag}
use Rattle.acfg_views.specs.Reading.{bucket_count}
use Rattle.acfg_images.specs.Links.{NodeKey, package_key, flag_node_key, bucket_of}
use Rattle.acfg_images.specs.Set.{Listed}
use Rattle.acfg_images.specs.Faults.{Opened, packages_in, flags_in}
use Rattle.acfg_lookup.specs.declared.found.PackageAt.{PackageAt}
use Rattle.acfg_lookup.specs.declared.found.Found.{Found}

-- ---- what is found

-- the package with a name, among all packages in file order
abbrev pub package_named : List Package → List ℕ → Option Package
package_named packages name = find (λ node. bytes_eq node.name name) packages

-- the flag with a name of the package with an id, among all flags in file order
abbrev pub flag_named : List Flag → (package_id : ℕ) → List ℕ → Option Flag
flag_named flags package_id name = find (λ node. node.package_id == package_id && bytes_eq node.name name) flags

-- what is told of a package
abbrev pub package_found : Package → PackageAt
package_found node = record { id = node.id; start = node.start }

-- what is told of a flag that a set lists
abbrev pub flag_found : Listed → Found
flag_found row = record { kind = row.kind; value = row.value; bits = row.bits; index = row.index }

-- ---- how many nodes may be read

-- how many of these nodes are in the bucket of a key, among so many buckets
abbrev pub bucket_size : {N : Type 0} → (N → NodeKey) → (count : ℕ) → NodeKey → List N → ℕ
bucket_size key_of count key nodes = count_by (λ node. bucket_of count (key_of node) == bucket_of count key) nodes

-- how many packages are in the bucket of a package's name
abbrev pub package_bucket_size : Opened → List ℕ → ℕ
package_bucket_size opened name =
    bucket_size package_key (bucket_count opened.package_map) (record {
      owner = None;
      name = name;
    }) (packages_in opened)

-- how many flags are in the bucket of a flag's name and its package's id
abbrev pub flag_bucket_size : Opened → (package_id : ℕ) → List ℕ → ℕ
flag_bucket_size opened package_id name =
    bucket_size flag_node_key (bucket_count opened.flag_map) (record {
      owner = Some package_id;
      name = name;
    }) (flags_in opened)

-- the same of a package's flag, where the package is there
abbrev pub flag_bucket_size_of : Opened → Option Package → List ℕ → ℕ
flag_bucket_size_of opened None flag = 0
flag_bucket_size_of opened (Some node) flag = flag_bucket_size opened node.id flag

-- the most nodes that the look-up of a flag reads: those of the package's bucket and, where the package is there, of
-- the flag's
abbrev pub most_steps : Opened → List ℕ → List ℕ → ℕ
most_steps opened name flag =
    package_bucket_size opened name + flag_bucket_size_of opened (package_named (packages_in opened) name) flag
