-- Map files of nodes in order of their buckets, and how long they are.
use Rattle.std.proofs.Common.{◌≡◌, ℕ, zero, suc, ◌+◌, ◌-◌, ◌*◌, ◌^◌, ◌<◌, ◌≤◌, List, [], ◌∷◌, ◌++◌, length, get_or, take, map, true, false, ltb, min, Ok, Err, refl, sym, ap, ◌∙◌, arith}
use Rattle.std.specs.List.{flat_map}
use Rattle.std.proofs.lemmas.Bool.Decides.{nat_tests}
use Rattle.std.proofs.lemmas.List.{map-append, length-append, length-map, length-take, get_or-take, take_all}
use Rattle.std.proofs.Math.Seq.{take-suc}
use Rattle.acfg_views.specs.Layout.{VERSION, Package, Flag, package_node, flag_node, MapParts, ListParts, map_header_size, map_file, flag_val_type, flag_info_type, package_map_type, flag_map_type, MOST_BYTES}
use Rattle.acfg_views.proofs.Parts.{length-map_file, length-list_file}
use Rattle.acfg_images.specs.Files.{Files, bytes_in_all}
use Rattle.acfg_images.specs.Links.{NodeKey, bucket_of, links_from, first_in, package_key, flag_node_key}
use Rattle.acfg_images.specs.Image.{numbers_below, linked}
use Rattle.acfg_images.specs.Build.{told, sized}
use Rattle.acfg_images.specs.declared.building.Parts.{Parts}
use Rattle.acfg_images.specs.declared.building.fault.BuildFault.TheVariants.{TooLarge}
use Rattle.acfg_images.specs.Building.{map_size_of, parts_in_order, package_with, flag_with, package_of, flag_of, files_in_order}
use Rattle.acfg_images.proofs.Sizes.{package_size, flag_size}

-- ---- buckets

pub length-numbers_below : (n : ℕ) → length (numbers_below n) ≡ n
length-numbers_below zero = refl
length-numbers_below (suc n) = omega (arith, length-append (numbers_below n) (n ∷ []), length-numbers_below n)

-- a table that holds an answer for each number
pub table_is : (f : ℕ → ℕ) (n : ℕ) (table : List ℕ) → length table ≡ n → ((b : ℕ) → b < n → get_or table b 0 ≡ f b) → table ≡ map f (numbers_below n)
table_is f zero [] len holds = refl
table_is f zero (x ∷ xs) len holds = absurd (omega arith)
table_is f (suc n) table len holds =
    let front : take n table ≡ map f (numbers_below n) = table_is f n (take n table) (length-take n table ∙ omega arith) (λ b lt. get_or-take n table b 0 lt ∙ holds b (omega arith)) in
    let whole : table ≡ take n table ++ get_or table n 0 ∷ [] = sym (take_all (suc n) table (omega arith)) ∙ take-suc table n 0 (omega arith) in
    whole ∙ rw (front, holds n (omega arith)) (sym (map-append f (numbers_below n) (n ∷ [])))

-- ---- sizes

abbrev pub parts_from : {N : Type 0} → List ℕ → List ℕ → List N → MapParts N
parts_from container buckets nodes = record { version = VERSION; container = container; buckets = buckets; nodes = nodes }

module _ {N : Type 0} (node : N → List ℕ) (key : N → NodeKey) (with_next : N → ℕ → N) (same : (n : N) (next : ℕ) → length (node (with_next n next)) ≡ length (node n)) where
  pub linked_size : (count at : ℕ) (nodes : List N) → length (flat_map node (linked node key with_next count at nodes)) ≡ length (flat_map node nodes)
  linked_size count at [] = refl
  linked_size count at (n ∷ ns) =
      let next = first_in count (bucket_of count (key n)) (links_from node key (λ _. 0) (at + length (node n)) ns) in
      let rest = linked node key with_next count (at + length (node n)) ns in
      omega (arith, length-append (node (with_next n next)) (flat_map node rest), length-append (node n) (flat_map node ns), same n next, linked_size count (at + length (node n)) ns)

  pub linked_count : (count at : ℕ) (nodes : List N) → length (linked node key with_next count at nodes) ≡ length nodes
  linked_count count at [] = refl
  linked_count count at (n ∷ ns) = ap (λ (k : ℕ). suc k) (linked_count count (at + length (node n)) ns)

  -- a map of nodes in order, from what was linked
  pub in_order_is : (container : List ℕ) (count size : ℕ) (nodes made : List N) (firsts : List ℕ) → size ≡ map_size_of node container count nodes → made ≡ linked node key with_next count (size - length (flat_map node nodes)) nodes → length firsts ≡ count
      → ((b : ℕ) → b < length firsts → get_or firsts b 0 ≡ first_in count b (links_from node key (λ _. 0) (size - length (flat_map node nodes)) nodes))
      → parts_from container firsts made ≡ parts_in_order node key with_next container count nodes
  in_order_is container count size nodes made firsts size_is made_is len heads =
      let first : size - length (flat_map node nodes) ≡ map_header_size container + 4 * count = omega (arith, size_is) in
      let made_is : made ≡ linked node key with_next count (map_header_size container + 4 * count) nodes = made_is ∙ ap (λ (k : ℕ). linked node key with_next count k nodes) first in
      let table : firsts ≡ map (λ b. first_in count b (links_from node key (λ _. 0) (map_header_size container + 4 * count) nodes)) (numbers_below count) =
      table_is (λ b. first_in count b (links_from node key (λ _. 0) (map_header_size container + 4 * count) nodes)) count firsts len (λ b lt. heads b (omega (arith, len)) ∙ ap (λ (k : ℕ). first_in count b (links_from node key (λ _. 0) k nodes)) first) in
      rw (table, made_is) refl

  pub made_size : (container : List ℕ) (count size : ℕ) (nodes made : List N) (at : ℕ) (firsts : List ℕ) → size ≡ map_size_of node container count nodes → made ≡ linked node key with_next count at nodes → length firsts ≡ count → size ≡ map_size_of node container (length firsts) made
  made_size container count size nodes made at firsts size_is made_is len =
      let bytes : length (flat_map node made) ≡ length (flat_map node nodes) = ap (λ (ns : List N). length (flat_map node ns)) made_is ∙ linked_size count at nodes in
      omega (arith, size_is, bytes, len)

  -- how long the file of nodes in order is
  pub file_size : (file_type : ℕ) (container : List ℕ) (count : ℕ) (nodes : List N) → length (map_file file_type node (parts_in_order node key with_next container count nodes)) ≡ map_size_of node container count nodes
  file_size file_type container count nodes =
      let first = map_header_size container + 4 * count in
      let tables : length (map (λ b. first_in count b (links_from node key (λ _. 0) first nodes)) (numbers_below count)) ≡ count = length-map (numbers_below count) (λ b. first_in count b (links_from node key (λ _. 0) first nodes)) ∙ length-numbers_below count in
      omega (arith, length-map_file file_type node (λ _. Unit {0}) (parts_in_order node key with_next container count nodes), tables, linked_size count first nodes)

pub package_same : (n : Package) (next : ℕ) → length (package_node (package_with n next)) ≡ length (package_node n)
package_same n next = package_size (package_with n next) ∙ sym (package_size n)

pub flag_same : (n : Flag) (next : ℕ) → length (flag_node (flag_with n next)) ≡ length (flag_node n)
flag_same n next = flag_size (flag_with n next) ∙ sym (flag_size n)

abbrev list_of : List ℕ → List ℕ → ListParts
list_of container bytes = record { version = VERSION; container = container; bytes = bytes }

-- how long the files of parts are
pub files_size : (container : List ℕ) (parts : Parts) → bytes_in_all (files_in_order container parts)
    ≡ map_size_of package_node container parts.package_buckets (map package_of parts.packages.items) + map_size_of flag_node container parts.flag_buckets (map flag_of parts.flags.items)
    + (21 + length container + length parts.values.items) + (21 + length container + length parts.infos.items)
files_size container parts =
    let packages = file_size package_node package_key package_with package_same package_map_type container parts.package_buckets (map package_of parts.packages.items) in
    let flags = file_size flag_node flag_node_key flag_with flag_same flag_map_type container parts.flag_buckets (map flag_of parts.flags.items) in
    let values = length-list_file flag_val_type (list_of container parts.values.items) in
    let infos = length-list_file flag_info_type (list_of container parts.infos.items) in
    omega (arith, packages, flags, values, infos)

-- ---- the limit

pub sized_over : (files : Files) (n : ℕ) → MOST_BYTES < bytes_in_all files → n ≡ told (bytes_in_all files) → sized files ≡ Err (TooLarge n)
sized_over files n over n_is =
    let test : ltb MOST_BYTES (bytes_in_all files) ≡ true = grind (arith, nat_tests) in
    rw (test, n_is) refl

pub sized_within : (files : Files) → bytes_in_all files ≤ MOST_BYTES → sized files ≡ Ok files
sized_within files within =
    let test : ltb MOST_BYTES (bytes_in_all files) ≡ false = grind (arith, nat_tests) in
    rw test refl

-- sums that stop at a number
sums : (packages flags list all most p f a b c : ℕ) → all ≡ packages + flags + list + list → p ≡ min packages most → f ≡ min flags most → a ≡ min (p + f) most → b ≡ min (a + list) most → c ≡ min (b + list) most → c ≡ min all most
sums packages flags list all most p f a b c all_is p_is f_is a_is b_is c_is = omega arith

pub measured : (container : List ℕ) (parts : Parts) (list p f a b c : ℕ) → 21 + length container + length parts.values.items ≡ list → length parts.infos.items ≡ length parts.values.items
    → p ≡ told (map_size_of package_node container parts.package_buckets (map package_of parts.packages.items)) → f ≡ told (map_size_of flag_node container parts.flag_buckets (map flag_of parts.flags.items))
    → a ≡ min (p + f) (2 ^ 64 - 1) → b ≡ min (a + list) (2 ^ 64 - 1) → c ≡ min (b + list) (2 ^ 64 - 1) → c ≡ told (bytes_in_all (files_in_order container parts))
measured container parts list p f a b c values same p_is f_is a_is b_is c_is =
    let all = files_size container parts ∙ rw (same, values) refl in
    sums (map_size_of package_node container parts.package_buckets (map package_of parts.packages.items)) (map_size_of flag_node container parts.flag_buckets (map flag_of parts.flags.items)) list (bytes_in_all (files_in_order container parts)) (2 ^ 64 - 1) p f a b c all p_is f_is a_is b_is c_is

pub over_told : (n all : ℕ) → n ≡ told all → MOST_BYTES < n → MOST_BYTES < all
over_told n all n_is over = omega arith

pub within_told : (n all : ℕ) → n ≡ told all → n ≤ MOST_BYTES → all ≤ MOST_BYTES
within_told n all n_is within = omega arith
