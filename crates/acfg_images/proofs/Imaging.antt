-- What is made of groups is the definition's image.
use Rattle.std.proofs.Common.{◌≡◌, ℕ, ◌+◌, ◌<◌, ◌≤◌, true, false, ltb, List, [], ◌∷◌, length, Err, refl, sym, ap, ◌∙◌, arith}
use Rattle.std.proofs.lemmas.Bool.Decides.{nat_tests}
use Rattle.std.proofs.lemmas.List.{length-append}
use Rattle.acfg_views.specs.Layout.{package_node, flag_node}
use Rattle.acfg_images.specs.declared.building.Parts.{Parts}
use Rattle.acfg_images.specs.declared.building.fault.BuildFault.TheVariants.{TooManyFlags}
use Rattle.acfg_images.specs.Links.{NodeKey, package_key, flag_node_key}
use Rattle.acfg_images.specs.Image.{Compiled, bucket_count, by_bucket, map_parts, image_parts, image, files_of}
use Rattle.acfg_images.specs.Build.{MOST_FLAGS, told, built, sized}
use Rattle.acfg_images.specs.Building.{Group, grouped, total, all_flags, packages_from, flags_from, flag_nodes_from, package_with, flag_with, parts_in_order, grouped_parts, grouped_image, Holds, files_in_order}
use Rattle.acfg_images.proofs.Numbering.{packages_are, flags_are, indexed_are}

pub total_is : (groups : List Group) → length (all_flags groups) ≡ total groups
total_is [] = refl
total_is (group ∷ groups) = omega (arith, total_is groups, length-append group.1 (all_flags groups))

pub packages_count : (id start : ℕ) (groups : List Group) → length (packages_from id start groups) ≡ length groups
packages_count id start [] = refl
packages_count id start (group ∷ groups) = omega (arith, packages_count (id + 1) (start + length group.1) groups)

flags_count : (id index : ℕ) (flags : List Compiled) → length (flags_from id index flags) ≡ length flags
flags_count id index [] = refl
flags_count id index (flag ∷ flags) = omega (arith, flags_count id (index + 1) flags)

pub nodes_count : (id : ℕ) (groups : List Group) → length (flag_nodes_from id groups) ≡ total groups
nodes_count id [] = refl
nodes_count id (group ∷ groups) = omega (arith, nodes_count (id + 1) groups, flags_count id 0 group.1, length-append (flags_from id 0 group.1) (flag_nodes_from (id + 1) groups))

parts_is : {N : Type 0} (node : N → List ℕ) (key : N → NodeKey) (with_next : N → ℕ → N) (container : List ℕ) (count : ℕ) (nodes made : List N) → count ≡ bucket_count (length nodes) → made ≡ by_bucket key count nodes → parts_in_order node key with_next container count made ≡ map_parts node key with_next container nodes
parts_is node key with_next container count nodes made count_is made_is = rw (made_is, count_is) refl

-- the files of parts that hold groups
pub files_are : (container : List ℕ) (groups : List Group) (parts : Parts) → Holds groups parts → files_in_order container parts ≡ grouped_image container groups
unfolding grouped_parts files_of
files_are container groups parts h =
    let packages = parts_is package_node package_key package_with container parts.package_buckets (packages_from 0 0 groups) _ (h.package_buckets ∙ ap bucket_count (sym (packages_count 0 0 groups))) h.packages in
    let flags = parts_is flag_node flag_node_key flag_with container parts.flag_buckets (flag_nodes_from 0 groups) _ (h.flag_buckets ∙ ap bucket_count (sym (nodes_count 0 groups))) h.flags in
    rw (packages, flags, h.values, h.infos) refl

pub image_is : (container : List ℕ) (flags : List Compiled) → image container flags ≡ grouped_image container (grouped flags)
unfolding grouped_parts image_parts
image_is container flags = rw (packages_are flags, flags_are flags, indexed_are flags) refl

-- ---- the limit on flags

pub too_many : (container : List ℕ) (flags : List Compiled) (n : ℕ) → MOST_FLAGS < n → n ≡ told (length flags) → built container flags ≡ Err (TooManyFlags n)
unfolding built
too_many container flags n over n_is =
    let test : ltb MOST_FLAGS (length flags) ≡ true = grind (arith, nat_tests) in
    rw (test, n_is) refl

pub few_flags : (flags : List Compiled) (n : ℕ) → n ≤ MOST_FLAGS → n ≡ told (length flags) → n ≡ length flags
few_flags flags n few n_is = omega arith

pub built_few : (container : List ℕ) (flags : List Compiled) → length flags ≤ MOST_FLAGS → built container flags ≡ sized (grouped_image container (grouped flags))
unfolding built
built_few container flags few =
    let test : ltb MOST_FLAGS (length flags) ≡ false = grind (arith, nat_tests) in
    rw test (ap sized (image_is container flags))
