-- The image of flags that have one is a set for the release that they make.
use Rattle.std.proofs.Common.{◌≡◌, ℕ, ◌+◌, ◌*◌, ◌<◌, ◌≤◌, ◌^◌, Bool, true, false, cond, eqb, ◌&&◌, List, [], ◌∷◌, length, get_or, map, All, Option, Some, None, Contains, IsPermutation, IsNone, IfSome, refl, sym, ap, subst, ◌∙◌, arith, inl, inr}
use Rattle.std.specs.Prelude.{find, unwrap_or}
use Rattle.std.specs.Bool.{Decides}
use Rattle.std.specs.List.{flat_map}
use Rattle.std.specs.Option.{option_map}
use Rattle.std.specs.Str.{bytes_eq}
use Rattle.std.proofs.lemmas.Bool.{eq-eqb, eqb-true}
use Rattle.std.proofs.lemmas.Bool.Decides.{Decides-and, Decides-like}
use Rattle.std.proofs.lemmas.Cmp.{nat_list_eq_equiv}
use Rattle.std.proofs.lemmas.List.{length-map}
use Rattle.std.proofs.lemmas.List.Elements.{All-map, All-weaker, Contains-get_or}
use Rattle.std.proofs.lemmas.List.Sorted.{IsPermutation-map, IsPermutation-trans, All-permutation, length_permutation}
use Rattle.std.proofs.lemmas.Slice.Eq.{bytes_eq-Decides}
use Rattle.acfg_base.specs.Names.{IsName, IsPackage, IsContainer}
use Rattle.acfg_base.specs.declared.releases.Kind.{Kind}
use Rattle.acfg_base.specs.declared.releases.Kind.TheVariants.{ReadWrite, ReadOnly, Fixed}
use Rattle.acfg_base.specs.Places.{map_of}
use Rattle.acfg_base.specs.Release.{Key, key_cmp, IsKey, is_read_write}
use Rattle.acfg_base.proofs.Keys.{key_total, key_exact}
use Rattle.acfg_sip.specs.Buckets.{size}
use Rattle.acfg_sip.proofs.BucketFacts.{size-bounds, size-many}
use Rattle.acfg_views.specs.Layout.{VERSION, Package, Flag, package_node, flag_node, IsPackageNode, IsFlagNode, MapParts, IsMapFile, first_node_of, map_header_size, map_file, package_map_type, flag_map_type, MOST_BYTES}
use Rattle.acfg_images.specs.declared.purpose.Use.TheVariants.{Release}
use Rattle.acfg_images.specs.Files.{Files, bytes_in_all}
use Rattle.acfg_images.specs.Words.{AreNumbered}
use Rattle.acfg_images.specs.Links.{NodeKey, package_key, flag_node_key, links_from, AreLinked}
use Rattle.acfg_images.specs.Set.{SetParts, Listed, IsInfo, Agree, IsSetOf, IsSet, packages_of, package_with, has_server, has_local, has_read_write, listed_flag, listed_key, listing}
use Rattle.acfg_images.specs.Image.{Compiled, bucket_count, by_bucket, numbers_below, image, files_of}
use Rattle.acfg_images.specs.Build.{MOST_FLAGS}
use Rattle.acfg_images.specs.Building.{Group, grouped, total, all_flags, packages_from, flag_nodes_from, value_byte, info_byte, package_with as led_package, flag_with as led_flag, parts_in_order, grouped_parts}
use Rattle.acfg_images.specs.ImageLaw.{compiled_key, release_made, no_notes, HaveImage, ImagesAreSets}
use Rattle.acfg_images.proofs.Filing.{length-numbers_below, linked_count, file_size, package_same, flag_same}
use Rattle.acfg_images.proofs.Grouping.{few_grouped, total_grouped}
use Rattle.acfg_images.proofs.Imaging.{image_is, packages_count, nodes_count, total_is}
use Rattle.acfg_images.proofs.LinkedAre.{ChangesNext, map_linked, All_linked, are_linked, firsts_within}
use Rattle.acfg_images.proofs.MadeRows.{IsLawfulGroup, lawful_groups, names_apart, grouped_moved, IsGoodPackage, good_packages, IsGoodFlag, good_flags, ids_count, names_of, unlinked, unlinked_before, rows_from, HasPackage, all_rows, indexes_of, kinds_of}
use Rattle.acfg_images.proofs.Moved.{AreApart, apart_seen, apart_keys, apart_moved, one_of_key, find_moved, find_own, map_twice, All_seen_by, entries_moved, CountUp-apart, CountUp-numbered, AreNumbered-moved, by_bucket_moved}

-- ---- files

some_buckets : (nodes : ℕ) → nodes ≤ MOST_FLAGS → 1 ≤ bucket_count nodes
some_buckets nodes few = by (size nodes) (size-bounds nodes) (size-many nodes)
  where
    by : (o : Option ℕ) → IfSome o (λ count. (7 ≤ count) × (count ≤ 393241)) → (IsNone o → 196620 < nodes) → 1 ≤ unwrap_or o 0
    by None bounds many = absurd (omega (arith, many refl, few))
    by (Some count) bounds many = omega (arith, bounds.0)

module _ {N : Type 0} (node : N → List ℕ) (key : N → NodeKey) (next : N → ℕ) (with_next : N → ℕ → N) (IsNode P : N → Type 0) (leads : (n : N) (to : ℕ) → P n → to ≤ MOST_BYTES → IsNode (with_next n to)) (changes : ChangesNext node key next with_next) (file_type : ℕ) (container : List ℕ) (count : ℕ) (nodes : List N) where
  abbrev made : MapParts N
  made = parts_in_order node key with_next container count nodes

  buckets_count : length made.buckets ≡ count
  buckets_count = length-map (numbers_below count) _ ∙ length-numbers_below count

  -- nodes in order, linked, are a lawful file
  file_is : IsContainer container → 1 ≤ count → length nodes < 2 ^ 32 → All P nodes → length (map_file file_type node made) ≤ MOST_BYTES → IsMapFile file_type node IsNode (map_file file_type node made) made
  file_is is some few lawful small =
      let within : map_header_size container + 4 * count + length (flat_map node nodes) ≤ MOST_BYTES = omega (arith, small, file_size node key with_next changes.size file_type container count nodes) in
      record {
        spelled = refl;
        version = refl;
        container = is;
        some_bucket = omega (arith, some, buckets_count);
        buckets = All-weaker (λ bucket. bucket ≤ MOST_BYTES) (λ bucket. bucket < 2 ^ 32) (λ bucket le. omega arith) made.buckets (firsts_within node key next with_next changes count (map_header_size container + 4 * count) MOST_BYTES nodes within);
        nodes = All_linked node key next with_next P IsNode MOST_BYTES leads count (map_header_size container + 4 * count) nodes within lawful;
        count = omega (arith, few, linked_count node key with_next changes.size count (map_header_size container + 4 * count) nodes);
        size = omega (arith, small);
      }

  links_are : AreApart (map key nodes) → AreLinked made.buckets (links_from node key next (first_node_of made) made.nodes)
  links_are apart =
      subst (λ (k : ℕ). AreLinked made.buckets (links_from node key next (map_header_size container + 4 * k) made.nodes)) (sym buckets_count)
      (are_linked node key next with_next changes count (map_header_size container + 4 * count) nodes apart)

package_changes : ChangesNext package_node package_key (λ n. n.next) led_package
package_changes = record { size = package_same; same_key = λ n to. refl; next_is = λ n to. refl }

flag_changes : ChangesNext flag_node flag_node_key (λ n. n.next) led_flag
flag_changes = record { size = flag_same; same_key = λ n to. refl; next_is = λ n to. refl }

-- ---- bytes

low_value : (b : Bool) → cond b 1 0 ≤ 1
low_value true = omega arith
low_value false = omega arith

new_info_is : (kind : Kind) → IsInfo Release (cond (is_read_write kind) 2 0)
new_info_is ReadWrite = inr refl
new_info_is ReadOnly = inl refl
new_info_is Fixed = inl refl

unnoted : (kind : Kind) → ◌≡◌ {A = Bool × Bool} (has_server (cond (is_read_write kind) 2 0), has_local (cond (is_read_write kind) 2 0)) (false, false)
unnoted ReadWrite = refl
unnoted ReadOnly = refl
unnoted Fixed = refl

-- ---- keys

both_eq : Key → Key → Bool
both_eq a b = bytes_eq a.0 b.0 && bytes_eq a.1 b.1

both_decide : (a b : Key) → Decides (both_eq a b) (a ≡ b)
unfolding both_eq
both_decide a b = Decides-like _ (λ (e : (a.0 ≡ b.0) × (a.1 ≡ b.1)). λ i. (e.0 i, e.1 i)) (λ e. (ap (λ (k : Key). k.0) e, ap (λ (k : Key). k.1) e)) (Decides-and _ _ (bytes_eq-Decides a.0 b.0) (bytes_eq-Decides a.1 b.1))

both_turned : (a b : Key) → both_eq a b ≡ both_eq b a
unfolding both_eq
both_turned a b = rw (nat_list_eq_equiv.symm a.0 b.0, nat_list_eq_equiv.symm a.1 b.1) refl

-- ---- packages by their ids

-- packages of different ids, in another order and linked
module _ (whole made : List Package) (moved : IsPermutation whole (map unlinked made)) (apart : AreApart (map (λ node. node.id) whole)) where
  find_seen : (id : ℕ) (nodes : List Package) → option_map unlinked (package_with nodes id) ≡ find (λ node. eqb node.id id) (map unlinked nodes)
  find_seen id [] = refl
  find_seen id (n ∷ ns) = elim (eqb n.id id) as (λ b. option_map unlinked (cond b (Some n) (package_with ns id)) ≡ cond b (Some (unlinked n)) (find (λ node. eqb node.id id) (map unlinked ns))) [ true ↦ refl | false ↦ find_seen id ns ]

  one_id : (id : ℕ) (a b : Package) → Contains whole a → Contains whole b → eqb a.id id ≡ true → eqb b.id id ≡ true → a ≡ b
  one_id id a b a_in b_in a_is b_is = one_of_key (λ node. node.id) whole apart a b a_in b_in (eqb-true _ _ a_is ∙ sym (eqb-true _ _ b_is))

  looked_up : (node : Package) → Contains whole node → option_map unlinked (package_with made node.id) ≡ Some node
  looked_up node in_whole =
      find_seen node.id made ∙ find_moved (λ n. eqb n.id node.id) whole (map unlinked made) moved (one_id node.id)
      ∙ find_own (λ n. eqb n.id node.id) whole node in_whole (eq-eqb _ _ refl) (one_id node.id)

facts_seen : (o : Option Package) (node : Package) → option_map unlinked o ≡ Some node → (unwrap_or (option_map (λ n. n.start) o) 0 ≡ node.start) × (unwrap_or (option_map (λ n. n.name) o) [] ≡ node.name)
facts_seen None node e = absurd cc
facts_seen (Some n) node e = let same : unlinked n ≡ node = cc in (ap (λ (m : Package). m.start) same, ap (λ (m : Package). m.name) same)

-- ---- the image

module _ (container : List ℕ) (flags : List Compiled) (has : HaveImage container flags) where
  abbrev groups : List Group
  groups = grouped flags

  abbrev p_nodes : List Package
  p_nodes = packages_from 0 0 groups

  abbrev f_nodes : List Flag
  f_nodes = flag_nodes_from 0 groups

  abbrev p_count : ℕ
  p_count = bucket_count (length p_nodes)

  abbrev f_count : ℕ
  f_count = bucket_count (length f_nodes)

  abbrev p_order : List Package
  p_order = by_bucket package_key p_count p_nodes

  abbrev f_order : List Flag
  f_order = by_bucket flag_node_key f_count f_nodes

  abbrev parts : SetParts
  parts = record {
    package_map = parts_in_order package_node package_key led_package container p_count p_order;
    flag_map = parts_in_order flag_node flag_node_key led_flag container f_count f_order;
    values = record { version = VERSION; container = container; bytes = map value_byte (all_flags groups) };
    infos = record { version = VERSION; container = container; bytes = map info_byte (all_flags groups) };
  }

  files_are : image container flags ≡ files_of parts
  unfolding grouped_parts
  files_are = image_is container flags

  -- how many there are
  few_packages : length groups ≤ MOST_FLAGS
  few_packages = omega (arith, few_grouped flags, has.count)

  few_flags : total groups ≤ MOST_FLAGS
  few_flags = omega (arith, total_grouped flags, has.count)

  p_length : length p_nodes ≡ length groups
  p_length = packages_count 0 0 groups

  f_length : length f_nodes ≡ total groups
  f_length = nodes_count 0 groups

  p_some : 1 ≤ p_count
  p_some = some_buckets (length p_nodes) (omega (arith, p_length, few_packages))

  f_some : 1 ≤ f_count
  f_some = some_buckets (length f_nodes) (omega (arith, f_length, few_flags))

  lawful : All IsLawfulGroup groups
  lawful = lawful_groups flags
      (All-weaker (λ flag. IsKey (compiled_key flag)) (λ flag. IsPackage flag.package) (λ flag is. is.package) flags has.names)
      (All-weaker (λ flag. IsKey (compiled_key flag)) (λ flag. IsName flag.flag) (λ flag is. is.flag) flags has.names)

  -- nodes in order of their buckets
  p_moved : IsPermutation p_nodes p_order
  p_moved = by_bucket_moved package_key p_count (omega (arith, p_some)) p_nodes

  f_moved : IsPermutation f_nodes f_order
  f_moved = by_bucket_moved flag_node_key f_count (omega (arith, f_some)) f_nodes

  p_seen : {A : Type 0} (f : Package → A) → ((n : Package) (to : ℕ) → f (led_package n to) ≡ f n) → IsPermutation (map f p_nodes) (map f (packages_of parts))
  p_seen f ignores = subst (IsPermutation (map f p_nodes)) (sym (map_linked package_node package_key (λ n. n.next) led_package f ignores p_count _ p_order)) (IsPermutation-map f p_nodes p_order p_moved)

  f_seen : {A : Type 0} (f : Flag → A) → ((n : Flag) (to : ℕ) → f (led_flag n to) ≡ f n) → IsPermutation (map f f_nodes) (map f parts.flag_map.nodes)
  f_seen f ignores = subst (IsPermutation (map f f_nodes)) (sym (map_linked flag_node flag_node_key (λ n. n.next) led_flag f ignores f_count _ f_order)) (IsPermutation-map f f_nodes f_order f_moved)

  -- packages by their ids
  numbered_ids : AreNumbered (map (λ node. node.id) p_nodes)
  numbered_ids = CountUp-numbered (map (λ node. node.id) p_nodes) (ids_count 0 0 groups)

  have_packages : All (HasPackage parts) p_nodes
  have_packages i d lt =
      let node = get_or p_nodes i d in
      let moved : IsPermutation p_nodes (map unlinked (packages_of parts)) = subst (λ (l : List Package). IsPermutation l (map unlinked (packages_of parts))) (unlinked_before 0 0 groups) (p_seen unlinked (λ n to. refl)) in
      let facts = facts_seen (package_with (packages_of parts) node.id) node (looked_up p_nodes (packages_of parts) moved (CountUp-apart (map (λ node. node.id) p_nodes) (ids_count 0 0 groups)) node (Contains-get_or p_nodes i d lt)) in
      record { start = facts.0; name = facts.1 }

  -- rows
  rows_are : map (listed_flag parts) f_nodes ≡ rows_from 0 (all_flags groups)
  rows_are = all_rows parts 0 0 groups have_packages lawful refl refl

  listing_moved : IsPermutation (rows_from 0 (all_flags groups)) (listing parts)
  listing_moved = subst (λ (l : List Listed). IsPermutation l (listing parts)) rows_are (f_seen (listed_flag parts) (λ n to. refl))

  -- ---- keys

  p_apart : AreApart (map package_key p_order)
  p_apart =
      let names : AreApart (map (λ node. node.name) p_nodes) = subst AreApart (sym (names_of 0 0 groups)) (names_apart flags) in
      let moved : AreApart (map (λ node. node.name) p_order) = apart_moved bytes_eq bytes_eq-Decides nat_list_eq_equiv.symm _ _ (IsPermutation-map (λ node. node.name) p_nodes p_order p_moved) names in
      apart_seen (λ (k : NodeKey). k.name) (map package_key p_order) (subst AreApart (sym (map_twice (λ (k : NodeKey). k.name) package_key p_order)) moved)

  -- the package's name and the flag's, by a node's key
  owner_name : Option ℕ → List ℕ
  owner_name None = []
  owner_name (Some id) = unwrap_or (option_map (λ n. n.name) (package_with (packages_of parts) id)) []

  full_key : NodeKey → Key
  full_key k = (owner_name k.owner, k.name)

  rows_keys : (index : ℕ) (list : List Compiled) → map listed_key (rows_from index list) ≡ map compiled_key list
  rows_keys index [] = refl
  rows_keys index (f ∷ fs) = rw (rows_keys (index + 1) fs) refl

  f_apart : AreApart (map flag_node_key f_order)
  unfolding owner_name full_key
  f_apart =
      let all = all_flags groups in
      let keys : AreApart (map compiled_key all) = apart_moved both_eq both_decide both_turned _ _ (IsPermutation-map compiled_key flags all (grouped_moved flags)) (apart_keys compiled_key flags has.apart) in
      let rows : AreApart (map listed_key (map (listed_flag parts) f_nodes)) = subst AreApart (sym (ap (map listed_key) rows_are ∙ rows_keys 0 all)) keys in
      let moved : AreApart (map listed_key (map (listed_flag parts) f_order)) = apart_moved both_eq both_decide both_turned _ _ (IsPermutation-map listed_key _ _ (IsPermutation-map (listed_flag parts) f_nodes f_order f_moved)) rows in
      apart_seen full_key (map flag_node_key f_order) (subst AreApart (map_twice listed_key (listed_flag parts) f_order ∙ sym (map_twice full_key flag_node_key f_order)) moved)

  -- ---- what agrees

  flag_count : length parts.flag_map.nodes ≡ total groups
  flag_count = linked_count flag_node flag_node_key led_flag flag_same f_count _ f_order ∙ length_permutation f_nodes f_order f_moved ∙ f_length

  package_count : length (packages_of parts) ≡ length groups
  package_count = linked_count package_node package_key led_package package_same p_count _ p_order ∙ length_permutation p_nodes p_order p_moved ∙ p_length

  agree : Agree parts
  agree = record {
    flag_map_container = refl;
    values_container = refl;
    infos_container = refl;
    ids = AreNumbered-moved _ _ (p_seen (λ node. node.id) (λ n to. refl)) numbered_ids;
    value_count = length-map (all_flags groups) value_byte ∙ total_is groups ∙ sym flag_count;
    info_count = length-map (all_flags groups) info_byte ∙ total_is groups ∙ sym flag_count;
    packages =
        let known : All (λ id. id < length groups) (map (λ (node : Flag). node.package_id) f_nodes) =
        All-map (λ id. id < length groups) (λ (node : Flag). node.package_id) f_nodes (All-weaker (IsGoodFlag (length groups)) (λ node. node.package_id < length groups) (λ node is. is.known) f_nodes good) in
        All-weaker (λ node. node.package_id < length groups) (λ node. node.package_id < length (packages_of parts)) (λ node lt. omega (arith, lt, package_count)) parts.flag_map.nodes
        (All_seen_by (λ id. id < length groups) (λ (node : Flag). node.package_id) parts.flag_map.nodes (All-permutation (λ id. id < length groups) _ _ (f_seen (λ (node : Flag). node.package_id) (λ n to. refl)) known));
    indexes =
        let index = λ (r : Listed). r.index in
        subst AreNumbered (map_twice index (listed_flag parts) parts.flag_map.nodes) (AreNumbered-moved _ _ (IsPermutation-map index _ _ listing_moved) (CountUp-numbered _ (indexes_of 0 (all_flags groups))));
    kinds = All_seen_by (λ (r : Listed). has_read_write r.bits ≡ is_read_write r.kind) (listed_flag parts) parts.flag_map.nodes
        (All-permutation (λ (r : Listed). has_read_write r.bits ≡ is_read_write r.kind) _ _ listing_moved (kinds_of 0 (all_flags groups)));
  }
    where
      good : All (IsGoodFlag (length groups)) f_nodes
      good = good_flags 0 (length groups) groups (omega arith) (let h = few_flags in omega arith) lawful

  -- ---- the set

  small : bytes_in_all (files_of parts) ≤ MOST_BYTES
  small = subst (λ (f : Files). bytes_in_all f ≤ MOST_BYTES) files_are has.size

  lead_package : (n : Package) (to : ℕ) → IsGoodPackage MOST_FLAGS n → to ≤ MOST_BYTES → IsPackageNode (led_package n to)
  lead_package n to good le = record { name = good.name; id = omega (arith, good.id); start = omega (arith, good.start); next = omega (arith, le) }

  lead_flag : (n : Flag) (to : ℕ) → IsGoodFlag MOST_FLAGS n → to ≤ MOST_BYTES → IsFlagNode (led_flag n to)
  lead_flag n to good le = record { package_id = omega (arith, good.known); name = good.name; index = good.index; next = omega (arith, le) }

  set_of : IsSetOf (files_of parts) Release parts
  unfolding files_of
  set_of = record {
    size = small;
    package_map = file_is package_node package_key (λ n. n.next) led_package IsPackageNode (IsGoodPackage MOST_FLAGS) lead_package package_changes package_map_type container p_count p_order has.container_name p_some
        (omega (arith, length_permutation p_nodes p_order p_moved, p_length, few_packages))
        (All-permutation (IsGoodPackage MOST_FLAGS) p_nodes p_order p_moved (good_packages 0 0 MOST_FLAGS groups (omega (arith, few_packages)) (omega (arith, few_flags)) lawful)) (omega (arith, small));
    flag_map = file_is flag_node flag_node_key (λ n. n.next) led_flag IsFlagNode (IsGoodFlag MOST_FLAGS) lead_flag flag_changes flag_map_type container f_count f_order has.container_name f_some
        (omega (arith, length_permutation f_nodes f_order f_moved, f_length, few_flags))
        (All-permutation (IsGoodFlag MOST_FLAGS) f_nodes f_order f_moved (good_flags 0 MOST_FLAGS groups (omega (arith, few_packages)) (omega (arith, few_flags)) lawful)) (omega (arith, small));
    values = record { spelled = refl; version = refl; container = has.container_name; size = omega (arith, small) };
    infos = record { spelled = refl; version = refl; container = has.container_name; size = omega (arith, small) };
    packages_linked = links_are package_node package_key (λ n. n.next) led_package IsPackageNode (IsGoodPackage MOST_FLAGS) lead_package package_changes package_map_type container p_count p_order p_apart;
    flags_linked = links_are flag_node flag_node_key (λ n. n.next) led_flag IsFlagNode (IsGoodFlag MOST_FLAGS) lead_flag flag_changes flag_map_type container f_count f_order f_apart;
    value_bytes = All-map (λ byte. byte ≤ 1) value_byte (all_flags groups) (λ i d lt. low_value (get_or (all_flags groups) i d).value);
    info_bytes = All-map (IsInfo Release) info_byte (all_flags groups) (λ i d lt. new_info_is (get_or (all_flags groups) i d).kind);
    agree = agree;
  }

  -- ---- the maps

  rows_seen : {X : Type 0} (v : Listed → X) (w : Compiled → X) → ((index : ℕ) (f : Compiled) → v (record { «package» = f.package; flag = f.flag; kind = f.kind; value = f.value; bits = info_byte f; index = index }) ≡ w f)
      → (index : ℕ) (list : List Compiled) → map {B = Key × X} (λ r. (listed_key r, v r)) (rows_from index list) ≡ map (λ f. (compiled_key f, w f)) list
  rows_seen v w same index [] = refl
  rows_seen v w same index (f ∷ fs) = rw (same index f, rows_seen v w same (index + 1) fs) refl

  made_map : {X : Type 0} (v : Listed → X) (w : Compiled → X) → ((index : ℕ) (f : Compiled) → v (record { «package» = f.package; flag = f.flag; kind = f.kind; value = f.value; bits = info_byte f; index = index }) ≡ w f)
      → map_of key_cmp listed_key (listing parts) v ≡ map_of key_cmp compiled_key flags w
  made_map {X} v w same =
      let all = all_flags groups in
      let entry : Compiled → Key × X = λ f. (compiled_key f, w f) in
      let listed : Listed → Key × X = λ r. (listed_key r, v r) in
      let grouped_entries : IsPermutation (map entry flags) (map entry all) = IsPermutation-map entry flags all (grouped_moved flags) in
      let rows : IsPermutation (map entry flags) (map listed (rows_from 0 all)) = subst (IsPermutation (map entry flags)) (sym (rows_seen v w same 0 all)) grouped_entries in
      let moved : IsPermutation (map entry flags) (map listed (listing parts)) = IsPermutation-trans _ _ _ rows (IsPermutation-map listed _ _ listing_moved) in
      entries_moved key_total key_exact (map entry flags) (map listed (listing parts)) moved (subst AreApart (sym (map_twice (λ (e : Key × X). e.0) entry flags)) (apart_keys compiled_key flags has.apart))

  pub image_set : IsSet (image container flags) Release container (release_made flags) (no_notes flags)
  image_set = subst (λ (f : Files). IsSet f Release container (release_made flags) (no_notes flags)) (sym files_are) (record {
    parts = parts;
    files_are = set_of;
    container_is = refl;
    release_is = made_map (λ row. (row.kind, row.value)) (λ flag. (flag.kind, flag.value)) (λ index f. refl);
    notes_are = made_map (λ row. (has_server row.bits, has_local row.bits)) (λ flag. (false, false)) (λ index f. unnoted f.kind);
  })

pub images_are_sets : ImagesAreSets
images_are_sets = image_set
