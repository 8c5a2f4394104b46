-- Nodes numbered one after another, and the definition's nodes.
use Rattle.std.proofs.Common.{◌≡◌, ℕ, zero, suc, ◌+◌, ◌<◌, List, [], ◌∷◌, ◌++◌, length, map, take, get_or, refl, sym, ap, ◌∙◌, append_assoc, append-nil, arith, add-one}
use Rattle.std.specs.Borrow.{Bor}
use Rattle.std.specs.Global.{Vec}
use Rattle.std.specs.List.{flat_map, enumerate_from}
use Rattle.std.proofs.lemmas.Grind.{flat_map-append}
use Rattle.std.proofs.lemmas.List.{map-append, length-append, length-map}
use Rattle.std.proofs.lemmas.List.Elements.{All-push}
use Rattle.std.proofs.lemmas.List.Folds.{flat_map-map}
use Rattle.std.proofs.Math.Seq.{take-suc}
use Rattle.acfg_views.specs.Layout.{Package, Flag}
use Rattle.acfg_images.specs.declared.building.groups.Row.{Row}
use Rattle.acfg_images.specs.declared.building.packages.PackageRow.{PackageRow}
use Rattle.acfg_images.specs.declared.building.flags.FlagRow.{FlagRow}
use Rattle.acfg_images.specs.Image.{Compiled, package_names, flags_in, by_index, start_at, package_nodes, flag_nodes, flag_nodes_in}
use Rattle.acfg_images.specs.Building.{row_of, Group, group_of, groups_of, grouped, all_flags, package_of, flag_of, source_of, packages_from, flags_from, flag_nodes_from, PackageHasBucket, PackagesHaveBuckets, FlagHasBucket, FlagsHaveBuckets}
use Rattle.acfg_images.proofs.Grouping.{group_in, groups_in, grouped_is}

-- ---- a loop over groups

abbrev pub Entry : Type 0
Entry = Bor (List ℕ) × Vec Row

pub size_first : (entry : Entry) → length (group_of entry).1 ≡ length entry.1.items
size_first entry = length-map entry.1.items row_of

pub package_more : (rows made : List PackageRow) (row : PackageRow) (entries rest : List Entry) (entry : Entry) (id start size : ℕ) (all : List Package) → map package_of rows ++ packages_from id start (groups_of entries) ≡ all → entries ≡ entry ∷ rest → made ≡ rows ++ row ∷ []
    → package_of row ≡ record { name = entry.0.now; id = id; start = start; next = 0 } → size ≡ length entry.1.items → map package_of made ++ packages_from (id + 1) (start + size) (groups_of rest) ≡ all
package_more rows made row entries rest entry id start size all so entries_is made_is row_is size_is =
    let sizes : size ≡ length (group_of entry).1 = size_is ∙ sym (size_first entry) in
    rw (made_is, map-append package_of rows (row ∷ []), row_is, sizes) (append_assoc (map package_of rows) (record { name = entry.0.now; id = id; start = start; next = 0 } ∷ []) (packages_from (id + 1) (start + length (group_of entry).1) (groups_of rest)) ∙ rw entries_is at so)

pub flag_more : (rows made : List Flag) (entries rest : List Entry) (entry : Entry) (id : ℕ) (all : List Flag) → rows ++ flag_nodes_from id (groups_of entries) ≡ all → entries ≡ entry ∷ rest → made ≡ rows ++ flags_from id 0 (map row_of entry.1.items)
    → made ++ flag_nodes_from (id + 1) (groups_of rest) ≡ all
flag_more rows made entries rest entry id all so entries_is made_is = rw made_is (append_assoc rows (flags_from id 0 (map row_of entry.1.items)) (flag_nodes_from (id + 1) (groups_of rest)) ∙ rw entries_is at so)

pub source_more : (rows made : List Compiled) (entries rest : List Entry) (entry : Entry) (all : List Compiled) → rows ++ all_flags (groups_of entries) ≡ all → entries ≡ entry ∷ rest → made ≡ rows ++ map row_of entry.1.items
    → made ++ all_flags (groups_of rest) ≡ all
source_more rows made entries rest entry all so entries_is made_is = rw made_is (append_assoc rows (map row_of entry.1.items) (all_flags (groups_of rest)) ∙ rw entries_is at so)

pub package_buckets_more : (count : ℕ) (rows made : List PackageRow) (row : PackageRow) → made ≡ rows ++ row ∷ [] → PackagesHaveBuckets count rows → PackageHasBucket count row → PackagesHaveBuckets count made
package_buckets_more count rows made row made_is have has = rw made_is (All-push (PackageHasBucket count) rows row have has)

pub flag_buckets_more : (count : ℕ) (rows made : List FlagRow) (row : FlagRow) → made ≡ rows ++ row ∷ [] → FlagsHaveBuckets count rows → FlagHasBucket count row → FlagsHaveBuckets count made
flag_buckets_more count rows made row made_is have has = rw made_is (All-push (FlagHasBucket count) rows row have has)

-- a loop over the flags of a package
pub flags_more : (id index : ℕ) (flags : List Row) (i : ℕ) (d : Row) → i < length flags → flags_from id index (map row_of (take (suc i) flags)) ≡ flags_from id index (map row_of (take i flags)) ++ record { package_id = id; name = (get_or flags i d).flag.now; kind = (get_or flags i d).kind; index = index + i; next = 0 } ∷ []
flags_more id index [] i d lt = absurd (omega arith)
flags_more id index (flag ∷ flags) zero d lt = let e : index ≡ index + 0 = omega arith in rw (← e) refl
flags_more id index (flag ∷ flags) (suc i) d lt =
    let rest = flags_more id (index + 1) flags i d (omega arith) in
    let e : index + 1 + i ≡ index + suc i = omega arith in
    ap (λ (ns : List Flag). record { package_id = id; name = flag.flag.now; kind = flag.kind; index = index; next = 0 } ∷ ns) (rw e at rest)

pub pushed_nodes : (old rows made : List FlagRow) (row : FlagRow) (id index : ℕ) (flags : List Row) (i : ℕ) (d : Row) → i < length flags → map flag_of rows ≡ map flag_of old ++ flags_from id 0 (map row_of (take i flags)) → made ≡ rows ++ row ∷ []
    → flag_of row ≡ record { package_id = id; name = (get_or flags i d).flag.now; kind = (get_or flags i d).kind; index = index; next = 0 } → index ≡ i → map flag_of made ≡ map flag_of old ++ flags_from id 0 (map row_of (take (i + 1) flags))
pushed_nodes old rows made row id index flags i d lt so made_is row_is index_is =
    let more = flags_more id 0 flags i d lt in
    let zero_is : 0 + i ≡ i = omega arith in
    rw (add-one, more, zero_is, made_is, map-append flag_of rows (row ∷ []), so, row_is, index_is) (append_assoc (map flag_of old) (flags_from id 0 (map row_of (take i flags))) (record { package_id = id; name = (get_or flags i d).flag.now; kind = (get_or flags i d).kind; index = i; next = 0 } ∷ []))

pub pushed_sources : (old rows made : List FlagRow) (row : FlagRow) (flags : List Row) (i : ℕ) (d : Row) → i < length flags → map source_of rows ≡ map source_of old ++ map row_of (take i flags) → made ≡ rows ++ row ∷ []
    → source_of row ≡ row_of (get_or flags i d) → map source_of made ≡ map source_of old ++ map row_of (take (i + 1) flags)
pushed_sources old rows made row flags i d lt so made_is row_is =
    rw (add-one, take-suc flags i d lt, map-append row_of (take i flags) (get_or flags i d ∷ []), made_is, map-append source_of rows (row ∷ []), so, row_is) (append_assoc (map source_of old) (map row_of (take i flags)) (row_of (get_or flags i d) ∷ []))

-- ---- the definition's nodes

module _ (flags : List Compiled) where
  packages_by : (done names : List (List ℕ)) (id start : ℕ) → package_names flags ≡ done ++ names → id ≡ length done → start ≡ length (flat_map (flags_in flags) done)
      → map (λ (at : ℕ × List ℕ). record { name = at.1; id = at.0; start = start_at flags at.0; next = 0 }) (enumerate_from id names) ≡ packages_from id start (groups_in flags names)
  packages_by done [] id start all id_is start_is = refl
  packages_by done (name ∷ names) id start all id_is start_is =
      let front : take id (package_names flags) ≡ done = rw (all, id_is) (take-front done (name ∷ names)) in
      let here : start_at flags id ≡ start = ap (λ (ns : List (List ℕ)). length (flat_map (flags_in flags) ns)) front ∙ sym start_is in
      let next : start + length (flags_in flags name) ≡ length (flat_map (flags_in flags) (done ++ name ∷ [])) = rw (flat_map-append (flags_in flags) done (name ∷ []), append-nil (flags_in flags name)) (ap (λ (n : ℕ). n + length (flags_in flags name)) start_is ∙ sym (length-append (flat_map (flags_in flags) done) (flags_in flags name))) in
      let rest = packages_by (done ++ name ∷ []) names (id + 1) (start + length (flags_in flags name)) (all ∙ sym (append_assoc done (name ∷ []) names)) (omega (arith, id_is, length-append done (name ∷ []))) next in
      rw (here, rest) refl
    where
      take-front : (xs ys : List (List ℕ)) → take (length xs) (xs ++ ys) ≡ xs
      take-front [] ys = refl
      take-front (x ∷ xs) ys = ap (λ (zs : List (List ℕ)). x ∷ zs) (take-front xs ys)

  pub packages_are : package_nodes flags ≡ packages_from 0 0 (grouped flags)
  packages_are = packages_by [] (package_names flags) 0 0 refl refl refl ∙ rw (grouped_is flags) refl

  flags_by : (id index : ℕ) (list : List Compiled) → map (λ (flag : ℕ × Compiled). record { package_id = id; name = flag.1.flag; kind = flag.1.kind; index = flag.0; next = 0 }) (enumerate_from index list) ≡ flags_from id index list
  flags_by id index [] = refl
  flags_by id index (flag ∷ list) = rw (flags_by id (index + 1) list) refl

  nodes_by : (id : ℕ) (names : List (List ℕ)) → flat_map (flag_nodes_in flags) (enumerate_from id names) ≡ flag_nodes_from id (groups_in flags names)
  nodes_by id [] = refl
  nodes_by id (name ∷ names) = rw (flags_by id 0 (flags_in flags name), nodes_by (id + 1) names) refl

  pub flags_are : flag_nodes flags ≡ flag_nodes_from 0 (grouped flags)
  flags_are = nodes_by 0 (package_names flags) ∙ rw (grouped_is flags) refl

  pub indexed_are : by_index flags ≡ all_flags (grouped flags)
  indexed_are = sym (flat_map-map (λ (g : Group). g.1) (group_in flags) (package_names flags)) ∙ rw (grouped_is flags) refl
