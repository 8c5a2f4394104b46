-- What an image lists of the flags that it is made of, and what its nodes are, before they are put in order and linked.
use Rattle.std.proofs.Common.{◌≡◌, ◌≢◌, ℕ, zero, suc, ◌+◌, ◌<◌, ◌≤◌, ◌^◌, Bool, true, false, cond, eqb, not, List, [], ◌∷◌, ◌++◌, length, get_or, drop, map, fold, All, IsPermutation, refl, sym, ap, subst, ◌∙◌, append_assoc, append-nil, arith}
use Rattle.std.specs.Prelude.{unwrap_or}
use Rattle.std.specs.List.{list_any}
use Rattle.std.specs.Option.{option_map}
use Rattle.std.specs.Str.{bytes_eq}
use Rattle.std.proofs.lemmas.List.{map-append, length-map}
use Rattle.std.proofs.lemmas.List.Elements.{All-nil, All-cons, All-head, All-tail, All-append, All-filter}
use Rattle.std.proofs.lemmas.List.Kept.{AllPairs-cons}
use Rattle.std.proofs.lemmas.List.Sorted.{IsPermutation-refl, IsPermutation-trans, IsPermutation-append_left, IsPermutation-append_right, IsPermutation-append_comm}
use Rattle.std.proofs.lemmas.Slice.Eq.{bytes_eq-Decides}
use Rattle.acfg_base.specs.Names.{IsName, IsPackage}
use Rattle.acfg_base.specs.Release.{is_read_write}
use Rattle.acfg_base.specs.declared.releases.Kind.{Kind}
use Rattle.acfg_base.specs.declared.releases.Kind.TheVariants.{ReadWrite, ReadOnly, Fixed}
use Rattle.acfg_views.specs.Layout.{Package, Flag}
use Rattle.acfg_images.specs.Set.{SetParts, Listed, packages_of, package_with, start_of, listed_flag, has_read_write}
use Rattle.acfg_images.specs.Image.{Compiled, first_seen, flags_in, package_names}
use Rattle.acfg_images.specs.Building.{Group, grown, grouped, total, all_flags, packages_from, flags_from, flag_nodes_from, value_byte, info_byte}
use Rattle.acfg_images.proofs.Grouping.{group_in, groups_in, grouped_is, Distinct, Distinct-first_seen}
use Rattle.acfg_images.proofs.Moved.{AreApart, CountUp}

-- ---- a list from a place on

head_at : (xs : List ℕ) (k x : ℕ) (rest : List ℕ) → drop k xs ≡ x ∷ rest → (get_or xs k 0 ≡ x) × (drop (k + 1) xs ≡ rest)
head_at [] k x rest e = absurd (none k e)
  where
    none : (k : ℕ) → drop k [] ≡ x ∷ rest → ⊥
    none zero e = cc
    none (suc k) e = cc
head_at (y ∷ xs) zero x rest e = (cc, cc)
head_at (y ∷ xs) (suc k) x rest e =
    let h = head_at xs k x rest e in
    let next : suc k + 1 ≡ suc (k + 1) = omega arith in
    (h.0, rw next h.1)

past : (xs front rest : List ℕ) (k : ℕ) → drop k xs ≡ front ++ rest → drop (k + length front) xs ≡ rest
past xs [] rest k e = let same : k + 0 ≡ k = omega arith in rw same e
past xs (x ∷ front) rest k e =
    let h = head_at xs k x (front ++ rest) e in
    let same : k + suc (length front) ≡ k + 1 + length front = omega arith in
    rw same (past xs front rest (k + 1) h.1)

-- ---- groups

-- each flag of a group is of its package
abbrev pub HasOwnFlags : Group → Type 0
HasOwnFlags group = All (λ flag. flag.package ≡ group.0) group.1

own_flags : (flags : List Compiled) (name : List ℕ) → All (λ flag. flag.package ≡ name) (flags_in flags name)
own_flags [] name = All-nil (λ flag. flag.package ≡ name)
own_flags (f ∷ fs) name = by (bytes_eq f.package name) refl (own_flags fs name)
  where
    by : (b : Bool) → bytes_eq f.package name ≡ b → All (λ flag. flag.package ≡ name) (flags_in fs name) → All (λ flag. flag.package ≡ name) (flags_in (f ∷ fs) name)
    by true here rest = rw here (All-cons (λ flag. flag.package ≡ name) f _ ((bytes_eq-Decides f.package name).0 here) rest)
    by false apart rest = rw apart rest

All_seen : (P : List ℕ → Type 0) (texts : List (List ℕ)) → All P texts → All P (first_seen texts)
All_seen P [] all = All-nil P
All_seen P (t ∷ ts) all = All-cons P t _ (All-head P t ts all) (All-filter (λ other. not (bytes_eq other t)) P (first_seen ts) (All_seen P ts (All-tail P t ts all)))

All_groups : (Q : List ℕ → Type 0) (P : Group → Type 0) (flags : List Compiled) → ((name : List ℕ) → Q name → P (group_in flags name)) → (names : List (List ℕ)) → All Q names → All P (groups_in flags names)
All_groups Q P flags each [] all = All-nil P
All_groups Q P flags each (n ∷ ns) all = All-cons P _ _ (each n (All-head Q n ns all)) (All_groups Q P flags each ns (All-tail Q n ns all))

All_packages : (P : List ℕ → Type 0) (flags : List Compiled) → All (λ flag. P flag.package) flags → All P (map (λ flag. flag.package) flags)
All_packages P [] all = All-nil P
All_packages P (f ∷ fs) all = All-cons P _ _ (All-head (λ flag. P flag.package) f fs all) (All_packages P fs (All-tail (λ flag. P flag.package) f fs all))

-- what holds of the groups of flags with lawful names
pub record IsLawfulGroup (group : Group) : Type 0 where
  pub own : HasOwnFlags group
  pub name : IsPackage group.0
  pub names : All (λ flag. IsName flag.flag) group.1

pub lawful_groups : (flags : List Compiled) → All (λ flag. IsPackage flag.package) flags → All (λ flag. IsName flag.flag) flags → All IsLawfulGroup (grouped flags)
lawful_groups flags packages names =
    subst (All IsLawfulGroup) (sym (grouped_is flags)) (All_groups IsPackage IsLawfulGroup flags (λ name is. record { own = own_flags flags name; name = is; names = All-filter (λ flag. bytes_eq flag.package name) (λ flag. IsName flag.flag) flags names })
    (package_names flags) (All_seen IsPackage (map (λ flag. flag.package) flags) (All_packages IsPackage flags packages)))

-- no two groups have one name
apart_from : (name : List ℕ) (names : List (List ℕ)) → list_any (bytes_eq name) names ≡ false → All (λ other. name ≢ other) names
apart_from name [] none = All-nil (λ other. name ≢ other)
apart_from name (n ∷ ns) none = by (bytes_eq name n) refl none (apart_from name ns)
  where
    by : (b : Bool) → bytes_eq name n ≡ b → list_any (bytes_eq name) (n ∷ ns) ≡ false → (list_any (bytes_eq name) ns ≡ false → All (λ other. name ≢ other) ns) → All (λ other. name ≢ other) (n ∷ ns)
    by true here none rest = let e : true ≡ false = rw here at none in absurd cc
    by false other none rest =
        let behind : list_any (bytes_eq name) ns ≡ false = rw other at none in
        All-cons (λ other. name ≢ other) n ns (λ same. let e : true ≡ false = sym ((bytes_eq-Decides name n).1 same) ∙ other in cc) (rest behind)

distinct_apart : (names : List (List ℕ)) → Distinct names → AreApart names
distinct_apart [] distinct = λ i j d lt within. absurd (omega arith)
distinct_apart (n ∷ ns) distinct = AllPairs-cons (λ a b. a ≢ b) n ns (apart_from n ns distinct.0) (distinct_apart ns distinct.1)

names_in : (flags : List Compiled) (names : List (List ℕ)) → map (λ (g : Group). g.0) (groups_in flags names) ≡ names
names_in flags [] = refl
names_in flags (n ∷ ns) = rw (names_in flags ns) refl

pub names_apart : (flags : List Compiled) → AreApart (map (λ (g : Group). g.0) (grouped flags))
names_apart flags =
    subst AreApart (sym (ap (map (λ (g : Group). g.0)) (grouped_is flags) ∙ names_in flags (package_names flags))) (distinct_apart (package_names flags) (Distinct-first_seen (map (λ flag. flag.package) flags)))

-- grouped flags are the flags in another order
grown_moved : (groups : List Group) (flag : Compiled) → IsPermutation (all_flags groups ++ flag ∷ []) (all_flags (grown groups flag))
grown_moved [] flag = IsPermutation-refl (flag ∷ [])
grown_moved (g ∷ gs) flag = by (bytes_eq flag.package g.0) refl (grown_moved gs flag)
  where
    by : (b : Bool) → bytes_eq flag.package g.0 ≡ b → IsPermutation (all_flags gs ++ flag ∷ []) (all_flags (grown gs flag)) → IsPermutation (all_flags (g ∷ gs) ++ flag ∷ []) (all_flags (grown (g ∷ gs) flag))
    by true here rest =
        rw (here, append_assoc g.1 (all_flags gs) (flag ∷ []), append_assoc g.1 (flag ∷ []) (all_flags gs)) (IsPermutation-append_right g.1 _ _ (IsPermutation-append_comm (all_flags gs) (flag ∷ [])))
    by false apart rest = rw (apart, append_assoc g.1 (all_flags gs) (flag ∷ [])) (IsPermutation-append_right g.1 _ _ rest)

folded_moved : (groups : List Group) (flags : List Compiled) → IsPermutation (all_flags groups ++ flags) (all_flags (fold grown groups flags))
folded_moved groups [] = rw (append-nil (all_flags groups)) (IsPermutation-refl (all_flags groups))
folded_moved groups (flag ∷ flags) =
    subst (λ (l : List Compiled). IsPermutation l (all_flags (fold grown (grown groups flag) flags))) (append_assoc (all_flags groups) (flag ∷ []) flags)
    (IsPermutation-trans _ (all_flags (grown groups flag) ++ flags) _ (IsPermutation-append_left flags _ _ (grown_moved groups flag)) (folded_moved (grown groups flag) flags))

pub grouped_moved : (flags : List Compiled) → IsPermutation flags (all_flags (grouped flags))
grouped_moved flags = folded_moved [] flags

-- ---- nodes

pub record IsGoodPackage (most : ℕ) (node : Package) : Type 0 where
  pub name : IsPackage node.name
  pub id : node.id ≤ most
  pub start : node.start ≤ most

pub good_packages : (id start most : ℕ) (groups : List Group) → id + length groups ≤ most → start + total groups ≤ most → All IsLawfulGroup groups → All (IsGoodPackage most) (packages_from id start groups)
good_packages id start most [] few low lawful = All-nil (IsGoodPackage most)
good_packages id start most (g ∷ gs) few low lawful =
    All-cons (IsGoodPackage most) _ _ (record { name = (All-head IsLawfulGroup g gs lawful).name; id = omega (arith, few); start = omega (arith, low) })
    (good_packages (id + 1) (start + length g.1) most gs (omega (arith, few)) (omega (arith, low)) (All-tail IsLawfulGroup g gs lawful))

pub record IsGoodFlag (count : ℕ) (node : Flag) : Type 0 where
  pub known : node.package_id < count
  pub name : IsName node.name
  pub index : node.index < 2 ^ 16

good_flags_from : (id index count : ℕ) (flags : List Compiled) → id < count → index + length flags ≤ 2 ^ 16 → All (λ flag. IsName flag.flag) flags → All (IsGoodFlag count) (flags_from id index flags)
good_flags_from id index count [] known few names = All-nil (IsGoodFlag count)
good_flags_from id index count (f ∷ fs) known few names =
    All-cons (IsGoodFlag count) _ _ (record { known = known; name = All-head (λ flag. IsName flag.flag) f fs names; index = omega (arith, few) })
    (good_flags_from id (index + 1) count fs known (omega (arith, few)) (All-tail (λ flag. IsName flag.flag) f fs names))

pub good_flags : (id count : ℕ) (groups : List Group) → id + length groups ≤ count → total groups ≤ 2 ^ 16 → All IsLawfulGroup groups → All (IsGoodFlag count) (flag_nodes_from id groups)
good_flags id count [] few low lawful = All-nil (IsGoodFlag count)
good_flags id count (g ∷ gs) few low lawful =
    All-append (IsGoodFlag count) _ _ (good_flags_from id 0 count g.1 (omega (arith, few)) (omega (arith, low)) (All-head IsLawfulGroup g gs lawful).names)
    (good_flags (id + 1) count gs (omega (arith, few)) (omega (arith, low)) (All-tail IsLawfulGroup g gs lawful))

pub ids_count : (id start : ℕ) (groups : List Group) → CountUp id (map (λ node. node.id) (packages_from id start groups))
ids_count id start [] = tt
ids_count id start (g ∷ gs) = (refl, ids_count (id + 1) (start + length g.1) gs)

pub names_of : (id start : ℕ) (groups : List Group) → map (λ node. node.name) (packages_from id start groups) ≡ map (λ (g : Group). g.0) groups
names_of id start [] = refl
names_of id start (g ∷ gs) = rw (names_of (id + 1) (start + length g.1) gs) refl

-- a package, its next aside
abbrev pub unlinked : Package → Package
unlinked node = record node { next = 0 }

pub unlinked_before : (id start : ℕ) (groups : List Group) → map unlinked (packages_from id start groups) ≡ packages_from id start groups
unlinked_before id start [] = refl
unlinked_before id start (g ∷ gs) = rw (unlinked_before (id + 1) (start + length g.1) gs) refl

-- ---- rows

abbrev row : (List ℕ) → (List ℕ) → Kind → Bool → ℕ → ℕ → Listed
row name flag kind value bits index = record { «package» = name; flag = flag; kind = kind; value = value; bits = bits; index = index }

same_row : (n n' : List ℕ) (f : List ℕ) (k : Kind) (v v' : Bool) (b b' i i' : ℕ) → n ≡ n' → v ≡ v' → b ≡ b' → i ≡ i' → row n f k v b i ≡ row n' f k v' b' i'
same_row n n' f k v v' b b' i i' p q r s = cc

-- what is listed of flags that stand one after another
abbrev pub rows_from : ℕ → List Compiled → List Listed
rows_from index [] = []
rows_from index (flag ∷ flags) = row flag.package flag.flag flag.kind flag.value (info_byte flag) index ∷ rows_from (index + 1) flags

rows_more : (index : ℕ) (flags more : List Compiled) → rows_from index (flags ++ more) ≡ rows_from index flags ++ rows_from (index + length flags) more
rows_more index [] more = let same : index + 0 ≡ index = omega arith in rw same refl
rows_more index (f ∷ fs) more =
    let same : index + suc (length fs) ≡ index + 1 + length fs = omega arith in
    rw (same, rows_more (index + 1) fs more) refl

value_seen : (b : Bool) → eqb (cond b 1 0) 1 ≡ b
value_seen true = refl
value_seen false = refl

module _ (parts : SetParts) where
  -- the parts have a package of this id, name and start
  pub record HasPackage (node : Package) : Type 0 where
    pub start : start_of (packages_of parts) node.id ≡ node.start
    pub name : unwrap_or (option_map (λ n. n.name) (package_with (packages_of parts) node.id)) [] ≡ node.name

  package_rows : (node : Package) → HasPackage node → (index : ℕ) (flags : List Compiled) (values infos : List ℕ) → All (λ flag. flag.package ≡ node.name) flags
      → drop (node.start + index) parts.values.bytes ≡ map value_byte flags ++ values → drop (node.start + index) parts.infos.bytes ≡ map info_byte flags ++ infos
      → map (listed_flag parts) (flags_from node.id index flags) ≡ rows_from (node.start + index) flags
  package_rows node has index [] values infos own v i = refl
  package_rows node has index (f ∷ fs) values infos own v i =
      let value = head_at parts.values.bytes (node.start + index) (value_byte f) (map value_byte fs ++ values) v in
      let info = head_at parts.infos.bytes (node.start + index) (info_byte f) (map info_byte fs ++ infos) i in
      let next : node.start + (index + 1) ≡ node.start + index + 1 = omega arith in
      let rest = package_rows node has (index + 1) fs values infos (All-tail (λ flag. flag.package ≡ node.name) f fs own) (rw next value.1) (rw next info.1) in
      let place : start_of (packages_of parts) node.id + index ≡ node.start + index = ap (λ (s : ℕ). s + index) has.start in
      let first = same_row _ f.package f.flag f.kind _ f.value _ (info_byte f) _ (node.start + index)
      (has.name ∙ sym (All-head (λ flag. flag.package ≡ node.name) f fs own))
      (ap (λ (k : ℕ). eqb (get_or parts.values.bytes k 0) 1) place ∙ ap (λ (b : ℕ). eqb b 1) value.0 ∙ value_seen f.value)
      (ap (λ (k : ℕ). get_or parts.infos.bytes k 0) place ∙ info.0)
      place in
      joined first (rest ∙ ap (λ (k : ℕ). rows_from k fs) next)
    where
      joined : {a b : Listed} {xs ys : List Listed} → a ≡ b → xs ≡ ys → a ∷ xs ≡ b ∷ ys
      joined p q = cc

  pub all_rows : (id start : ℕ) (groups : List Group) → All HasPackage (packages_from id start groups) → All IsLawfulGroup groups
      → drop start parts.values.bytes ≡ map value_byte (all_flags groups) → drop start parts.infos.bytes ≡ map info_byte (all_flags groups)
      → map (listed_flag parts) (flag_nodes_from id groups) ≡ rows_from start (all_flags groups)
  all_rows id start [] has lawful v i = refl
  all_rows id start (g ∷ gs) has lawful v i =
      let node : Package = record { name = g.0; id = id; start = start; next = 0 } in
      let v' : drop start parts.values.bytes ≡ map value_byte g.1 ++ map value_byte (all_flags gs) = v ∙ map-append value_byte g.1 (all_flags gs) in
      let i' : drop start parts.infos.bytes ≡ map info_byte g.1 ++ map info_byte (all_flags gs) = i ∙ map-append info_byte g.1 (all_flags gs) in
      let zero_is : start + 0 ≡ start = omega arith in
      let first : map (listed_flag parts) (flags_from id 0 g.1) ≡ rows_from start g.1 =
      package_rows node (All-head HasPackage _ _ has) 0 g.1 (map value_byte (all_flags gs)) (map info_byte (all_flags gs)) (All-head IsLawfulGroup g gs lawful).own (rw zero_is v') (rw zero_is i') ∙ ap (λ (k : ℕ). rows_from k g.1) zero_is in
      let behind = all_rows (id + 1) (start + length g.1) gs (All-tail HasPackage _ _ has) (All-tail IsLawfulGroup g gs lawful)
      (ap (λ (k : ℕ). drop (start + k) parts.values.bytes) (sym (length-map g.1 value_byte)) ∙ past parts.values.bytes (map value_byte g.1) (map value_byte (all_flags gs)) start v')
      (ap (λ (k : ℕ). drop (start + k) parts.infos.bytes) (sym (length-map g.1 info_byte)) ∙ past parts.infos.bytes (map info_byte g.1) (map info_byte (all_flags gs)) start i') in
      map-append (listed_flag parts) (flags_from id 0 g.1) (flag_nodes_from (id + 1) gs) ∙ rw (first, behind) (sym (rows_more start g.1 (all_flags gs)))

-- ---- what rows say

pub indexes_of : (index : ℕ) (flags : List Compiled) → CountUp index (map (λ (r : Listed). r.index) (rows_from index flags))
indexes_of index [] = tt
indexes_of index (f ∷ fs) = (refl, indexes_of (index + 1) fs)

kind_seen : (kind : Kind) → has_read_write (cond (is_read_write kind) 2 0) ≡ is_read_write kind
kind_seen ReadWrite = refl
kind_seen ReadOnly = refl
kind_seen Fixed = refl

pub kinds_of : (index : ℕ) (flags : List Compiled) → All (λ (r : Listed). has_read_write r.bits ≡ is_read_write r.kind) (rows_from index flags)
kinds_of index [] = All-nil (λ (r : Listed). has_read_write r.bits ≡ is_read_write r.kind)
kinds_of index (f ∷ fs) = All-cons (λ (r : Listed). has_read_write r.bits ≡ is_read_write r.kind) _ _ (kind_seen f.kind) (kinds_of (index + 1) fs)
