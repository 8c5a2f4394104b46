-- The flags that a set lists: each has a package, a lawful name and a value, and no two have one key.
use Rattle.std.proofs.Common.{◌≡◌, ◌≢◌, ℕ, zero, suc, ◌+◌, ◌<◌, Bool, true, false, cond, eqb, ◌||◌, List, [], ◌∷◌, length, get_or, drop, map, All, Option, Some, None, refl, sym, ap, subst, ◌∙◌, ◌⊎◌, arith, inl, inr}
use Rattle.std.specs.Prelude.{find, slice_index_or}
use Rattle.std.specs.List.{list_any}
use Rattle.std.specs.Option.{option_map}
use Rattle.std.specs.Ordering.{eq_by_cmp}
use Rattle.std.proofs.lemmas.Bool.{cases_order, eqb-true}
use Rattle.std.proofs.lemmas.List.{get_or-map, length-map, get_or-drop, length-drop}
use Rattle.acfg_base.specs.Names.{IsPackage}
use Rattle.acfg_base.specs.declared.releases.Entry.{Entry}
use Rattle.acfg_base.specs.declared.releases.Kind.TheVariants.{ReadWrite}
use Rattle.acfg_base.specs.Release.{Key, key_cmp, key_of, facts_of, release_of, HasTwins}
use Rattle.acfg_base.proofs.Keys.{key_total, key_exact}
use Rattle.acfg_base.proofs.Rows.{map_of-map, Equal_of}
use Rattle.acfg_views.specs.declared.nodes.PackageNode.{PackageNode}
use Rattle.acfg_views.specs.Layout.{Package, Flag, package_node, flag_node, first_node_of}
use Rattle.acfg_views.specs.Reading.{OpenList, byte_in, package_of}
use Rattle.acfg_images.specs.declared.purpose.Use.{Use}
use Rattle.acfg_images.specs.Files.{Files}
use Rattle.acfg_images.specs.Links.{NodeKey, Link, links_from, package_key, flag_node_key, HaveOwnKeys}
use Rattle.acfg_images.specs.Set.{SetParts, IsSetOf, packages_of, flags_of, package_with, start_of, index_of, listed_flag, listed_key, release_in}
use Rattle.acfg_images.specs.Faults.{Opened, packages_in, flags_in, parts_in}
use Rattle.acfg_images.specs.Listing.{entry_of, HasPackages, IsListable}
use Rattle.acfg_images.proofs.Pigeon.{AreNumbered-below, counted_some, two_of}
use Rattle.acfg_images.proofs.AgreeAre.{HasCount}

-- ---- what a search finds

module _ {Y : Type 0} (p : Y → Bool) where
  -- what a search finds stands at a place, and passes
  record FindsAt (ys : List Y) (y : Y) : Type 0 where
    place : ℕ
    within : place < length ys
    there : (d : Y) → get_or ys place d ≡ y
    passes : p y ≡ true

  found_at : (ys : List Y) (y : Y) → find p ys ≡ Some y → FindsAt ys y
  found_at [] y e = absurd cc
  found_at (x ∷ ys) y e = go (p x) refl (found_at ys y) e
    where
      further : FindsAt ys y → FindsAt (x ∷ ys) y
      further f = record { place = suc f.place; within = omega (arith, f.within); there = f.there; passes = f.passes }

      go : (b : Bool) → p x ≡ b → (find p ys ≡ Some y → FindsAt ys y) → cond b (Some x) (find p ys) ≡ Some y → FindsAt (x ∷ ys) y
      go true is rest h = let same : x ≡ y = cc in subst (FindsAt (x ∷ ys)) same (record { place = 0; within = omega arith; there = λ d. refl; passes = is })
      go false is rest h = further (rest h)

  found_some : (ys : List Y) → list_any p ys ≡ true → (y : Y) × (find p ys ≡ Some y)
  found_some [] e = absurd cc
  found_some (x ∷ ys) e = go (p x) (found_some ys) e
    where
      go : (b : Bool) → (list_any p ys ≡ true → (y : Y) × (find p ys ≡ Some y)) → (b || list_any p ys) ≡ true → (y : Y) × (cond b (Some x) (find p ys) ≡ Some y)
      go true rest h = (x, refl)
      go false rest h = rest h

-- ---- links stand as their nodes do

module _ {N : Type 0} (node : N → List ℕ) (key : N → NodeKey) (next : N → ℕ) where
  pub length-links_from : (at : ℕ) (ns : List N) → length (links_from node key next at ns) ≡ length ns
  length-links_from at [] = refl
  length-links_from at (n ∷ ns) = let h = length-links_from (at + length (node n)) ns in omega arith

  pub key_at : (at : ℕ) (ns : List N) (k : ℕ) (d : Link) (e : N) → k < length ns → (get_or (links_from node key next at ns) k d).key ≡ key (get_or ns k e)
  key_at at [] k d e lt = absurd (omega arith)
  key_at at (n ∷ ns) zero d e lt = refl
  key_at at (n ∷ ns) (suc k) d e lt = key_at (at + length (node n)) ns k d e (omega arith)

  -- nodes at two places have two keys
  apart : (at : ℕ) (ns : List N) → HaveOwnKeys (links_from node key next at ns) → (i j : ℕ) (e : N) → i < j → j < length ns → key (get_or ns i e) ≢ key (get_or ns j e)
  apart at ns own i j e lt in' same =
      let d : Link = record { at = 0; key = record { owner = None; name = [] }; next = 0 } in
      own i j d lt (omega (arith, length-links_from at ns)) (key_at at ns i d e (omega arith) ∙ same ∙ sym (key_at at ns j d e in'))

  -- nodes with one key stand at one place
  one_place : (at : ℕ) (ns : List N) → HaveOwnKeys (links_from node key next at ns) → (i j : ℕ) (e : N) → i < length ns → j < length ns → key (get_or ns i e) ≡ key (get_or ns j e) → i ≡ j
  one_place at ns own i j e i_in j_in same = go (cases_order i j)
    where
      go : (i ≡ j) ⊎ ((i < j) ⊎ (j < i)) → i ≡ j
      go (inl e') = e'
      go (inr (inl lt)) = absurd (apart at ns own i j e lt j_in same)
      go (inr (inr lt)) = absurd (apart at ns own j i e lt i_in (sym same))

abbrev blank_package : Package
blank_package = record { name = []; id = 0; start = 0; next = 0 }

abbrev blank_flag : Flag
blank_flag = record { package_id = 0; name = []; kind = ReadWrite; index = 0; next = 0 }

module _ (purpose : Use) (files : Files) (parts : SetParts) (is : IsSetOf files purpose parts) where
  packages : List Package
  packages = packages_of parts

  abbrev flags : List Flag
  flags = flags_of parts

  -- the package of a flag
  record HasPackage (flag : Flag) : Type 0 where
    node : Package
    found : package_with (packages_of parts) flag.package_id ≡ Some node
    at : FindsAt (λ node. eqb node.id flag.package_id) (packages_of parts) node

  has_package : (j : ℕ) (d : Flag) → j < length flags → HasPackage (get_or flags j d)
  has_package j d lt =
      let flag = get_or flags j d in
      let id = flag.package_id in
      let below = is.agree.packages j d lt in
      let once = is.agree.ids id (omega (arith, below, length-map (packages_of parts) (λ (node : Package). node.id))) in
      let some = counted_some (λ (node : Package). node.id) id (packages_of parts) (omega (arith, once)) in
      let found = found_some (λ (node : Package). eqb node.id id) (packages_of parts) some in
      record { node = found.0; found = found.1; at = found_at (λ (node : Package). eqb node.id id) (packages_of parts) found.0 found.1 }

  -- its name is that of the listed flag
  package_is : (flag : Flag) (has : HasPackage flag) → (listed_flag parts flag).package ≡ has.node.name
  package_is flag has = rw has.found refl

  lawful_package : (flag : Flag) (has : HasPackage flag) → IsPackage has.node.name
  lawful_package flag has = let h = is.package_map.nodes has.at.place has.node has.at.within in subst (λ (n : Package). IsPackage n.name) (has.at.there has.node) h.name

  -- packages of one name are one
  same_id : (a b : Flag) (p : HasPackage a) (q : HasPackage b) → p.node.name ≡ q.node.name → a.package_id ≡ b.package_id
  same_id a b p q same =
      let keys : package_key p.node ≡ package_key q.node = ap (λ (name : List ℕ). key name) same in
      let place : p.at.place ≡ q.at.place =
      one_place package_node package_key (λ n. n.next) (first_node_of parts.package_map) (packages_of parts) is.packages_linked.keys p.at.place q.at.place blank_package p.at.within q.at.within
      (ap package_key (p.at.there blank_package) ∙ keys ∙ sym (ap package_key (q.at.there blank_package))) in
      let node : p.node ≡ q.node = sym (p.at.there blank_package) ∙ ap (λ (k : ℕ). get_or (packages_of parts) k blank_package) place ∙ q.at.there blank_package in
      sym (eqb-true _ _ p.at.passes) ∙ ap (λ (n : Package). n.id) node ∙ eqb-true _ _ q.at.passes
    where
      key : List ℕ → NodeKey
      key name = record { owner = None; name = name }

  pub no_twin_entries : HasTwins (map (λ flag. entry_of (listed_flag parts flag)) (flags_of parts)) → ⊥
  no_twin_entries (key, more) =
      let f : Flag → Entry = λ flag. entry_of (listed_flag parts flag) in
      let two = two_of (λ entry. eq_by_cmp key_cmp key (key_of entry)) (map f flags) more in
      let count = length-map flags f in
      let high : two.1 < length flags = omega (arith, two.3, count) in
      let low : two.0 < length flags = omega (arith, two.2, high) in
      let of : (i : ℕ) → i < length flags → eq_by_cmp key_cmp key (key_of (get_or (map f flags) i (f blank_flag))) ≡ true → key ≡ key_of (f (get_or flags i blank_flag)) =
      λ i within same. key_exact key _ (Equal_of _ same) ∙ ap key_of (get_or-map f flags i blank_flag (f blank_flag) within) in
      let same : key_of (f (get_or flags two.0 blank_flag)) ≡ key_of (f (get_or flags two.1 blank_flag)) = sym (of two.0 low (two.4 (f blank_flag))) ∙ of two.1 high (two.5 (f blank_flag)) in
      let p = has_package two.0 blank_flag low in
      let q = has_package two.1 blank_flag high in
      let names : p.node.name ≡ q.node.name = sym (package_is _ p) ∙ ap (λ (k : Key). k.0) same ∙ package_is _ q in
      let ids = same_id _ _ p q names in
      apart flag_node flag_node_key (λ n. n.next) (first_node_of parts.flag_map) flags is.flags_linked.keys two.0 two.1 blank_flag two.2 high (both _ _ _ _ ids (ap (λ (k : Key). k.1) same))
    where
      key_from : ℕ → List ℕ → NodeKey
      key_from id name = record { owner = Some id; name = name }

      both : (a b : ℕ) (m n : List ℕ) → a ≡ b → m ≡ n → key_from a m ≡ key_from b n
      both a b m n p q = cc

  -- they make the release
  pub released : release_of (map (λ flag. entry_of (listed_flag parts flag)) (flags_of parts)) ≡ release_in parts
  released =
      map_of-map key_total key_of (λ flag. entry_of (listed_flag parts flag)) facts_of (flags_of parts)
      ∙ sym (map_of-map key_total listed_key (listed_flag parts) (λ row. (row.kind, row.value)) (flags_of parts))

pub listable : (purpose : Use) (files : Files) (opened : Opened) → IsSetOf files purpose (parts_in opened) → HasCount opened.values → All (IsListable opened) (flags_in opened)
listable purpose files opened is ends j d lt =
    let parts = parts_in opened in
    let flag = get_or (flags_of parts) j d in
    let has = has_package purpose files parts is j d lt in
    let index = index_of (packages_of parts) in
    let len = length-map (flags_of parts) index in
    let h = AreNumbered-below (map index (flags_of parts)) is.agree.indexes j (index d) (omega (arith, len)) in
    let e : get_or (map index (flags_of parts)) j (index d) ≡ index flag = get_or-map index (flags_of parts) j d (index d) lt in
    record {
      known = is.agree.packages j d lt;
      «package» = subst IsPackage (sym (package_is purpose files parts is flag has)) (lawful_package purpose files parts is flag has);
      name = (is.flag_map.nodes j d lt).name;
      index = omega (arith, h, e, len, is.agree.value_count, length-drop opened.values.first_byte opened.values.file);
    }

-- ---- the table of packages

-- what is found in a table
module _ (opened : Opened) (table : List (Option PackageNode)) (has : HasPackages table (packages_in opened)) (id : ℕ) (within : id < length table) (node : PackageNode) (is : Some node ≡ slice_index_or table id None) where
  pub table_package : package_with (packages_in opened) id ≡ Some (package_of node)
  table_package = sym (has id within) ∙ ap (option_map package_of) (sym is)

  pub table_start : start_of (packages_in opened) id ≡ node.start
  table_start = rw table_package refl

pub value_is : (list : OpenList) (i : ℕ) → eqb (byte_in list i) 1 ≡ eqb (get_or (drop list.first_byte list.file) i 0) 1
value_is list i = ap (λ (b : ℕ). eqb b 1) (sym (get_or-drop list.first_byte list.file i 0))
