-- What a set lists, by the nodes that the look-ups find.
use Rattle.std.proofs.Common.{◌≡◌, ℕ, ◌+◌, ◌<◌, ◌≤◌, Bool, true, false, cond, eqb, ltb, ◌&&◌, ◌||◌, List, [], ◌∷◌, ◌++◌, length, get_or, drop, map, Option, Some, None, refl, sym, ap, ◌∙◌, arith}
use Rattle.std.specs.Prelude.{find, count_by, All, unwrap_or}
use Rattle.std.specs.Option.{option_map}
use Rattle.std.specs.List.{list_any}
use Rattle.std.specs.Str.{bytes_eq}
use Rattle.std.proofs.lemmas.Bool.Decides.{nat_tests}
use Rattle.std.proofs.lemmas.List.{get_or-drop}
use Rattle.std.proofs.lemmas.List.Folds.{list_any-append}
use Rattle.std.proofs.lemmas.List.Elements.{All-cons}
use Rattle.std.proofs.lemmas.List.Sums.{count_by-le-length}
use Rattle.acfg_base.specs.declared.releases.Kind.{Kind}
use Rattle.acfg_views.specs.Layout.{Package, Flag, package_node}
use Rattle.acfg_views.specs.Reading.{byte_in, flag_at}
use Rattle.acfg_images.specs.Links.{NodeKey, Link, links_from, same_key, package_key}
use Rattle.acfg_images.specs.Set.{Listed, package_with, index_of, listed, listed_flag}
use Rattle.acfg_images.specs.Faults.{Opened, HasNoFault, twice_behind, stray_id, having, packages_in, flags_in, parts_in}
use Rattle.acfg_images.proofs.Keys.{same_key-sym, same_key-is}
use Rattle.acfg_images.proofs.Walk.{length-nodes_in}
use Rattle.acfg_lookup.specs.declared.found.Found.{Found}
use Rattle.acfg_lookup.specs.declared.found.PackageAt.{PackageAt}
use Rattle.acfg_lookup.specs.Lookup.{package_named, flag_named, package_found, flag_found}
use Rattle.acfg_lookup.proofs.Counting.{count-step, count-hit, count-miss, found_passes, found_of_any, count_any, one_of, all_pass, find_mapped, find_none, having_it, EachHad, below_all, once}
use Rattle.acfg_lookup.proofs.Sound.{Sound, sound}

abbrev pub told : Kind → Bool → ℕ → ℕ → Found
told kind value bits index = record { kind = kind; value = value; bits = bits; index = index }

-- ---- each key once

-- how many of these nodes have a key, and whether an earlier one has it
abbrev having_key : List NodeKey → List Link → NodeKey → ℕ
having_key earlier links k = cond {A = ℕ} (list_any (same_key k) earlier) 1 0 + count_by (λ l. same_key l.key k) links

number : (b c : Bool) → b ≡ c → cond {A = ℕ} b 1 0 ≡ cond {A = ℕ} c 1 0
number b c e = ap (λ (d : Bool). cond {A = ℕ} d 1 0) e

or_true : (b : Bool) → (b || (true || false)) ≡ true
or_true true = refl
or_true false = refl

or_false : (b : Bool) → (b || (false || false)) ≡ b
or_false true = refl
or_false false = refl

each_once : (earlier : List NodeKey) (links : List Link) (k : NodeKey) → twice_behind earlier links ≡ None → having_key earlier links k ≤ 1
each_once earlier [] k e = at_most_one (list_any (same_key k) earlier)
  where
    at_most_one : (b : Bool) → cond {A = ℕ} b 1 0 + 0 ≤ 1
    at_most_one true = omega arith
    at_most_one false = omega arith
each_once earlier (link ∷ links) k e = go (list_any (same_key link.key) earlier) refl e (each_once (earlier ++ link.key ∷ []) links k)
  where
    any : list_any (same_key k) (earlier ++ link.key ∷ []) ≡ (list_any (same_key k) earlier || (same_key k link.key || false))
    any = list_any-append (same_key k) earlier (link.key ∷ [])

    this : (b : Bool) → same_key link.key k ≡ b → list_any (same_key link.key) earlier ≡ false → having_key (earlier ++ link.key ∷ []) links k ≤ 1 → having_key earlier (link ∷ links) k ≤ 1
    this true is new rest =
        let known : list_any (same_key k) earlier ≡ false = ap (λ (q : NodeKey). list_any (same_key q) earlier) (sym (same_key-is link.key k is)) ∙ new in
        let now : list_any (same_key k) (earlier ++ link.key ∷ []) ≡ true = any ∙ ap (λ (b : Bool). list_any (same_key k) earlier || (b || false)) (same_key-sym k link.key ∙ is) ∙ or_true (list_any (same_key k) earlier) in
        let a = number _ _ known in
        let b = number _ _ now in
        let c = count-hit (λ (l : Link). same_key l.key k) link links is in
        omega arith
    this false is new rest =
        let now : list_any (same_key k) (earlier ++ link.key ∷ []) ≡ list_any (same_key k) earlier = any ∙ ap (λ (b : Bool). list_any (same_key k) earlier || (b || false)) (same_key-sym k link.key ∙ is) ∙ or_false (list_any (same_key k) earlier) in
        let b = number _ _ now in
        let c = count-miss (λ (l : Link). same_key l.key k) link links is in
        omega arith

    go : (b : Bool) → list_any (same_key link.key) earlier ≡ b → cond b (Some link.at) (twice_behind (earlier ++ link.key ∷ []) links) ≡ None
        → (twice_behind (earlier ++ link.key ∷ []) links ≡ None → having_key (earlier ++ link.key ∷ []) links k ≤ 1) → having_key earlier (link ∷ links) k ≤ 1
    go true old f later = absurd cc
    go false new f later = this (same_key link.key k) refl new (later f)

counted : {N : Type 0} (node : N → List ℕ) (key : N → NodeKey) (next : N → ℕ) (k : NodeKey) (at : ℕ) (nodes : List N) → count_by (λ l. same_key l.key k) (links_from node key next at nodes) ≡ count_by (λ n. same_key (key n) k) nodes
counted node key next k at [] = refl
counted node key next k at (n ∷ ns) =
    let later = counted node key next k (at + length (node n)) ns in
    let link : Link = record { at = at; key = key n; next = next n } in
    let a = count-step (λ (l : Link). same_key l.key k) link (links_from node key next (at + length (node n)) ns) in
    let b = count-step (λ n. same_key (key n) k) n ns in
    omega arith

-- ---- packages by names and ids

module _ (opened : Opened) (packages : List Package) (flags : List Flag) (s : Sound opened packages flags) where
  name_once : (name : List ℕ) → count_by (λ (n : Package). bytes_eq n.name name) packages ≤ 1
  name_once name =
      let k : NodeKey = record { owner = None; name = name } in
      let all = each_once [] (links_from package_node package_key (λ n. n.next) opened.package_map.first_node packages) k s.package_nodes.keys in
      let here = counted package_node package_key (λ n. n.next) k opened.package_map.first_node packages in
      omega arith

  ids_had : EachHad (λ (n : Package). n.id) (length packages) packages
  ids_had j lt = count_any (λ (n : Package). eqb n.id j) packages (s.ids j lt)

  -- a package that is found has an id that no other has
  id_once : (p : Package → Bool) (n : Package) → find p packages ≡ Some n → count_by (λ (m : Package). eqb m.id n.id) packages ≤ 1
  id_once p n found =
      let all = below_all (λ (m : Package). m.id) (length packages) packages ids_had in
      let most = count_by-le-length (λ (m : Package). ltb m.id (length packages)) packages in
      let within = all_pass p (λ (m : Package). ltb m.id (length packages)) packages n all found in
      once (λ (m : Package). m.id) (length packages) packages ids_had most n.id (less n.id (length packages) within)
    where
      less : (a b : ℕ) → ltb a b ≡ true → a < b
      less a b e = grind (arith, nat_tests)

  same_id : (n : Package) → eqb n.id n.id ≡ true
  same_id n = grind (arith, nat_tests)

  -- the package of a name is the one of its id
  with_id : (name : List ℕ) (n : Package) → package_named packages name ≡ Some n → package_with packages n.id ≡ Some n
  with_id name n found = one_of (λ (m : Package). bytes_eq m.name name) (λ (m : Package). eqb m.id n.id) packages n (id_once _ n found) found (same_id n)

  known_ids : (count : ℕ) (fs : List Flag) → stray_id count fs ≡ None → All (λ flag. flag.package_id < count) fs
  known_ids count [] e = λ k d lt. absurd (omega arith)
  known_ids count (flag ∷ fs) e = go (ltb flag.package_id count) refl e (known_ids count fs)
    where
      less : (a b : ℕ) → ltb a b ≡ true → a < b
      less a b e = grind (arith, nat_tests)

      go : (b : Bool) → ltb flag.package_id count ≡ b → cond b (stray_id count fs) (Some flag.package_id) ≡ None → (stray_id count fs ≡ None → All (λ flag. flag.package_id < count) fs) → All (λ flag. flag.package_id < count) (flag ∷ fs)
      go true known f later = All-cons (λ (flag : Flag). flag.package_id < count) flag fs (less _ _ known) (later f)
      go false stray f later = absurd cc

  -- ---- rows

  abbrev name_of : Flag → List ℕ
  name_of flag = unwrap_or (option_map (λ (n : Package). n.name) (package_with packages flag.package_id)) []

  -- a flag's package
  package_of_flag : (id : ℕ) → id < length packages → (n : Package) × (package_with packages id ≡ Some n)
  package_of_flag id lt = found_of_any (λ (n : Package). eqb n.id id) packages (s.ids id lt)

  named_is : (name : List ℕ) (p n : Package) → package_named packages name ≡ Some p → package_named packages name ≡ Some n → p ≡ n
  named_is name p n a b = let e = sym a ∙ b in cc

  with_is : (id : ℕ) (p n : Package) → package_with packages id ≡ Some p → package_with packages id ≡ Some n → p ≡ n
  with_is id p n a b = let e = sym a ∙ b in cc

  -- a row's package has a name exactly where the flag is of the package that is found by it
  of_package : (name : List ℕ) (p : Package) → package_named packages name ≡ Some p → (flag : Flag) → flag.package_id < length packages → bytes_eq (name_of flag) name ≡ eqb flag.package_id p.id
  of_package name p found flag lt =
      let r = package_of_flag flag.package_id lt in
      let text : name_of flag ≡ r.0.name = ap (λ (o : Option Package). unwrap_or (option_map (λ (n : Package). n.name) o) []) r.1 in
      ap (λ (t : List ℕ). bytes_eq t name) text ∙ go r.0 r.1 (bytes_eq r.0.name name) (eqb flag.package_id p.id) refl refl
    where
      same : (a b : ℕ) → eqb a b ≡ true → a ≡ b
      same a b e = grind (arith, nat_tests)

      equal : (a b : ℕ) → a ≡ b → eqb a b ≡ true
      equal a b e = grind (arith, nat_tests)

      go : (n : Package) → package_with packages flag.package_id ≡ Some n → (a b : Bool) → bytes_eq n.name name ≡ a → eqb flag.package_id p.id ≡ b → a ≡ b
      go n is true true hit here = refl
      go n is false false miss there = refl
      go n is true false hit there =
          let one = one_of (λ (m : Package). eqb m.id flag.package_id) (λ (m : Package). bytes_eq m.name name) packages n (name_once name) is hit in
          let it : p ≡ n = named_is name p n found one in
          let id = same n.id flag.package_id (found_passes (λ (m : Package). eqb m.id flag.package_id) packages n is) in
          let here : eqb flag.package_id p.id ≡ true = equal flag.package_id p.id (sym id ∙ ap (λ (m : Package). m.id) (sym it)) in
          absurd (let wrong : true ≡ false = sym here ∙ there in cc)
      go n is false true miss here =
          let id = same flag.package_id p.id here in
          let it : p ≡ n = with_is flag.package_id p n (ap (package_with packages) id ∙ with_id name p found) is in
          let hit = found_passes (λ (m : Package). bytes_eq m.name name) packages p found in
          let wrong : true ≡ false = sym hit ∙ ap (λ (m : Package). bytes_eq m.name name) it ∙ miss in
          absurd cc

  of_none : (name : List ℕ) → package_named packages name ≡ None → (flag : Flag) → flag.package_id < length packages → bytes_eq (name_of flag) name ≡ false
  of_none name none flag lt =
      let r = package_of_flag flag.package_id lt in
      let text : name_of flag ≡ r.0.name = ap (λ (o : Option Package). unwrap_or (option_map (λ (n : Package). n.name) o) []) r.1 in
      ap (λ (t : List ℕ). bytes_eq t name) text ∙ go r.0 r.1 (bytes_eq r.0.name name) refl
    where
      go : (n : Package) → package_with packages flag.package_id ≡ Some n → (a : Bool) → bytes_eq n.name name ≡ a → bytes_eq n.name name ≡ false
      go n is false miss = miss
      go n is true hit =
          let one = one_of (λ (m : Package). eqb m.id flag.package_id) (λ (m : Package). bytes_eq m.name name) packages n (name_once name) is hit in
          absurd (let wrong = sym none ∙ one in cc)

  -- ---- global indexes

  counted_index : (k : ℕ) (fs : List Flag) → having (map (index_of packages) fs) k ≡ having_it (index_of packages) k fs
  counted_index k [] = refl
  counted_index k (flag ∷ fs) =
      let later = counted_index k fs in
      let a = count-step (λ (n : ℕ). eqb n k) (index_of packages flag) (map (index_of packages) fs) in
      let b = count-step (λ (f : Flag). eqb (index_of packages f) k) flag fs in
      omega arith

  -- the index of a flag that is found
  index_within : (p : Flag → Bool) (flag : Flag) → find p flags ≡ Some flag → index_of packages flag < length flags
  index_within p flag found =
      let had : EachHad (index_of packages) (length flags) flags = λ k lt. let one = s.indexes k lt in let here = counted_index k flags in omega arith in
      let all = below_all (index_of packages) (length flags) flags had in
      less _ _ (all_pass p (λ (f : Flag). ltb (index_of packages f) (length flags)) flags flag all found)
    where
      less : (a b : ℕ) → ltb a b ≡ true → a < b
      less a b e = grind (arith, nat_tests)

  index_is : (name text : List ℕ) (p : Package) (flag : Flag) → package_named packages name ≡ Some p → flag_named flags p.id text ≡ Some flag → index_of packages flag ≡ p.start + flag.index
  index_is name text p flag found flag_found =
      let here = found_passes (λ (f : Flag). eqb f.package_id p.id && bytes_eq f.name text) flags flag flag_found in
      let id = first (eqb flag.package_id p.id) (bytes_eq flag.name text) here in
      let is : package_with packages flag.package_id ≡ Some p = ap (package_with packages) (same flag.package_id p.id id) ∙ with_id name p found in
      ap (λ (o : Option Package). unwrap_or (option_map (λ (n : Package). n.start) o) 0 + flag.index) is
    where
      same : (a b : ℕ) → eqb a b ≡ true → a ≡ b
      same a b e = grind (arith, nat_tests)

      first : (a b : Bool) → (a && b) ≡ true → a ≡ true
      first true b e = refl
      first false b e = absurd cc

-- ---- what the set lists

module _ (opened : Opened) (none : HasNoFault opened) (name text : List ℕ) where
  abbrev is_row : Listed → Bool
  is_row row = bytes_eq row.package name && bytes_eq row.flag text

  -- without the package, nothing
  pub listed_nowhere : package_named (packages_in opened) name ≡ None → listed (parts_in opened) name text ≡ None
  listed_nowhere absent =
      let s = sound opened none in
      let ids = known_ids opened (packages_in opened) (flags_in opened) s (length (packages_in opened)) (flags_in opened) s.known in
      find_mapped (listed_flag (parts_in opened)) is_row (λ _. false) (flags_in opened)
      (λ k d lt. ap (λ (b : Bool). b && bytes_eq (get_or (flags_in opened) k d).name text) (of_none opened (packages_in opened) (flags_in opened) s name absent (get_or (flags_in opened) k d) (ids k d lt)))
      ∙ ap (option_map (listed_flag (parts_in opened))) (find_none (flags_in opened))

  module _ (p : Package) (found : package_named (packages_in opened) name ≡ Some p) where
    -- with it, the flag of its id
    pub listed_there : listed (parts_in opened) name text ≡ option_map (listed_flag (parts_in opened)) (flag_named (flags_in opened) p.id text)
    listed_there =
        let s = sound opened none in
        let ids = known_ids opened (packages_in opened) (flags_in opened) s (length (packages_in opened)) (flags_in opened) s.known in
        find_mapped (listed_flag (parts_in opened)) is_row (λ f. eqb f.package_id p.id && bytes_eq f.name text) (flags_in opened)
        (λ k d lt. ap (λ (b : Bool). b && bytes_eq (get_or (flags_in opened) k d).name text) (of_package opened (packages_in opened) (flags_in opened) s name p found (get_or (flags_in opened) k d) (ids k d lt)))

    module _ (flag : Flag) (flag_there : flag_named (flags_in opened) p.id text ≡ Some flag) where
      -- its index is that of a byte of the lists
      pub index_room : p.start + flag.index < opened.flag_map.count
      index_room =
          let s = sound opened none in
          let within = index_within opened (packages_in opened) (flags_in opened) s _ flag flag_there in
          let is = index_is opened (packages_in opened) (flags_in opened) s name text p flag found flag_there in
          let count = length-nodes_in flag_at opened.flag_map (flags_in opened) s.flag_nodes.read_so in
          omega arith

      pub in_values : p.start + flag.index < opened.values.count
      in_values = let s = sound opened none in let room = index_room in let count = s.values in omega arith

      pub in_infos : p.start + flag.index < opened.infos.count
      in_infos = let s = sound opened none in let room = index_room in let count = s.infos in omega arith

      pub flag_told : (value : Bool) (bits index : ℕ) → index ≡ p.start + flag.index → value ≡ eqb (byte_in opened.values index) 1 → bits ≡ byte_in opened.infos index
          → Some (told flag.kind value bits index) ≡ option_map flag_found (listed (parts_in opened) name text)
      flag_told value bits index index_due value_due bits_due =
          let s = sound opened none in
          let is : index ≡ index_of (packages_in opened) flag = index_due ∙ sym (index_is opened (packages_in opened) (flags_in opened) s name text p flag found flag_there) in
          let at_value : value ≡ eqb (get_or (drop opened.values.first_byte opened.values.file) (index_of (packages_in opened) flag) 0) 1 =
          value_due ∙ ap (λ (b : ℕ). eqb b 1) (sym (get_or-drop opened.values.first_byte opened.values.file index 0)) ∙ ap (λ (i : ℕ). eqb (get_or (drop opened.values.first_byte opened.values.file) i 0) 1) is in
          let at_bits : bits ≡ get_or (drop opened.infos.first_byte opened.infos.file) (index_of (packages_in opened) flag) 0 =
          bits_due ∙ sym (get_or-drop opened.infos.first_byte opened.infos.file index 0) ∙ ap (λ (i : ℕ). get_or (drop opened.infos.first_byte opened.infos.file) i 0) is in
          ap (λ (f : Found). Some f) (alike flag.kind value _ bits _ index _ at_value at_bits is) ∙ ap (option_map flag_found) (ap (option_map (listed_flag (parts_in opened))) (sym flag_there) ∙ sym listed_there)
        where
          alike : (kind : Kind) (v v' : Bool) (b b' i i' : ℕ) → v ≡ v' → b ≡ b' → i ≡ i' → told kind v b i ≡ told kind v' b' i'
          alike kind v v' b b' i i' p q r = cc

-- ---- as the code has it

told_of : (o : Option Package) (at : PackageAt) → Some at ≡ option_map package_found o → (p : Package) × (o ≡ Some p) × (package_found p ≡ at)
told_of None at e = absurd cc
told_of (Some p) at e = (p, refl, cc)

untold : (o : Option Package) → None ≡ option_map package_found o → o ≡ None
untold None e = refl
untold (Some p) e = absurd cc

module _ (opened : Opened) (none : HasNoFault opened) (name text : List ℕ) where
  pub no_package : None ≡ option_map package_found (package_named (packages_in opened) name) → None ≡ option_map flag_found (listed (parts_in opened) name text)
  no_package e = ap (option_map flag_found) (sym (listed_nowhere opened none name text (untold (package_named (packages_in opened) name) e)))

  module _ (at : PackageAt) (package_so : Some at ≡ option_map package_found (package_named (packages_in opened) name)) where
    pub no_flag : None ≡ flag_named (flags_in opened) at.id text → None ≡ option_map flag_found (listed (parts_in opened) name text)
    no_flag e =
        let p = told_of (package_named (packages_in opened) name) at package_so in
        let there = listed_there opened none name text p.0 p.1 in
        let absent : flag_named (flags_in opened) p.0.id text ≡ None = ap (λ (a : PackageAt). flag_named (flags_in opened) a.id text) p.2 ∙ sym e in
        ap (option_map flag_found) (sym (there ∙ ap (option_map (listed_flag (parts_in opened))) absent))

    module _ (flag : Flag) (flag_so : Some flag ≡ flag_named (flags_in opened) at.id text) (index : ℕ) (index_due : index ≡ at.start + flag.index) where
      found_so : (p : Package) → package_found p ≡ at → flag_named (flags_in opened) p.id text ≡ Some flag
      found_so p is = ap (λ (a : PackageAt). flag_named (flags_in opened) a.id text) is ∙ sym flag_so

      due : (p : Package) → package_found p ≡ at → index ≡ p.start + flag.index
      due p is = index_due ∙ ap (λ (a : PackageAt). a.start + flag.index) (sym is)

      pub room : index < opened.flag_map.count
      room =
          let p = told_of (package_named (packages_in opened) name) at package_so in
          let d = due p.0 p.2 in
          let r = index_room opened none name text p.0 p.1 flag (found_so p.0 p.2) in
          omega arith

      pub value_room : index < opened.values.count
      value_room =
          let p = told_of (package_named (packages_in opened) name) at package_so in
          let d = due p.0 p.2 in
          let r = in_values opened none name text p.0 p.1 flag (found_so p.0 p.2) in
          omega arith

      pub info_room : index < opened.infos.count
      info_room =
          let p = told_of (package_named (packages_in opened) name) at package_so in
          let d = due p.0 p.2 in
          let r = in_infos opened none name text p.0 p.1 flag (found_so p.0 p.2) in
          omega arith

      pub all_told : (value : Bool) (bits : ℕ) → value ≡ eqb (byte_in opened.values index) 1 → bits ≡ byte_in opened.infos index → Some (told flag.kind value bits index) ≡ option_map flag_found (listed (parts_in opened) name text)
      all_told value bits value_due bits_due =
          let p = told_of (package_named (packages_in opened) name) at package_so in
          flag_told opened none name text p.0 p.1 flag (found_so p.0 p.2) value bits index (due p.0 p.2) value_due bits_due
