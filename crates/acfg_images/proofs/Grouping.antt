-- Flags grouped one by one are the packages in order of first appearance, each with its flags.
use Rattle.std.proofs.Common.{◌≡◌, ℕ, ◌+◌, ◌≤◌, Bool, true, false, cond, not, List, [], ◌∷◌, ◌++◌, length, map, filter, fold, Some, None, refl, sym, ap, ◌∙◌, append_assoc, append-nil, arith}
use Rattle.std.specs.Borrow.{Bor}
use Rattle.std.specs.List.{list_any}
use Rattle.std.specs.Str.{bytes_eq}
use Rattle.std.specs.Map.{lookup, set_value}
use Rattle.std.specs.Global.{Vec}
use Rattle.std.proofs.lemmas.Cmp.{nat_list_eq_equiv}
use Rattle.std.proofs.lemmas.Slice.Eq.{bytes_eq-Decides}
use Rattle.std.proofs.lemmas.List.{map-append, length-append}
use Rattle.std.proofs.lemmas.List.Elements.{filter-append}
use Rattle.std.proofs.lemmas.Map.Views.{any-filter_same}
use Rattle.indexmap.specs.IndexMap.{insert_entry}
use Rattle.acfg_images.specs.declared.building.groups.Row.{Row}
use Rattle.acfg_images.specs.Image.{Compiled, first_seen, package_names, flags_in}
use Rattle.acfg_images.specs.Building.{row_of, Group, group_of, groups_of, grown, grouped, total}

-- ---- entries of a map

module _ (test : Bor (List ℕ) → Bool) (row : Row) (same : (key : Bor (List ℕ)) → test key ≡ bytes_eq row.package.now key.now) where
  -- a flag goes behind those of its package
  pub grown_there : (entries : List (Bor (List ℕ) × Vec Row)) (old new : Vec Row) → Some old ≡ lookup test entries → new.items ≡ old.items ++ row ∷ [] → groups_of (set_value test entries new) ≡ grown (groups_of entries) (row_of row)
  grown_there [] old new there items = absurd cc
  grown_there (e ∷ es) old new there items = by (λ found. grown_there es old new found items) (test e.0) refl
    where
      by : (Some old ≡ lookup test es → groups_of (set_value test es new) ≡ grown (groups_of es) (row_of row)) → (b : Bool) → test e.0 ≡ b → groups_of (set_value test (e ∷ es) new) ≡ grown (groups_of (e ∷ es)) (row_of row)
      by rest true here =
          let found : Some old ≡ Some e.1 = there ∙ rw here refl in
          let old_is : old ≡ e.1 = cc in
          let rows : map row_of new.items ≡ map row_of e.1.items ++ row_of row ∷ [] = ap (map row_of) items ∙ map-append row_of old.items (row ∷ []) ∙ ap (λ (v : Vec Row). map row_of v.items ++ row_of row ∷ []) old_is in
          let same_test : bytes_eq row.package.now e.0.now ≡ true = sym (same e.0) ∙ here in
          rw (here, same_test, rows) refl
      by rest false apart =
          let found : Some old ≡ lookup test es = there ∙ rw apart refl in
          let same_test : bytes_eq row.package.now e.0.now ≡ false = sym (same e.0) ∙ apart in
          rw (apart, same_test) (ap (λ (gs : List Group). group_of e ∷ gs) (rest found))

  -- a flag of a package that isn't there goes last
  pub grown_new : (eq : Bor (List ℕ) → Bor (List ℕ) → Bool) (key : Bor (List ℕ)) → key.now ≡ row.package.now → ((other : Bor (List ℕ)) → eq key other ≡ bytes_eq key.now other.now) → (entries : List (Bor (List ℕ) × Vec Row)) (new : Vec Row) → None ≡ lookup test entries → new.items ≡ row ∷ []
      → groups_of (insert_entry eq entries key new) ≡ grown (groups_of entries) (row_of row)
  grown_new eq key key_is eq_is [] new none items = rw (key_is, items) refl
  grown_new eq key key_is eq_is (e ∷ es) new none items = by (λ found. grown_new eq key key_is eq_is es new found items) (test e.0) refl
    where
      by : (None ≡ lookup test es → groups_of (insert_entry eq es key new) ≡ grown (groups_of es) (row_of row)) → (b : Bool) → test e.0 ≡ b → groups_of (insert_entry eq (e ∷ es) key new) ≡ grown (groups_of (e ∷ es)) (row_of row)
      by rest true here = let found : None ≡ Some e.1 = none ∙ rw here refl in absurd cc
      by rest false apart =
          let found : None ≡ lookup test es = none ∙ rw apart refl in
          let same_test : bytes_eq row.package.now e.0.now ≡ false = sym (same e.0) ∙ apart in
          let key_test : eq key e.0 ≡ false = eq_is e.0 ∙ ap (λ (k : List ℕ). bytes_eq k e.0.now) key_is ∙ same_test in
          rw (key_test, same_test) (ap (λ (gs : List Group). group_of e ∷ gs) (rest found))

-- ---- one more flag

total_more : (groups : List Group) (flag : Compiled) → total (grown groups flag) ≡ total groups + 1
total_more [] flag = refl
total_more (g ∷ gs) flag = by (total_more gs flag) (bytes_eq flag.package g.0) refl
  where
    by : total (grown gs flag) ≡ total gs + 1 → (b : Bool) → bytes_eq flag.package g.0 ≡ b → total (grown (g ∷ gs) flag) ≡ total (g ∷ gs) + 1
    by rest true here = rw here (omega (arith, length-append g.1 (flag ∷ [])))
    by rest false apart = rw apart (omega (arith, rest))

few_more : (groups : List Group) (flag : Compiled) → length (grown groups flag) ≤ length groups + 1
few_more [] flag = omega arith
few_more (g ∷ gs) flag = by (few_more gs flag) (bytes_eq flag.package g.0) refl
  where
    by : length (grown gs flag) ≤ length gs + 1 → (b : Bool) → bytes_eq flag.package g.0 ≡ b → length (grown (g ∷ gs) flag) ≤ length (g ∷ gs) + 1
    by rest true here = rw here (omega arith)
    by rest false apart = rw apart (omega (arith, rest))

total_all : (groups : List Group) (flags : List Compiled) → total (fold grown groups flags) ≡ total groups + length flags
total_all groups [] = omega arith
total_all groups (flag ∷ flags) = omega (arith, total_all (grown groups flag) flags, total_more groups flag)

few_all : (groups : List Group) (flags : List Compiled) → length (fold grown groups flags) ≤ length groups + length flags
few_all groups [] = omega arith
few_all groups (flag ∷ flags) = omega (arith, few_all (grown groups flag) flags, few_more groups flag)

pub total_grouped : (flags : List Compiled) → total (grouped flags) ≡ length flags
total_grouped flags = omega (arith, total_all [] flags)

pub few_grouped : (flags : List Compiled) → length (grouped flags) ≤ length flags
few_grouped flags = omega (arith, few_all [] flags)

-- ---- names in order of first appearance

abbrev among : List ℕ → List (List ℕ) → Bool
among name names = list_any (bytes_eq name) names

turned : (a b : List ℕ) → bytes_eq a b ≡ bytes_eq b a
turned a b = nat_list_eq_equiv.symm a b

itself : (a : List ℕ) → bytes_eq a a ≡ true
itself a = (bytes_eq-Decides a a).1 refl

equal : (a b : List ℕ) → bytes_eq a b ≡ true → a ≡ b
equal a b e = (bytes_eq-Decides a b).0 e

-- the names without one
abbrev without : List ℕ → List (List ℕ) → List (List ℕ)
without name names = filter (λ other. not (bytes_eq other name)) names

-- another name is among the others as before
among_others : (name gone : List ℕ) (names : List (List ℕ)) → bytes_eq name gone ≡ false → among name (without gone names) ≡ among name names
among_others name gone names apart = any-filter_same (bytes_eq name) (λ other. not (bytes_eq other gone)) true (λ other e. ap (λ (k : List ℕ). not (bytes_eq k gone)) (sym (equal name other e)) ∙ ap not apart) names

-- the name itself isn't
among_gone : (gone : List ℕ) (names : List (List ℕ)) → among gone (without gone names) ≡ false
among_gone gone names = any-filter_same (bytes_eq gone) (λ other. not (bytes_eq other gone)) false (λ other e. ap not (turned other gone ∙ e)) names

abbrev more : List (List ℕ) → List ℕ → List (List ℕ)
more names name = cond (among name names) names (names ++ name ∷ [])

seen_more : (names : List (List ℕ)) (name : List ℕ) → first_seen (names ++ name ∷ []) ≡ more (first_seen names) name
seen_more [] name = refl
seen_more (n ∷ ns) name = ap (λ (rest : List (List ℕ)). n ∷ without n rest) (seen_more ns name) ∙ by (among name (first_seen ns)) refl (bytes_eq name n) refl
  where
    by : (b : Bool) → among name (first_seen ns) ≡ b → (t : Bool) → bytes_eq name n ≡ t → n ∷ without n (more (first_seen ns) name) ≡ more (first_seen (n ∷ ns)) name
    by true there true same = rw (there, same) refl
    by true there false apart = rw (there, apart, among_others name n (first_seen ns) apart, there) refl
    by false absent true same = rw (absent, same) (ap (λ (rest : List (List ℕ)). n ∷ rest) (filter-append (λ other. not (bytes_eq other n)) (first_seen ns) (name ∷ []) ∙ rw same (append-nil _)))
    by false absent false apart = rw (absent, apart, among_others name n (first_seen ns) apart, absent) (ap (λ (rest : List (List ℕ)). n ∷ rest) (filter-append (λ other. not (bytes_eq other n)) (first_seen ns) (name ∷ []) ∙ rw apart refl))

-- ---- groups by the definition

abbrev pub Distinct : List (List ℕ) → Type 0
Distinct [] = Unit {0}
Distinct (name ∷ names) = (among name names ≡ false) × Distinct names

Distinct-without : (gone : List ℕ) (names : List (List ℕ)) → Distinct names → Distinct (without gone names)
Distinct-without gone [] distinct = tt
Distinct-without gone (n ∷ ns) distinct = by (Distinct-without gone ns distinct.1) (bytes_eq n gone) refl
  where
    by : Distinct (without gone ns) → (b : Bool) → bytes_eq n gone ≡ b → Distinct (without gone (n ∷ ns))
    by rest true here = rw here rest
    by rest false apart = rw apart (among_others n gone ns apart ∙ distinct.0, rest)

pub Distinct-first_seen : (names : List (List ℕ)) → Distinct (first_seen names)
Distinct-first_seen [] = tt
Distinct-first_seen (n ∷ ns) = (among_gone n (first_seen ns), Distinct-without n (first_seen ns) (Distinct-first_seen ns))

among_first_seen : (name : List ℕ) (names : List (List ℕ)) → among name (first_seen names) ≡ among name names
among_first_seen name [] = refl
among_first_seen name (n ∷ ns) = by (among_first_seen name ns) (bytes_eq name n) refl
  where
    by : among name (first_seen ns) ≡ among name ns → (b : Bool) → bytes_eq name n ≡ b → among name (first_seen (n ∷ ns)) ≡ among name (n ∷ ns)
    by rest true here = rw here refl
    by rest false apart = rw apart (among_others name n (first_seen ns) apart ∙ rest)

-- the flags of a package that isn't there
none_in : (flags : List Compiled) (name : List ℕ) → among name (map (λ flag. flag.package) flags) ≡ false → flags_in flags name ≡ []
none_in [] name absent = refl
none_in (f ∷ fs) name absent = by (none_in fs name) (bytes_eq name f.package) refl
  where
    by : (among name (map (λ flag. flag.package) fs) ≡ false → flags_in fs name ≡ []) → (b : Bool) → bytes_eq name f.package ≡ b → flags_in (f ∷ fs) name ≡ []
    by rest true here = let e : true ≡ false = rw here at absent in absurd cc
    by rest false apart =
        let others : among name (map (λ flag. flag.package) fs) ≡ false = rw apart at absent in
        let turn : bytes_eq f.package name ≡ false = turned f.package name ∙ apart in
        rw turn (rest others)

abbrev pub group_in : List Compiled → List ℕ → Group
group_in flags name = (name, flags_in flags name)

abbrev pub groups_in : List Compiled → List (List ℕ) → List Group
groups_in flags names = map (group_in flags) names

-- one more flag is in its own package alone
other_group : (flags : List Compiled) (flag : Compiled) (name : List ℕ) → bytes_eq flag.package name ≡ false → group_in (flags ++ flag ∷ []) name ≡ group_in flags name
other_group flags flag name apart = ap (λ (fs : List Compiled). group name fs) (filter-append (λ f. bytes_eq f.package name) flags (flag ∷ []) ∙ rw apart (append-nil _))
  where
    group : List ℕ → List Compiled → Group
    group n fs = (n, fs)

own_group : (flags : List Compiled) (flag : Compiled) (name : List ℕ) → bytes_eq flag.package name ≡ true → group_in (flags ++ flag ∷ []) name ≡ (name, flags_in flags name ++ flag ∷ [])
own_group flags flag name here = ap (λ (fs : List Compiled). group name fs) (filter-append (λ f. bytes_eq f.package name) flags (flag ∷ []) ∙ rw here refl)
  where
    group : List ℕ → List Compiled → Group
    group n fs = (n, fs)

other_groups : (flags : List Compiled) (flag : Compiled) (names : List (List ℕ)) → among flag.package names ≡ false → groups_in (flags ++ flag ∷ []) names ≡ groups_in flags names
other_groups flags flag [] absent = refl
other_groups flags flag (n ∷ ns) absent = by (other_groups flags flag ns) (bytes_eq flag.package n) refl
  where
    by : (among flag.package ns ≡ false → groups_in (flags ++ flag ∷ []) ns ≡ groups_in flags ns) → (b : Bool) → bytes_eq flag.package n ≡ b → groups_in (flags ++ flag ∷ []) (n ∷ ns) ≡ groups_in flags (n ∷ ns)
    by rest true here = let e : true ≡ false = rw here at absent in absurd cc
    by rest false apart =
        let others : among flag.package ns ≡ false = rw apart at absent in
        let first = other_group flags flag n apart in
        let behind = rest others in cc

-- groups with one more flag, by names
grown_by : (flags : List Compiled) (flag : Compiled) (names : List (List ℕ)) → Distinct names → (among flag.package names ≡ false → flags_in flags flag.package ≡ []) → grown (groups_in flags names) flag ≡ groups_in (flags ++ flag ∷ []) (more names flag.package)
grown_by flags flag [] distinct none =
    let e : group_in (flags ++ flag ∷ []) flag.package ≡ (flag.package, flags_in flags flag.package ++ flag ∷ []) = own_group flags flag flag.package (itself flag.package) in
    let n = none refl in
    ap (λ (g : Group). g ∷ []) (sym (e ∙ rw n refl))
grown_by flags flag (n ∷ ns) distinct none = by (grown_by flags flag ns distinct.1) (bytes_eq flag.package n) refl
  where
    goal : Type 0
    goal = grown (groups_in flags (n ∷ ns)) flag ≡ groups_in (flags ++ flag ∷ []) (more (n ∷ ns) flag.package)

    by : ((among flag.package ns ≡ false → flags_in flags flag.package ≡ []) → grown (groups_in flags ns) flag ≡ groups_in (flags ++ flag ∷ []) (more ns flag.package)) → (b : Bool) → bytes_eq flag.package n ≡ b
        → grown (groups_in flags (n ∷ ns)) flag ≡ groups_in (flags ++ flag ∷ []) (more (n ∷ ns) flag.package)
    by rest true here =
        let is : flag.package ≡ n = equal flag.package n here in
        let gone : among flag.package ns ≡ false = ap (λ (k : List ℕ). among k ns) is ∙ distinct.0 in
        let others = other_groups flags flag ns gone in
        let own = own_group flags flag n here in
        rw here (rw (own, others) refl)
    by rest false apart =
        let behind = rest (λ absent. none (rw apart absent)) in
        let first = other_group flags flag n apart in
        rw apart (ap (λ (gs : List Group). group_in flags n ∷ gs) behind ∙ by_more (among flag.package ns) refl first)
      where
        by_more : (b : Bool) → among flag.package ns ≡ b → group_in (flags ++ flag ∷ []) n ≡ group_in flags n → group_in flags n ∷ groups_in (flags ++ flag ∷ []) (more ns flag.package) ≡ groups_in (flags ++ flag ∷ []) (cond (among flag.package ns) (n ∷ ns) ((n ∷ ns) ++ flag.package ∷ []))
        by_more true there first = rw there (rw first refl)
        by_more false absent first = rw absent (rw first refl)

grown_in : (flags : List Compiled) (flag : Compiled) → grown (groups_in flags (package_names flags)) flag ≡ groups_in (flags ++ flag ∷ []) (package_names (flags ++ flag ∷ []))
grown_in flags flag =
    let names : package_names (flags ++ flag ∷ []) ≡ more (package_names flags) flag.package = ap first_seen (map-append (λ f. f.package) flags (flag ∷ [])) ∙ seen_more (map (λ f. f.package) flags) flag.package in
    grown_by flags flag (package_names flags) (Distinct-first_seen (map (λ f. f.package) flags)) (λ absent. none_in flags flag.package (sym (among_first_seen flag.package (map (λ f. f.package) flags)) ∙ absent)) ∙ rw names refl

grouped_on : (done flags : List Compiled) → fold grown (groups_in done (package_names done)) flags ≡ groups_in (done ++ flags) (package_names (done ++ flags))
grouped_on done [] = rw (append-nil done) refl
grouped_on done (flag ∷ flags) = ap (λ (gs : List Group). fold grown gs flags) (grown_in done flag) ∙ grouped_on (done ++ flag ∷ []) flags ∙ rw append_assoc refl

-- the groups are the packages in order of first appearance, each with its flags
pub grouped_is : (flags : List Compiled) → grouped flags ≡ groups_in flags (package_names flags)
grouped_is flags = grouped_on [] flags
