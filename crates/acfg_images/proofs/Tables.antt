-- Tables of marks, starts and counts, as loops fill them.
use Rattle.std.proofs.Common.{◌≡◌, ◌≢◌, ℕ, suc, ◌+◌, ◌^◌, ◌<◌, ◌≤◌, Bool, true, false, cond, eqb, ltb, not, ◌||◌, ◌&&◌, List, [], ◌∷◌, ◌++◌, length, get_or, set, take, drop, map, Option, Some, None, Result, Ok, Err, refl, sym, ap, subst, ◌∙◌, arith, inl, inr, add-one}
use Rattle.std.specs.Prelude.{IfOk}
use Rattle.std.specs.Option.{option_map}
use Rattle.std.specs.List.{list_any, list_all}
use Rattle.std.proofs.lemmas.Bool.{cases_eq, cases_lt}
use Rattle.std.proofs.lemmas.Bool.Decides.{nat_tests}
use Rattle.std.proofs.lemmas.List.{drop_all, take_all, take_more, map_push, length-take, get_or-set_same, get_or-set_other, get_or_past, length-set}
use Rattle.std.proofs.lemmas.List.Folds.{list_any-append, list_all-append}
use Rattle.std.proofs.lemmas.List.Sums.{count_by-le-length, count_by_more_yes, count_by_more_no}
use Rattle.std.proofs.Math.Seq.{drop-cons}
use Rattle.std.proofs.Math.ListN.{length-map}
use Rattle.acfg_base.specs.declared.releases.Kind.TheVariants.{ReadWrite}
use Rattle.acfg_views.specs.declared.nodes.PackageNode.{PackageNode}
use Rattle.acfg_views.specs.declared.nodes.FlagNode.{FlagNode}
use Rattle.acfg_views.specs.Layout.{Package, Flag}
use Rattle.acfg_views.specs.Reading.{OpenList, byte_in, package_of, flag_of}
use Rattle.acfg_images.specs.declared.fault.Point2.TheVariants.{Id, Index, Kind}
use Rattle.acfg_images.specs.declared.fault.ImageFault.TheVariants.{Disagree}
use Rattle.acfg_images.specs.Words.{least}
use Rattle.acfg_images.specs.Faults.{or_else, stray_id, having, id_fault, index_fault, kind_fault, indexed_fault, bit_fits}
use Rattle.acfg_images.specs.declared.fault.ImageFault.{ImageFault}
use Rattle.acfg_images.proofs.Least.{least-same}
use Rattle.acfg_images.specs.Code.{table_index, bit_agrees, kind_fits, misfit, unmarked, kind_fault_by, HasStarts}
use Rattle.acfg_images.specs.Set.{index_of, start_of}

equal : {a b : ℕ} → a ≡ b → eqb a b ≡ true
equal {a} {b} e = grind (arith, nat_tests)

unequal : {a b : ℕ} → (a ≡ b → ⊥) → eqb a b ≡ false
unequal {a} {b} e = grind (arith, nat_tests)

-- ---- ids of no package

module _ (count : ℕ) (flags : List FlagNode) (i : ℕ) (d : FlagNode) (total : Option ℕ) where
  behind : i < length flags → drop i flags ≡ get_or flags i d ∷ drop (suc i) flags
  behind lt = drop-cons flags i d lt

  pub stray_found : i < length flags → count ≤ (get_or flags i d).package_id → stray_id count (map flag_of (drop i flags)) ≡ total → Some (get_or flags i d).package_id ≡ total
  stray_found lt stray so_far =
      let test : ltb (get_or flags i d).package_id count ≡ false = grind (arith, nat_tests) in
      let here : stray_id count (map flag_of (get_or flags i d ∷ drop (suc i) flags)) ≡ Some (get_or flags i d).package_id = rw test refl in
      sym here ∙ ap (λ (fs : List FlagNode). stray_id count (map flag_of fs)) (sym (behind lt)) ∙ so_far

  pub stray_next : i < length flags → (get_or flags i d).package_id < count → stray_id count (map flag_of (drop i flags)) ≡ total → stray_id count (map flag_of (drop (i + 1) flags)) ≡ total
  stray_next lt known so_far =
      let test : ltb (get_or flags i d).package_id count ≡ true = grind (arith, nat_tests) in
      let here : stray_id count (map flag_of (get_or flags i d ∷ drop (suc i) flags)) ≡ stray_id count (map flag_of (drop (suc i) flags)) = rw test refl in
      rw add-one (sym here ∙ ap (λ (fs : List FlagNode). stray_id count (map flag_of fs)) (sym (behind lt)) ∙ so_far)

pub stray_end : (count : ℕ) (flags : List FlagNode) (i : ℕ) (total : Option ℕ) → length flags ≤ i → stray_id count (map flag_of (drop i flags)) ≡ total → None ≡ total
stray_end count flags i total le so_far = ap (λ (fs : List FlagNode). stray_id count (map flag_of fs)) (sym (drop_all i flags le)) ∙ so_far

-- ---- marks

abbrev pub Marked : List Bool → List PackageNode → Type 0
Marked marks packages = (k : ℕ) → k < length marks → get_or marks k false ≡ list_any (λ node. eqb node.id k) (map package_of packages)

pub marked_more : (marks after : List Bool) (packages : List PackageNode) (i : ℕ) (d : PackageNode) → i < length packages → Marked marks (take i packages) → after ≡ set marks (get_or packages i d).id true → Marked after (take (i + 1) packages)
marked_more marks after packages i d lt so_far after_is k k_lt =
    let node = get_or packages i d in
    let len : length after ≡ length marks = ap length after_is ∙ length-set marks node.id true in
    let k_in : k < length marks = omega arith in
    let ids : list_any (λ node. eqb node.id k) (map package_of (take (i + 1) packages)) ≡ (list_any (λ node. eqb node.id k) (map package_of (take i packages)) || (eqb node.id k || false)) =
    ap (λ (ps : List PackageNode). list_any (λ node. eqb node.id k) (map package_of ps)) (take_more packages i d lt)
    ∙ ap (λ (ps : List Package). list_any (λ node. eqb node.id k) ps) (map_push package_of (take i packages) node)
    ∙ list_any-append (λ (node : Package). eqb node.id k) (map package_of (take i packages)) (package_of node ∷ []) in
    rw ids (elim (cases_eq node.id k) [
      | inl here ↦
          let found : get_or after k false ≡ true = ap (λ (m : List Bool). get_or m k false) after_is ∙ subst (λ (j : ℕ). get_or (set marks node.id true) j false ≡ true) here (get_or-set_same marks node.id true false (omega arith)) in
          found ∙ rw (equal here) (sym (or_true (list_any (λ node. eqb node.id k) (map package_of (take i packages)))))
      | inr other ↦
          let ne : k ≢ node.id = λ e. other (sym e) in
          let found : get_or after k false ≡ get_or marks k false = ap (λ (m : List Bool). get_or m k false) after_is ∙ get_or-set_other marks node.id k true false ne in
          found ∙ so_far k k_in ∙ rw (unequal other) (sym (or_false (list_any (λ node. eqb node.id k) (map package_of (take i packages)))))
    ])
  where
    or_true : (b : Bool) → (b || (true || false)) ≡ true
    or_true true = refl
    or_true false = refl

    or_false : (b : Bool) → (b || (false || false)) ≡ b
    or_false true = refl
    or_false false = refl

pub marked_all : (marks : List Bool) (packages : List PackageNode) (i : ℕ) → length packages ≤ i → Marked marks (take i packages) → Marked marks packages
marked_all marks packages i le so_far = subst (Marked marks) (take_all i packages le) so_far

-- ---- starts

abbrev pub Starts : List ℕ → List PackageNode → Type 0
Starts starts packages = (id : ℕ) → id < length starts → get_or starts id 0 ≡ start_of (map package_of packages) id

pub starts_more : (starts after : List ℕ) (packages : List PackageNode) (i j : ℕ) (d : PackageNode) → i < length packages → j ≡ i + 1 → Starts starts (drop j packages) → after ≡ set starts (get_or packages i d).id (get_or packages i d).start → Starts after (drop i packages)
starts_more starts after packages i j d lt j_is so_far after_is id id_lt =
    let node = get_or packages i d in
    let len : length after ≡ length starts = ap length after_is ∙ length-set starts node.id node.start in
    let back : drop i packages ≡ node ∷ drop j packages = drop-cons packages i d lt ∙ ap (λ (k : ℕ). node ∷ drop k packages) (sym (j_is ∙ add-one i)) in
    let goal_is : get_or after id 0 ≡ start_of (map package_of (node ∷ drop j packages)) id =
    elim (cases_eq node.id id) [
      | inl here ↦
          let test : eqb node.id id ≡ true = equal here in
          let found : get_or after id 0 ≡ node.start = ap (λ (m : List ℕ). get_or m id 0) after_is ∙ subst (λ (k : ℕ). get_or (set starts node.id node.start) k 0 ≡ node.start) here (get_or-set_same starts node.id node.start 0 (omega arith)) in
          let first : start_of (map package_of (node ∷ drop j packages)) id ≡ node.start = rw test refl in
          found ∙ sym first
      | inr other ↦
          let test : eqb node.id id ≡ false = unequal other in
          let ne : id ≢ node.id = λ e. other (sym e) in
          let found : get_or after id 0 ≡ get_or starts id 0 = ap (λ (m : List ℕ). get_or m id 0) after_is ∙ get_or-set_other starts node.id id node.start 0 ne in
          let first : start_of (map package_of (node ∷ drop j packages)) id ≡ start_of (map package_of (drop j packages)) id = rw test refl in
          found ∙ so_far id (omega arith) ∙ sym first
    ] in
    rw back goal_is

-- ---- counts

abbrev pub Counts : List ℕ → List ℕ → Type 0
Counts counts numbers = (k : ℕ) → k < length counts → get_or counts k 0 ≡ having numbers k

pub count_room : (counts numbers : List ℕ) (i n : ℕ) → length numbers < 2 ^ 32 → Counts counts (take i numbers) → i < length numbers → get_or counts n 0 + 1 < 2 ^ 32
count_room counts numbers i n few so_far lt =
    let most = count_by-le-length (λ m. eqb m n) (take i numbers) in
    let front = length-take i numbers in
    elim (cases_lt n (length counts)) [
      | inl within ↦ let e = so_far n within in omega (arith, e, most, front)
      | inr past ↦ let e = get_or_past counts n 0 past in omega (arith, e)
    ]

pub counts_more : (counts after numbers : List ℕ) (i d : ℕ) → i < length numbers → Counts counts (take i numbers) → after ≡ set counts (get_or numbers i d) (get_or counts (get_or numbers i d) 0 + 1) → Counts after (take (i + 1) numbers)
counts_more counts after numbers i d lt so_far after_is k k_lt =
    let n = get_or numbers i d in
    let len : length after ≡ length counts = ap length after_is ∙ length-set counts n (get_or counts n 0 + 1) in
    let k_in : k < length counts = omega arith in
    elim (cases_eq n k) [
      | inl here ↦
          let test : eqb n k ≡ true = equal here in
          let more = count_by_more_yes (λ m. eqb m k) numbers i d lt test in
          let found : get_or after k 0 ≡ get_or counts k 0 + 1 = ap (λ (m : List ℕ). get_or m k 0) after_is ∙ subst (λ (j : ℕ). get_or (set counts n (get_or counts n 0 + 1)) j 0 ≡ get_or counts j 0 + 1) here (get_or-set_same counts n (get_or counts n 0 + 1) 0 (omega arith)) in
          let so = so_far k k_in in
          omega (arith, found, so, more)
      | inr other ↦
          let test : eqb n k ≡ false = unequal other in
          let more = count_by_more_no (λ m. eqb m k) numbers i d lt test in
          let ne : k ≢ n = λ e. other (sym e) in
          let found : get_or after k 0 ≡ get_or counts k 0 = ap (λ (m : List ℕ). get_or m k 0) after_is ∙ get_or-set_other counts n k (get_or counts n 0 + 1) 0 ne in
          let so = so_far k k_in in
          omega (arith, found, so, more)
    ]

pub counts_all : (counts numbers : List ℕ) (i : ℕ) → length numbers ≤ i → Counts counts (take i numbers) → Counts counts numbers
counts_all counts numbers i le so_far = subst (Counts counts) (take_all i numbers le) so_far

-- values for places where nothing is
abbrev pub no_package : PackageNode
no_package = record { name = record { ref_ptr = (0, 0); now = [] }; id = 0; start = 0; next = 0; end = 0 }

abbrev pub no_flag : FlagNode
no_flag = record { package_id = 0; name = record { ref_ptr = (0, 0); now = [] }; kind = ReadWrite; index = 0; next = 0; end = 0 }

-- ---- types

abbrev pub Fits : OpenList → List ℕ → List Bool → List FlagNode → Type 0
Fits infos starts marks flags = (k : ℕ) → k < length marks → get_or marks k false ≡ list_all (kind_fits infos starts k) (map flag_of flags)

fits_push : (infos : OpenList) (starts : List ℕ) (flags : List FlagNode) (i : ℕ) (d : FlagNode) (k : ℕ) → i < length flags
    → list_all (kind_fits infos starts k) (map flag_of (take (i + 1) flags)) ≡ (list_all (kind_fits infos starts k) (map flag_of (take i flags)) && (kind_fits infos starts k (flag_of (get_or flags i d)) && true))
fits_push infos starts flags i d k lt =
    ap (λ (fs : List FlagNode). list_all (kind_fits infos starts k) (map flag_of fs)) (take_more flags i d lt)
    ∙ ap (list_all (kind_fits infos starts k)) (map_push flag_of (take i flags) (get_or flags i d))
    ∙ list_all-append (kind_fits infos starts k) (map flag_of (take i flags)) (flag_of (get_or flags i d) ∷ [])

and_true : (b : Bool) → (b && (true && true)) ≡ b
and_true true = refl
and_true false = refl

and_false : (b : Bool) → (b && (false && true)) ≡ false
and_false true = refl
and_false false = refl

or_yes : (b : Bool) → (b || true) ≡ true
or_yes true = refl
or_yes false = refl

below : {a b : ℕ} → a < b → ltb a b ≡ true
below {a} {b} h = grind (arith, nat_tests)

-- what the flag's bit says of a place
placed : (index k count : ℕ) (at_index at_k : Bool) → k < count → (index ≡ k → at_index ≡ at_k) → cond (ltb index count) (cond at_index None (Some index)) None ≡ None → (not (eqb index k) || at_k) ≡ true
placed index k count at_index true k_lt same e = or_yes (not (eqb index k))
placed index k count true false k_lt same e = let other : eqb index k ≡ false = unequal (λ p. let h = same p in cc) in rw other refl
placed index k count false false k_lt same e =
    let other : eqb index k ≡ false = unequal (λ p. let test : ltb index count ≡ true = below (omega arith) in let h = rw test at e in cc) in rw other refl

elsewhere : (index k count w : ℕ) (at_index at_k : Bool) → cond (ltb index count) (cond at_index None (Some index)) None ≡ Some w → w ≢ k → (not (eqb index k) || at_k) ≡ true
elsewhere index k count w at_index at_k e ne = go (ltb index count) at_index e
  where
    go : (b a : Bool) → cond b (cond a None (Some index)) None ≡ Some w → (not (eqb index k) || at_k) ≡ true
    go true true e = absurd cc
    go false a e = absurd cc
    go true false e =
        let is : index ≡ w = cc in
        let other : eqb index k ≡ false = unequal (λ p. ne (sym is ∙ p)) in
        rw other refl

there : (index count w : ℕ) (at_index at_w : Bool) → (index ≡ w → at_index ≡ at_w) → cond (ltb index count) (cond at_index None (Some index)) None ≡ Some w → (not (eqb index w) || at_w) ≡ false
there index count w at_index at_w same e = go (ltb index count) at_index refl e
  where
    go : (b a : Bool) → at_index ≡ a → cond b (cond a None (Some index)) None ≡ Some w → (not (eqb index w) || at_w) ≡ false
    go true true is e = absurd cc
    go false a is e = absurd cc
    go true false is e =
        let index_is : index ≡ w = cc in
        let wrong : at_w ≡ false = sym (same index_is) ∙ is in
        rw (equal index_is, wrong) refl

within : (index count w : ℕ) (at_index : Bool) → cond (ltb index count) (cond at_index None (Some index)) None ≡ Some w → w < count
within index count w at_index e = go (ltb index count) at_index refl e
  where
    go : (b a : Bool) → ltb index count ≡ b → cond b (cond a None (Some index)) None ≡ Some w → w < count
    go true true is e = absurd cc
    go false a is e = absurd cc
    go true false is e = let w_is : index ≡ w = cc in let lt : index < count = grind (arith, nat_tests) in omega arith

module _ (infos : OpenList) (starts : List ℕ) (marks : List Bool) (flags : List FlagNode) (i : ℕ) (d : FlagNode) (lt : i < length flags) (size : length marks ≡ infos.count) (so_far : Fits infos starts marks (take i flags)) where
  flag : Flag
  flag = flag_of (get_or flags i d)

  -- where the flag's bit is right, or its index is past the table, each place stays
  pub fits_right : None ≡ misfit infos starts (flag_of (get_or flags i d)) → Fits infos starts marks (take (i + 1) flags)
  fits_right none k k_lt =
      let it = flag_of (get_or flags i d) in
      let here : kind_fits infos starts k it ≡ true = placed (table_index starts it) k infos.count (bit_agrees infos (table_index starts it) it) (bit_agrees infos k it) (omega arith) (λ e. ap (λ (j : ℕ). bit_agrees infos j it) e) (sym none) in
      so_far k k_lt ∙ sym (and_true _) ∙ ap (λ (b : Bool). list_all (kind_fits infos starts k) (map flag_of (take i flags)) && (b && true)) (sym here) ∙ sym (fits_push infos starts flags i d k lt)

  -- where it is wrong, its place loses the mark
  pub fits_wrong : (after : List Bool) (w : ℕ) → Some w ≡ misfit infos starts (flag_of (get_or flags i d)) → w < length marks → after ≡ set marks w false → Fits infos starts after (take (i + 1) flags)
  fits_wrong after w some w_lt after_is k k_lt =
      let it = flag_of (get_or flags i d) in
      let len : length after ≡ length marks = ap length after_is ∙ length-set marks w false in
      let k_in : k < length marks = omega arith in
      elim (cases_eq w k) [
        | inl here ↦
            let wrong : kind_fits infos starts w it ≡ false = there (table_index starts it) infos.count w (bit_agrees infos (table_index starts it) it) (bit_agrees infos w it) (λ e. ap (λ (j : ℕ). bit_agrees infos j it) e) (sym some) in
            let wrong_k : kind_fits infos starts k it ≡ false = ap (λ (j : ℕ). kind_fits infos starts j it) (sym here) ∙ wrong in
            let found : get_or after k false ≡ false = ap (λ (m : List Bool). get_or m k false) after_is ∙ subst (λ (j : ℕ). get_or (set marks w false) j false ≡ false) here (get_or-set_same marks w false false w_lt) in
            found ∙ sym (and_false _) ∙ ap (λ (b : Bool). list_all (kind_fits infos starts k) (map flag_of (take i flags)) && (b && true)) (sym wrong_k) ∙ sym (fits_push infos starts flags i d k lt)
        | inr other ↦
            let right : kind_fits infos starts k it ≡ true = elsewhere (table_index starts it) k infos.count w (bit_agrees infos (table_index starts it) it) (bit_agrees infos k it) (sym some) other in
            let ne : k ≢ w = λ e. other (sym e) in
            let found : get_or after k false ≡ get_or marks k false = ap (λ (m : List Bool). get_or m k false) after_is ∙ get_or-set_other marks w k false false ne in
            found ∙ so_far k k_in ∙ sym (and_true _) ∙ ap (λ (b : Bool). list_all (kind_fits infos starts k) (map flag_of (take i flags)) && (b && true)) (sym right) ∙ sym (fits_push infos starts flags i d k lt)
      ]

pub fits_next : (infos : OpenList) (starts : List ℕ) (marks after : List Bool) (flags : List FlagNode) (i : ℕ) (d : FlagNode) (wrong : Option ℕ) → i < length flags → length marks ≡ infos.count → Fits infos starts marks (take i flags)
    → wrong ≡ misfit infos starts (flag_of (get_or flags i d)) → after ≡ unmarked wrong marks → Fits infos starts after (take (i + 1) flags)
fits_next infos starts marks after flags i d None lt size so_far is after_is = subst (λ (m : List Bool). Fits infos starts m (take (i + 1) flags)) (sym after_is) (fits_right infos starts marks flags i d lt size so_far is)
fits_next infos starts marks after flags i d (Some w) lt size so_far is after_is =
    fits_wrong infos starts marks flags i d lt size so_far after w is (let h = within (table_index starts (flag_of (get_or flags i d))) infos.count w (bit_agrees infos (table_index starts (flag_of (get_or flags i d))) (flag_of (get_or flags i d))) (sym is) in omega arith) after_is

pub fits_all : (infos : OpenList) (starts : List ℕ) (marks : List Bool) (flags : List FlagNode) (i : ℕ) → length flags ≤ i → Fits infos starts marks (take i flags) → Fits infos starts marks flags
fits_all infos starts marks flags i le so_far = subst (Fits infos starts marks) (take_all i flags le) so_far

-- ---- indexes

pub indexes_more : (starts : List ℕ) (made : List ℕ) (flags : List FlagNode) (i : ℕ) (d : FlagNode) (n : ℕ) → i < length flags → made ≡ map (table_index starts) (map flag_of (take i flags)) → n ≡ table_index starts (flag_of (get_or flags i d))
    → made ++ n ∷ [] ≡ map (table_index starts) (map flag_of (take (i + 1) flags))
indexes_more starts made flags i d n lt so_far n_is =
    let front : map flag_of (take (i + 1) flags) ≡ map flag_of (take i flags) ++ flag_of (get_or flags i d) ∷ [] = ap (map flag_of) (take_more flags i d lt) ∙ map_push flag_of (take i flags) (get_or flags i d) in
    rw (front, so_far, n_is) (sym (map_push (table_index starts) (map flag_of (take i flags)) (flag_of (get_or flags i d))))

-- the first number without a mark is the first one that isn't an id
pub ids_are : (marks : List Bool) (packages : List PackageNode) (r : Option ℕ) → length marks ≡ length packages → Marked marks packages → r ≡ least (λ k. not (get_or marks k false)) 0 (length marks)
    → option_map (λ k. Disagree Id k (length packages)) r ≡ id_fault (map package_of packages)
ids_are marks packages r size marked r_is =
    let len : length (map package_of packages) ≡ length packages = length-map packages package_of in
    let same : (k : ℕ) → k < 0 + length marks → not (get_or marks k false) ≡ not (list_any (λ node. eqb node.id k) (map package_of packages)) = λ k lt. ap not (marked k (omega arith)) in
    let first : r ≡ least (λ k. not (list_any (λ node. eqb node.id k) (map package_of packages))) 0 (length packages) = r_is ∙ least-same _ _ 0 (length marks) same ∙ ap (least (λ k. not (list_any (λ node. eqb node.id k) (map package_of packages))) 0) size in
    rw len (ap (option_map (λ k. Disagree Id k (length packages))) first)

-- the first count that isn't 1 is the first index that isn't had once
pub counts_are : (counts indexes : List ℕ) (r : Option ℕ) → length counts ≡ length indexes → Counts counts indexes → r ≡ least (λ k. not (eqb (get_or counts k 0) 1)) 0 (length counts)
    → r ≡ least (λ k. not (eqb (having indexes k) 1)) 0 (length indexes)
counts_are counts indexes r size counted r_is =
    let same : (k : ℕ) → k < 0 + length counts → not (eqb (get_or counts k 0) 1) ≡ not (eqb (having indexes k) 1) = λ k lt. ap (λ (n : ℕ). not (eqb n 1)) (counted k (omega arith)) in
    r_is ∙ least-same _ _ 0 (length counts) same ∙ ap (least (λ k. not (eqb (having indexes k) 1)) 0) size

pub index_some : (counts indexes : List ℕ) (k n : ℕ) → length counts ≡ length indexes → Counts counts indexes → Some k ≡ least (λ k. not (eqb (get_or counts k 0) 1)) 0 (length counts) → k < length counts → n ≡ get_or counts k 0
    → Some (Disagree Index k n) ≡ index_fault indexes
index_some counts indexes k n size counted r_is lt n_is =
    let first = counts_are counts indexes (Some k) size counted r_is in
    let number : n ≡ having indexes k = n_is ∙ counted k lt in
    rw number (ap (option_map (λ k. Disagree Index k (having indexes k))) first)

pub index_none : (counts indexes : List ℕ) → length counts ≡ length indexes → Counts counts indexes → None ≡ least (λ k. not (eqb (get_or counts k 0) 1)) 0 (length counts) → None ≡ index_fault indexes
index_none counts indexes size counted r_is = ap (option_map (λ k. Disagree Index k (having indexes k))) (counts_are counts indexes None size counted r_is)

-- the first place without a mark is the first index with a flag of another type
pub kinds_are : (infos : OpenList) (starts : List ℕ) (marks : List Bool) (flags : List FlagNode) (r : Option ℕ) → length marks ≡ infos.count → Fits infos starts marks flags → r ≡ least (λ k. not (get_or marks k false)) 0 (length marks)
    → option_map (λ k. Disagree Kind k (byte_in infos k)) r ≡ kind_fault_by starts (map flag_of flags) infos
kinds_are infos starts marks flags r size fits r_is =
    let same : (k : ℕ) → k < 0 + length marks → not (get_or marks k false) ≡ not (list_all (kind_fits infos starts k) (map flag_of flags)) = λ k lt. ap not (fits k (omega arith)) in
    ap (option_map (λ k. Disagree Kind k (byte_in infos k))) (r_is ∙ least-same _ _ 0 (length marks) same ∙ ap (least (λ k. not (list_all (kind_fits infos starts k) (map flag_of flags))) 0) size)

-- ---- the table stands for the packages

known_head : (count : ℕ) (flag : Flag) (flags : List Flag) → stray_id count (flag ∷ flags) ≡ None → (flag.package_id < count) × (stray_id count flags ≡ None)
known_head count flag flags e = go (ltb flag.package_id count) refl e
  where
    go : (b : Bool) → ltb flag.package_id count ≡ b → cond b (stray_id count flags) (Some flag.package_id) ≡ None → (flag.package_id < count) × (stray_id count flags ≡ None)
    go true is e = (grind (arith, nat_tests), e)
    go false is e = absurd cc

pub same_indexes : (starts : List ℕ) (packages : List Package) (flags : List Flag) → HasStarts starts packages → stray_id (length starts) flags ≡ None → map (table_index starts) flags ≡ map (index_of packages) flags
same_indexes starts packages [] has known = refl
same_indexes starts packages (flag ∷ flags) has known =
    let k = known_head (length starts) flag flags known in
    let rest = same_indexes starts packages flags has k.1 in
    rw (rest, has flag.package_id k.0) refl

pub same_fits : (infos : OpenList) (starts : List ℕ) (packages : List Package) (k : ℕ) (flags : List Flag) → HasStarts starts packages → stray_id (length starts) flags ≡ None → list_all (kind_fits infos starts k) flags ≡ list_all (bit_fits packages infos k) flags
same_fits infos starts packages k [] has known = refl
same_fits infos starts packages k (flag ∷ flags) has known =
    let h = known_head (length starts) flag flags known in
    let rest = same_fits infos starts packages k flags has h.1 in
    rw (rest, has flag.package_id h.0) refl

pub indexed_first : (infos : OpenList) (starts indexes : List ℕ) (packages : List Package) (flags : List Flag) (r : Option ImageFault) (fault : ImageFault) → HasStarts starts packages → stray_id (length starts) flags ≡ None
    → indexes ≡ map (table_index starts) flags → r ≡ index_fault indexes → r ≡ Some fault → Some fault ≡ indexed_fault packages flags infos
indexed_first infos starts indexes packages flags r fault has known indexes_are r_is some =
    let first : Some fault ≡ index_fault (map (index_of packages) flags) = sym some ∙ r_is ∙ ap index_fault (indexes_are ∙ same_indexes starts packages flags has known) in
    ap (λ (o : Option ImageFault). or_else o (kind_fault packages flags infos)) first

pub indexed_then : (infos : OpenList) (starts indexes : List ℕ) (packages : List Package) (flags : List Flag) (r kind : Option ImageFault) → HasStarts starts packages → stray_id (length starts) flags ≡ None → infos.count ≡ length flags
    → indexes ≡ map (table_index starts) flags → r ≡ index_fault indexes → r ≡ None → kind ≡ kind_fault_by starts flags infos → kind ≡ indexed_fault packages flags infos
indexed_then infos starts indexes packages flags r kind has known count indexes_are r_is none kind_is =
    let first : None ≡ index_fault (map (index_of packages) flags) = sym none ∙ r_is ∙ ap index_fault (indexes_are ∙ same_indexes starts packages flags has known) in
    let tests : (k : ℕ) → k < 0 + infos.count → not (list_all (kind_fits infos starts k) flags) ≡ not (list_all (bit_fits packages infos k) flags) = λ k lt. ap not (same_fits infos starts packages k flags has known) in
    let second : kind ≡ kind_fault packages flags infos =
    kind_is ∙ ap (option_map (λ k. Disagree Kind k (byte_in infos k))) (least-same _ _ 0 infos.count tests ∙ ap (least (λ k. not (list_all (bit_fits packages infos k) flags)) 0) count) in
    second ∙ ap (λ (o : Option ImageFault). or_else o (kind_fault packages flags infos)) first

pub indexed_result : {E : Type 0} (infos : OpenList) (starts seen indexes : List ℕ) (packages : List Package) (flags : List Flag) (r : Option ImageFault) (answer : Result (Option ImageFault) E) → HasStarts starts packages → stray_id (length starts) flags ≡ None → infos.count ≡ length flags
    → indexes ≡ map (table_index starts) flags → r ≡ index_fault indexes → r ≡ None → seen ≡ starts → IfOk answer (λ fault. fault ≡ kind_fault_by seen flags infos) → IfOk answer (λ fault. fault ≡ indexed_fault packages flags infos)
indexed_result infos starts seen indexes packages flags r (Ok kind) has known count indexes_are r_is none seen_is kind_is =
    indexed_then infos starts indexes packages flags r kind has known count indexes_are r_is none (kind_is ∙ ap (λ (s : List ℕ). kind_fault_by s flags infos) seen_is)
indexed_result infos starts seen indexes packages flags r (Err e) has known count indexes_are r_is none seen_is kind_is = tt
