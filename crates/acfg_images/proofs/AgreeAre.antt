-- No byte is unlawful, and nothing disagrees, exactly where bits are lawful and the files agree.
use Rattle.std.proofs.Common.{◌≡◌, ℕ, ◌+◌, ◌<◌, ◌≤◌, Bool, true, false, cond, eqb, ltb, not, ◌||◌, List, [], ◌∷◌, length, get_or, drop, map, All, Option, Some, None, inl, inr, refl, sym, ap, subst, ◌∙◌, arith}
use Rattle.std.specs.List.{list_any, list_all}
use Rattle.std.specs.Option.{option_map}
use Rattle.std.specs.Str.{bytes_eq}
use Rattle.std.proofs.lemmas.Bool.{cases_eq, not-false, ltb-true, ltb-false, lt-ltb, le-ltb, eqb-true, eq-eqb, ne_eqb, true_from_ne_false, both_ways}
use Rattle.std.proofs.lemmas.Bool.Decides.{nat_tests, Decides-by_and}
use Rattle.std.proofs.lemmas.List.{get_or-drop, length-drop, length-map}
use Rattle.std.proofs.lemmas.List.Elements.{All-nil, All-cons, All-head, All-tail, All-from_get_or}
use Rattle.std.proofs.lemmas.List.Folds.{list_all_at}
use Rattle.std.proofs.lemmas.Slice.Eq.{bytes_eq-Decides}
use Rattle.std.proofs.Math.ListN.{get_or-map}
use Rattle.acfg_base.specs.Release.{is_read_write}
use Rattle.acfg_views.specs.Layout.{Package, Flag}
use Rattle.acfg_views.specs.Reading.{OpenList, byte_in}
use Rattle.acfg_views.specs.Parts.{parts_of, list_parts_of}
use Rattle.acfg_images.specs.declared.purpose.Use.{Use}
use Rattle.acfg_images.specs.declared.purpose.Use.TheVariants.{Release, Copy}
use Rattle.acfg_images.specs.declared.fault.FileType.TheVariants.{FlagVal, FlagInfo}
use Rattle.acfg_images.specs.declared.fault.Point2.TheVariants.{Container, Id, Count, Index}
use Rattle.acfg_images.specs.declared.fault.Point2.TheVariants as on
use Rattle.acfg_images.specs.declared.fault.ImageFault.TheVariants.{Bits, Disagree}
use Rattle.acfg_images.specs.Words.{least, AreNumbered}
use Rattle.acfg_images.specs.Set.{SetParts, IsInfo, Agree, index_of, has_read_write}
use Rattle.acfg_images.specs.Faults.{Opened, or_else, is_info, bits_fault, container_fault, id_fault, count_fault, stray_id, package_fault, having, index_fault, same_bit, bit_fits, kind_fault, indexed_fault, disagreement}
use Rattle.acfg_images.proofs.Least.{least-none, least-none_from}
use Rattle.acfg_images.proofs.Pigeon.{AreNumbered-from_some, AreNumbered-below, some_counted, counted_some}
use Rattle.acfg_images.proofs.KeysAre.{or_else_none, or_else_both, option_map_none, option_map_from}

-- ---- the bytes of an open list

abbrev bytes_of : OpenList → List ℕ
bytes_of list = drop list.first_byte list.file

byte_is : (list : OpenList) (i : ℕ) → get_or (bytes_of list) i 0 ≡ byte_in list i
byte_is list i = get_or-drop list.first_byte list.file i 0

-- as many as its header says
abbrev pub HasCount : OpenList → Type 0
HasCount list = list.first_byte + list.count ≡ length list.file

count_is : (list : OpenList) → HasCount list → length (bytes_of list) ≡ list.count
count_is list ends = omega (arith, length-drop list.first_byte list.file)

-- ---- bits

pub info_is : (purpose : Use) (byte : ℕ) → is_info purpose byte ≡ true → IsInfo purpose byte
info_is Release byte e = grind (arith, nat_tests)
info_is Copy byte e = grind (arith, nat_tests)

pub is_info_from : (purpose : Use) (byte : ℕ) → IsInfo purpose byte → is_info purpose byte ≡ true
is_info_from Release byte is = grind (arith, nat_tests)
is_info_from Copy byte is = grind (arith, nat_tests)

-- the bytes of an open list are lawful
abbrev AreLawful : (ℕ → Type 0) → OpenList → Type 0
AreLawful P list = All P (bytes_of list)

lawful : (P : ℕ → Type 0) (list : OpenList) → HasCount list → ((i : ℕ) → i < list.count → P (byte_in list i)) → AreLawful P list
lawful P list ends each = All-from_get_or P (bytes_of list) 0 (λ i lt. subst P (sym (byte_is list i)) (each i (omega (arith, count_is list ends))))

lawful_at : (P : ℕ → Type 0) (list : OpenList) → HasCount list → AreLawful P list → (i : ℕ) → i < list.count → P (byte_in list i)
lawful_at P list ends all i lt = subst P (byte_is list i) (all i 0 (omega (arith, count_is list ends)))

module _ (purpose : Use) (opened : Opened) (values : HasCount opened.values) (infos : HasCount opened.infos) where
  big : ℕ → Bool
  big i = ltb 1 (byte_in opened.values i)

  odd : ℕ → Bool
  odd i = not (is_info purpose (byte_in opened.infos i))

  pub lawful_bits : bits_fault purpose opened ≡ None → AreLawful (λ byte. byte ≤ 1) opened.values × AreLawful (IsInfo purpose) opened.infos
  unfolding big odd
  lawful_bits e =
      let a = or_else_none (option_map (Bits FlagVal) (least big 0 opened.values.count)) (option_map (Bits FlagInfo) (least odd 0 opened.infos.count)) e in
      let low = least-none big 0 opened.values.count (option_map_none (Bits FlagVal) (least big 0 opened.values.count) a.0) in
      let good = least-none odd 0 opened.infos.count (option_map_none (Bits FlagInfo) (least odd 0 opened.infos.count) a.1) in (
        lawful (λ byte. byte ≤ 1) opened.values values (λ i lt. ltb-false 1 (byte_in opened.values i) (low i (omega arith) (omega arith))),
        lawful (IsInfo purpose) opened.infos infos (λ i lt. info_is purpose (byte_in opened.infos i) (not-false (is_info purpose (byte_in opened.infos i)) (good i (omega arith) (omega arith)))),
      )

  pub no_bits_fault : AreLawful (λ byte. byte ≤ 1) opened.values → AreLawful (IsInfo purpose) opened.infos → bits_fault purpose opened ≡ None
  unfolding big odd
  no_bits_fault low good =
      let first : least big 0 opened.values.count ≡ None =
      least-none_from big 0 opened.values.count (λ i le lt. le-ltb 1 (byte_in opened.values i) (lawful_at (λ byte. byte ≤ 1) opened.values values low i (omega arith))) in
      let second : least odd 0 opened.infos.count ≡ None =
      least-none_from odd 0 opened.infos.count (λ i le lt. ap not (is_info_from purpose (byte_in opened.infos i) (lawful_at (IsInfo purpose) opened.infos infos good i (omega arith)))) in
      or_else_both (option_map (Bits FlagVal) (least big 0 opened.values.count)) (option_map (Bits FlagInfo) (least odd 0 opened.infos.count))
      (option_map_from (Bits FlagVal) (least big 0 opened.values.count) first) (option_map_from (Bits FlagInfo) (least odd 0 opened.infos.count) second)

-- ---- containers and counts

cond_none : {A : Type 0} (b : Bool) (x : A) (rest : Option A) → cond b (Some x) rest ≡ None → (b ≡ false) × (rest ≡ None)
cond_none true x rest e = absurd cc
cond_none false x rest e = (refl, e)

cond_none_from : {A : Type 0} (b : Bool) (x : A) (rest : Option A) → b ≡ false → rest ≡ None → cond b (Some x) rest ≡ None
cond_none_from b x rest p q = rw (p, q) refl

same_text : (a b : List ℕ) → not (bytes_eq a b) ≡ false → a ≡ b
same_text a b e = (bytes_eq-Decides a b).0 (not-false (bytes_eq a b) e)

not_other : (a b : List ℕ) → a ≡ b → not (bytes_eq a b) ≡ false
not_other a b e = ap not ((bytes_eq-Decides a b).1 e)

same_number : (a b : ℕ) → not (eqb a b) ≡ false → a ≡ b
same_number a b e = eqb-true a b (not-false (eqb a b) e)

not_other_number : (a b : ℕ) → a ≡ b → not (eqb a b) ≡ false
not_other_number a b e = ap not (eq-eqb a b e)

-- the three containers are that of package.map
pub record ShareContainer (opened : Opened) : Type 0 where
  pub flag_map : opened.flag_map.container ≡ opened.package_map.container
  pub values : opened.values.container ≡ opened.package_map.container
  pub infos : opened.infos.container ≡ opened.package_map.container

containers : (opened : Opened) → container_fault opened ≡ None → ShareContainer opened
containers opened e =
    let container = opened.package_map.container in
    let a = cond_none (not (bytes_eq opened.flag_map.container container)) (Disagree Container 1 0) _ e in
    let b = cond_none (not (bytes_eq opened.values.container container)) (Disagree Container 2 0) _ a.1 in
    let c = cond_none (not (bytes_eq opened.infos.container container)) (Disagree Container 3 0) _ b.1 in
    record { flag_map = same_text _ _ a.0; values = same_text _ _ b.0; infos = same_text _ _ c.0 }

no_container_fault : (opened : Opened) → ShareContainer opened → container_fault opened ≡ None
no_container_fault opened share =
    cond_none_from _ (Disagree Container 1 0) _ (not_other _ _ share.flag_map)
    (cond_none_from _ (Disagree Container 2 0) _ (not_other _ _ share.values) (cond_none_from _ (Disagree Container 3 0) _ (not_other _ _ share.infos) refl))

pub counts : (opened : Opened) → count_fault opened ≡ None → (opened.values.count ≡ opened.flag_map.count) × (opened.infos.count ≡ opened.flag_map.count)
counts opened e =
    let count = opened.flag_map.count in
    let a = cond_none (not (eqb opened.values.count count)) (Disagree Count opened.values.count count) _ e in
    let b = cond_none (not (eqb opened.infos.count count)) (Disagree Count opened.infos.count count) _ a.1 in
    (same_number _ _ a.0, same_number _ _ b.0)

no_count_fault : (opened : Opened) → opened.values.count ≡ opened.flag_map.count → opened.infos.count ≡ opened.flag_map.count → count_fault opened ≡ None
no_count_fault opened p q =
    let count = opened.flag_map.count in
    cond_none_from _ (Disagree Count opened.values.count count) _ (not_other_number _ _ p) (cond_none_from _ (Disagree Count opened.infos.count count) _ (not_other_number _ _ q) refl)

-- ---- ids

abbrev id_in : Package → ℕ
id_in node = node.id

ids : (packages : List Package) → id_fault packages ≡ None → AreNumbered (map id_in packages)
ids packages e =
    let none = least-none (λ k. not (list_any (λ node. eqb node.id k) packages)) 0 (length packages) (option_map_none (λ k. Disagree Id k (length packages)) _ e) in
    AreNumbered-from_some (map id_in packages) (λ k lt. some_counted id_in k packages (not-false (list_any (λ node. eqb node.id k) packages) (none k (omega arith) (omega (arith, length-map packages id_in)))))

no_id_fault : (packages : List Package) → AreNumbered (map id_in packages) → id_fault packages ≡ None
no_id_fault packages numbered =
    option_map_from (λ k. Disagree Id k (length packages)) _
    (least-none_from (λ k. not (list_any (λ node. eqb node.id k) packages)) 0 (length packages) (λ k le lt.
    let once = numbered k (omega (arith, length-map packages id_in)) in
    ap not (counted_some id_in k packages (omega (arith, once)))))

-- ---- package ids of flags

known : (count : ℕ) (flags : List Flag) → stray_id count flags ≡ None → All (λ flag. flag.package_id < count) flags
known count [] e = All-nil (λ (flag : Flag). flag.package_id < count)
known count (flag ∷ flags) e = go (ltb flag.package_id count) refl (known count flags) e
  where
    go : (b : Bool) → ltb flag.package_id count ≡ b → (stray_id count flags ≡ None → All (λ flag. flag.package_id < count) flags) → cond b (stray_id count flags) (Some flag.package_id) ≡ None → All (λ flag. flag.package_id < count) (flag ∷ flags)
    go true is so p = All-cons (λ (flag : Flag). flag.package_id < count) flag flags (ltb-true _ _ is) (so p)
    go false is so p = absurd cc

no_stray_id : (count : ℕ) (flags : List Flag) → All (λ flag. flag.package_id < count) flags → stray_id count flags ≡ None
no_stray_id count [] all = refl
no_stray_id count (flag ∷ flags) all =
    let here = lt-ltb flag.package_id count (All-head (λ (flag : Flag). flag.package_id < count) flag flags all) in
    let rest = no_stray_id count flags (All-tail (λ (flag : Flag). flag.package_id < count) flag flags all) in
    rw (here, rest) refl

-- ---- global indexes

indexes_once : (indexes : List ℕ) → index_fault indexes ≡ None → AreNumbered indexes
indexes_once indexes e k lt =
    let none = least-none (λ k. not (eqb (having indexes k) 1)) 0 (length indexes) (option_map_none (λ k. Disagree Index k (having indexes k)) _ e) in
    same_number (having indexes k) 1 (none k (omega arith) (omega arith))

no_index_fault : (indexes : List ℕ) → AreNumbered indexes → index_fault indexes ≡ None
no_index_fault indexes numbered =
    option_map_from (λ k. Disagree Index k (having indexes k)) _
    (least-none_from (λ k. not (eqb (having indexes k) 1)) 0 (length indexes) (λ k le lt. not_other_number (having indexes k) 1 (numbered k (omega arith))))

-- ---- types

same_bits : (a b : Bool) → same_bit a b ≡ true → a ≡ b
same_bits true true e = refl
same_bits true false e = absurd cc
same_bits false true e = absurd cc
same_bits false false e = refl

same_bit-refl : (a b : Bool) → a ≡ b → same_bit a b ≡ true
same_bit-refl true b e = sym e
same_bit-refl false b e = rw (← e) refl

or_true : (a b : Bool) → a ≡ true → (not a || b) ≡ true → b ≡ true
or_true a b p e = rw p at e

module _ (packages : List Package) (flags : List Flag) (infos : OpenList) where
  -- the read-write bit at a flag's index is its type
  abbrev pub HasItsBit : Flag → Type 0
  HasItsBit flag = has_read_write (byte_in infos (index_of packages flag)) ≡ is_read_write flag.kind

  unfit : ℕ → Bool
  unfit k = not (list_all (bit_fits packages infos k) flags)

  have_bits : All (λ flag. index_of packages flag < length flags) flags → kind_fault packages flags infos ≡ None → All HasItsBit flags
  unfolding unfit
  have_bits below e j d lt =
      let flag = get_or flags j d in
      let k = index_of packages flag in
      let none = least-none unfit 0 (length flags) (option_map_none (λ k. Disagree on.Kind k (byte_in infos k)) (least unfit 0 (length flags)) e) k (omega arith) (let h = below j d lt in omega (arith, h)) in
      let all = not-false (list_all (bit_fits packages infos k) flags) none in
      let fits = true_from_ne_false (bit_fits packages infos k flag) (λ f. both_ways _ (list_all_at (bit_fits packages infos k) flags j d lt f) all) in
      same_bits _ _ (or_true (eqb k k) _ (eq-eqb k k refl) fits)

  no_kind_fault : All HasItsBit flags → kind_fault packages flags infos ≡ None
  unfolding unfit
  no_kind_fault have =
      option_map_from (λ k. Disagree on.Kind k (byte_in infos k)) (least unfit 0 (length flags))
      (least-none_from unfit 0 (length flags) (λ k le lt. ap not ((Decides-by_and (bit_fits packages infos k) (λ flag. bit_fits packages infos k flag ≡ true) (list_all (bit_fits packages infos k)) (λ flag. (λ p. p, λ p. p)) refl (λ _ _. refl) flags).1 (fit k))))
    where
      fit : (k : ℕ) → All (λ flag. bit_fits packages infos k flag ≡ true) flags
      fit k j d lt =
          let flag = get_or flags j d in
          elim (cases_eq (index_of packages flag) k) [
            | inl here ↦ at_place k flag here (have j d lt)
            | inr other ↦ let test = ne_eqb (index_of packages flag) k other in rw test refl
          ]
        where
          right : (b : Bool) → (b || true) ≡ true
          right true = refl
          right false = refl

          at_place : (k : ℕ) (flag : Flag) → index_of packages flag ≡ k → HasItsBit flag → bit_fits packages infos k flag ≡ true
          at_place k flag here has =
              let bit : same_bit (has_read_write (byte_in infos k)) (is_read_write flag.kind) ≡ true = same_bit-refl _ _ (subst (λ (n : ℕ). has_read_write (byte_in infos n) ≡ is_read_write flag.kind) here has) in
              rw bit (right (not (eqb (index_of packages flag) k)))

-- ---- all that has to agree

-- the parts of four open files with these nodes
abbrev pub parts_with : Opened → List Package → List Flag → SetParts
parts_with opened packages flags = record {
  package_map = parts_of opened.package_map packages;
  flag_map = parts_of opened.flag_map flags;
  values = list_parts_of opened.values;
  infos = list_parts_of opened.infos;
}

module _ (opened : Opened) (packages : List Package) (flags : List Flag) (values : HasCount opened.values) (infos : HasCount opened.infos) (count : length flags ≡ opened.flag_map.count) where
  pub agree : disagreement opened packages flags ≡ None → Agree (parts_with opened packages flags)
  agree e =
      let a = or_else_none (container_fault opened) (or_else (id_fault packages) (or_else (count_fault opened) (or_else (package_fault (length packages) flags) (indexed_fault packages flags opened.infos)))) e in
      let b = or_else_none (id_fault packages) (or_else (count_fault opened) (or_else (package_fault (length packages) flags) (indexed_fault packages flags opened.infos))) a.1 in
      let c = or_else_none (count_fault opened) (or_else (package_fault (length packages) flags) (indexed_fault packages flags opened.infos)) b.1 in
      let d = or_else_none (package_fault (length packages) flags) (indexed_fault packages flags opened.infos) c.1 in
      let f = or_else_none (index_fault (map (index_of packages) flags)) (kind_fault packages flags opened.infos) d.1 in
      let share = containers opened a.0 in
      let sizes = counts opened c.0 in
      let once = indexes_once (map (index_of packages) flags) f.0 in
      let below : All (λ flag. index_of packages flag < length flags) flags = λ j d lt. below_at once j d lt in
      let have = have_bits packages flags opened.infos below f.1 in
      record {
        flag_map_container = share.flag_map;
        values_container = share.values;
        infos_container = share.infos;
        ids = ids packages b.0;
        value_count = count_is opened.values values ∙ sizes.0 ∙ sym count;
        info_count = count_is opened.infos infos ∙ sizes.1 ∙ sym count;
        packages = known (length packages) flags (option_map_none (λ id. Disagree on.Package id (length packages)) (stray_id (length packages) flags) d.0);
        indexes = once;
        kinds = λ j d lt. ap has_read_write (byte_is opened.infos (index_of packages (get_or flags j d))) ∙ have j d lt;
      }
    where
      below_at : AreNumbered (map (index_of packages) flags) → (j : ℕ) (d : Flag) → j < length flags → index_of packages (get_or flags j d) < length flags
      below_at once j d lt =
          let h = AreNumbered-below (map (index_of packages) flags) once j (index_of packages d) (omega (arith, length-map flags (index_of packages))) in
          let e : get_or (map (index_of packages) flags) j (index_of packages d) ≡ index_of packages (get_or flags j d) = get_or-map (index_of packages) flags j d in
          omega (arith, h, e, length-map flags (index_of packages))

  pub no_disagreement : Agree (parts_with opened packages flags) → disagreement opened packages flags ≡ None
  no_disagreement agrees =
      let share : ShareContainer opened = record { flag_map = agrees.flag_map_container; values = agrees.values_container; infos = agrees.infos_container } in
      let first = no_container_fault opened share in
      let second = no_id_fault packages agrees.ids in
      let third = no_count_fault opened (sym (count_is opened.values values) ∙ agrees.value_count ∙ count) (sym (count_is opened.infos infos) ∙ agrees.info_count ∙ count) in
      let fourth : package_fault (length packages) flags ≡ None = option_map_from (λ id. Disagree on.Package id (length packages)) (stray_id (length packages) flags) (no_stray_id (length packages) flags agrees.packages) in
      let fifth : indexed_fault packages flags opened.infos ≡ None =
      or_else_both (index_fault (map (index_of packages) flags)) (kind_fault packages flags opened.infos) (no_index_fault (map (index_of packages) flags) agrees.indexes)
      (no_kind_fault packages flags opened.infos (λ j d lt. sym (ap has_read_write (byte_is opened.infos (index_of packages (get_or flags j d)))) ∙ agrees.kinds j d lt)) in
      or_else_both _ _ first (or_else_both _ _ second (or_else_both _ _ third (or_else_both _ _ fourth fifth)))
