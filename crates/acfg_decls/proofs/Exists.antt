-- Declarations and values whose tests all hold compile to some flags.
use Rattle.std.proofs.Common.{◌≡◌, ℕ, zero, suc, ◌<◌, ◌≤◌, Bool, true, false, not, cond, T, List, [], ◌∷◌, ◌++◌, length, map, filter, get_or, insert, refl, sym, ap, subst, ◌∙◌, Ordering, Less, Equal, Greater, IsPermutation, arith, append_assoc, true≢false}
use Rattle.std.specs.Prelude.{All, Contains}
use Rattle.std.specs.List.{AllByRecursion, flat_map}
use Rattle.std.specs.Str.{bytes_eq}
use Rattle.std.specs.Ordering.{ordering_reverse}
use Rattle.std.specs.Cmp.{IsTotalOrder}
use Rattle.std.specs.Cmp.Lexicographic.{nat_list_cmp_total}
use Rattle.std.specs.FinMap.Entries.{below_all}
use Rattle.std.proofs.lemmas.List.{append-nil, append_cancel_left, get_or-map, get_or_default, length-map, map-append}
use Rattle.std.proofs.lemmas.List.Elements.{All-map}
use Rattle.std.proofs.lemmas.List.Sorted.{All-permutation, IsPermutation-cons, IsPermutation-insert, IsPermutation-map, IsPermutation-refl, IsPermutation-to_front, IsPermutation-trans}
use Rattle.std.proofs.lemmas.Map.Lookups.{exact_bytes}
use Rattle.std.proofs.lemmas.Slice.Eq.{bytes_eq-Decides}
use Rattle.acfg_base.specs.Names.{dot}
use Rattle.acfg_base.specs.Places.{AreInOrder, WouldStandAt}
use Rattle.acfg_base.proofs.Rows.{AreInOrder-insert, AreInOrder-map, Less_of, T_of, first_true, second_true, true_of}
use Rattle.acfg_decls.specs.declared.flags.Flag.{Flag}
use Rattle.acfg_decls.specs.declared.flags.Point.{Point}
use Rattle.acfg_decls.specs.declared.faults.DeclWhat.{DeclWhat}
use Rattle.acfg_decls.specs.declared.declared.DeclaredFlag.{DeclaredFlag}
use Rattle.acfg_decls.specs.declared.declared.DeclarationsFile.{DeclarationsFile}
use Rattle.acfg_decls.specs.declared.declared.FlagValue.{FlagValue}
use Rattle.acfg_decls.specs.declared.declared.ValuesFile.{ValuesFile}
use Rattle.acfg_decls.specs.Compile.{Compiles, FailsToCompile, Frees, Holds, all_tests, declarations_tests, declared, file_tests, flag_of, flag_tests, header_tests, is_of, last_of, names_of, point_of, points, sourced, start, value_tests}
use Rattle.acfg_decls.specs.Flags.{IsLawful, full_name}
use Rattle.acfg_decls.proofs.Applied.{both_true}
use Rattle.acfg_decls.proofs.Few.{holds_behind, holds_in_front}
use Rattle.acfg_decls.proofs.OneAnswer.{some_first_in}

-- ## Rows of different keys have an order

module _ {K Y : Type 0} {R : K → K → Ordering} (o : IsTotalOrder R) (key : Y → K) where
  -- a row's key ties with none of these
  abbrev Fresh : List Y → Y → Type 0
  Fresh rows y = All (λ row. R (key row) (key y) ≡ Equal → ⊥) rows

  -- each of these rows has a key that no row before it has
  abbrev pub AreFresh : List Y → List Y → Type 0
  AreFresh before [] = Unit {0}
  AreFresh before (row ∷ rows) = Fresh before row × AreFresh (before ++ row ∷ []) rows

  above : (x : K) (rows : List Y) → T (below_all R x (map (λ row. (key row, row)) rows)) → (i : ℕ) (d : Y) → i < length rows → R x (key (get_or rows i d)) ≡ Less
  above x [] h i d within = absurd (omega arith)
  above x (row ∷ rows) h zero d within = Less_of _ (first_true _ _ h)
  above x (row ∷ rows) h (suc i) d within = above x rows (second_true _ _ h) i d (omega arith)

  would_stand : (y : Y) (rows : List Y) → AreInOrder R key rows → Fresh rows y → (i : ℕ) × WouldStandAt R key rows (key y) i
  would_stand y [] sorted fresh = (0, record { within = omega arith; before = λ j d low. absurd (omega (arith, low)); behind = λ j d high within. absurd (omega (arith, within)) })
  would_stand y (row ∷ rows) sorted fresh =
      go (R (key row) (key y)) refl (would_stand y rows (true_of _ (second_true _ _ (T_of _ sorted))) (λ k d within. fresh (suc k) d (omega (arith, within))))
    where
      go : (r : Ordering) → R (key row) (key y) ≡ r → (i : ℕ) × WouldStandAt R key rows (key y) i → (i : ℕ) × WouldStandAt R key (row ∷ rows) (key y) i
      go Less is rest = (suc rest.0, record { within = omega (arith, rest.1.within); before = before; behind = behind })
        where
          before : (j : ℕ) (d : Y) → j < suc rest.0 → R (key (get_or (row ∷ rows) j d)) (key y) ≡ Less
          before zero d low = is
          before (suc j) d low = rest.1.before j d (omega (arith, low))

          behind : (j : ℕ) (d : Y) → suc rest.0 ≤ j → j < length (row ∷ rows) → R (key (get_or (row ∷ rows) j d)) (key y) ≡ Greater
          behind zero d high within = absurd (omega (arith, high))
          behind (suc j) d high within = rest.1.behind j d (omega (arith, high)) (omega (arith, within))
      go Equal is rest = absurd (fresh 0 row (omega arith) is)
      go Greater is rest = (0, record { within = omega arith; before = λ j d low. absurd (omega (arith, low)); behind = behind })
        where
          behind : (j : ℕ) (d : Y) → 0 ≤ j → j < length (row ∷ rows) → R (key (get_or (row ∷ rows) j d)) (key y) ≡ Greater
          behind zero d high within = is
          behind (suc j) d high within =
              let low : R (key y) (key row) ≡ Less = o.antisymm (key y) (key row) ∙ ap ordering_reverse is in
              let further = above (key row) rows (first_true _ _ (T_of _ sorted)) j d (omega (arith, within)) in
              let less = o.trans (key y) (key row) (key (get_or rows j d)) low further in
              o.antisymm (key (get_or rows j d)) (key y) ∙ ap ordering_reverse less

  -- rows in order, and fresh ones behind them, have an order
  pub ordered : (before sorted : List Y) → IsPermutation before sorted → AreInOrder R key sorted → (rows : List Y) → AreFresh before rows
      → (all : List Y) × IsPermutation (before ++ rows) all × AreInOrder R key all
  ordered before sorted moved order [] fresh = (sorted, subst (λ rows. IsPermutation rows sorted) (sym (append-nil before)) moved, order)
  ordered before sorted moved order (row ∷ rows) fresh =
      let place = would_stand row sorted order (All-permutation (λ other. R (key other) (key row) ≡ Equal → ⊥) before sorted moved fresh.0) in
      let front = IsPermutation-trans (row ∷ before) (row ∷ sorted) (insert sorted place.0 row) (IsPermutation-cons row before sorted moved) (IsPermutation-insert sorted place.0 row) in
      let next = IsPermutation-trans (before ++ row ∷ []) (row ∷ before) (insert sorted place.0 row) (IsPermutation-to_front before row) front in
      let made = ordered (before ++ row ∷ []) (insert sorted place.0 row) next (AreInOrder-insert o key sorted order place.0 row place.1) rows fresh.1 in
      (made.0, subst (λ all. IsPermutation all made.0) (append_assoc before (row ∷ []) rows) made.1, made.2)

-- ## Declared flags have different names

abbrev Row : Type 0
Row = List ℕ × DeclaredFlag

abbrev key_in : List ℕ → Row → List ℕ
key_in «package» row = «package» ++ dot ∷ row.1.name.text

abbrev names_in : List Row → List (List ℕ)
names_in rows = map (λ row. row.1.name.text) rows

module _ («package» : List ℕ) where
  fresh_name : (before : List Row) (row : Row) → (Contains (names_in before) row.1.name.text → ⊥) → Fresh nat_list_cmp_total (key_in «package») before row
  fresh_name before row new k d within tie =
      let same : key_in «package» (get_or before k d) ≡ key_in «package» row = exact_bytes _ _ tie in
      let tails : dot ∷ (get_or before k d).1.name.text ≡ dot ∷ row.1.name.text = append_cancel_left «package» _ _ same in
      let one : (get_or before k d).1.name.text ≡ row.1.name.text = cc in
      new (k, omega (arith, within, length-map before (λ row. row.1.name.text)), get_or-map (λ row. row.1.name.text) before k d row.1.name.text within ∙ one)

  fresh_flags : (before : List Row) (earlier : List (List ℕ)) → names_in before ≡ earlier → (source : List ℕ) (flags : List DeclaredFlag) → AllByRecursion Holds (flag_tests earlier flags)
      → (rest : List Row) → AreFresh nat_list_cmp_total (key_in «package») (before ++ map (λ flag. (source, flag)) flags) rest
      → AreFresh nat_list_cmp_total (key_in «package») before (map (λ flag. (source, flag)) flags ++ rest)
  fresh_flags before earlier named source [] holds rest fresh = subst (λ rows. AreFresh nat_list_cmp_total (key_in «package») rows rest) (append-nil before) fresh
  fresh_flags before earlier named source (flag ∷ flags) holds rest fresh =
      let new = holds.1.1.1.1.0 in (
        fresh_name before (source, flag) (subst (λ names. Contains names flag.name.text → ⊥) (sym named) new),
        fresh_flags (before ++ (source, flag) ∷ []) (earlier ++ flag.name.text ∷ []) (map-append (λ row. row.1.name.text) before ((source, flag) ∷ []) ∙ ap (λ names. names ++ flag.name.text ∷ []) named) source flags holds.1.1.1.1.1.1 rest
            (subst (λ rows. AreFresh nat_list_cmp_total (key_in «package») rows rest) (sym (append_assoc before ((source, flag) ∷ []) (map (λ flag. (source, flag)) flags))) fresh),
      )

  fresh_files : (container : List ℕ) (before : List Row) (earlier : List (List ℕ)) → names_in before ≡ earlier → (files : List DeclarationsFile)
      → AllByRecursion (AllByRecursion Holds) (declarations_tests «package» container earlier files) → AreFresh nat_list_cmp_total (key_in «package») before (declared files)
  fresh_files container before earlier named [] holds = tt
  fresh_files container before earlier named (file ∷ files) holds =
      let rows : List Row = map (λ flag. (file.source, flag)) file.flags in
      let more : names_in (before ++ rows) ≡ earlier ++ names_of file.flags =
      map-append (λ row. row.1.name.text) before rows ∙ ap (λ names. names ++ names_in rows) named ∙ ap (λ names. earlier ++ names) (same_names file.source file.flags) in
      fresh_flags before earlier named file.source file.flags (holds_behind Holds (header_tests «package» container file) _ holds.0) (declared files)
      (fresh_files container (before ++ rows) (earlier ++ names_of file.flags) more files holds.1)
    where
      same_names : (source : List ℕ) (flags : List DeclaredFlag) → names_in (map (λ flag. (source, flag)) flags) ≡ names_of flags
      same_names source [] = refl
      same_names source (flag ∷ flags) = ap (λ names. flag.name.text ∷ names) (same_names source flags)

-- ## Flags are lawful

module _ («package» : List ℕ) (rows : List Row) where
  abbrev Kept : List ℕ × FlagValue → Type 0
  Kept value = Frees «package» rows value.1 → ⊥

  kept_values : (source : List ℕ) (values : List FlagValue) → AllByRecursion Holds (flat_map (value_tests «package» rows) values) → AllByRecursion Kept (map (λ value. (source, value)) values)
  kept_values source [] holds = tt
  kept_values source (value ∷ values) holds = (holds.1.1.0, kept_values source values holds.1.1.1)

  all_append : (front rest : List (List ℕ × FlagValue)) → AllByRecursion Kept front → AllByRecursion Kept rest → AllByRecursion Kept (front ++ rest)
  all_append [] rest f r = r
  all_append (value ∷ front) rest f r = (f.0, all_append front rest f.1 r)

  kept_files : (files : List ValuesFile) → AllByRecursion (AllByRecursion Holds) (map (file_tests «package» rows) files) → AllByRecursion Kept (flat_map sourced files)
  kept_files [] holds = tt
  kept_files (file ∷ files) holds = all_append (sourced file) (flat_map sourced files) (kept_values file.source file.values holds.0) (kept_files files holds.1)

  -- the points of a fixed flag aren't READ_WRITE
  module _ (row : Row) (inside : Contains rows row) (fixed : row.1.fixed ≡ true) where
    not_writable : (value : List ℕ × FlagValue) → Kept value → is_of «package» row.1.name.text value ≡ true → value.1.writable ≡ false
    not_writable value kept of = go value.1.writable refl
      where
        go : (b : Bool) → value.1.writable ≡ b → b ≡ false
        go false is = refl
        go true is =
            let both = both_true (bytes_eq value.1.package.text «package») (bytes_eq value.1.name.text row.1.name.text) of in
            absurd (kept (record {
              of = (bytes_eq-Decides value.1.package.text «package»).0 both.0;
              writable = is;
              fixed = (inside.0, row, inside.1, inside.2, (sym ((bytes_eq-Decides value.1.name.text row.1.name.text).0 both.1), fixed));
            }))

    last_kept : (first : Point) → first.writable ≡ false → (values : List (List ℕ × FlagValue)) → AllByRecursion Kept values
        → (last_of first (points «package» row.1.name.text values)).writable ≡ false
    last_kept first is [] kept = is
    last_kept first is (value ∷ values) kept = go (is_of «package» row.1.name.text value) refl (λ point straight. last_kept point straight values kept.1)
      where
        go : (b : Bool) → is_of «package» row.1.name.text value ≡ b
            → ((point : Point) → point.writable ≡ false → (last_of point (points «package» row.1.name.text values)).writable ≡ false)
            → (last_of first (map point_of (cond b (value ∷ filter (is_of «package» row.1.name.text) values) (filter (is_of «package» row.1.name.text) values)))).writable ≡ false
        go true of later = later (point_of value) (not_writable value kept.0 of)
        go false of later = later first is

  lawful : (container : List ℕ) (values : List (List ℕ × FlagValue)) → AllByRecursion Kept values → All (λ row. IsLawful (flag_of «package» container values row)) rows
  lawful container values kept k d within =
      let row = get_or rows k d in
      record {
        straight = λ fixed writable.
            let none = last_kept row (k, within, get_or_default rows k row d within) fixed (start row.0 row.1) (ap not fixed) values kept in
            true≢false (sym writable ∙ none);
        traced = omega arith;
      }

-- ## So they compile, or have a first fault

pub compiles : («package» container : List ℕ) (files : List DeclarationsFile) (values : List ValuesFile) → AllByRecursion (AllByRecursion Holds) (all_tests «package» container files values)
    → (flags : List Flag) × Compiles «package» container files values flags
compiles «package» container files values passed =
    let of_declarations = holds_in_front (AllByRecursion Holds) (declarations_tests «package» container [] files) (map (file_tests «package» (declared files)) values) passed in
    let of_values = holds_behind (AllByRecursion Holds) (declarations_tests «package» container [] files) (map (file_tests «package» (declared files)) values) passed in
    let make = flag_of «package» container (flat_map sourced values) in
    let rows = ordered nat_list_cmp_total (key_in «package») [] [] (IsPermutation-refl []) refl (declared files) (fresh_files «package» container [] [] refl files of_declarations) in
    let each = lawful «package» (declared files) container (flat_map sourced values) (kept_files «package» (declared files) values of_values) in (
      map make rows.0,
      record {
        passed = passed;
        are = record {
          sorted = AreInOrder-map nat_list_cmp_total full_name make rows.0 rows.2;
          each = All-map IsLawful make rows.0 (All-permutation (λ row. IsLawful (make row)) (declared files) rows.0 rows.1 each);
        };
        same = IsPermutation-map make (declared files) rows.0 rows.1;
      },
    )

pub compiles_or_fails : («package» container : List ℕ) (files : List DeclarationsFile) (values : List ValuesFile) → ((flags : List Flag) → Compiles «package» container files values flags → ⊥)
    → ((file place : ℕ) (fault : DeclWhat) → FailsToCompile (all_tests «package» container files values) file place fault → ⊥) → ⊥
compiles_or_fails «package» container files values none =
    some_first_in 0 (all_tests «package» container files values) (λ passed. let made = compiles «package» container files values passed in none made.0 made.1)
