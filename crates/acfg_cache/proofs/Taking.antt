-- Rows in order, taken one by one: what is kept, and the first clash.
use Rattle.std.proofs.Common.{◌≡◌, ℕ, ◌+◌, ◌-◌, ◌<◌, Bool, List, [], ◌∷◌, ◌++◌, length, take, get_or, slice_get, Option, None, Some, Ordering, Less, Equal, Greater, refl, sym, ap, subst, ◌∙◌, arith, inl, inr, true≢false}
use Rattle.std.specs.Prelude.{All, Contains, IfSome}
use Rattle.std.specs.List.{last_or}
use Rattle.std.specs.Ordering.{nat_cmp, ordering_reverse}
use Rattle.std.specs.Cmp.{tied_itself}
use Rattle.std.specs.Cmp.Lexicographic.{slice_cmp}
use Rattle.std.proofs.lemmas.Cmp.{nat_list_cmp_total}
use Rattle.std.proofs.lemmas.Bool.{cases_lt}
use Rattle.std.proofs.lemmas.List.{get_or_default, take_more}
use Rattle.std.proofs.lemmas.List.Elements.{All-push, Contains-append_left, Contains-push, Contains-push_cases}
use Rattle.std.proofs.lemmas.Map.Lookups.{exact_bytes}
use Rattle.std.proofs.lemmas.Option.{get_or_from_slice_get, slice_get_within}
use Rattle.acfg_decls.specs.declared.flags.Flag.{Flag}
use Rattle.acfg_decls.specs.Flags.{IsLawful, full_name}
use Rattle.acfg_cache.specs.declared.fault.MergeFault.{MergeFault}
use Rattle.acfg_cache.specs.declared.fault.MergeFault.TheVariants.{Clash, OutOfMemory}
use Rattle.acfg_cache.specs.Merging.{ClashesIn, FirstClashIn, IfClash, IsFirstClash, IsMerged, StandsIn}
use Rattle.acfg_cache.specs.Rows.{Adds, Ascend, InRows, IsClashOf, IsNew, IsSame, IsTaken, Listed, row_order}
use Rattle.acfg_cache.proofs.Orders.{are_flags, last_is, rise_more}
use Rattle.acfg_cache.proofs.RowLists.{AreRowsOf}
use Rattle.acfg_cache.proofs.RowOrder.{before_less, earlier_list, in_before, in_whole, less_by_list, less_by_name, names, not_greater}

last_in : {X : Type 0} (xs : List X) (x : X) → last_or None xs ≡ Some x → Contains xs x
last_in xs x last =
    let got : slice_get xs (length xs - 1) ≡ Some x = sym (last_is xs) ∙ last in
    (length xs - 1, slice_get_within xs (length xs - 1) x got, get_or_from_slice_get xs (length xs - 1) x x got)

last_pushed : {X : Type 0} (o : Option X) (xs : List X) (x : X) → last_or o (xs ++ x ∷ []) ≡ Some x
last_pushed o [] x = refl
last_pushed o (y ∷ ys) x = last_pushed (Some y) ys x

each_some : {X : Type 0} (o : Option X) (P : X → Type 0) → ((x : X) → o ≡ Some x → P x) → IfSome o P
each_some None P h = tt
each_some (Some x) P h = h x refl

some_holds : {X : Type 0} (o : Option X) (x : X) (P : X → Type 0) → o ≡ Some x → IfSome o P → P x
some_holds o x P is holds = subst (λ (v : Option _). IfSome v P) is holds

turned_less : (a b : Listed) → names a b ≡ Less → names b a ≡ Greater
turned_less a b less = nat_list_cmp_total.antisymm (full_name b.1) (full_name a.1) ∙ ap ordering_reverse less

-- where it is neither less nor equal, it is greater
greater : (r : Ordering) → (r ≡ Less → ⊥) → (r ≡ Equal → ⊥) → r ≡ Greater
greater Less less equal = absurd (less refl)
greater Equal less equal = absurd (equal refl)
greater Greater less equal = refl

pub taken_none : (dedup : Bool) → IsTaken dedup [] []
taken_none dedup = record {
  rise = λ k d within. absurd (omega (arith, within));
  lawful = λ k d within. absurd (omega (arith, within));
  from = λ flag has. absurd (omega (arith, has.1));
  all = λ row has. absurd (omega (arith, has.1));
  settled = λ a b has other same. absurd (omega (arith, has.1));
  below = λ row has. absurd (omega (arith, has.1));
}

module _ (dedup : Bool) (rows : List Listed) (flags : List Flag) (row : Listed) (taken : IsTaken dedup rows flags) (less : (s : Listed) → Contains rows s → row_order s row ≡ Less) where
  -- a new name is greater than the last one that was taken
  new_greater : IsNew (last_or None flags) row.1 → (last : Flag) → last_or None flags ≡ Some last → slice_cmp nat_cmp (full_name row.1) (full_name last) ≡ Greater
  new_greater new last is =
      let found = taken.from last (last_in flags last is) in
      let lower = less (found.0, last) found.1 in
      greater (slice_cmp nat_cmp (full_name row.1) (full_name last))
      (λ under. not_greater (found.0, last) row lower (turned_less row (found.0, last) under))
      (some_holds (last_or None flags) last (λ other. slice_cmp nat_cmp (full_name row.1) (full_name other) ≡ Equal → ⊥) is new)

  -- so it is no name that was taken
  new_apart : IsNew (last_or None flags) row.1 → (s : Listed) → Contains rows s → full_name s.1 ≡ full_name row.1 → ⊥
  new_apart new s has same =
      let (last, is, below) = taken.below s has in
      below (ap (λ name. slice_cmp nat_cmp name (full_name last)) same ∙ new_greater new last is)

  pub taken_new : IsLawful row.1 → IsNew (last_or None flags) row.1 → IsTaken dedup (rows ++ row ∷ []) (flags ++ row.1 ∷ [])
  taken_new lawful new = record {
    rise = rise_more flags row.1 0 taken.rise (
      each_some (last_or None flags) (λ other. slice_cmp nat_cmp (full_name row.1) (full_name other) ≡ Less → ⊥) (λ last is under. let e : Less ≡ Greater = sym under ∙ new_greater new last is in cc),
      (new, tt),
    );
    lawful = All-push IsLawful flags row.1 taken.lawful lawful;
    from = λ flag has. elim (Contains-push_cases flags row.1 flag has) [
      | inl old ↦ let found = taken.from flag old in (found.0, Contains-append_left rows (row ∷ []) (found.0, flag) found.1)
      | inr same ↦ (row.0, subst (λ (f : Flag). Contains (rows ++ row ∷ []) (row.0, f)) same (Contains-push rows row))
    ];
    all = λ s has. elim (Contains-push_cases rows row s has) [
      | inl old ↦ Contains-append_left flags (row.1 ∷ []) s.1 (taken.all s old)
      | inr same ↦ subst (λ (r : Listed). Contains (flags ++ row.1 ∷ []) r.1) same (Contains-push flags row.1)
    ];
    settled = λ a b has other same. elim (Contains-push_cases rows row a has) [
      | inl old ↦ elim (Contains-push_cases rows row b other) [
        | inl older ↦ taken.settled a b old older same
        | inr new_b ↦ absurd (new_apart new a old (same ∙ sym (ap (λ (r : Listed). full_name r.1) new_b)))
      ]
      | inr new_a ↦ elim (Contains-push_cases rows row b other) [
        | inl older ↦ absurd (new_apart new b older (sym same ∙ sym (ap (λ (r : Listed). full_name r.1) new_a)))
        | inr new_b ↦ inl (sym new_a ∙ new_b)
      ]
    ];
    below = λ s has. (
      row.1,
      last_pushed None flags row.1,
      elim (Contains-push_cases rows row s has) [
        | inl old ↦ not_greater s row (less s old)
        | inr same ↦ λ over.
            let tied : slice_cmp nat_cmp (full_name s.1) (full_name row.1) ≡ Equal = ap (λ (r : Listed). slice_cmp nat_cmp (full_name s.1) (full_name r.1)) same ∙ tied_itself nat_list_cmp_total (full_name s.1) in
            let e : Equal ≡ Greater = sym tied ∙ over in
            cc
      ],
    );
  }

  pub taken_same : IsSame dedup (last_or None flags) row.1 → IsTaken dedup (rows ++ row ∷ []) flags
  taken_same same =
      let stands = last_in flags row.1 same.last in
      let found = taken.from row.1 stands in
      record {
        rise = taken.rise;
        lawful = taken.lawful;
        from = λ flag has. let old = taken.from flag has in (old.0, Contains-append_left rows (row ∷ []) (old.0, flag) old.1);
        all = λ s has. elim (Contains-push_cases rows row s has) [
          | inl old ↦ taken.all s old
          | inr is ↦ subst (λ (r : Listed). Contains flags r.1) is stands
        ];
        settled = λ a b has other alike. elim (Contains-push_cases rows row a has) [
          | inl old ↦ elim (Contains-push_cases rows row b other) [
            | inl older ↦ taken.settled a b old older alike
            | inr new_b ↦ inr (same.once, behind a old (alike ∙ sym (ap (λ (r : Listed). full_name r.1) new_b)) ∙ ap (λ (r : Listed). r.1) new_b)
          ]
          | inr new_a ↦ elim (Contains-push_cases rows row b other) [
            | inl older ↦ inr (same.once, sym (ap (λ (r : Listed). r.1) new_a) ∙ sym (behind b older (sym alike ∙ sym (ap (λ (r : Listed). full_name r.1) new_a))))
            | inr new_b ↦ inl (sym new_a ∙ new_b)
          ]
        ];
        below = λ s has. (
          row.1,
          same.last,
          elim (Contains-push_cases rows row s has) [
            | inl old ↦ not_greater s row (less s old)
            | inr is ↦ λ over.
                let tied : slice_cmp nat_cmp (full_name s.1) (full_name row.1) ≡ Equal = ap (λ (r : Listed). slice_cmp nat_cmp (full_name s.1) (full_name r.1)) is ∙ tied_itself nat_list_cmp_total (full_name s.1) in
                let e : Equal ≡ Greater = sym tied ∙ over in
                cc
          ],
        );
      }
    where
      -- a row of this name has this flag
      behind : (s : Listed) → Contains rows s → full_name s.1 ≡ full_name row.1 → s.1 ≡ row.1
      behind s has alike =
          let stands = last_in flags row.1 same.last in
          let found = taken.from row.1 stands in
          elim (taken.settled s (found.0, row.1) has found.1 alike) [
            | inl is ↦ ap (λ (r : Listed). r.1) is
            | inr is ↦ is.1
          ]

  pub taken_more : (after : List Flag) → IsLawful row.1 → Adds dedup row.1 flags after → IsTaken dedup (rows ++ row ∷ []) after
  taken_more after lawful (inl added) = subst (λ (fs : List Flag). IsTaken dedup (rows ++ row ∷ []) fs) (sym added.1) (taken_new lawful added.0)
  taken_more after lawful (inr added) = subst (λ (fs : List Flag). IsTaken dedup (rows ++ row ∷ []) fs) (sym added.1) (taken_same added.0)

-- one more row is taken
pub taken_next : (dedup : Bool) (rows : List Listed) (i : ℕ) (d : Listed) (flags after : List Flag) → Ascend rows → All (λ (row : Listed). IsLawful row.1) rows → i < length rows
    → IsTaken dedup (take i rows) flags → Adds dedup (get_or rows i d).1 flags after → IsTaken dedup (take (i + 1) rows) after
taken_next dedup rows i d flags after ascend lawful within taken adds =
    let row = get_or rows i d in
    subst (λ (rs : List Listed). IsTaken dedup rs after) (sym (take_more rows i d within))
    (taken_more dedup (take i rows) flags row taken (λ s has. before_less rows i d s ascend within has) after (lawful i d within) adds)

-- ---- clashes

-- rows that were taken have none
no_clash : (dedup : Bool) (rows : List Listed) (flags : List Flag) (i : ℕ) (name : List ℕ) (In : ℕ → Flag → Type 0) → IsTaken dedup rows flags → (clash : ClashesIn In dedup i name) → Contains rows (i, clash.flag) → Contains rows (clash.earlier, clash.other) → ⊥
no_clash dedup rows flags i name In taken clash here there =
    elim (taken.settled (i, clash.flag) (clash.earlier, clash.other) here there (sym clash.quarrel.0)) [
      | inl same ↦
          let lists : i ≡ clash.earlier = ap (λ (r : Listed). r.0) same in
          let before = clash.before in
          absurd (omega (arith, lists, before))
      | inr same ↦ elim clash.quarrel.1 [
        | inl never ↦ absurd (true≢false (sym same.0 ∙ never))
        | inr differ ↦ absurd (differ (sym same.1))
      ]
    ]

pub first_clash : (dedup : Bool) (rows : List Listed) (i : ℕ) (d : Listed) (flags : List Flag) (list : ℕ) (name : List ℕ) → Ascend rows → i < length rows → IsTaken dedup (take i rows) flags
    → IsClashOf dedup (get_or rows i d) flags list name → FirstClashIn (InRows rows) dedup list name
first_clash dedup rows i d flags list name ascend within taken clash =
    let row = get_or rows i d in
    let refused = clash.refused in
    let other = refused.other in
    let found = taken.from other (last_in flags other refused.last) in
    let same : full_name row.1 ≡ full_name other = exact_bytes (full_name row.1) (full_name other) refused.named in
    let lower = before_less rows i d (found.0, other) ascend within found.1 in
    let here : Contains rows row = (i, within, get_or_default rows i row d within) in
    let told : FirstClashIn (InRows rows) dedup row.0 (full_name row.1) = record {
      clashes = record {
        flag = row.1;
        here = here;
        named = refl;
        earlier = found.0;
        other = other;
        before = earlier_list (found.0, other) row lower (sym same);
        there = in_whole rows i (found.0, other) within found.1;
        quarrel = (sym same, refused.quarrel);
      };
      least = λ j less_name one under.
          let first_row : row_order (j, one.flag) row ≡ Less = less_by_name (j, one.flag) row (ap (λ n. slice_cmp nat_cmp n (full_name row.1)) one.named ∙ under) in
          let other_row : row_order (one.earlier, one.other) row ≡ Less = less_by_name (one.earlier, one.other) row (ap (λ n. slice_cmp nat_cmp n (full_name row.1)) (one.quarrel.0 ∙ one.named) ∙ under) in
          no_clash dedup (take i rows) flags j less_name (InRows rows) taken one (in_before rows i d (j, one.flag) ascend within one.here first_row) (in_before rows i d (one.earlier, one.other) ascend within one.there other_row);
      first = λ j one. elim (cases_lt j row.0) [
        | inl before ↦
            let first_row = less_by_list (j, one.flag) row one.named before in
            let before_other = one.before in
            let earlier : one.earlier < row.0 = omega (arith, before, before_other) in
            let other_row = less_by_list (one.earlier, one.other) row (one.quarrel.0 ∙ one.named) earlier in
            absurd (no_clash dedup (take i rows) flags j (full_name row.1) (InRows rows) taken one (in_before rows i d (j, one.flag) ascend within one.here first_row) (in_before rows i d (one.earlier, one.other) ascend within one.there other_row))
        | inr behind ↦ behind
      ];
    } in
    subst (λ (n : List ℕ). FirstClashIn (InRows rows) dedup list n) (sym clash.named) (subst (λ (l : ℕ). FirstClashIn (InRows rows) dedup l (full_name row.1)) (sym clash.list) told)

-- ---- rows of lists

moved_clash : (In Other : ℕ → Flag → Type 0) (dedup : Bool) (i : ℕ) (name : List ℕ) → ((k : ℕ) (flag : Flag) → In k flag → Other k flag) → ClashesIn In dedup i name → ClashesIn Other dedup i name
moved_clash In Other dedup i name to clash = record {
  flag = clash.flag;
  here = to i clash.flag clash.here;
  named = clash.named;
  earlier = clash.earlier;
  other = clash.other;
  before = clash.before;
  there = to clash.earlier clash.other clash.there;
  quarrel = clash.quarrel;
}

pub clash_of_lists : (lists : List (List Flag)) (rows : List Listed) (dedup : Bool) (i : ℕ) (name : List ℕ) → AreRowsOf lists rows → FirstClashIn (InRows rows) dedup i name → IsFirstClash lists dedup i name
clash_of_lists lists rows dedup i name are clash = record {
  clashes = moved_clash (InRows rows) (StandsIn lists) dedup i name are.there clash.clashes;
  least = λ j other one. clash.least j other (moved_clash (StandsIn lists) (InRows rows) dedup j other are.back one);
  first = λ j one. clash.first j (moved_clash (StandsIn lists) (InRows rows) dedup j name are.back one);
}

pub merged_of_lists : (lists : List (List Flag)) (rows : List Listed) (dedup : Bool) (flags : List Flag) → AreRowsOf lists rows → IsTaken dedup rows flags → IsMerged lists dedup flags
merged_of_lists lists rows dedup flags are taken = record {
  are = are_flags flags taken.rise taken.lawful;
  from = λ flag has. let found = taken.from flag has in (found.0, are.there found.0 flag found.1);
  all = λ i flag stands. taken.all (i, flag) (are.back i flag stands);
  apart = λ i name clash. no_clash dedup rows flags i name (StandsIn lists) taken clash (are.back i clash.flag clash.here) (are.back clash.earlier clash.other clash.there);
}

-- a clash, for which something weaker holds
pub clash_weaker : (fault : MergeFault) (P Q : ℕ → List ℕ → Type 0) → ((i : ℕ) (name : List ℕ) → P i name → Q i name) → IfClash fault P → IfClash fault Q
clash_weaker (Clash i name) P Q weaker holds = weaker i name holds
clash_weaker OutOfMemory P Q weaker holds = tt
