-- Nodes linked from the last one to the first, with a table of where each bucket's first node so far stands.
use Rattle.std.proofs.Common.{◌≡◌, ℕ, suc, ◌+◌, ◌<◌, ◌≤◌, true, false, eqb, List, [], ◌∷◌, length, get_or, set, take, drop, map, refl, sym, ap, subst, ◌∙◌, arith, inl, inr}
use Rattle.std.proofs.lemmas.Bool.{cases_eq}
use Rattle.std.proofs.lemmas.Bool.Decides.{nat_tests}
use Rattle.std.proofs.lemmas.List.{drop_all, take_all, get_or-set_same, get_or-set_other, length-set, drop-set}
use Rattle.std.proofs.Math.Nat.{mod-lt}
use Rattle.std.proofs.Math.Seq.{drop-cons}
use Rattle.acfg_sip.specs.Buckets.{hash}
use Rattle.acfg_images.specs.Links.{NodeKey, bucket_of, links_from, first_in}
use Rattle.acfg_images.specs.Image.{linked}
use Rattle.acfg_images.proofs.Sizes.{size_of, size_more}

-- a bucket is one of so many
pub bucket-low : {N : Type 0} (count : ℕ) (key : N → NodeKey) (node : N) (bucket : ℕ) → 0 < count → bucket ≡ bucket_of count (key node) → bucket < count
unfolding hash
bucket-low count key node bucket some is = let h = mod-lt _ some in subst (λ (b : ℕ). b < count) (sym is) h

module _ {N R : Type 0} (node : N → List ℕ) (key : N → NodeKey) (with_next : N → ℕ → N) (view : R → N) (bucket : R → ℕ) where
  -- the rows from a place on are linked, and the table holds the first nodes of what is behind
  pub record Linking (count first : ℕ) (old rows : List R) (i at : ℕ) (firsts : List ℕ) : Type 0 where
    pub within : i ≤ length old
    pub len : length rows ≡ length old
    pub front : (k : ℕ) (d : R) → k < i → get_or rows k d ≡ get_or old k d
    pub back : map view (drop i rows) ≡ linked node key with_next count at (map view (drop i old))
    pub heads : (b : ℕ) → b < count → get_or firsts b 0 ≡ first_in count b (links_from node key (λ _. 0) at (map view (drop i old)))
    pub count_is : length firsts ≡ count
    pub place : at ≡ first + size_of node view (take i old)

  pub starts : (count first : ℕ) (rows : List R) (at : ℕ) (firsts : List ℕ) → length firsts ≡ count → ((b : ℕ) → b < length firsts → get_or firsts b 0 ≡ 0) → at ≡ first + size_of node view rows → Linking count first rows rows (length rows) at firsts
  starts count first rows at firsts count_is zeros place =
      let none : drop (length rows) rows ≡ [] = drop_all (length rows) rows (omega arith) in
      let all : take (length rows) rows ≡ rows = take_all (length rows) rows (omega arith) in
      record {
        within = omega arith;
        len = refl;
        front = λ k d lt. refl;
        back = rw none refl;
        heads = λ b lt. rw none (zeros b (omega arith));
        count_is = count_is;
        place = rw all place;
      }

  module _ (leads : List ℕ → R → R) (leads_is : (firsts : List ℕ) (row : R) → view (leads firsts row) ≡ with_next (view row) (get_or firsts (bucket row) 0)) where
    -- how far back the node before begins
    pub steps_back : (count first : ℕ) (old rows : List R) (i j at : ℕ) (firsts : List ℕ) (d : R) → i ≡ suc j → Linking count first old rows i at firsts → at ≡ first + size_of node view (take j old) + length (node (view (get_or rows j d)))
    steps_back count first old rows i j at firsts d i_is so =
        let lt : j < length old = let h = so.within in omega arith in
        let row : get_or rows j d ≡ get_or old j d = so.front j d (omega arith) in
        let more = size_more node view old j d lt in
        let here : at ≡ first + size_of node view (take (suc j) old) = so.place ∙ ap (λ (k : ℕ). first + size_of node view (take k old)) i_is in
        let own : length (node (view (get_or rows j d))) ≡ length (node (view (get_or old j d))) = ap (λ (r : R). length (node (view r))) row in
        omega arith

    equal : {a b : ℕ} → a ≡ b → eqb a b ≡ true
    equal {a} {b} e = grind (arith, nat_tests)

    unequal : {a b : ℕ} → (a ≡ b → ⊥) → eqb a b ≡ false
    unequal {a} {b} e = grind (arith, nat_tests)

    pub one_more : (count first : ℕ) (old rows new : List R) (i j at before : ℕ) (firsts after : List ℕ) (d : R) → i ≡ suc j → Linking count first old rows i at firsts
        → bucket (get_or old j d) ≡ bucket_of count (key (view (get_or old j d))) → bucket (get_or old j d) < count → before + length (node (view (get_or rows j d))) ≡ at
        → new ≡ set rows j (leads firsts (get_or rows j d)) → after ≡ set firsts (bucket (get_or rows j d)) before → Linking count first old new j before after
    one_more count first old rows new i j at before firsts after d i_is so own low before_is new_is after_is =
        let lt : j < length old = let h = so.within in omega arith in
        let row = get_or old j d in
        let same : get_or rows j d ≡ row = so.front j d (omega arith) in
        let new_is : new ≡ set rows j (leads firsts row) = new_is ∙ ap (λ (r : R). set rows j (leads firsts r)) same in
        let after_is : after ≡ set firsts (bucket row) before = after_is ∙ ap (λ (r : R). set firsts (bucket r) before) same in
        let behind : before + length (node (view row)) ≡ at = ap (λ (r : R). before + length (node (view r))) (sym same) ∙ before_is in
        let old_is : drop j old ≡ row ∷ drop i old = drop-cons old j d lt ∙ ap (λ (k : ℕ). row ∷ drop k old) (sym i_is) in
        let rows_is : drop j new ≡ leads firsts row ∷ drop i rows = ap (drop j) new_is ∙ drop-set rows j (leads firsts row) (let h = so.len in omega arith) ∙ ap (λ (k : ℕ). leads firsts row ∷ drop k rows) (let h : j + 1 ≡ i = omega arith in h) in
        let head : get_or firsts (bucket row) 0 ≡ first_in count (bucket_of count (key (view row))) (links_from node key (λ _. 0) at (map view (drop i old))) = so.heads (bucket row) low ∙ ap (λ (b : ℕ). first_in count b (links_from node key (λ _. 0) at (map view (drop i old)))) own in
        let led : view (leads firsts row) ≡ with_next (view row) (first_in count (bucket_of count (key (view row))) (links_from node key (λ _. 0) at (map view (drop i old)))) = leads_is firsts row ∙ ap (with_next (view row)) head in
        let back : map view (drop j new) ≡ linked node key with_next count before (map view (drop j old)) = rw (rows_is, old_is, behind, led, so.back) refl in
        let heads : (b : ℕ) → b < count → get_or after b 0 ≡ first_in count b (links_from node key (λ _. 0) before (map view (drop j old))) = λ b b_lt. rw (after_is, old_is, behind) (elim (cases_eq (bucket row) b) [
          | inl here ↦
              let test : eqb (bucket_of count (key (view row))) b ≡ true = equal (sym own ∙ here) in
              rw (test, ← here) (get_or-set_same firsts (bucket row) before 0 (let h = so.count_is in omega arith))
          | inr other ↦
              let test : eqb (bucket_of count (key (view row))) b ≡ false = unequal (λ e. other (own ∙ e)) in
              rw test (get_or-set_other firsts (bucket row) b before 0 (λ e. other (sym e)) ∙ so.heads b b_lt)
        ]) in
        record {
          within = let h = so.within in omega arith;
          len = ap length new_is ∙ length-set rows j (leads firsts row) ∙ so.len;
          front = λ k e k_lt. ap (λ (rs : List R). get_or rs k e) new_is ∙ get_or-set_other rows j k (leads firsts row) e (λ e. let h : k ≡ j = e in omega arith) ∙ so.front k e (omega arith);
          back = back;
          heads = heads;
          count_is = ap length after_is ∙ length-set firsts (bucket row) before ∙ so.count_is;
          place = let h = steps_back count first old rows i j at firsts d i_is so in omega arith;
        }

    pub ends_rows : (count first : ℕ) (old rows : List R) (i at : ℕ) (firsts : List ℕ) → i ≤ 0 → Linking count first old rows i at firsts → map view rows ≡ linked node key with_next count first (map view old)
    ends_rows count first old rows i at firsts none so =
        let zero_is : i ≡ 0 = omega arith in
        let at_is : at ≡ first = so.place ∙ rw zero_is (omega arith) in
        rw (zero_is, at_is) at so.back

    pub ends_firsts : (count first : ℕ) (old rows : List R) (i at : ℕ) (firsts : List ℕ) → i ≤ 0 → Linking count first old rows i at firsts → (b : ℕ) → b < count → get_or firsts b 0 ≡ first_in count b (links_from node key (λ _. 0) first (map view old))
    ends_firsts count first old rows i at firsts none so b lt =
        let zero_is : i ≡ 0 = omega arith in
        let at_is : at ≡ first = so.place ∙ rw zero_is (omega arith) in
        rw (zero_is, at_is) at (so.heads b lt)
