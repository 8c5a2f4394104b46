-- Packages counted one by one: those that weren't seen before.
use Rattle.std.proofs.Common.{◌≡◌, ℕ, ◌+◌, Bool, true, false, cond, not, List, [], ◌∷◌, length, filter, refl, sym, ap, ◌∙◌, arith, Ordering}
use Rattle.std.proofs.Common.{subst, Option, Some, None, true≢false}
use Rattle.std.specs.Prelude.{IfSome, option_map, unwrap_or}
use Rattle.std.specs.Borrow.{Bor}
use Rattle.std.specs.BTreeMap.{is_at}
use Rattle.std.specs.BTreeSet.{BTreeSet, contains}
use Rattle.std.specs.Cmp.Lexicographic.{slice_cmp}
use Rattle.std.specs.Ordering.{nat_cmp}
use Rattle.std.specs.Str.{bytes_eq}
use Rattle.std.proofs.lemmas.Cmp.{nat_list_eq_equiv}
use Rattle.std.proofs.lemmas.Map.Text.{is_eq-slice_cmp}
use Rattle.std.proofs.lemmas.Slice.Eq.{bytes_eq-Decides}
use Rattle.acfg_images.specs.Image.{first_seen}

-- the order of texts
abbrev pub texts_cmp : Bor (List ℕ) → Bor (List ℕ) → Ordering
texts_cmp a b = slice_cmp nat_cmp a.now b.now

-- a set has a text
abbrev pub has : BTreeSet (Bor (List ℕ)) → List ℕ → Bool
has set text = contains texts_cmp set (record { ref_ptr = (0, 0); now = text })

-- one more text is seen
module _ (old new : List ℕ → Bool) (text : List ℕ) (more : (other : List ℕ) → new other ≡ cond (bytes_eq text other) true (old other)) where
  unseen : (texts : List (List ℕ)) → filter (λ other. not (old other)) (filter (λ other. not (bytes_eq other text)) texts) ≡ filter (λ other. not (new other)) texts
  unseen [] = refl
  unseen (t ∷ ts) = by (bytes_eq t text) refl (old t) refl (unseen ts)
    where
      by : (same : Bool) → bytes_eq t text ≡ same → (seen : Bool) → old t ≡ seen → filter (λ other. not (old other)) (filter (λ other. not (bytes_eq other text)) ts) ≡ filter (λ other. not (new other)) ts
          → filter (λ other. not (old other)) (filter (λ other. not (bytes_eq other text)) (t ∷ ts)) ≡ filter (λ other. not (new other)) (t ∷ ts)
      by true same seen is rest =
          let now : new t ≡ true = more t ∙ ap (λ b. cond b true (old t)) (nat_list_eq_equiv.symm text t ∙ same) in
          rw (same, now) rest
      by false same true is rest =
          let now : new t ≡ true = more t ∙ ap (λ b. cond b true (old t)) (nat_list_eq_equiv.symm text t ∙ same) ∙ is in
          rw (same, now, is) rest
      by false same false is rest =
          let now : new t ≡ false = more t ∙ ap (λ b. cond b true (old t)) (nat_list_eq_equiv.symm text t ∙ same) ∙ is in
          rw (same, now, is) (ap (λ rest. t ∷ rest) rest)

  -- it is counted where it wasn't seen before
  pub count_more : (texts : List (List ℕ)) → length (filter (λ other. not (old other)) (first_seen (text ∷ texts))) ≡ cond (not (old text)) 1 0 + length (filter (λ other. not (new other)) (first_seen texts))
  count_more texts = by (old text) refl (ap length (unseen (first_seen texts)))
    where
      by : (seen : Bool) → old text ≡ seen → length (filter (λ other. not (old other)) (filter (λ other. not (bytes_eq other text)) (first_seen texts))) ≡ length (filter (λ other. not (new other)) (first_seen texts))
          → length (filter (λ other. not (old other)) (first_seen (text ∷ texts))) ≡ cond (not (old text)) 1 0 + length (filter (λ other. not (new other)) (first_seen texts))
      by true is rest = rw is (omega (arith, rest))
      by false is rest = rw is (omega (arith, rest))

-- where none is seen, all are to be counted
pub none_seen : (set : BTreeSet (Bor (List ℕ))) → set.keys ≡ [] → (texts : List (List ℕ)) → filter (λ text. not (has set text)) texts ≡ texts
none_seen set none [] = refl
none_seen set none (t ∷ ts) = let here : has set t ≡ false = rw none refl in rw here (ap (λ rest. t ∷ rest) (none_seen set none ts))

-- so many were counted, and those that are left will be
pub counted_on : (old new : BTreeSet (Bor (List ℕ))) (key : Bor (List ℕ)) (added : Bool) (old_count new_count total : ℕ) (all rest : List (List ℕ))
    → ((other : Bor (List ℕ)) → contains texts_cmp new other ≡ cond (is_at (texts_cmp key) other) true (contains texts_cmp old other))
    → added ≡ not (contains texts_cmp old key) → new_count ≡ old_count + cond added 1 0 → all ≡ key.now ∷ rest
    → old_count + length (filter (λ text. not (has old text)) (first_seen all)) ≡ total
    → new_count + length (filter (λ text. not (has new text)) (first_seen rest)) ≡ total
counted_on old new key added old_count new_count total all rest more is grows shows before =
    let more_texts : (other : List ℕ) → has new other ≡ cond (bytes_eq key.now other) true (has old other) =
    λ other. more (record { ref_ptr = (0, 0); now = other }) ∙ ap (λ b. cond b true (has old other)) (is_eq-slice_cmp key.now other) in
    let step : length (filter (λ text. not (has old text)) (first_seen all)) ≡ cond added 1 0 + length (filter (λ text. not (has new text)) (first_seen rest)) =
    ap (λ (all : List (List ℕ)). length (filter (λ text. not (has old text)) (first_seen all))) shows ∙ count_more (has old) (has new) key.now more_texts rest ∙ ap (λ b. cond b 1 0 + length (filter (λ text. not (has new text)) (first_seen rest))) (sym is) in
    sums old_count new_count total (cond added 1 0) (length (filter (λ text. not (has old text)) (first_seen all))) (length (filter (λ text. not (has new text)) (first_seen rest))) grows step before
  where
    sums : (old_count new_count total one left rest : ℕ) → new_count ≡ old_count + one → left ≡ one + rest → old_count + left ≡ total → new_count + rest ≡ total
    sums old_count new_count total one left rest grows step before = omega (arith, grows, step, before)

-- a text that is the last one was seen, as the last one was
pub seen_last : (set : BTreeSet (Bor (List ℕ))) (last : Option (Bor (List ℕ))) (text : List ℕ)
    → unwrap_or (option_map (λ (last : Bor (List ℕ)). bytes_eq last.now text) last) false ≡ true
    → IfSome last (λ last. has set last.now ≡ true) → has set text ≡ true
seen_last set (Some last) text same seen = subst (λ t. has set t ≡ true) ((bytes_eq-Decides last.now text).0 same) seen
seen_last set None text same seen = absurd (true≢false (sym same))

-- one that was added is seen
pub seen_added : (old new : BTreeSet (Bor (List ℕ))) (key : Bor (List ℕ))
    → ((other : Bor (List ℕ)) → contains texts_cmp new other ≡ cond (is_at (texts_cmp key) other) true (contains texts_cmp old other))
    → has new key.now ≡ true
seen_added old new key more =
    more (record { ref_ptr = (0, 0); now = key.now }) ∙ ap (λ b. cond b true (has old key.now)) (is_eq-slice_cmp key.now key.now ∙ nat_list_eq_equiv.refl key.now)

-- one that was seen counts no more
pub counted_again : (set : BTreeSet (Bor (List ℕ))) (text : List ℕ) (count total : ℕ) (all rest : List (List ℕ))
    → has set text ≡ true → all ≡ text ∷ rest
    → count + length (filter (λ text. not (has set text)) (first_seen all)) ≡ total
    → count + length (filter (λ text. not (has set text)) (first_seen rest)) ≡ total
counted_again set text count total all rest seen shows before =
    let left : length (filter (λ text. not (has set text)) (first_seen all)) ≡ cond (not (has set text)) 1 0 + length (filter (λ text. not (has set text)) (first_seen rest)) =
    ap (λ (all : List (List ℕ)). length (filter (λ text. not (has set text)) (first_seen all))) shows ∙ count_more (has set) (has set) text again rest in
    none (has set text) seen _ _ left before
  where
    by : (other : List ℕ) (same : Bool) → bytes_eq text other ≡ same → has set other ≡ cond same true (has set other)
    by other true same = subst (λ t. has set t ≡ true) ((bytes_eq-Decides text other).0 same) seen
    by other false same = refl

    again : (other : List ℕ) → has set other ≡ cond (bytes_eq text other) true (has set other)
    again other = by other (bytes_eq text other) refl

    none : (b : Bool) → b ≡ true → (left more : ℕ) → left ≡ cond (not b) 1 0 + more → count + left ≡ total → count + more ≡ total
    none true is left more shows before = omega (arith, shows, before)
    none false is left more shows before = absurd (true≢false (sym is))
