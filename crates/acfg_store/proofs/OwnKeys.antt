-- Each flag that a set lists has its own key.
use Rattle.std.proofs.Common.{◌≡◌, ℕ, zero, suc, ◌+◌, ◌<◌, ◌≤◌, Bool, true, false, cond, List, [], ◌∷◌, map, length, get_or, Some, refl, sym, ap, ◌∙◌, subst, arith}
use Rattle.std.specs.Prelude.{All, count_by}
use Rattle.std.specs.Ordering.{eq_by_cmp, is_eq}
use Rattle.std.specs.Cmp.{tied_itself}
use Rattle.std.proofs.lemmas.List.Sums.{sum_by-cons}
use Rattle.std.proofs.lemmas.Simd.{map-map}
use Rattle.acfg_base.specs.declared.releases.Entry.{Entry}
use Rattle.acfg_base.specs.Places.{row_at}
use Rattle.acfg_base.specs.Release.{HasTwins, Key, key_cmp, key_of}
use Rattle.acfg_base.proofs.Keys.{key_total}
use Rattle.acfg_images.specs.Files as four
use Rattle.acfg_images.specs.Listing.{entry_of}
use Rattle.acfg_images.specs.Set.{IsSetOf, Listed, SetParts, flags_of, listed_flag, listed_key, listing}
use Rattle.acfg_images.specs.declared.purpose.Use.{Use}
use Rattle.acfg_images.proofs.Listed.{no_twin_entries}

pub itself : (q k : Key) → q ≡ k → eq_by_cmp key_cmp q k ≡ true
itself q k same = ap is_eq (ap (key_cmp q) (sym same) ∙ tied_itself key_total q)

step : (key : Key) (e : Entry) (es : List Entry) → count_by (λ entry. eq_by_cmp key_cmp key (key_of entry)) (e ∷ es)
    ≡ cond (eq_by_cmp key_cmp key (key_of e)) 1 0 + count_by (λ entry. eq_by_cmp key_cmp key (key_of entry)) es
step key e es = sum_by-cons (λ (entry : Entry). cond (eq_by_cmp key_cmp key (key_of entry)) 1 0) e es

one_more : (b : Bool) (m n : ℕ) → n ≡ cond b 1 0 + m → m ≤ n
one_more true m n e = omega (arith, e)
one_more false m n e = omega (arith, e)

counted : (key : Key) (rows : List Listed) (row : Listed) (k : ℕ) (d : Listed) → k < length rows → get_or rows k d ≡ row → key ≡ listed_key row
    → 1 ≤ count_by (λ entry. eq_by_cmp key_cmp key (key_of entry)) (map entry_of rows)
counted key [] row k d within is same = absurd (omega arith)
counted key (z ∷ rows) row zero d within is same =
    let hit : eq_by_cmp key_cmp key (listed_key z) ≡ true = itself key (listed_key z) (same ∙ ap listed_key (sym is)) in
    let s = step key (entry_of z) (map entry_of rows) in
    let c : ◌≡◌ {A = ℕ} (cond (eq_by_cmp key_cmp key (listed_key z)) 1 0) 1 = ap (λ (b : Bool). cond b 1 0) hit in
    omega (arith, s, c)
counted key (z ∷ rows) row (suc k) d within is same =
    let h = counted key rows row k d (omega arith) is same in
    let s = step key (entry_of z) (map entry_of rows) in
    let m = one_more _ _ _ s in
    omega (arith, h, m)

own_key : (rows : List Listed) → (HasTwins (map entry_of rows) → ⊥) → (row : Listed) (k : ℕ) (d : Listed) → k < length rows → get_or rows k d ≡ row
    → row_at key_cmp listed_key rows (listed_key row) ≡ Some row
own_key [] none row k d within is = absurd (omega arith)
own_key (z ∷ rows) none row zero d within is =
    ap (λ (b : Bool). cond b (Some z) (row_at key_cmp listed_key rows (listed_key row))) (itself (listed_key row) (listed_key z) (ap listed_key (sym is))) ∙ ap (λ (r : Listed). Some r) is
own_key (z ∷ rows) none row (suc k) d within is =
    elim (eq_by_cmp key_cmp (listed_key row) (listed_key z)) as (λ b. eq_by_cmp key_cmp (listed_key row) (listed_key z) ≡ b
    → cond b (Some z) (row_at key_cmp listed_key rows (listed_key row)) ≡ Some row) [
      | true ↦ λ hit.
          let s = step (listed_key row) (entry_of z) (map entry_of rows) in
          let c : ◌≡◌ {A = ℕ} (cond (eq_by_cmp key_cmp (listed_key row) (listed_key z)) 1 0) 1 = ap (λ (b : Bool). cond b 1 0) hit in
          let h = counted (listed_key row) rows row k d (omega arith) is refl in
          absurd (none (listed_key row, omega (arith, s, c, h)))
      | false ↦ λ miss. own_key rows fewer row k d (omega arith) is
    ] refl
  where
    fewer : HasTwins (map entry_of rows) → ⊥
    fewer twins =
        let s = step twins.0 (entry_of z) (map entry_of rows) in
        let m = one_more _ _ _ s in
        none (twins.0, omega (arith, m, twins.1))

pub own_keys : (purpose : Use) (files : four.Files) (parts : SetParts) → IsSetOf files purpose parts
    → All (λ (row : Listed). row_at key_cmp listed_key (listing parts) (listed_key row) ≡ Some row) (listing parts)
own_keys purpose files parts is k d within =
    let row = get_or (listing parts) k d in
    own_key (listing parts) (λ twins. no_twin_entries purpose files parts is (subst HasTwins (map-map entry_of (listed_flag parts) (flags_of parts)) twins)) row k d within refl
