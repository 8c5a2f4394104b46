-- Where each bucket's first node stands, from the last node to the first.
use Rattle.std.proofs.Common.{◌≡◌, ◌≢◌, ℕ, ◌+◌, ◌*◌, ◌<◌, Bool, true, false, eqb, not, List, ◌∷◌, length, get_or, set, drop, Option, Some, refl, sym, ap, subst, ◌∙◌, arith, inl, inr, add-one}
use Rattle.std.specs.Option.{option_map}
use Rattle.std.proofs.lemmas.Bool.{cases_eq}
use Rattle.std.proofs.lemmas.Bool.Decides.{nat_tests}
use Rattle.std.proofs.lemmas.List.{get_or-set_same, get_or-set_other, length-set}
use Rattle.std.proofs.Math.Nat.{mod-lt}
use Rattle.std.proofs.Math.Seq.{drop-cons}
use Rattle.acfg_sip.specs.Buckets.{hash}
use Rattle.acfg_images.specs.declared.links.NodeLink.{NodeLink}
use Rattle.acfg_images.specs.Code.{link_of, links_of, HasBucket}
use Rattle.acfg_images.specs.Faults.{or_else, wrong_bucket, wrong_next, wrong_chain}
use Rattle.acfg_images.specs.Words.{least}
use Rattle.acfg_images.proofs.Least.{least-same}
use Rattle.acfg_images.specs.Links.{first_in, bucket_of}

-- the table holds the first nodes of what is behind a place
abbrev pub Heads : List ℕ → List NodeLink → Type 0
Heads firsts links = (b : ℕ) → b < length firsts → get_or firsts b 0 ≡ first_in (length firsts) b (links_of links)

pub bucket-lt : (count : ℕ) (link : NodeLink) → 0 < count → HasBucket count link → link.bucket < count
unfolding hash
bucket-lt count link some has = let h = mod-lt _ some in subst (λ (b : ℕ). b < count) (sym has) h

-- the table, and the node at a place before what is behind it
module _ (firsts after : List ℕ) (links : List NodeLink) (i j : ℕ) (d : NodeLink) (j_is : j ≡ i + 1) (lt : i < length links) (bucket : HasBucket (length firsts) (get_or links i d)) (below : (get_or links i d).bucket < length firsts)
    (heads : Heads firsts (drop j links)) (after_is : after ≡ set firsts (get_or links i d).bucket (get_or links i d).at) where
  back : drop i links ≡ get_or links i d ∷ drop j links
  back = drop-cons links i d lt ∙ ap (λ (k : ℕ). get_or links i d ∷ drop k links) (sym (j_is ∙ add-one i))

  pub heads_more : Heads after (drop i links)
  heads_more b b_lt =
      let len : length after ≡ length firsts = ap length after_is ∙ length-set firsts (get_or links i d).bucket (get_or links i d).at in
      let link = get_or links i d in
      let link_at = link.at in
      let goal_is : get_or (set firsts link.bucket link.at) b 0 ≡ first_in (length firsts) b (links_of (link ∷ drop j links)) =
      elim (cases_eq link.bucket b) [
        | inl here ↦
            let test : eqb (bucket_of (length firsts) (link_of link).key) b ≡ true = equal (sym bucket ∙ here) in
            let found : get_or (set firsts link.bucket link.at) b 0 ≡ link.at = subst (λ (k : ℕ). get_or (set firsts link.bucket link.at) k 0 ≡ link.at) here (get_or-set_same firsts link.bucket link.at 0 below) in
            let first : first_in (length firsts) b (links_of (link ∷ drop j links)) ≡ link.at = rw test refl in
            found ∙ sym first
        | inr other ↦
            let test : eqb (bucket_of (length firsts) (link_of link).key) b ≡ false = unequal (λ e. other (bucket ∙ e)) in
            let ne : b ≢ link.bucket = λ e. other (sym e) in
            let found : get_or (set firsts link.bucket link.at) b 0 ≡ get_or firsts b 0 = rw get_or-set_other refl in
            let first : first_in (length firsts) b (links_of (link ∷ drop j links)) ≡ first_in (length firsts) b (links_of (drop j links)) = rw test refl in
            found ∙ heads b (omega (arith, len)) ∙ sym first
      ] in
      rw (len, after_is, back) goal_is
    where
      equal : {a b : ℕ} → a ≡ b → eqb a b ≡ true
      equal {a} {b} e = grind (arith, nat_tests)

      unequal : {a b : ℕ} → (a ≡ b → ⊥) → eqb a b ≡ false
      unequal {a} {b} e = grind (arith, nat_tests)

  place : first_in (length firsts) (bucket_of (length firsts) (link_of (get_or links i d)).key) (links_of (drop j links)) ≡ get_or firsts (get_or links i d).bucket 0
  place = rw (← bucket) (sym (heads (get_or links i d).bucket below))

  pub wrong_right : (right : Bool) (wrong : Option ℕ) → right ≡ eqb (get_or links i d).next (get_or firsts (get_or links i d).bucket 0) → right ≡ true
      → wrong ≡ wrong_next (length firsts) (links_of (drop j links)) → wrong ≡ wrong_next (length firsts) (links_of (drop i links))
  wrong_right right wrong is so so_far =
      let test : eqb (get_or links i d).next (first_in (length firsts) (bucket_of (length firsts) (link_of (get_or links i d)).key) (links_of (drop j links))) ≡ true = rw place (sym is ∙ so) in
      so_far ∙ rw back (rw test refl)

  pub wrong_here : (right : Bool) → right ≡ eqb (get_or links i d).next (get_or firsts (get_or links i d).bucket 0) → right ≡ false
      → Some (get_or links i d).at ≡ wrong_next (length firsts) (links_of (drop i links))
  wrong_here right is not_so =
      let test : eqb (get_or links i d).next (first_in (length firsts) (bucket_of (length firsts) (link_of (get_or links i d)).key) (links_of (drop j links))) ≡ false = rw place (sym is ∙ not_so) in
      rw back (rw test refl)

pub differs : (bucket first due : ℕ) → first ≡ due → bucket ≢ first → not (eqb bucket due) ≡ true
differs bucket first due e ne = grind (arith, nat_tests)

pub agrees : (bucket first due : ℕ) → first ≡ due → bucket ≡ first → not (eqb bucket due) ≡ false
agrees bucket first due e same = grind (arith, nat_tests)

-- what the table and the walk say together
pub chain_is : (first_bucket : ℕ) (buckets shown firsts : List ℕ) (links : List NodeLink) (r next : Option ℕ) → shown ≡ firsts → length firsts ≡ length buckets → Heads firsts links
    → r ≡ least (λ b. not (eqb (get_or buckets b 0) (get_or shown b 0))) 0 (length buckets) → next ≡ wrong_next (length firsts) (links_of links)
    → or_else (option_map (λ b. first_bucket + 4 * b) r) next ≡ wrong_chain first_bucket buckets (links_of links)
chain_is first_bucket buckets shown firsts links r next same len heads r_is next_is =
    let due : (b : ℕ) → b < 0 + length buckets → not (eqb (get_or buckets b 0) (get_or shown b 0)) ≡ not (eqb (get_or buckets b 0) (first_in (length buckets) b (links_of links))) =
    λ b lt. ap (λ (x : ℕ). not (eqb (get_or buckets b 0) x)) (ap (λ (f : List ℕ). get_or f b 0) same ∙ heads b (omega arith) ∙ ap (λ (n : ℕ). first_in n b (links_of links)) len) in
    let wrong : r ≡ wrong_bucket buckets (links_of links) = r_is ∙ least-same _ _ 0 (length buckets) due in
    let others : next ≡ wrong_next (length buckets) (links_of links) = next_is ∙ ap (λ (n : ℕ). wrong_next n (links_of links)) len in
    rw (wrong, others) refl
