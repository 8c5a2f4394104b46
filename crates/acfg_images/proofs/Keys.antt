-- A set of keys beside the keys of earlier nodes.
use Rattle.std.proofs.Common.{◌≡◌, ℕ, Bool, true, false, eqb, ◌&&◌, List, [], Option, Some, None, Bor, Ordering, refl, sym, ap, ◌∙◌, arith}
use Rattle.std.specs.Str.{bytes_eq}
use Rattle.std.specs.Ordering.{is_eq, nat_cmp, ordering_then}
use Rattle.std.specs.Option.{option_cmp}
use Rattle.std.specs.declared.cmp.Ordering.TheVariants.{Less, Equal, Greater}
use Rattle.std.specs.Cmp.Lexicographic.{slice_cmp}
use Rattle.std.proofs.lemmas.Bool.Decides.{nat_tests}
use Rattle.std.proofs.lemmas.Map.Text.{is_eq-slice_cmp}
use Rattle.std.proofs.lemmas.Cmp.{nat_list_eq_equiv}
use Rattle.std.proofs.lemmas.Slice.Eq.{bytes_eq-Decides}
use Rattle.acfg_images.specs.declared.links.NodeLink.{NodeLink}
use Rattle.acfg_images.specs.Links.{NodeKey, bucket_of, same_owner, same_key}

-- what the set keeps of a key: its bucket too, by which most keys differ
abbrev pub Kept : Type 0
Kept = ℕ × Option ℕ × Bor (List ℕ)

abbrev pub kept_cmp : Kept → Kept → Ordering
kept_cmp x y = ordering_then (ordering_then (nat_cmp x.0 y.0) (option_cmp nat_cmp x.1 y.1)) (slice_cmp nat_cmp x.2.now y.2.now)

abbrev pub key_in : Kept → NodeKey
key_in x = record { owner = x.1; name = x.2.now }

abbrev pub InBucket : ℕ → Kept → Type 0
InBucket count x = x.0 ≡ bucket_of count (key_in x)

both_eq : (a b : Ordering) → is_eq (ordering_then a b) ≡ (is_eq a && is_eq b)
both_eq Less b = refl
both_eq Equal b = refl
both_eq Greater b = refl

nat_eq_is : (x y : ℕ) → is_eq (nat_cmp x y) ≡ eqb x y
nat_eq_is x y = grind (arith, nat_tests)

owner_eq_is : (a b : Option ℕ) → is_eq (option_cmp nat_cmp a b) ≡ same_owner a b
owner_eq_is None None = refl
owner_eq_is None (Some b) = refl
owner_eq_is (Some a) None = refl
owner_eq_is (Some a) (Some b) = nat_eq_is a b

owner_sym : (a b : Option ℕ) → same_owner a b ≡ same_owner b a
owner_sym None None = refl
owner_sym None (Some b) = refl
owner_sym (Some a) None = refl
owner_sym (Some a) (Some b) = grind (arith, nat_tests)

owner_is : (a b : Option ℕ) → same_owner a b ≡ true → a ≡ b
owner_is None None e = refl
owner_is None (Some b) e = absurd cc
owner_is (Some a) None e = absurd cc
owner_is (Some a) (Some b) e = let h : a ≡ b = grind (arith, nat_tests) in ap (λ (n : ℕ). Some n) h

and_left : (a b : Bool) → (a && b) ≡ true → a ≡ true
and_left true b e = refl
and_left false b e = absurd cc

and_right : (a b : Bool) → (a && b) ≡ true → b ≡ true
and_right true b e = e
and_right false b e = absurd cc

pub same_key-sym : (a b : NodeKey) → same_key a b ≡ same_key b a
same_key-sym a b = rw (owner_sym a.owner b.owner, nat_list_eq_equiv.symm a.name b.name) refl

pub same_key-is : (a b : NodeKey) → same_key a b ≡ true → a ≡ b
same_key-is a b e =
    let owners = owner_is a.owner b.owner (and_left _ _ e) in
    let names = (bytes_eq-Decides a.name b.name).0 (and_right _ _ e) in
    parts a.owner b.owner a.name b.name owners names
  where
    key : Option ℕ → List ℕ → NodeKey
    key o n = record { owner = o; name = n }

    parts : (o o' : Option ℕ) (n n' : List ℕ) → o ≡ o' → n ≡ n' → key o n ≡ key o' n'
    parts o o' n n' p q = cc

-- two kept keys, each in its bucket, are equal exactly where they are one key
pub kept_eq : (count : ℕ) (k q : Kept) → InBucket count k → InBucket count q → is_eq (kept_cmp k q) ≡ same_key (key_in q) (key_in k)
kept_eq count k q in_k in_q =
    let all : is_eq (kept_cmp k q) ≡ ((eqb k.0 q.0 && same_owner k.1 q.1) && bytes_eq k.2.now q.2.now) =
    both_eq (ordering_then (nat_cmp k.0 q.0) (option_cmp nat_cmp k.1 q.1)) (slice_cmp nat_cmp k.2.now q.2.now)
    ∙ rw (both_eq (nat_cmp k.0 q.0) (option_cmp nat_cmp k.1 q.1), nat_eq_is k.0 q.0, owner_eq_is k.1 q.1, is_eq-slice_cmp k.2.now q.2.now) refl in
    all ∙ drop_first (eqb k.0 q.0) (same_owner k.1 q.1) (bytes_eq k.2.now q.2.now) (λ e. let same = same_key-is (key_in k) (key_in q) e in equal (in_k ∙ ap (bucket_of count) same ∙ sym in_q))
    ∙ same_key-sym (key_in k) (key_in q)
  where
    equal : {a b : ℕ} → a ≡ b → eqb a b ≡ true
    equal {a} {b} e = grind (arith, nat_tests)

    drop_first : (a b c : Bool) → ((b && c) ≡ true → a ≡ true) → ((a && b) && c) ≡ (b && c)
    drop_first true b c h = refl
    drop_first false true true h = absurd (let e = h refl in cc)
    drop_first false true false h = refl
    drop_first false false c h = refl

abbrev pub no_link : NodeLink
no_link = record { at = 0; owner = None; name = record { ref_ptr = (0, 0); now = [] }; bucket = 0; next = 0 }
