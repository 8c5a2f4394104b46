-- No key comes twice, and no bucket or link is wrong, exactly where a map is linked.
use Rattle.std.proofs.Common.{◌≡◌, ◌≢◌, ℕ, zero, suc, ◌+◌, ◌*◌, ◌<◌, Bool, true, false, cond, eqb, not, ◌||◌, List, [], ◌∷◌, ◌++◌, length, get_or, Option, Some, None, refl, sym, ap, subst, ◌∙◌, arith}
use Rattle.std.specs.List.{list_any}
use Rattle.std.specs.Option.{option_map}
use Rattle.std.proofs.lemmas.Bool.{or_parts, or_from, false_from_ne_true, not-false, eqb-true, eq-eqb, both_ways}
use Rattle.std.proofs.lemmas.List.Folds.{list_any-append}
use Rattle.std.proofs.lemmas.Slice.Eq.{bytes_eq-Decides}
use Rattle.acfg_images.specs.declared.fault.FileType.{FileType}
use Rattle.acfg_images.specs.declared.fault.ImageFault.TheVariants.{Twice, Chain}
use Rattle.acfg_images.specs.Links.{NodeKey, Link, bucket_of, same_owner, same_key, first_in, HaveOwnKeys, HoldFirst, LeadOn, AreLinked}
use Rattle.acfg_images.specs.Faults.{or_else, twice, twice_behind, wrong_bucket, wrong_next, wrong_chain, wrong_links}
use Rattle.acfg_images.proofs.Keys.{same_key-is}
use Rattle.acfg_images.proofs.Least.{least-none, least-none_from}

-- ---- options

pub or_else_none : {A : Type 0} (a b : Option A) → or_else a b ≡ None → (a ≡ None) × (b ≡ None)
or_else_none None b e = (refl, e)
or_else_none (Some x) b e = absurd cc

pub or_else_both : {A : Type 0} (a b : Option A) → a ≡ None → b ≡ None → or_else a b ≡ None
or_else_both a b p q = rw (p, q) refl

pub option_map_none : {A B : Type 0} (f : A → B) (o : Option A) → option_map f o ≡ None → o ≡ None
option_map_none f None e = refl
option_map_none f (Some x) e = absurd cc

pub option_map_from : {A B : Type 0} (f : A → B) (o : Option A) → o ≡ None → option_map f o ≡ None
option_map_from f o e = rw e refl

-- ---- keys

pub same_key-refl : (a : NodeKey) → same_key a a ≡ true
same_key-refl a = rw (owner_refl a.owner, (bytes_eq-Decides a.name a.name).1 refl) refl
  where
    owner_refl : (o : Option ℕ) → same_owner o o ≡ true
    owner_refl None = refl
    owner_refl (Some n) = eq-eqb n n refl

other_key : (a b : NodeKey) → same_key a b ≡ false → a ≢ b
other_key a b test e = both_ways (same_key a b) test (subst (λ (k : NodeKey). same_key a k ≡ true) e (same_key-refl a))

no_same_key : (a b : NodeKey) → a ≢ b → same_key a b ≡ false
no_same_key a b ne = false_from_ne_true (same_key a b) (λ e. ne (same_key-is a b e))

-- none of the links has an earlier key
abbrev AreNew : List NodeKey → List Link → Type 0
AreNew earlier links = (k : ℕ) (d : Link) → k < length links → list_any (same_key (get_or links k d).key) earlier ≡ false

pairs_cons : (link : Link) (links : List Link) → ((k : ℕ) (d : Link) → k < length links → link.key ≢ (get_or links k d).key) → HaveOwnKeys links → HaveOwnKeys (link ∷ links)
pairs_cons link links first rest zero zero d lt in' = absurd (omega arith)
pairs_cons link links first rest zero (suc j) d lt in' = first j d (omega arith)
pairs_cons link links first rest (suc i) zero d lt in' = absurd (omega arith)
pairs_cons link links first rest (suc i) (suc j) d lt in' = rest i j d (omega arith) (omega arith)

twice_goes_on : (earlier : List NodeKey) (link : Link) (links : List Link) → twice_behind earlier (link ∷ links) ≡ None → (list_any (same_key link.key) earlier ≡ false) × (twice_behind (earlier ++ link.key ∷ []) links ≡ None)
twice_goes_on earlier link links e = go (list_any (same_key link.key) earlier) refl e
  where
    go : (b : Bool) → list_any (same_key link.key) earlier ≡ b → cond b (Some link.at) (twice_behind (earlier ++ link.key ∷ []) links) ≡ None → (list_any (same_key link.key) earlier ≡ false) × (twice_behind (earlier ++ link.key ∷ []) links ≡ None)
    go true is p = absurd cc
    go false is p = (is, p)

own_keys : (earlier : List NodeKey) (links : List Link) → twice_behind earlier links ≡ None → HaveOwnKeys links × AreNew earlier links
own_keys earlier [] e = (λ i j d lt in'. absurd (omega arith), λ k d lt. absurd (omega arith))
own_keys earlier (link ∷ links) e =
    let h = twice_goes_on earlier link links e in
    let rest = own_keys (earlier ++ link.key ∷ []) links h.1 in
    let parts : (k : ℕ) (d : Link) → k < length links → (list_any (same_key (get_or links k d).key) earlier ≡ false) × ((same_key (get_or links k d).key link.key || false) ≡ false) =
    λ k d lt. or_parts _ _ (sym (list_any-append (same_key (get_or links k d).key) earlier (link.key ∷ [])) ∙ rest.1 k d lt) in (
      pairs_cons link links (λ k d lt same. other_key (get_or links k d).key link.key (or_parts (same_key (get_or links k d).key link.key) false (parts k d lt).1).0 (sym same)) rest.0,
      new earlier link links h.0 (λ k d lt. (parts k d lt).0),
    )
  where
    new : (earlier : List NodeKey) (link : Link) (links : List Link) → list_any (same_key link.key) earlier ≡ false → AreNew earlier links → AreNew earlier (link ∷ links)
    new earlier link links here rest zero d lt = here
    new earlier link links here rest (suc k) d lt = rest k d (omega arith)

not_twice : (earlier : List NodeKey) (links : List Link) → HaveOwnKeys links → AreNew earlier links → twice_behind earlier links ≡ None
not_twice earlier [] own new = refl
not_twice earlier (link ∷ links) own new =
    let here : list_any (same_key link.key) earlier ≡ false = new 0 link (omega arith) in
    let rest = not_twice (earlier ++ link.key ∷ []) links (λ i j d lt in'. own (suc i) (suc j) d (omega arith) (omega arith)) (λ k d lt.
    list_any-append (same_key (get_or links k d).key) earlier (link.key ∷ [])
    ∙ or_from _ _ (new (suc k) d (omega arith)) (or_from _ _ (no_same_key (get_or links k d).key link.key (λ same. own 0 (suc k) d (omega arith) (omega arith) (sym same))) refl)) in
    rw (here, rest) refl

-- ---- buckets and links

leads : (count : ℕ) (links : List Link) → wrong_next count links ≡ None → LeadOn count links
leads count [] e = tt
leads count (link ∷ links) e = go (eqb link.next (first_in count (bucket_of count link.key) links)) refl (leads count links) e
  where
    go : (b : Bool) → eqb link.next (first_in count (bucket_of count link.key) links) ≡ b → (wrong_next count links ≡ None → LeadOn count links) → cond b (wrong_next count links) (Some link.at) ≡ None → LeadOn count (link ∷ links)
    go true is rest p = (eqb-true _ _ is, rest p)
    go false is rest p = absurd cc

not_wrong_next : (count : ℕ) (links : List Link) → LeadOn count links → wrong_next count links ≡ None
not_wrong_next count [] lead = refl
not_wrong_next count (link ∷ links) lead =
    let here : eqb link.next (first_in count (bucket_of count link.key) links) ≡ true = eq-eqb _ _ lead.0 in
    let rest = not_wrong_next count links lead.1 in
    rw (here, rest) refl

abbrev differs : List ℕ → List Link → ℕ → Bool
differs buckets links b = not (eqb (get_or buckets b 0) (first_in (length buckets) b links))

hold : (buckets : List ℕ) (links : List Link) → wrong_bucket buckets links ≡ None → HoldFirst buckets links
hold buckets links e b lt =
    let test = least-none (differs buckets links) 0 (length buckets) e b (omega arith) (omega arith) in
    eqb-true _ _ (not-false (eqb (get_or buckets b 0) (first_in (length buckets) b links)) test)

not_wrong_bucket : (buckets : List ℕ) (links : List Link) → HoldFirst buckets links → wrong_bucket buckets links ≡ None
not_wrong_bucket buckets links holds = least-none_from (differs buckets links) 0 (length buckets) (λ b le lt. ap not (eq-eqb (get_or buckets b 0) (first_in (length buckets) b links) (holds b (omega arith))))

module _ (file : FileType) (first_bucket : ℕ) (buckets : List ℕ) (links : List Link) where
  pub linked : wrong_links file first_bucket buckets links ≡ None → AreLinked buckets links
  linked e =
      let a = or_else_none (option_map (Twice file) (twice links)) (option_map (Chain file) (wrong_chain first_bucket buckets links)) e in
      let b = or_else_none (option_map (λ b. first_bucket + 4 * b) (wrong_bucket buckets links)) (wrong_next (length buckets) links) (option_map_none (Chain file) (wrong_chain first_bucket buckets links) a.1) in
      record {
        keys = (own_keys [] links (option_map_none (Twice file) (twice links) a.0)).0;
        heads = hold buckets links (option_map_none (λ b. first_bucket + 4 * b) (wrong_bucket buckets links) b.0);
        nexts = leads (length buckets) links b.1;
      }

  pub no_wrong_links : AreLinked buckets links → wrong_links file first_bucket buckets links ≡ None
  no_wrong_links are =
      let keys : twice links ≡ None = not_twice [] links are.keys (λ k d lt. refl) in
      let heads = not_wrong_bucket buckets links are.heads in
      let nexts = not_wrong_next (length buckets) links are.nexts in
      or_else_both _ _ (option_map_from (Twice file) (twice links) keys)
      (option_map_from (Chain file) (wrong_chain first_bucket buckets links) (or_else_both _ _ (option_map_from (λ b. first_bucket + 4 * b) (wrong_bucket buckets links) heads) nexts))
