-- Nodes that are linked in their order have the buckets and links that the whole list determines.
use Rattle.std.proofs.Common.{◌≡◌, ℕ, zero, suc, ◌+◌, ◌<◌, ◌≤◌, Bool, true, false, cond, eqb, List, [], ◌∷◌, ◌++◌, length, get_or, map, All, refl, sym, ap, subst, ◌∙◌, arith}
use Rattle.std.specs.List.{flat_map}
use Rattle.std.proofs.lemmas.List.{get_or-map, length-append, length-map}
use Rattle.std.proofs.lemmas.List.Elements.{All-nil, All-cons, All-head, All-tail, All-map}
use Rattle.acfg_images.specs.Links.{NodeKey, bucket_of, links_from, first_in, HaveOwnKeys, LeadOn, AreLinked}
use Rattle.acfg_images.specs.Image.{numbers_below, linked}
use Rattle.acfg_images.proofs.Filing.{length-numbers_below}
use Rattle.acfg_images.proofs.Listed.{length-links_from, key_at}
use Rattle.acfg_images.proofs.Moved.{AreApart}

numbers_at : (n b : ℕ) → b < n → get_or (numbers_below n) b 0 ≡ b
numbers_at zero b lt = absurd (omega arith)
numbers_at (suc n) b lt = by (numbers_below n) (length-numbers_below n) (numbers_at n b)
  where
    in_front : (xs : List ℕ) (k y : ℕ) → k < length xs → get_or (xs ++ y ∷ []) k 0 ≡ get_or xs k 0
    in_front [] k y lt = absurd (omega arith)
    in_front (x ∷ xs) zero y lt = refl
    in_front (x ∷ xs) (suc k) y lt = in_front xs k y (omega arith)

    last : (xs : List ℕ) (k y : ℕ) → k ≡ length xs → get_or (xs ++ y ∷ []) k 0 ≡ y
    last [] k y e = rw e refl
    last (x ∷ xs) zero y e = absurd (omega arith)
    last (x ∷ xs) (suc k) y e = last xs k y (omega arith)

    by : (xs : List ℕ) → length xs ≡ n → (b < n → get_or xs b 0 ≡ b) → get_or (xs ++ n ∷ []) b 0 ≡ b
    by xs len rest = grind (arith, in_front xs b n, last xs b n)

module _ {N : Type 0} (node : N → List ℕ) (key : N → NodeKey) (next : N → ℕ) (with_next : N → ℕ → N) where
  -- a new next changes nothing else
  pub record ChangesNext : Type 0 where
    pub size : (n : N) (to : ℕ) → length (node (with_next n to)) ≡ length (node n)
    pub same_key : (n : N) (to : ℕ) → key (with_next n to) ≡ key n
    pub next_is : (n : N) (to : ℕ) → next (with_next n to) ≡ to

  -- where the first node of a bucket stands, before nodes are linked
  abbrev first_of : (count b at : ℕ) → List N → ℕ
  first_of count b at ns = first_in count b (links_from node key (λ _. 0) at ns)

  -- what doesn't see nexts sees the same of linked nodes
  pub map_linked : {A : Type 0} (f : N → A) → ((n : N) (to : ℕ) → f (with_next n to) ≡ f n) → (count at : ℕ) (ns : List N) → map f (linked node key with_next count at ns) ≡ map f ns
  map_linked f ignores count at [] = refl
  map_linked f ignores count at (n ∷ ns) = rw (ignores n _, map_linked f ignores count (at + length (node n)) ns) refl

  -- places are within the nodes
  pub first_within : (count b at : ℕ) (ns : List N) → first_of count b at ns ≤ at + length (flat_map node ns)
  first_within count b at [] = omega arith
  first_within count b at (n ∷ ns) = by (eqb (bucket_of count (key n)) b) (first_within count b (at + length (node n)) ns) (length-append (node n) (flat_map node ns))
    where
      by : (t : Bool) → first_of count b (at + length (node n)) ns ≤ at + length (node n) + length (flat_map node ns) → length (node n ++ flat_map node ns) ≡ length (node n) + length (flat_map node ns)
          → cond t at (first_of count b (at + length (node n)) ns) ≤ at + length (node n ++ flat_map node ns)
      by true rest len = omega arith
      by false rest len = omega arith

  pub All_linked : (P Q : N → Type 0) (most : ℕ) → ((n : N) (to : ℕ) → P n → to ≤ most → Q (with_next n to)) → (count at : ℕ) (ns : List N) → at + length (flat_map node ns) ≤ most → All P ns → All Q (linked node key with_next count at ns)
  All_linked P Q most leads count at [] within all = All-nil Q
  All_linked P Q most leads count at (n ∷ ns) within all =
      let len = length-append (node n) (flat_map node ns) in
      let behind : at + length (node n) + length (flat_map node ns) ≤ most = omega (arith, len, within) in
      All-cons Q _ _ (leads n _ (All-head P n ns all) (low (first_within count (bucket_of count (key n)) (at + length (node n)) ns) behind)) (All_linked P Q most leads count (at + length (node n)) ns behind (All-tail P n ns all))
    where
      low : {a b c : ℕ} → a ≤ b → b ≤ c → a ≤ c
      low p q = omega arith

  module _ (changes : ChangesNext) where
    -- linked nodes stand where they stood
    first_same : (count b at : ℕ) (ns : List N) → first_in count b (links_from node key next at (linked node key with_next count at ns)) ≡ first_of count b at ns
    first_same count b at [] = refl
    first_same count b at (n ∷ ns) = rw (changes.same_key n _, changes.size n _, first_same count b (at + length (node n)) ns) refl

    leads_on : (count at : ℕ) (ns : List N) → LeadOn count (links_from node key next at (linked node key with_next count at ns))
    leads_on count at [] = tt
    leads_on count at (n ∷ ns) = by (first_of count (bucket_of count (key n)) (at + length (node n)) ns) (linked node key with_next count (at + length (node n)) ns)
        (sym (first_same count (bucket_of count (key n)) (at + length (node n)) ns)) (leads_on count (at + length (node n)) ns)
      where
        by : (to : ℕ) (made : List N) → to ≡ first_in count (bucket_of count (key n)) (links_from node key next (at + length (node n)) made) → LeadOn count (links_from node key next (at + length (node n)) made)
            → LeadOn count (links_from node key next at (with_next n to ∷ made))
        by to made e rest = rw (changes.same_key n to, changes.size n to) (changes.next_is n to ∙ e, rest)

    own_keys : (at : ℕ) (ns : List N) → AreApart (map key ns) → HaveOwnKeys (links_from node key next at ns)
    own_keys at ns apart i j d lt within same =
        let count = length-links_from node key next at ns in
        let keys = length-map ns key in
        let high : j < length ns = omega (arith, within, count) in
        some ns high (λ e. apart i j (key e) lt (omega (arith, high, keys)) (get_or-map key ns i e (key e) (omega arith) ∙ sym (key_at node key next at ns i d e (omega arith)) ∙ same ∙ key_at node key next at ns j d e high ∙ sym (get_or-map key ns j e (key e) high)))
      where
        some : (ns : List N) → j < length ns → (N → ⊥) → ⊥
        some [] high none = omega arith
        some (n ∷ ns) high none = none n

    pub are_linked : (count first : ℕ) (ns : List N) → AreApart (map key ns) → AreLinked (map (λ b. first_of count b first ns) (numbers_below count)) (links_from node key next first (linked node key with_next count first ns))
    are_linked count first ns apart =
        let made = linked node key with_next count first ns in
        let firsts = map (λ b. first_of count b first ns) (numbers_below count) in
        let len : length firsts ≡ count = length-map (numbers_below count) (λ b. first_of count b first ns) ∙ length-numbers_below count in
        record {
          keys = own_keys first made (subst AreApart (sym (map_linked key changes.same_key count first ns)) apart);
          heads = λ b lt. held count first ns b (omega (arith, lt, len)) ∙ sym (first_same count b first ns) ∙ ap (λ (k : ℕ). first_in k b (links_from node key next first made)) (sym len);
          nexts = subst (λ (k : ℕ). LeadOn k (links_from node key next first made)) (sym len) (leads_on count first ns);
        }
      where
        held : (count first : ℕ) (ns : List N) (b : ℕ) → b < count → get_or (map (λ b. first_of count b first ns) (numbers_below count)) b 0 ≡ first_of count b first ns
        held count first ns b lt = get_or-map (λ b. first_of count b first ns) (numbers_below count) b 0 0 (omega (arith, lt, length-numbers_below count)) ∙ ap (λ (k : ℕ). first_of count k first ns) (numbers_at count b lt)

    -- a table of firsts has places within the file
    pub firsts_within : (count first most : ℕ) (ns : List N) → first + length (flat_map node ns) ≤ most → All (λ bucket. bucket ≤ most) (map (λ b. first_of count b first ns) (numbers_below count))
    firsts_within count first most ns within = All-map (λ bucket. bucket ≤ most) (λ b. first_of count b first ns) (numbers_below count) (λ i d lt. low (first_within count (get_or (numbers_below count) i d) first ns) within)
      where
        low : {a b c : ℕ} → a ≤ b → b ≤ c → a ≤ c
        low p q = omega arith
