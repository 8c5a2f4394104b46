-- A walk from node to node of one bucket.
use Rattle.std.proofs.Common.{◌≡◌, ◌≢◌, ℕ, suc, ◌+◌, ◌-◌, ◌<◌, ◌≤◌, Bool, true, false, cond, eqb, ltb, List, [], ◌∷◌, length, drop, Some, None, Result, Ok, Err, refl, sym, ap, ◌∙◌, arith}
use Rattle.std.specs.Prelude.{find, count_by}
use Rattle.std.proofs.lemmas.Bool.{le-ltb}
use Rattle.std.proofs.lemmas.Bool.Decides.{nat_tests}
use Rattle.std.proofs.lemmas.List.{drop_at, drop-drop}
use Rattle.acfg_views.specs.declared.fault.ViewFault.{ViewFault}
use Rattle.acfg_views.specs.Fields.{IsBytes}
use Rattle.acfg_views.specs.Reading.{OpenMap, node_at}
use Rattle.acfg_views.proofs.Exact.{IsExact, IsBytes-drop}
use Rattle.acfg_images.specs.Links.{NodeKey, links_from, first_in, bucket_of, LeadOn}
use Rattle.acfg_images.specs.Faults.{next_node, nodes_from}
use Rattle.acfg_lookup.proofs.Counting.{count-hit, count-miss}

equal : {a b : ℕ} → a ≡ b → eqb a b ≡ true
equal {a} {b} e = grind (arith, nat_tests)

same : {a b : ℕ} → eqb a b ≡ true → a ≡ b
same {a} {b} e = grind (arith, nat_tests)

module _ {N : Type 0} (read : List ℕ → Result (N × List ℕ) ViewFault) where
  -- a node, and the nodes behind it
  record Split (tail : List ℕ) (count : ℕ) (n : N) (ns : List N) : Type 0 where
    pub rest : List ℕ
    pub one : read tail ≡ Ok (n, rest)
    pub others : nodes_from read count rest ≡ Ok ns

  split : (tail : List ℕ) (count : ℕ) (n : N) (ns : List N) → nodes_from read (suc count) tail ≡ Ok (n ∷ ns) → Split tail count n ns
  split tail count n ns e = first (read tail) refl e
    where
      behind : (x : N × List ℕ) → read tail ≡ Ok x → (r : Result (List N) (List ℕ)) → nodes_from read count x.1 ≡ r → next_node (Ok x) tail (λ _. r) ≡ Ok (n ∷ ns) → Split tail count n ns
      behind x is (Err rest) others_are p = absurd cc
      behind x is (Ok nodes) others_are p =
          let heads : x.0 ≡ n = cc in
          let tails : nodes ≡ ns = cc in
          record { rest = x.1; one = is ∙ ap (λ (m : N). Ok (m, x.1)) heads; others = others_are ∙ ap (λ (ms : List N). Ok ms) tails }

      first : (r : Result (N × List ℕ) ViewFault) → read tail ≡ r → next_node r tail (nodes_from read count) ≡ Ok (n ∷ ns) → Split tail count n ns
      first (Err f) is p = absurd cc
      first (Ok x) is p = behind x is (nodes_from read count x.1) refl p

module _ {N : Type 0} (read : List ℕ → Result (N × List ℕ) ViewFault) (node : N → List ℕ) (key : N → NodeKey) (next : N → ℕ) (map : OpenMap) (count : ℕ) where
  -- nodes that stand one after another from an offset to the file's end, each with the offset of the next one of its bucket
  pub record Stand (at : ℕ) (nodes : List N) : Type 0 where
    pub read_so : nodes_from read (length nodes) (drop at map.file) ≡ Ok nodes
    pub first : map.first_node ≤ at
    pub leads : LeadOn count (links_from node key next at nodes)

  -- the first of them
  record First (at : ℕ) (n : N) (ns : List N) : Type 0 where
    pub end : ℕ
    pub read_so : node_at read map at ≡ Ok (n, end)
    pub leads : next n ≡ first_in count (bucket_of count (key n)) (links_from node key next (at + length (node n)) ns)
    pub behind : Stand (at + length (node n)) ns

  first_of_all : (IsNode : N → Type 0) → IsExact read node IsNode → IsBytes map.file → (at : ℕ) (n : N) (ns : List N) → Stand at (n ∷ ns) → First at n ns
  unfolding node_at
  first_of_all IsNode exact fits at n ns s =
      let p = split read (drop at map.file) (length ns) n ns s.read_so in
      let f = exact.found (drop at map.file) n p.rest (IsBytes-drop at map.file fits) p.one in
      let rest_is : drop (at + length (node n)) map.file ≡ p.rest = sym (drop-drop (length (node n)) at map.file) ∙ ap (drop (length (node n))) f.0.parts ∙ drop_at (node n) p.rest (length (node n)) refl in
      let test : ltb at map.first_node ≡ false = le-ltb _ _ s.first in
      let one = p.one in
      record {
        end = length map.file - length p.rest;
        read_so = rw (test, one) refl;
        leads = s.leads.0;
        behind = record { read_so = ap (nodes_from read (length ns)) rest_is ∙ p.others; first = let h = s.first in omega arith; leads = s.leads.1 };
      }

  module _ (bucket : ℕ) where
    abbrev pub is_in : N → Bool
    is_in n = eqb (bucket_of count (key n)) bucket

    -- nodes that pass are in this bucket
    abbrev pub Keeps : (N → Bool) → Type 0
    Keeps p = (n : N) → p n ≡ true → bucket_of count (key n) ≡ bucket

    -- a node of another bucket doesn't pass
    passes_not : (p : N → Bool) → Keeps p → (n : N) → is_in n ≡ false → p n ≡ false
    passes_not p keeps n other = go (p n) refl
      where
        go : (b : Bool) → p n ≡ b → p n ≡ false
        go false e = e
        go true e = let h = equal (keeps n e) in absurd cc

    -- the next node of the bucket, and what is behind it
    pub record Next (nodes : List N) (off : ℕ) : Type 0 where
      pub it : N
      pub end : ℕ
      pub at : ℕ
      pub behind : List N
      pub read_so : node_at read map off ≡ Ok (it, end)
      pub stand : Stand at behind
      pub next_is : next it ≡ first_in count bucket (links_from node key next at behind)
      pub counts : count_by is_in nodes ≡ suc (count_by is_in behind)
      pub finds : (p : N → Bool) → Keeps p → find p nodes ≡ find p (it ∷ behind)

    next_in : (IsNode : N → Type 0) → IsExact read node IsNode → IsBytes map.file → (at : ℕ) (nodes : List N) (off : ℕ) → Stand at nodes → off ≢ 0 → off ≡ first_in count bucket (links_from node key next at nodes) → Next nodes off
    next_in IsNode exact fits at [] off s some is = absurd (some is)
    next_in IsNode exact fits at (n ∷ ns) off s some is =
        let f = first_of_all IsNode exact fits at n ns s in
        go f (is_in n) refl is (λ later. next_in IsNode exact fits (at + length (node n)) ns off f.behind some later)
      where
        go : First at n ns → (b : Bool) → is_in n ≡ b → off ≡ cond b at (first_in count bucket (links_from node key next (at + length (node n)) ns))
            → (off ≡ first_in count bucket (links_from node key next (at + length (node n)) ns) → Next ns off) → Next (n ∷ ns) off
        go f true hit here later =
            let there = same hit in
            record {
              it = n;
              end = f.end;
              at = at + length (node n);
              behind = ns;
              read_so = ap (node_at read map) here ∙ f.read_so;
              stand = f.behind;
              next_is = f.leads ∙ ap (λ (b : ℕ). first_in count b (links_from node key next (at + length (node n)) ns)) there;
              counts = count-hit is_in n ns hit;
              finds = λ p keeps. refl;
            }
        go f false miss here later =
            let l = later here in
            record {
              it = l.it;
              end = l.end;
              at = l.at;
              behind = l.behind;
              read_so = l.read_so;
              stand = l.stand;
              next_is = l.next_is;
              counts = count-miss is_in n ns miss ∙ l.counts;
              finds = λ p keeps. let out = passes_not p keeps n miss in rw out (l.finds p keeps);
            }

    none_in : (at : ℕ) (nodes : List N) → 0 < at → 0 ≡ first_in count bucket (links_from node key next at nodes) → (p : N → Bool) → Keeps p → find p nodes ≡ None
    none_in at [] some is p keeps = refl
    none_in at (n ∷ ns) some is p keeps = go (is_in n) refl is (λ later. none_in (at + length (node n)) ns (omega arith) later p keeps)
      where
        go : (b : Bool) → is_in n ≡ b → 0 ≡ cond b at (first_in count bucket (links_from node key next (at + length (node n)) ns))
            → (0 ≡ first_in count bucket (links_from node key next (at + length (node n)) ns) → find p ns ≡ None) → find p (n ∷ ns) ≡ None
        go true hit here later = absurd (omega arith)
        go false miss here later = let out = passes_not p keeps n miss in rw out (later here)

    -- a walk so far: what is left is behind some nodes, and this many steps were taken, of so many in all
    pub record Walk (p : N → Bool) (all : List N) (total off taken : ℕ) : Type 0 where
      pub at : ℕ
      pub rest : List N
      pub stand : Stand at rest
      pub some : 0 < at
      pub off_is : off ≡ first_in count bucket (links_from node key next at rest)
      pub finds : find p all ≡ find p rest
      pub counts : taken + count_by is_in rest ≡ total

    -- where the walk ends
    pub walk_end : (p : N → Bool) → Keeps p → (all : List N) (total off taken : ℕ) → Walk p all total off taken → off ≡ 0 → (find p all ≡ None) × (taken ≤ total)
    walk_end p keeps all total off taken w none =
        let counts = w.counts in
        (w.finds ∙ none_in w.at w.rest w.some (sym none ∙ w.off_is) p keeps, omega arith)

    module _ (IsNode : N → Type 0) (exact : IsExact read node IsNode) (fits : IsBytes map.file) where
      walk_next : (p : N → Bool) (all : List N) (total off taken : ℕ) → (w : Walk p all total off taken) → off ≢ 0 → Next w.rest off
      walk_next p all total off taken w some = next_in IsNode exact fits w.at w.rest off w.stand some w.off_is

      -- a node is left to read
      pub walk_more : (p : N → Bool) (all : List N) (total off taken : ℕ) → Walk p all total off taken → off ≢ 0 → taken < total
      walk_more p all total off taken w some =
          let counts = w.counts in
          let one = (walk_next p all total off taken w some).counts in
          omega arith

      -- and it is there
      pub walk_reads : (p : N → Bool) (all : List N) (total off taken : ℕ) → Walk p all total off taken → off ≢ 0 → (f : ViewFault) → node_at read map off ≡ Err f → ⊥
      walk_reads p all total off taken w some f e =
          let there = (walk_next p all total off taken w some).read_so in
          cc

      abbrev made : N × ℕ → Result (N × ℕ) ViewFault
      made x = Ok x

      made_is : (x y : N × ℕ) → made x ≡ made y → x ≡ y
      made_is x y e = cc

      -- where a node passes, it is what is found
      pub walk_found : (p : N → Bool) → Keeps p → (all : List N) (total off taken : ℕ) → Walk p all total off taken → off ≢ 0 → (n : N) (end : ℕ) → node_at read map off ≡ Ok (n, end) → p n ≡ true → find p all ≡ Some n
      walk_found p keeps all total off taken w some n end e hit =
          let x = walk_next p all total off taken w some in
          let it_is : x.it ≡ n = ap (λ (y : N × ℕ). y.0) (made_is (x.it, x.end) (n, end) (sym x.read_so ∙ e)) in
          let first : find p (x.it ∷ x.behind) ≡ find p (n ∷ x.behind) = ap (λ (m : N). find p (m ∷ x.behind)) it_is in
          let found : find p (n ∷ x.behind) ≡ Some n = rw hit refl in
          w.finds ∙ x.finds p keeps ∙ first ∙ found

      -- where it doesn't, the walk goes on
      pub walk_on : (p : N → Bool) → Keeps p → (all : List N) (total off taken : ℕ) → Walk p all total off taken → off ≢ 0 → 0 < map.first_node → (n : N) (end : ℕ) → node_at read map off ≡ Ok (n, end) → p n ≡ false → Walk p all total (next n) (taken + 1)
      walk_on p keeps all total off taken w some nodes n end e miss =
          let x = walk_next p all total off taken w some in
          let it_is : x.it ≡ n = ap (λ (y : N × ℕ). y.0) (made_is (x.it, x.end) (n, end) (sym x.read_so ∙ e)) in
          let first : find p (x.it ∷ x.behind) ≡ find p (n ∷ x.behind) = ap (λ (m : N). find p (m ∷ x.behind)) it_is in
          let passed : find p (n ∷ x.behind) ≡ find p x.behind = rw miss refl in
          let counts = w.counts in
          let one = x.counts in
          let at_least = x.stand.first in
          record {
            at = x.at;
            rest = x.behind;
            stand = x.stand;
            some = omega arith;
            off_is = ap next (sym it_is) ∙ x.next_is;
            finds = w.finds ∙ x.finds p keeps ∙ first ∙ passed;
            counts = omega arith;
          }
