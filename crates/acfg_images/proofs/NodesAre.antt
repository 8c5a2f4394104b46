-- The nodes that are read one after another are those that are spelled.
use Rattle.std.proofs.Common.{◌≡◌, ℕ, zero, suc, List, [], ◌∷◌, ◌++◌, length, drop, All, Result, Ok, Err, refl, ap, subst, ◌∙◌}
use Rattle.std.specs.List.{flat_map}
use Rattle.std.proofs.lemmas.List.Elements.{All-nil, All-cons, All-head, All-tail}
use Rattle.acfg_views.specs.declared.fault.ViewFault.{ViewFault}
use Rattle.acfg_views.specs.Fields.{IsBytes}
use Rattle.acfg_views.specs.Reading.{OpenMap}
use Rattle.acfg_views.specs.Parts.{HasNodes}
use Rattle.acfg_views.proofs.Exact.{IsExact, IsBytes-drop}
use Rattle.acfg_images.specs.Faults.{next_node, nodes_from, nodes_in}
use Rattle.acfg_images.proofs.Walk.{length-nodes_in}

module _ {N : Type 0} (read : List ℕ → Result (N × List ℕ) ViewFault) (node : N → List ℕ) (IsNode : N → Type 0) (exact : IsExact read node IsNode) where
  -- the bytes are these nodes, which are lawful
  pub record AreSpelled (bytes : List ℕ) (nodes : List N) : Type 0 where
    pub spelled : bytes ≡ flat_map node nodes
    pub lawful : All IsNode nodes

  are_spelled : (count : ℕ) (tail : List ℕ) (nodes : List N) → IsBytes tail → nodes_from read count tail ≡ Ok nodes → AreSpelled tail nodes
  are_spelled zero [] nodes fits e = let none : [] ≡ nodes = cc in subst (AreSpelled []) none (record { spelled = refl; lawful = All-nil IsNode })
  are_spelled zero (b ∷ tail) nodes fits e = absurd cc
  are_spelled (suc count) tail nodes fits e = first (read tail) refl (are_spelled count) e
    where
      others : (x : N) (rest : List ℕ) → read tail ≡ Ok (x, rest) → (r : Result (List N) (List ℕ)) → nodes_from read count rest ≡ r → ((bytes : List ℕ) (ns : List N) → IsBytes bytes → nodes_from read count bytes ≡ Ok ns → AreSpelled bytes ns) → next_node (Ok (x, rest)) tail (λ _. r) ≡ Ok nodes → AreSpelled tail nodes
      others x rest read_is (Err bytes) is so p = absurd cc
      others x rest read_is (Ok ns) is so p =
          let made : x ∷ ns ≡ nodes = cc in
          let found = exact.found tail x rest fits read_is in
          let behind = so rest ns found.0.rest_fits is in
          subst (AreSpelled tail) made (record { spelled = found.0.parts ∙ ap (λ (b : List ℕ). node x ++ b) behind.spelled; lawful = All-cons IsNode x ns found.1 behind.lawful })

      first : (r : Result (N × List ℕ) ViewFault) → read tail ≡ r → ((bytes : List ℕ) (ns : List N) → IsBytes bytes → nodes_from read count bytes ≡ Ok ns → AreSpelled bytes ns) → next_node r tail (nodes_from read count) ≡ Ok nodes → AreSpelled tail nodes
      first (Err fault) is so p = absurd cc
      first (Ok pair) is so p = others pair.0 pair.1 is (nodes_from read count pair.1) refl so p

  are_read : (nodes : List N) → All IsNode nodes → nodes_from read (length nodes) (flat_map node nodes) ≡ Ok nodes
  are_read [] lawful = refl
  are_read (x ∷ ns) lawful =
      let here : read (node x ++ flat_map node ns) ≡ Ok (x, flat_map node ns) = exact.again x (flat_map node ns) (All-head IsNode x ns lawful) in
      let rest = are_read ns (All-tail IsNode x ns lawful) in
      rw (here, rest) refl

  pub has_nodes : (map : OpenMap) (nodes : List N) → IsBytes map.file → nodes_in read map ≡ Ok nodes → HasNodes node IsNode map nodes
  unfolding nodes_in
  has_nodes map nodes fits e =
      let are = are_spelled map.count (drop map.first_node map.file) nodes (IsBytes-drop map.first_node map.file fits) e in
      record { spelled = are.spelled; lawful = are.lawful; count = length-nodes_in read map nodes e }

  pub nodes_read : (map : OpenMap) (nodes : List N) → HasNodes node IsNode map nodes → nodes_in read map ≡ Ok nodes
  unfolding nodes_in
  nodes_read map nodes has = rw (has.spelled, ← has.count) (are_read nodes has.lawful)
