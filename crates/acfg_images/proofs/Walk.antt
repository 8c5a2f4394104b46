-- Reading nodes one after another, as a loop does.
use Rattle.std.proofs.Common.{◌≡◌, ℕ, zero, suc, ◌+◌, ◌-◌, ◌<◌, ◌≤◌, ◌≢◌, false, ltb, List, [], ◌∷◌, ◌++◌, length, drop, map, Result, Ok, Err, refl, sym, ap, subst, ◌∙◌, append_assoc, arith}
use Rattle.std.proofs.lemmas.Bool.{le-ltb}
use Rattle.std.proofs.lemmas.List.{append-nil, length-append, length-drop, drop_at, drop-drop}
use Rattle.acfg_views.specs.declared.fault.ViewFault.{ViewFault}
use Rattle.acfg_views.specs.Fields.{IsBytes}
use Rattle.acfg_views.specs.Reading.{OpenMap, IsOpenMap, node_at, with_end}
use Rattle.acfg_views.proofs.FileFacts.{opened_map-offsets}
use Rattle.acfg_views.proofs.Exact.{IsExact, IsBytes-drop, bind_ok}
use Rattle.acfg_images.specs.Links.{NodeKey, Link, links_from}
use Rattle.acfg_images.specs.declared.fault.FileType.{FileType}
use Rattle.acfg_images.specs.declared.fault.ImageFault.TheVariants.{Node}
use Rattle.acfg_images.specs.Faults.{next_node, nodes_from, nodes_in, nodes_of}

module _ {N : Type 0} where
  -- what was read before, and what is still read
  abbrev pub with_front : List N → Result (List N) (List ℕ) → Result (List N) (List ℕ)
  with_front front (Ok nodes) = Ok (front ++ nodes)
  with_front front (Err rest) = Err rest

  regroup : (front : List N) (n : N) (rest : List ℕ) (tail : List ℕ) (others : List ℕ → Result (List N) (List ℕ)) → with_front front (next_node (Ok (n, rest)) tail others) ≡ with_front (front ++ n ∷ []) (others rest)
  regroup front n rest tail others = elim (others rest) as (λ r. with_front front (next_node (Ok (n, rest)) tail (λ _. r)) ≡ with_front (front ++ n ∷ []) r) [
    | Ok nodes ↦ ap (λ (ns : List N). Ok ns) (sym (append_assoc front (n ∷ []) nodes))
    | Err r ↦ refl
  ]

  -- one more link
  pub links_push : (node : N → List ℕ) (key : N → NodeKey) (next : N → ℕ) (made : List Link) (link : Link) (first at end : ℕ) (front : List N) (n : N)
      → ((more : List N) → made ++ links_from node key next at more ≡ links_from node key next first (front ++ more))
      → link ≡ record { at = at; key = key n; next = next n } → end ≡ at + length (node n)
      → (more : List N) → (made ++ link ∷ []) ++ links_from node key next end more ≡ links_from node key next first ((front ++ n ∷ []) ++ more)
  links_push node key next made link first at end front n so_far link_is end_is more =
      append_assoc made (link ∷ []) (links_from node key next end more)
      ∙ rw (link_is, end_is) (so_far (n ∷ more))
      ∙ ap (links_from node key next first) (sym (append_assoc front (n ∷ []) more))

  module _ (read : List ℕ → Result (N × List ℕ) ViewFault) where
    pub goes_on : (front : List N) (count i : ℕ) (tail : List ℕ) (n : N) (rest : List ℕ) (total : Result (List N) (List ℕ)) → i < count → read tail ≡ Ok (n, rest)
        → with_front front (nodes_from read (count - i) tail) ≡ total → with_front (front ++ n ∷ []) (nodes_from read (count - (i + 1)) rest) ≡ total
    goes_on front count i tail n rest total lt h so_far =
        let k : count - i ≡ suc (count - (i + 1)) = omega arith in
        let one : with_front front (nodes_from read (count - i) tail) ≡ with_front (front ++ n ∷ []) (nodes_from read (count - (i + 1)) rest) =
        rw (k, h) (regroup front n rest tail (nodes_from read (count - (i + 1)))) in
        sym one ∙ so_far

    pub stops : (front : List N) (count i : ℕ) (tail : List ℕ) (f : ViewFault) (total : Result (List N) (List ℕ)) → i < count → read tail ≡ Err f
        → with_front front (nodes_from read (count - i) tail) ≡ total → total ≡ Err tail
    stops front count i tail f total lt h so_far =
        let k : count - i ≡ suc (count - (i + 1)) = omega arith in
        let one : with_front front (nodes_from read (count - i) tail) ≡ Err tail = rw (k, h) refl in
        sym so_far ∙ one

    pub finished : (front : List N) (count i : ℕ) (tail : List ℕ) (total : Result (List N) (List ℕ)) → count ≤ i → length tail ≡ 0
        → with_front front (nodes_from read (count - i) tail) ≡ total → total ≡ Ok front
    finished front count i [] total le empty so_far =
        let k : count - i ≡ 0 = omega arith in
        let one : with_front front (nodes_from read (count - i) []) ≡ Ok front = rw k (ap (λ (ns : List N). Ok ns) (append-nil front)) in
        sym so_far ∙ one
    finished front count i (b ∷ tail) total le empty so_far = absurd (omega arith)

    pub trailing : (front : List N) (count i : ℕ) (tail : List ℕ) (total : Result (List N) (List ℕ)) → count ≤ i → 0 < length tail
        → with_front front (nodes_from read (count - i) tail) ≡ total → total ≡ Err tail
    trailing front count i [] total le some so_far = absurd (omega arith)
    trailing front count i (b ∷ tail) total le some so_far =
        let k : count - i ≡ 0 = omega arith in
        let one : with_front front (nodes_from read (count - i) (b ∷ tail)) ≡ Err (b ∷ tail) = rw k refl in
        sym so_far ∙ one

    refused : (size : ℕ) (r : Result (N × List ℕ) ViewFault) (f : ViewFault) → with_end size r ≡ Err f → (g : ViewFault) × (r ≡ Err g)
    refused size (Ok x) f e = absurd cc
    refused size (Err g) f e = (g, refl)

    -- a node that was read, in terms of the file
    pub record IsRead (node : N → List ℕ) (IsNode : N → Type 0) (map : OpenMap) (off : ℕ) (n : N) (end : ℕ) : Type 0 where
      pub read_so : read (drop off map.file) ≡ Ok (n, drop end map.file)
      pub behind : end ≡ off + length (node n)
      pub within : end ≤ length map.file
      pub lawful : IsNode n

    pub node_read : (node : N → List ℕ) (IsNode : N → Type 0) → IsExact read node IsNode → (map : OpenMap) (off : ℕ) (n : N) (end : ℕ) → IsBytes map.file → map.first_node ≤ off → off ≤ length map.file
        → node_at read map off ≡ Ok (n, end) → IsRead node IsNode map off n end
    unfolding node_at
    node_read node IsNode exact map off n end fits first within e =
        let test : ltb off map.first_node ≡ false = le-ltb _ _ first in
        let e' = rw test at e in
        let b = bind_ok (read (drop off map.file)) (λ r. Ok (r.0, length map.file - length r.1)) (n, end) e' in
        let f = exact.found (drop off map.file) b.0.0 b.0.1 (IsBytes-drop off map.file fits) b.1 in
        let whole : length map.file - off ≡ length (node b.0.0) + length b.0.1 = sym (length-drop off map.file) ∙ ap length f.0.parts ∙ length-append (node b.0.0) b.0.1 in
        let at : length map.file - length b.0.1 ≡ off + length (node b.0.0) = omega arith in
        let rest : drop (off + length (node b.0.0)) map.file ≡ b.0.1 =
        sym (drop-drop (length (node b.0.0)) off map.file) ∙ ap (drop (length (node b.0.0))) f.0.parts ∙ drop_at (node b.0.0) b.0.1 (length (node b.0.0)) refl in
        let behind_is : drop (length map.file - length b.0.1) map.file ≡ b.0.1 = ap (λ (k : ℕ). drop k map.file) at ∙ rest in
        let made : N × ℕ = (b.0.0, length map.file - length b.0.1) in
        let facts : IsRead node IsNode map off made.0 made.1 = record {
          read_so = b.1 ∙ ap (λ (r : List ℕ). Ok (b.0.0, r)) (sym behind_is);
          behind = at;
          within = omega arith;
          lawful = f.1;
        } in
        subst (λ (p : N × ℕ). IsRead node IsNode map off p.0 p.1) (pair made (n, end) b.2) facts
      where
        ok : N × ℕ → Result (N × ℕ) ViewFault
        ok x = Ok x

        pair : (x y : N × ℕ) → ok x ≡ ok y → x ≡ y
        pair x y p = cc

    pub node_refused : (map : OpenMap) (off : ℕ) (f : ViewFault) → map.first_node ≤ off → node_at read map off ≡ Err f → (g : ViewFault) × (read (drop off map.file) ≡ Err g)
    unfolding node_at
    node_refused map off f first e =
        let test : ltb off map.first_node ≡ false = le-ltb _ _ first in
        let e' = rw test at e in
        refused (length map.file) (read (drop off map.file)) f e'

    -- a walk so far: i of count nodes are read, and the next one is to stand at an offset
    pub record SoFar (node : N → List ℕ) (key : N → NodeKey) (next : N → ℕ) (map : OpenMap) (i : ℕ) (nodes : List N) (links : List Link) (at : ℕ) : Type 0 where
      pub front : with_front nodes (nodes_from read (map.count - i) (drop at map.file)) ≡ nodes_from read map.count (drop map.first_node map.file)
      pub first : map.first_node ≤ at
      pub within : at ≤ length map.file
      pub linked : (more : List N) → links ++ links_from node key next at more ≡ links_from node key next map.first_node (nodes ++ more)

    pub so_far_none : (node : N → List ℕ) (key : N → NodeKey) (next : N → ℕ) (map : OpenMap) → map.first_node ≤ length map.file → SoFar node key next map 0 [] [] map.first_node
    so_far_none node key next map within = record { front = rw (let e : map.count - 0 ≡ map.count = omega arith in e) (same (nodes_from read map.count (drop map.first_node map.file))); first = omega arith; within = within; linked = λ more. refl }
      where
        same : (r : Result (List N) (List ℕ)) → with_front [] r ≡ r
        same (Ok ns) = refl
        same (Err r) = refl

    pub so_far_next : (node : N → List ℕ) (IsNode : N → Type 0) (key : N → NodeKey) (next : N → ℕ) → IsExact read node IsNode → (map : OpenMap) (i : ℕ) (nodes : List N) (links : List Link) (at : ℕ) (n : N) (end : ℕ) (link : Link)
        → IsBytes map.file → i < map.count → SoFar node key next map i nodes links at → node_at read map at ≡ Ok (n, end) → link ≡ record { at = at; key = key n; next = next n }
        → SoFar node key next map (i + 1) (nodes ++ n ∷ []) (links ++ link ∷ []) end
    so_far_next node IsNode key next exact map i nodes links at n end link fits lt so e link_is =
        let r = node_read node IsNode exact map at n end fits so.first so.within e in
        record {
          front = goes_on nodes map.count i (drop at map.file) n (drop end map.file) _ lt r.read_so so.front;
          first = omega (arith, so.first, r.behind);
          within = r.within;
          linked = links_push node key next links link map.first_node at end nodes n so.linked link_is r.behind;
        }

-- nodes begin within the file
pub nodes_within : (file_type : ℕ) (map : OpenMap) → IsOpenMap file_type map → map.first_node ≤ length map.file
nodes_within file_type map is = (opened_map-offsets file_type map.file map is.opened).offsets.within

module _ {N : Type 0} (read : List ℕ → Result (N × List ℕ) ViewFault) (node : N → List ℕ) (key : N → NodeKey) (next : N → ℕ) (map : OpenMap) where
  told : (file : FileType) (at : ℕ) (r : Result (List N) (List ℕ)) → at ≤ length map.file → r ≡ Err (drop at map.file) → nodes_of file (length map.file) r ≡ Err (Node file at)
  told file at r within e =
      let place : length map.file - length (drop at map.file) ≡ at = omega (arith, length-drop at map.file) in
      ap (nodes_of file (length map.file)) e ∙ ap (λ (k : ℕ). Err (Node file k)) place

  -- where a node is refused
  pub walk_refused : (file : FileType) (size i : ℕ) (nodes : List N) (links : List Link) (at : ℕ) (f : ViewFault) → size ≡ length map.file → i < map.count → SoFar read node key next map i nodes links at
      → node_at read map at ≡ Err f → nodes_of file size (nodes_in read map) ≡ Err (Node file at)
  unfolding nodes_in
  walk_refused file size i nodes links at f size_is lt so e =
      let r = node_refused read map at f so.first e in
      rw size_is (told file at _ so.within (stops read nodes map.count i (drop at map.file) r.0 _ lt r.1 so.front))

  -- where bytes stand behind the last node
  pub walk_trailing : (file : FileType) (size i : ℕ) (nodes : List N) (links : List Link) (at : ℕ) → size ≡ length map.file → map.count ≤ i → at ≢ size → SoFar read node key next map i nodes links at
      → nodes_of file size (nodes_in read map) ≡ Err (Node file at)
  unfolding nodes_in
  walk_trailing file size i nodes links at size_is le other so =
      let some : 0 < length (drop at map.file) = let w = so.within in omega (arith, length-drop at map.file) in
      rw size_is (told file at _ so.within (trailing read nodes map.count i (drop at map.file) _ le some so.front))

  -- where all nodes are read
  pub walk_done : (size i : ℕ) (nodes : List N) (links : List Link) (at : ℕ) → size ≡ length map.file → map.count ≤ i → at ≡ size → SoFar read node key next map i nodes links at
      → (nodes_in read map ≡ Ok nodes) × (links ≡ links_from node key next map.first_node nodes)
  unfolding nodes_in
  walk_done size i nodes links at size_is le there so =
      let none : length (drop at map.file) ≡ 0 = omega (arith, length-drop at map.file) in (
        finished read nodes map.count i (drop at map.file) _ le none so.front,
        sym (append-nil links) ∙ so.linked [] ∙ ap (links_from node key next map.first_node) (append-nil nodes),
      )

-- as many nodes are read as there have to be
length-next : {N : Type 0} (k : ℕ) (r : Result (N × List ℕ) ViewFault) (tail : List ℕ) (others : List ℕ → Result (List N) (List ℕ)) (nodes : List N) → ((rest : List ℕ) (ns : List N) → others rest ≡ Ok ns → length ns ≡ k) → next_node r tail others ≡ Ok nodes → length nodes ≡ suc k
length-next k (Err f) tail others nodes h e = absurd cc
length-next {N} k (Ok x) tail others nodes h e = go (others x.1) refl e
  where
    go : (r : Result (List N) (List ℕ)) → others x.1 ≡ r → next_node (Ok x) tail (λ _. r) ≡ Ok nodes → length nodes ≡ suc k
    go (Err rest) is p = absurd cc
    go (Ok ns) is p = let made : x.0 ∷ ns ≡ nodes = cc in sym (ap length made) ∙ ap suc (h x.1 ns is)

length-nodes_from : {N : Type 0} (read : List ℕ → Result (N × List ℕ) ViewFault) (count : ℕ) (tail : List ℕ) (nodes : List N) → nodes_from read count tail ≡ Ok nodes → length nodes ≡ count
length-nodes_from read zero [] nodes e = let none : [] ≡ nodes = cc in sym (ap length none)
length-nodes_from read zero (b ∷ tail) nodes e = absurd cc
length-nodes_from read (suc count) tail nodes e = length-next count (read tail) tail (nodes_from read count) nodes (length-nodes_from read count) e

pub length-nodes_in : {N : Type 0} (read : List ℕ → Result (N × List ℕ) ViewFault) (map : OpenMap) (nodes : List N) → nodes_in read map ≡ Ok nodes → length nodes ≡ map.count
unfolding nodes_in
length-nodes_in read map nodes e = length-nodes_from read map.count (drop map.first_node map.file) nodes e
