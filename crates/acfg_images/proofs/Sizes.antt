-- How long nodes are.
use Rattle.std.proofs.Common.{◌≡◌, ℕ, zero, suc, ◌+◌, ◌<◌, ◌≤◌, List, [], ◌∷◌, ◌++◌, length, get_or, take, map, ap, ◌∙◌, append-nil, arith}
use Rattle.std.specs.List.{flat_map}
use Rattle.std.proofs.lemmas.Grind.{flat_map-append}
use Rattle.std.proofs.lemmas.List.{map-append, length-append}
use Rattle.std.proofs.Math.Seq.{take-suc}
use Rattle.acfg_views.specs.Fields.{number, string}
use Rattle.acfg_views.specs.Layout.{Package, Flag, package_node, flag_node}
use Rattle.acfg_views.proofs.Exact.{length-number}

length-string : (text : List ℕ) → length (string text) ≡ 4 + length text
unfolding string
length-string text = omega (arith, length-append (number 4 (length text)) text, length-number 4 (length text))

pub package_size : (node : Package) → length (package_node node) ≡ 16 + length node.name
unfolding package_node
package_size node =
    simp (length-append, length-string, length-number) (omega arith)

pub flag_size : (node : Flag) → length (flag_node node) ≡ 16 + length node.name
unfolding flag_node
flag_size node =
    simp (length-append, length-string, length-number) (omega arith)

-- the bytes of the nodes of rows
abbrev pub bytes_of : {N R : Type 0} → (N → List ℕ) → (R → N) → List R → List ℕ
bytes_of node view rows = flat_map node (map view rows)

abbrev pub size_of : {N R : Type 0} → (N → List ℕ) → (R → N) → List R → ℕ
size_of node view rows = length (bytes_of node view rows)

module _ {N R : Type 0} (node : N → List ℕ) (view : R → N) where
  bytes_more : (rows : List R) (j : ℕ) (d : R) → j < length rows → bytes_of node view (take (suc j) rows) ≡ bytes_of node view (take j rows) ++ node (view (get_or rows j d))
  bytes_more rows j d lt =
      ap (bytes_of node view) (take-suc rows j d lt)
      ∙ ap (flat_map node) (map-append view (take j rows) (get_or rows j d ∷ []))
      ∙ flat_map-append node (map view (take j rows)) (view (get_or rows j d) ∷ [])
      ∙ ap (λ (bs : List ℕ). bytes_of node view (take j rows) ++ bs) (append-nil (node (view (get_or rows j d))))

  pub size_more : (rows : List R) (j : ℕ) (d : R) → j < length rows → size_of node view (take (suc j) rows) ≡ size_of node view (take j rows) + length (node (view (get_or rows j d)))
  size_more rows j d lt = ap length (bytes_more rows j d lt) ∙ length-append _ _

  -- each node is no longer than all
  pub one_within : (rows : List R) (j : ℕ) (d : R) → j < length rows → length (node (view (get_or rows j d))) ≤ size_of node view rows
  one_within [] j d lt = absurd (omega arith)
  one_within (row ∷ rows) zero d lt = omega (arith, length-append (node (view row)) (bytes_of node view rows))
  one_within (row ∷ rows) (suc j) d lt = omega (arith, one_within rows j d (omega arith), length-append (node (view row)) (bytes_of node view rows))

  -- nodes are no more than their bytes
  pub rows_within : ((n : N) → 1 ≤ length (node n)) → (rows : List R) → length rows ≤ size_of node view rows
  rows_within some [] = omega arith
  rows_within some (row ∷ rows) = omega (arith, rows_within some rows, some (view row), length-append (node (view row)) (bytes_of node view rows))

pub package_some : (node : Package) → 1 ≤ length (package_node node)
package_some node = omega (arith, package_size node)

pub flag_some : (node : Flag) → 1 ≤ length (flag_node node)
flag_some node = omega (arith, flag_size node)
