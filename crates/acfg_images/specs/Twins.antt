-- How the code finds a key that comes twice: among rows in order of their buckets, keys and places. No public clause
-- cites these words.
use Rattle.std.specs.Prelude.{◌≡◌, ℕ, ◌+◌, ◌<◌, ◌≤◌, List, length, slice_index_or, Bool, true, Option, None, Some}
use Rattle.std.specs.Borrow.{Bor}
use Rattle.std.specs.Ordering.{nat_cmp, ordering_then}
use Rattle.std.specs.Option.{option_cmp}
use Rattle.std.specs.Cmp.Lexicographic.{slice_cmp}
use Rattle.std.specs.declared.cmp.Ordering.{Ordering}
use Rattle.acfg_images.specs.declared.links.NodeLink.{NodeLink}
use Rattle.acfg_images.specs.Links.{Link, NodeKey, same_key}

-- a node's bucket, which its key determines, its key and where it stands
abbrev pub Row : Type 0
Row = ℕ × Option ℕ × Bor (List ℕ) × ℕ

abbrev pub row_of : NodeLink → Row
row_of link = (link.bucket, link.owner, link.name, link.at)

-- the order of rows
abbrev pub row_cmp : Row → Row → Ordering
row_cmp x y = ordering_then (ordering_then (ordering_then (nat_cmp x.0 y.0) (option_cmp nat_cmp x.1 y.1)) (slice_cmp
    nat_cmp x.2.now y.2.now)) (nat_cmp x.3 y.3)

abbrev pub row_key : Row → NodeKey
row_key x = record { owner = x.1; name = x.2.now }

abbrev pub have_one_key : Row → Row → Bool
have_one_key x y = same_key (row_key x) (row_key y)

-- nodes stand one behind another
abbrev pub Rise : List Link → Type 0
Rise links = (i j : ℕ) (d : Link) → i < j → j < length links
    → (slice_index_or links i d).at < (slice_index_or links j d).at

-- among the first so many rows, one that stands there has the key of the row before it
abbrev pub HasTwin : List Row → ℕ → ℕ → Type 0
HasTwin rows n at = (k : ℕ) × (k + 1 < n)
    × ((d : Row) → have_one_key (slice_index_or rows k d) (slice_index_or rows (k + 1) d) ≡ true)
    × ((d : Row) → (slice_index_or rows (k + 1) d).3 ≡ at)

-- the least number of a kind, or none where there is none
abbrev pub IsLeast : (ℕ → Type 0) → Option ℕ → Type 0
IsLeast P None = (a : ℕ) → P a → ⊥
IsLeast P (Some a) = P a × ((b : ℕ) → P b → a ≤ b)
