use Rattle.std.proofs.Common.{◌≡◌, ◌++◌, List, ℕ, length}
use Rattle.std.specs.List.{flat_map, All}
use Rattle.acfg_store.proofs.rows.take_rows.Given as goal

-- the rows so far, and what is behind them
pub record AreBefore {X : Type 0} (spelled : X → List ℕ) (IsLawful : X → Type 0) (count : ℕ) (bytes : List ℕ) (rows : List X) (rest : List ℕ) : Type 0 where
  pub many : length rows ≡ count
  pub each : All IsLawful rows
  pub are : bytes ≡ flat_map spelled rows ++ rest

abbrev pub invariant-loop : goal.invariant-loop
invariant-loop g l = AreBefore g.Y.Spelled.spelled g.Y.Spelled.IsLawful l.counter l.bytes l.rows.items l.rest
