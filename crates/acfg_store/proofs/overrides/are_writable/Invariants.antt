use Rattle.std.proofs.Common.{All, take}
use Rattle.std.specs.Prelude.{IsSome, IsTrue}
use Rattle.acfg_base.specs.Release.{is_read_write}
use Rattle.acfg_store.specs.Stands.{local_at}
use Rattle.acfg_store.proofs.overrides.are_writable.Given as goal

abbrev pub invariant-loop-flag : goal.invariant-loop-flag
invariant-loop-flag l = All (λ row. IsSome (local_at l.fn.rows row.found.index) → IsTrue (is_read_write row.found.kind)) (take l.flag-index l.fn.flags)
