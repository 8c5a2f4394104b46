use Rattle.std.proofs.Common.{◌+◌, ◌≤◌, ◌++◌, vec_len, vec_capacity}
use Rattle.acfg_wire.specs.Varint.{shortest}
use Rattle.acfg_wire.proofs.Put.{IsLeft}
use Rattle.acfg_wire.proofs.writing.push_varint.Given as goal

abbrev pub invariant-loop-rest : goal.invariant-loop-rest
invariant-loop-rest l =
    IsLeft l.out.items (l.fn.out.items ++ shortest l.fn.value) (vec_len l.out) (vec_len l.fn.out + 10) l.rest
    × (vec_capacity l.fn.out ≤ vec_capacity l.out)

abbrev pub decreases-loop-rest : goal.decreases-loop-rest
decreases-loop-rest l = l.rest
