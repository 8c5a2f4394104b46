use Rattle.std.proofs.Common.{length}
use Rattle.acfg_wire.specs.Fields.{fields_of, places_of}
use Rattle.acfg_wire.specs.Laid.{laid_of}
use Rattle.acfg_wire.proofs.Answer.{IsSoFar}
use Rattle.acfg_wire.proofs.LaidFacts.{IsLaidSoFar}
use Rattle.acfg_wire.proofs.reading.read_fields.Given as goal

abbrev pub invariant-loop-rest : goal.invariant-loop-rest
invariant-loop-rest l = record {
  so_far : IsSoFar l.bytes l.rest (fields_of l.fields.items) (places_of l.fields.items);
  laid : IsLaidSoFar l.bytes l.rest (laid_of l.fields.items);
}

abbrev pub decreases-loop-rest : goal.decreases-loop-rest
decreases-loop-rest l = length l.rest
