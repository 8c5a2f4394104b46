use Rattle.std.proofs.Common.{rules}
use Rattle.acfg_store.specs.Records.{SpellsLocals}
use Rattle.acfg_store.proofs.Indexed.{no_other}
use Rattle.acfg_store.proofs.overrides.locals_of.Goals.{else-are_within-via-then-are_within+else-are_writable, else-are_within-via-else-are_within}
use Rattle.acfg_store.proofs.overrides.locals_of.Goals as goal

pub returns-else-are_within : goal.returns-else-are_within
returns-else-are_within c =
    let spells : SpellsLocals c.args.bytes.now c.in-Some.rows = search rules in
    no_other c.args.bytes.now c.in-Some.rows spells c.args.count c.args.flags.now (λ is.
    elim c.else-are_within.branch [
      | else-are_within-via-then-are_within+else-are_writable w ↦ search rules
      | else-are_within-via-else-are_within w ↦ search rules
    ])
