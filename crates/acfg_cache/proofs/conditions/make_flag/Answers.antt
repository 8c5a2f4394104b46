use Rattle.std.proofs.Common.{subst, sym}
use Rattle.acfg_decls.specs.Flags.{IsLawful}
use Rattle.acfg_cache.specs.Bodies.{counted_read}
use Rattle.acfg_cache.proofs.MadeFlags.{lawful_made}
use Rattle.acfg_cache.proofs.conditions.make_flag.Goals as goal

pub returns-clause-lawful : goal.returns-clause-lawful
returns-clause-lawful c = subst IsLawful (sym c.in_ok-build_flag.ensures) (lawful_made c.args.index (counted_read c.args.counted.now) c.in_ok-names.ensures.passed)
