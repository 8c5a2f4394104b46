use Rattle.std.proofs.Common.{◌-◌, arith}
use Rattle.acfg_images.proofs.Tables.{no_package, starts_more}
use Rattle.acfg_images.proofs.agree.put_starts.Goals as goal

pub loop-i-preserved : goal.loop-i-preserved
loop-i-preserved c =
    let h = c.loop-i.invariant.0 in (
      omega (arith, c.loop-i-test.true),
      starts_more c.loop-i.starts c.put_start.new.starts c.args.packages.now (c.loop-i.i - 1) c.loop-i.i no_package (omega (arith, c.loop-i-test.true)) (omega (arith, c.loop-i-test.true)) c.loop-i.invariant.1 c.put_start.ensures,
    )
