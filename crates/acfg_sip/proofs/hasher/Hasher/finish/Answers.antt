use Rattle.std.proofs.Common.{◌<◌, arith}
use Rattle.acfg_sip.proofs.Holding.{length_fits}
use Rattle.acfg_sip.proofs.hasher.Hasher.finish.Goals as goal

pub overflow_add-last : goal.overflow_add-last
overflow_add-last g c =
    let small : c.args.self.count < 256 = omega arith in
    omega (arith, length_fits c.args.self.partial c.args.self.count c.args.self.partial_fits small)
