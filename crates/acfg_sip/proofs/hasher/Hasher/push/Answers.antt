use Rattle.std.proofs.Common.{◌<◌, [], ◌∷◌, arith}
use Rattle.acfg_sip.proofs.Holding.{one_byte}
use Rattle.acfg_sip.proofs.hasher.Hasher.push.Goals as goal

pub returns : goal.returns
returns g c =
    let small : c.args.byte < 256 = omega arith in
    c.merge.ensures (c.args.byte ∷ []) (one_byte c.args.byte c.from.result small c.from.ensures)
