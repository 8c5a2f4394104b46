use Rattle.acfg_sip.specs.SipHash.{siphash, initialized}
use Rattle.std.proofs.Common.{[]}
use Rattle.acfg_sip.proofs.siphash.sip.Goals as goal

pub returns : goal.returns
unfolding siphash
returns g c =
    let start = initialized c.args.key0 c.args.key1 in
    c.finish.ensures start c.args.bytes.now (c.write.ensures start [] c.new-hasher.ensures)
