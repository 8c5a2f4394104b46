use Rattle.std.proofs.Common.{[]}
use Rattle.acfg_sip.specs.SipHash.{initialized}
use Rattle.acfg_sip.proofs.buckets.bucket.Goals as goal

pub returns-clause-value : goal.returns-clause-value
returns-clause-value c = c.bucket_of.ensures.value c.args.key.now (c.write.ensures (initialized 0 0) [] c.new-hasher.ensures)
