use Rattle.std.proofs.Common.{◌≡◌, List, ℕ, ◌++◌, [], codes, decimal, ◌∙◌}
use Rattle.acfg_sip.specs.SipHash.{initialized}
use Rattle.acfg_sip.proofs.buckets.flag_bucket.Goals as goal

pub returns-clause-value : goal.returns-clause-value
returns-clause-value c =
    let start = initialized 0 0 in
    let id : c.as_bytes.result.now ≡ decimal c.args.package_id = c.as_bytes.ensures.value ∙ c.format.ensures.text in
    let prefix : List ℕ = c.as_bytes.result.now ++ codes "/" in
    rw (← id) (c.bucket_of.ensures.value (prefix ++ c.args.flag.now)
    (c.write-2.ensures start prefix (c.push.ensures start c.as_bytes.result.now (c.write.ensures start [] c.new-hasher.ensures))))
