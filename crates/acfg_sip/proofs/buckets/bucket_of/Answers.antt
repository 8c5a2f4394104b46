use Rattle.std.proofs.Common.{◌≡◌, ◌++◌, ◌∷◌, [], refl}
use Rattle.acfg_sip.specs.SipHash.{siphash, initialized}
use Rattle.acfg_sip.specs.Buckets.{hash}
use Rattle.acfg_sip.proofs.buckets.bucket_of.Goals as goal

pub returns-clause-value : goal.returns-clause-value
unfolding siphash hash
returns-clause-value c = λ key held.
    let whole : c.finish.result ≡ siphash 1 3 0 0 (key ++ 0xff ∷ []) =
    c.finish.ensures (initialized 0 0) (key ++ 0xff ∷ []) (c.push.ensures (initialized 0 0) key held) in
    rw (c.from.ensures, whole) refl
