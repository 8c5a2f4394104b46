use Rattle.std.proofs.Common.{refl}
use Rattle.acfg_sip.specs.SipHash.{whole_words, partial_group}
use Rattle.acfg_sip.proofs.hasher.Hasher.new.Goals as goal

pub returns : goal.returns
unfolding whole_words partial_group
returns g c = record { state = c.new.ensures; partial = refl; count = refl }
