-- The rounds one by one.
use Rattle.std.proofs.Common.{◌≡◌, ℕ, ◌+◌, add-one, refl}
use Rattle.acfg_sip.specs.SipHash.{State, sip_round, sip_rounds}

pub sip_rounds-zero : (s : State) → sip_rounds 0 s ≡ s
unfolding sip_rounds
sip_rounds-zero s = refl

pub sip_rounds-add_one : (n : ℕ) (s : State) → sip_rounds (n + 1) s ≡ sip_round (sip_rounds n s)
unfolding sip_rounds
sip_rounds-add_one n s = rw add-one refl

pub ruleset one_by_one = (sip_rounds-zero, sip_rounds-add_one)
