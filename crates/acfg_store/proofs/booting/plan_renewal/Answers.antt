use Rattle.acfg_store.proofs.RenewalCommitted.{renewal_planned, takes_flag}
use Rattle.acfg_store.proofs.booting.plan_renewal.Goals as goal

pub renew_copy-requires-clause-copy : goal.renew_copy-requires-clause-copy
renew_copy-requires-clause-copy c = takes_flag c.args.one.now c.args.key.now c.in-Some.was c.in-Some.is c.requires.copied c.requires.renewable

pub returns : goal.returns
returns c =
    renewal_planned c.args.one.now c.args.key.now c.in-Some.was c.in-Some.is c.requires.copied c.requires.renewable c.args.dir.now c.in_ok-set-in-Some.set c.in_ok-set-in-Some.ensures c.as_str.result.now c.as_str.ensures.text
    c.plan_copy.result c.plan_copy.ensures.set c.plan_copy.ensures.plan
