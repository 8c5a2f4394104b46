use Rattle.std.proofs.Common.{◌≡◌, length, refl, rules, Some, None}
use Rattle.acfg_images.proofs.Heads.{Heads, chain_is}
use Rattle.acfg_images.proofs.chains.wrong_in.Goals as goal

pub returns-in-Some : goal.returns-in-Some
returns-in-Some c =
    let firsts = c.wrong_next-wrong.new.firsts in
    let len : length firsts ≡ length c.args.buckets.now = search rules in
    let heads : Heads firsts c.args.links.now = search rules in
    chain_is c.args.first_bucket c.args.buckets.now firsts firsts c.args.links.now (Some c.in-Some.b) c.wrong_next-wrong.result refl len heads c.in-Some.ensures.first (search rules)

pub returns-in-None : goal.returns-in-None
returns-in-None c =
    let firsts = c.wrong_next-wrong.new.firsts in
    let len : length firsts ≡ length c.args.buckets.now = search rules in
    let heads : Heads firsts c.args.links.now = search rules in
    chain_is c.args.first_bucket c.args.buckets.now firsts firsts c.args.links.now None c.wrong_next-wrong.result refl len heads c.in-None.ensures.first (search rules)
