use Rattle.std.proofs.Common.{◌≡◌, ◌+◌, ◌-◌, ◌<◌, length, get_or, sym, subst, rules, arith, ℕ}
use Rattle.acfg_images.specs.Code.{HasBucket}
use Rattle.acfg_images.proofs.Keys.{no_link}
use Rattle.acfg_images.proofs.Heads.{bucket-lt, heads_more, wrong_right, wrong_here}
use Rattle.acfg_images.proofs.chains.wrong_next.Goals as goal

pub leads_on-requires : goal.leads_on-requires
leads_on-requires c =
    let lt : c.loop-i.i - 1 < length c.args.links.now = let h = c.loop-i.invariant.0 in omega (arith, c.loop-i-test.true) in
    let len : length c.loop-i.firsts ≡ length c.args.firsts.now = search rules in
    subst (λ (n : ℕ). (get_or c.args.links.now (c.loop-i.i - 1) no_link).bucket < n) (sym len) (bucket-lt (length c.args.firsts.now) (get_or c.args.links.now (c.loop-i.i - 1) no_link) c.requires.some (c.requires.buckets (c.loop-i.i - 1) no_link lt))

pub loop-i-preserved-then-not-leads_on : goal.loop-i-preserved-then-not-leads_on
loop-i-preserved-then-not-leads_on c =
    let i = c.loop-i.i - 1 in
    let i_is : c.loop-i.i ≡ i + 1 = omega (arith, c.loop-i-test.true) in
    let lt : i < length c.args.links.now = let h = c.loop-i.invariant.0 in omega arith in
    let len : length c.loop-i.firsts ≡ length c.args.firsts.now = search rules in
    let bucket : HasBucket (length c.loop-i.firsts) (get_or c.args.links.now i no_link) = subst (λ (n : ℕ). HasBucket n (get_or c.args.links.now i no_link)) (sym len) (c.requires.buckets i no_link lt) in
    let below : (get_or c.args.links.now i no_link).bucket < length c.loop-i.firsts = bucket-lt (length c.loop-i.firsts) (get_or c.args.links.now i no_link) (subst (λ (n : ℕ). 0 < n) (sym len) c.requires.some) bucket in
    let new_len : length c.leads_on.new.firsts ≡ length c.loop-i.firsts = search rules in (
      omega arith,
      heads_more c.loop-i.firsts c.leads_on.new.firsts c.args.links.now i c.loop-i.i no_link i_is lt bucket below c.loop-i.invariant.1 c.leads_on.ensures.first,
      rw new_len (wrong_here c.loop-i.firsts c.leads_on.new.firsts c.args.links.now i c.loop-i.i no_link i_is lt bucket below c.loop-i.invariant.1 c.leads_on.ensures.first _ c.leads_on.ensures.right c.if-not-leads_on.true),
    )

pub loop-i-preserved : goal.loop-i-preserved
loop-i-preserved c =
    let i = c.loop-i.i - 1 in
    let i_is : c.loop-i.i ≡ i + 1 = omega (arith, c.loop-i-test.true) in
    let lt : i < length c.args.links.now = let h = c.loop-i.invariant.0 in omega arith in
    let len : length c.loop-i.firsts ≡ length c.args.firsts.now = search rules in
    let bucket : HasBucket (length c.loop-i.firsts) (get_or c.args.links.now i no_link) = subst (λ (n : ℕ). HasBucket n (get_or c.args.links.now i no_link)) (sym len) (c.requires.buckets i no_link lt) in
    let below : (get_or c.args.links.now i no_link).bucket < length c.loop-i.firsts = bucket-lt (length c.loop-i.firsts) (get_or c.args.links.now i no_link) (subst (λ (n : ℕ). 0 < n) (sym len) c.requires.some) bucket in
    let new_len : length c.leads_on.new.firsts ≡ length c.loop-i.firsts = search rules in (
      omega arith,
      heads_more c.loop-i.firsts c.leads_on.new.firsts c.args.links.now i c.loop-i.i no_link i_is lt bucket below c.loop-i.invariant.1 c.leads_on.ensures.first,
      rw new_len (wrong_right c.loop-i.firsts c.leads_on.new.firsts c.args.links.now i c.loop-i.i no_link i_is lt bucket below c.loop-i.invariant.1 c.leads_on.ensures.first _ _ c.leads_on.ensures.right c.if-not-leads_on.false c.loop-i.invariant.2),
    )
