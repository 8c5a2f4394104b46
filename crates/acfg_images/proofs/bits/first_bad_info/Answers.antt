use Rattle.std.proofs.Common.{◌≡◌, ◌∙◌, ap, not, true, false, sym, arith}
use Rattle.acfg_views.specs.Reading.{byte_in}
use Rattle.acfg_images.specs.Faults.{is_info}
use Rattle.acfg_images.proofs.Least.{least_found, least_next, least_end, below_count}
use Rattle.acfg_images.proofs.bits.first_bad_info.Goals as goal

pub returns-then-not-is_lawful : goal.returns-then-not-is_lawful
returns-then-not-is_lawful c =
    let lawful : is_info c.args.purpose (byte_in c.args.infos.now c.loop-i.i) ≡ false = ap (is_info c.args.purpose) (sym c.at.ensures) ∙ sym c.is_lawful.ensures ∙ c.if-not-is_lawful.true in
    least_found (λ i. not (is_info c.args.purpose (byte_in c.args.infos.now i))) c.args.infos.now.count c.loop-i.i _ (below_count c.loop-i-test.true c.count-i-end.ensures.count) (ap not lawful) c.loop-i.invariant

pub loop-i-preserved : goal.loop-i-preserved
loop-i-preserved c =
    let lawful : is_info c.args.purpose (byte_in c.args.infos.now c.loop-i.i) ≡ true = ap (is_info c.args.purpose) (sym c.at.ensures) ∙ sym c.is_lawful.ensures ∙ c.if-not-is_lawful.false in
    least_next (λ i. not (is_info c.args.purpose (byte_in c.args.infos.now i))) c.args.infos.now.count c.loop-i.i _ (below_count c.loop-i-test.true c.count-i-end.ensures.count) (ap not lawful) c.loop-i.invariant

pub returns : goal.returns
returns c =
    least_end (λ i. not (is_info c.args.purpose (byte_in c.args.infos.now i))) c.args.infos.now.count c.loop-i.i _ (let h = c.loop-i-test.false in let e = c.count-i-end.ensures.count in omega arith) c.loop-i.invariant
