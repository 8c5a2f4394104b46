use Rattle.std.proofs.Common.{◌∙◌, Err, inl, refl, ap, subst}
use Rattle.std.specs.Prelude.{Option}
use Rattle.std.proofs.lemmas.Result.{err_from_is_err_and}
use Rattle.acfg_base.specs.Found.{Finds}
use Rattle.acfg_model.specs.declared.requests.Request.{Request}
use Rattle.acfg_store.specs.Applied.{state_in}
use Rattle.acfg_daemon.specs.Playing.{ServesTo}
use Rattle.acfg_daemon.specs.Requests.{Spells}
use Rattle.acfg_daemon.proofs.Answered.{device_of, rests, way_serves}
use Rattle.acfg_daemon.proofs.Numbered.{numbered}
use Rattle.acfg_daemon.proofs.replaying.serve.Goals as goal

pub returns-in_err-parse_request-clause-cut : goal.returns-in_err-parse_request-clause-cut
returns-in_err-parse_request-clause-cut g c tells settled =
    rests (g.D.Panel.account c.args.device.now) (g.D.Panel.files c.args.device.now) (g.D.Panel.said c.args.device.now) c.args.store (ServesTo (g.D.Panel.files c.args.device.now) (state_in c.args.store) c.args.text.now)
    (g.met.D.Panel.files_told c.args.device.now) (g.met.D.Panel.said_told c.args.device.now) settled (c.requires tells) (inl refl)

pub returns-in-None-clause-cut : goal.returns-in-None-clause-cut
returns-in-None-clause-cut g c tells settled =
    rests (g.D.Panel.account c.args.device.now) (g.D.Panel.files c.args.device.now) (g.D.Panel.said c.args.device.now) c.args.store (ServesTo (g.D.Panel.files c.args.device.now) (state_in c.args.store) c.args.text.now)
    (g.met.D.Panel.files_told c.args.device.now) (g.met.D.Panel.said_told c.args.device.now) settled (c.requires tells) (inl refl)

pub returns-in_err-apply-in-Some-clause-cut : goal.returns-in_err-apply-in-Some-clause-cut
returns-in_err-apply-in-Some-clause-cut g c tells settled =
    way_serves (g.D.Panel.account c.args.device.now) (g.D.Panel.account c.apply.new.device) (g.D.Panel.files c.args.device.now) (g.D.Panel.said c.args.device.now) c.args.store c.in-Some.request c.args.text.now
    (subst (λ (found : Option Request). Finds (Spells c.args.text.now) found) c.in-Some.is c.in_ok-parse_request.ensures.found) (c.in_err-apply-in-Some.ensures.cut tells settled)

pub returns-in_err-apply-in-Some-clause-settled : goal.returns-in_err-apply-in-Some-clause-settled
returns-in_err-apply-in-Some-clause-settled g c tells settled fine =
    let p = err_from_is_err_and c.from_residual-in_err-apply-in-Some.result c.from_residual-in_err-apply-in-Some.ensures.1 in
    c.in_err-apply-in-Some.ensures.settled tells settled (λ is. fine (p.1 ∙ ap Err (p.2 ∙ device_of _ is)))

pub returns-in_ok-apply-in-Some-clause-numbered : goal.returns-in_ok-apply-in-Some-clause-numbered
returns-in_ok-apply-in-Some-clause-numbered g c =
    let made = c.in_ok-apply-in-Some.ensures.made in
    numbered (state_in c.args.store) c.in-Some.request made.loaded _ _ made.makes.is

pub returns-in_ok-apply-in-Some-clause-cut : goal.returns-in_ok-apply-in-Some-clause-cut
returns-in_ok-apply-in-Some-clause-cut g c tells settled =
    way_serves (g.D.Panel.account c.args.device.now) (g.D.Panel.account c.apply.new.device) (g.D.Panel.files c.args.device.now) (g.D.Panel.said c.args.device.now) c.args.store c.in-Some.request c.args.text.now
    (subst (λ (found : Option Request). Finds (Spells c.args.text.now) found) c.in-Some.is c.in_ok-parse_request.ensures.found) (c.in_ok-apply-in-Some.ensures.cut tells settled)
