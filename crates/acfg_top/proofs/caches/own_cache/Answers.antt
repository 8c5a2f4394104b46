use Rattle.std.proofs.Common.{◌≡◌, codes, ◌++◌, inl, inr, refl, subst}
use Rattle.std.specs.Fmt.{decimal}
use Rattle.std.proofs.lemmas.Result.{err_from_is_err_and}
use Rattle.acfg_top.specs.Bodies.{input_of}
use Rattle.acfg_top.specs.Caches.{IsBadCache}
use Rattle.acfg_top.specs.CreateStorage.{AreOwn, FirstStranger, IsNoOwnCache}
use Rattle.acfg_top.proofs.Reading.{refused_weaker}
use Rattle.acfg_top.proofs.caches.own_cache.Goals as goal

pub returns-in_err-flags-clause-err : goal.returns-in_err-flags-clause-err
returns-in_err-flags-clause-err c =
    let p = err_from_is_err_and c.from_residual.result c.from_residual.ensures.1 in
    let input = input_of c.args.input.now in
    rw (p.1, p.2) (refused_weaker (λ file what. (file ≡ input.name) × IsBadCache input what) (λ file what. (file ≡ input.name) × IsNoOwnCache c.args.container.now input what) c.in_err-flags.field-0.0
    (λ file what here. (here.0, inl here.1)) c.in_err-flags.ensures.err)

pub returns-in-None-clause-ok : goal.returns-in-None-clause-ok
returns-in-None-clause-ok c = (c.in_ok-flags.ensures.ok, subst (AreOwn c.args.container.now) c.list.ensures.all c.in-None.ensures)

pub returns-in_ok-refused-in-Some-clause-err : goal.returns-in_ok-refused-in-Some-clause-err
returns-in_ok-refused-in-Some-clause-err c =
    let position = c.in-Some.position in
    let first = subst (λ flags. FirstStranger c.args.container.now flags position) c.list.ensures.all c.in-Some.ensures in
    (c.args.input.now.name.now, codes "wrong-container flag " ++ decimal position, (refl, inr (c.in_ok-flags.flags, position, c.in_ok-flags.ensures.ok, first, refl)), c.in_ok-refused-in-Some.ensures)
