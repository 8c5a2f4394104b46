use Rattle.std.proofs.Common.{subst, sym}
use Rattle.std.proofs.lemmas.Result.{err_from_is_err_and}
use Rattle.acfg_top.specs.Bodies.{IsNotTaken, IsTaken, inputs_of, text_in}
use Rattle.acfg_top.proofs.Reading.{Looks, ended, looks_first, stopped_at, went_on}
use Rattle.acfg_top.proofs.caches.read_caches.Goals as goal

pub loop-input-init : goal.loop-input-init
loop-input-init c =
    let own = text_in c.args.container in
    let inputs = inputs_of c.args.inputs.now in
    subst (λ made. Looks (IsTaken own) (IsNotTaken own) inputs made inputs) (sym c.new-lists.ensures.items) (looks_first (IsTaken own) (IsNotTaken own) inputs)

pub returns-in_err-taken-clause-err : goal.returns-in_err-taken-clause-err
returns-in_err-taken-clause-err c =
    let p = err_from_is_err_and c.from_residual.result c.from_residual.ensures.1 in
    let own = text_in c.args.container in
    rw (p.1, p.2) (stopped_at (IsTaken own) (IsNotTaken own) (inputs_of c.args.inputs.now) c.loop-input.lists.items c.args.inputs.now c.loop-input.input-index c.input-item.result c.in_err-taken.field-0.0 c.input-item.is c.loop-input-test.true c.loop-input.invariant
    c.in_err-taken.ensures.err)

pub loop-input-preserved : goal.loop-input-preserved
loop-input-preserved c =
    let own = text_in c.args.container in
    went_on (IsTaken own) (IsNotTaken own) (inputs_of c.args.inputs.now) c.loop-input.lists.items c.push.new.self.items c.args.inputs.now c.loop-input.input-index c.input-item.result c.in_ok-taken.field-0 c.input-item.is c.loop-input-test.true c.loop-input.invariant
    c.in_ok-taken.ensures.ok c.in_ok-push.ensures.items

pub returns-clause-ok : goal.returns-clause-ok
returns-clause-ok c =
    let own = text_in c.args.container in
    ended (IsTaken own) (IsNotTaken own) (inputs_of c.args.inputs.now) c.loop-input.lists.items c.args.inputs.now c.loop-input.input-index c.loop-input-test.false c.loop-input.invariant
