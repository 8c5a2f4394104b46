use Rattle.std.proofs.Common.{filter, subst, sym}
use Rattle.std.proofs.lemmas.Result.{err_from_is_err_and}
use Rattle.acfg_top.specs.Bodies.{inputs_of}
use Rattle.acfg_top.specs.CreateCache.{IsValues, IsBadValues, has_values}
use Rattle.acfg_top.proofs.Reading.{Looks, ended_among, looks_first, stopped_among, went_among}
use Rattle.acfg_top.proofs.create_cache.all_values.Goals as goal

pub loop-input-init : goal.loop-input-init
loop-input-init c = subst (λ made. Looks IsValues IsBadValues (filter has_values (inputs_of c.args.inputs.now)) made (filter has_values (inputs_of c.args.inputs.now))) (sym c.new-all.ensures.items) (looks_first IsValues IsBadValues (filter has_values (inputs_of c.args.inputs.now)))

pub returns-in_err-add_values-clause-err : goal.returns-in_err-add_values-clause-err
returns-in_err-add_values-clause-err c =
    let p = err_from_is_err_and c.from_residual.result c.from_residual.ensures.1 in
    rw (p.1, p.2) (stopped_among IsValues IsBadValues (filter has_values (inputs_of c.args.inputs.now)) has_values c.loop-input.all.items c.args.inputs.now c.loop-input.input-index c.input-item.result c.in_err-add_values.field-0.0 c.input-item.is c.loop-input-test.true c.loop-input.invariant
    c.in_err-add_values.ensures.err)

pub loop-input-preserved : goal.loop-input-preserved
loop-input-preserved c =
    went_among IsValues IsBadValues (filter has_values (inputs_of c.args.inputs.now)) has_values c.loop-input.all.items c.add_values.new.all.items c.args.inputs.now c.loop-input.input-index c.input-item.result c.input-item.is c.loop-input-test.true c.loop-input.invariant
    c.in_ok-add_values.ensures.ok

pub returns-clause-ok : goal.returns-clause-ok
returns-clause-ok c = ended_among IsValues IsBadValues (filter has_values (inputs_of c.args.inputs.now)) has_values c.loop-input.all.items c.args.inputs.now c.loop-input.input-index c.loop-input-test.false c.loop-input.invariant
