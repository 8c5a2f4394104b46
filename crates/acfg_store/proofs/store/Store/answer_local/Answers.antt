use Rattle.std.proofs.Common.{ℕ, List, None, refl, sym}
use Rattle.acfg_base.specs.Release.{Key}
use Rattle.acfg_model.specs.declared.changes.Change.TheVariants.{SetLocal}
use Rattle.acfg_model.specs.declared.requests.Request.TheVariants.{Local}
use Rattle.acfg_model.specs.declared.requests.Reply.{Reply}
use Rattle.acfg_model.specs.State.{State}
use Rattle.acfg_model.specs.Step.{change_step}
use Rattle.acfg_store.specs.Applied.{state_in}
use Rattle.acfg_store.proofs.Requested.{key_is, meets}
use Rattle.acfg_store.proofs.store.Store.answer_local.Goals as goal

pub returns : goal.returns
returns g c =
    let of : List ℕ → Key → State × Reply = λ name key. change_step c.args.now (state_in c.args.self) name (SetLocal key c.args.value) in
    let key = key_is c.new-key.result c.as_str.result.now c.as_str-2.result.now c.args.package.now c.args.flag.now c.new-key.ensures c.as_str.ensures.text c.as_str-2.ensures.text in
    meets g.D.Panel c.args.self (Local c.args.container.now c.args.package.now c.args.flag.now c.args.value c.args.now) (of c.as_str-3.result.now c.new-key.result) c.args.device.now c.change.new.device c.change.result None (λ told. refl)
    (λ i. of (sym c.as_str-3.ensures.text i) (sym key i)) c.change.ensures
