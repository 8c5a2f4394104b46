use Rattle.std.proofs.Common.{false, ℕ, List, None, refl, sym}
use Rattle.acfg_base.specs.Release.{Key}
use Rattle.acfg_model.specs.declared.changes.Change.TheVariants.{SetServer}
use Rattle.acfg_model.specs.declared.requests.Request.TheVariants.{Server}
use Rattle.acfg_model.specs.declared.requests.Reply.{Reply}
use Rattle.acfg_model.specs.State.{State}
use Rattle.acfg_model.specs.Step.{change_step}
use Rattle.acfg_store.specs.Applied.{state_in}
use Rattle.acfg_store.proofs.Requested.{key_is, meets}
use Rattle.acfg_store.proofs.store.Store.answer_server.Goals as goal

pub returns : goal.returns
returns g c =
    let of : List ℕ → Key → State × Reply = λ name key. change_step false (state_in c.args.self) name (SetServer key c.args.value) in
    let key = key_is c.new-key.result c.as_str.result.now c.as_str-2.result.now c.args.package.now c.args.flag.now c.new-key.ensures c.as_str.ensures.text c.as_str-2.ensures.text in
    meets g.D.Panel c.args.self (Server c.args.container.now c.args.package.now c.args.flag.now c.args.value) (of c.as_str-3.result.now c.new-key.result) c.args.device.now c.change.new.device c.change.result None (λ told. refl)
    (λ i. of (sym c.as_str-3.ensures.text i) (sym key i)) c.change.ensures
