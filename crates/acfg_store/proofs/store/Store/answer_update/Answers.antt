use Rattle.std.proofs.Common.{Some, refl, ap, ◌∙◌}
use Rattle.acfg_images.specs.Files as four
use Rattle.acfg_model.specs.declared.requests.Request.TheVariants.{Update}
use Rattle.acfg_model.specs.State.{State}
use Rattle.acfg_model.specs.declared.requests.Reply.{Reply}
use Rattle.acfg_model.specs.Step.{update_step}
use Rattle.std.specs.Prelude.{Option, Err, ◌≡◌}
use Rattle.acfg_store.specs.declared.store_fault.StoreFault.TheVariants.{Device}
use Rattle.acfg_store.specs.Answered.{Answer, MakesStep}
use Rattle.acfg_store.specs.Applied.{state_in}
use Rattle.acfg_store.specs.Loading.{set_in, set_loads}
use Rattle.acfg_store.proofs.Requested.{gives_up, meets, read_failed, read_of_call, reads_as, reads_first}
use Rattle.acfg_store.proofs.store.Store.answer_update.Goals as goal

pub returns-in-Ok : goal.returns-in-Ok
returns-in-Ok g c =
    let name = c.args.container.now in
    let outcome : State × Reply = update_step (state_in c.args.self) name (Some (set_loads name c.in-Ok.set)) in
    let does = c.update.ensures in
    let makes : MakesStep g.D.Panel c.args.self outcome c.read_folder.new.panel c.update.new.device c.update.result = record {
      made = does.made;
      opened = does.open;
      changes = does.changes;
      quiet = does.quiet;
      memory = does.memory;
      fault = does.fault;
      cut = does.cut;
      settled = does.settled;
    } in
    meets g.D.Panel c.args.self (Update name c.args.folder.now) outcome c.args.device.now c.update.new.device c.update.result (Some (set_loads name c.in-Ok.set))
    (λ told. ap (λ (set : Option four.Files). Some (set_loads name set)) (c.in-Ok.ensures.found told ∙ ap (set_in (g.D.Panel.files c.args.device.now)) c.as_str.ensures)) refl
    (reads_first g.D.Panel c.args.self outcome c.args.device.now c.read_folder.new.panel c.update.new.device c.update.result _ c.in-Ok.ensures.reads makes)

pub returns-in-Err : goal.returns-in-Err
returns-in-Err g c =
    gives_up g.D.Panel c.args.self (Update c.args.container.now c.args.folder.now) c.args.device.now c.read_folder.new.panel c.from.result (read_of_call c.in-Err.fault c.from.result c.from.ensures)
    (reads_as g.D.Panel c.args.device.now c.read_folder.new.panel _ (◌≡◌ {A = Answer} (Err c.from.result) (Err Device)) c.in-Err.ensures.reads (read_failed c.in-Err.fault c.from.result c.from.ensures))
    (g.met.D.Panel.files_told c.args.device.now) (g.met.D.Panel.said_told c.args.device.now) c.requires
