use Rattle.std.proofs.Common.{map, string_bytes, subst}
use Rattle.acfg_top.specs.Bodies.{IfRefused, IsAnswer, inputs_of}
use Rattle.std.specs.Prelude.{IfOk}
use Rattle.acfg_top.specs.Caches.{IsBadCache, IsCache}
use Rattle.acfg_top.specs.Dump.{ListsGive}
use Rattle.acfg_top.specs.Inputs.{AreAccepted, FirstRefused}
use Rattle.acfg_top.proofs.Answering.{told_halted, told_next}
use Rattle.acfg_top.proofs.dump.dumped.Goals as goal

pub returns-in-Ok-clause-told : goal.returns-in-Ok-clause-told
returns-in-Ok-clause-told c =
    let inputs = inputs_of c.args.inputs.now in
    told_next (FirstRefused IsCache IsBadCache inputs) (AreAccepted IsCache IsBadCache inputs) (ListsGive c.args.template.now c.args.filter.now (map string_bytes c.args.files.now))
    c.in-Ok.lists.items c.in-Ok.ensures.ok c.merged.result
    (subst (λ lists. IfOk c.merged.result (IsAnswer (ListsGive c.args.template.now c.args.filter.now (map string_bytes c.args.files.now) lists))) c.deref.ensures.value c.merged.ensures.told)

pub returns-in-Err-Refused-clause-told : goal.returns-in-Err-Refused-clause-told
returns-in-Err-Refused-clause-told c =
    let inputs = inputs_of c.args.inputs.now in
    rw c.in-Err-Refused.told-is (told_halted (FirstRefused IsCache IsBadCache inputs) (AreAccepted IsCache IsBadCache inputs) (ListsGive c.args.template.now c.args.filter.now (map string_bytes c.args.files.now))
    c.in-Err-Refused.told (subst (IfRefused (FirstRefused IsCache IsBadCache inputs)) c.in-Err-Refused.field-0-is c.in-Err-Refused.ensures.err))
