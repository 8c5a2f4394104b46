use Rattle.std.proofs.Common.{Bool, Option, Some, sym, ap, ◌∙◌}
use Rattle.std.specs.Prelude.{Result}
use Rattle.acfg_model.specs.declared.refusals.Refusal.{Refusal}
use Rattle.acfg_model.specs.declared.requests.Reply.TheVariants.{Refused}
use Rattle.acfg_model.specs.State.{BootMap}
use Rattle.acfg_model.specs.Step.{boot_value_in, value_reply}
use Rattle.acfg_store.proofs.CopyValue.{has_boot, has_none}
use Rattle.acfg_store.proofs.looking.reply_from.Goals as goal

pub copied_value-requires : goal.copied_value-requires
copied_value-requires c =
    let has = has_boot c.args.one.now c.requires c.in-Some.copy c.in-Some.is in
    (has.name, has.boot, has.copy)

pub returns-in_ok-value-in-Some : goal.returns-in_ok-value-in-Some
returns-in_ok-value-in-Some c =
    let has = has_boot c.args.one.now c.requires c.in-Some.copy c.in-Some.is in
    sym (ap (λ (boot : Option BootMap). value_reply (Some (boot_value_in boot c.args.key.now))) has.is
    ∙ ap (λ (value : Result (Option Bool) Refusal). value_reply (Some value)) (c.in_ok-value-in-Some.ensures has.name has.boot has.copy))

pub returns-in-None : goal.returns-in-None
returns-in-None c =
    ap Refused c.number.ensures
    ∙ ap (λ (boot : Option BootMap). value_reply (Some (boot_value_in boot c.args.key.now))) (sym (has_none c.args.one.now c.requires c.in-None.is))
