use Rattle.std.proofs.Common.{Option, ap, ◌∙◌}
use Rattle.acfg_lookup.specs.declared.found.Found.{Found}
use Rattle.acfg_store.proofs.CopyValue.{is_value, value_found, value_of}
use Rattle.acfg_store.proofs.looking.copied_value.Goals as goal

pub check_again-requires : goal.check_again-requires
check_again-requires c = let copy = c.requires.2 in (copy.parts, copy.files_are)

pub returns-in-Some : goal.returns-in-Some
returns-in-Some c name boot copy =
    value_found c.args.set.now c.in_ok-checked.checked c.in_ok-checked.ensures c.args.key.now name boot copy c.look_up.result c.look_up.ensures
    ∙ ap (λ (found : Option Found). is_value (value_of found)) c.in-Some.is

pub returns-in-None : goal.returns-in-None
returns-in-None c name boot copy =
    value_found c.args.set.now c.in_ok-checked.checked c.in_ok-checked.ensures c.args.key.now name boot copy c.look_up.result c.look_up.ensures
    ∙ ap (λ (found : Option Found). is_value (value_of found)) c.in-None.is
