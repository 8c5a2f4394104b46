use Rattle.std.proofs.Common.{rules, string_bytes, None}
use Rattle.acfg_memdev.proofs.Slotted.{names_stay, slots_stay}
use Rattle.acfg_memdev.proofs.slots.make_slot.Goals as goal

pub returns-in_ok-insert-clause-names : goal.returns-in_ok-insert-clause-names
returns-in_ok-insert-clause-names c =
    names_stay c.args.name.now (string_bytes c.in_ok-key.key) c.args.slots.now c.insert.new.self c.in_ok-insert.ensures.updates c.in_ok-key.ensures.ok (search rules)

pub returns-in_ok-insert-clause-stay : goal.returns-in_ok-insert-clause-stay
returns-in_ok-insert-clause-stay c = slots_stay (string_bytes c.in_ok-key.key) c.args.slots.now c.insert.new.self None c.in_ok-insert.ensures.updates
