use Rattle.std.proofs.Common.{Option, ap, rules, ◌∙◌}
use Rattle.std.specs.Map.{update}
use Rattle.std.specs.Option.{option_map}
use Rattle.std.specs.Str.{bytes_eq}
use Rattle.acfg_memdev.proofs.Slotted.{names_put, slots_stay}
use Rattle.acfg_memdev.specs.Held.{file_of}
use Rattle.acfg_memdev.specs.Slots.{names_of}
use Rattle.acfg_memdev.specs.declared.file.File.{File}
use Rattle.acfg_memdev.proofs.slots.put.Goals as goal

pub returns-clause-names : goal.returns-clause-names
returns-clause-names c =
    names_put c.args.name.now c.args.slots.now (c.get_mut.follows.lender c.replace.new.dest) c.replace.new.dest ((c.get_mut.follows.holds c.replace.new.dest).3 (search rules))
    ∙ ap (λ (file : Option File). update bytes_eq (names_of c.args.slots.now) c.args.name.now (option_map file_of file)) c.replace.ensures.after

pub returns-clause-stay : goal.returns-clause-stay
returns-clause-stay c = slots_stay c.args.name.now c.args.slots.now (c.get_mut.follows.lender c.replace.new.dest) c.replace.new.dest ((c.get_mut.follows.holds c.replace.new.dest).3 (search rules))
