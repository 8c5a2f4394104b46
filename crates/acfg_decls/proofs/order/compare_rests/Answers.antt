use Rattle.std.proofs.Common.{◌∙◌, ap, ap₂}
use Rattle.std.specs.Ordering.{ordering_then, ordering_reverse}
use Rattle.acfg_decls.proofs.Fronts.{goes_on}
use Rattle.acfg_decls.proofs.order.compare_rests.Goals as goal

pub returns-in-len1-up-default : goal.returns-in-len1-up-default
returns-in-len1-up-default c =
    c.then-in-len1-up-default.ensures
    ∙ ap₂ ordering_then c.cmp-in-len1-up-default.ensures (c.reverse.ensures ∙ ap ordering_reverse c.compare_behind-in-len1-up-default.ensures)
    ∙ goes_on c.args.rest.now c.args.name.now c.args.other_rest.now c.args.other_name.now c.in-len1-up-default.len_at_least c.requires
