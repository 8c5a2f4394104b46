use Rattle.std.proofs.Common.{◌++◌, List, ℕ, ◌∙◌, ap}
use Rattle.acfg_views.specs.Fields.{number}
use Rattle.acfg_store.proofs.fields.put_u32.Goals as goal

pub returns : goal.returns
unfolding number
returns c = c.in_ok-put_bytes.ensures ∙ ap (λ (t : List ℕ). c.args.out.now.items ++ t) (c.as_slice.ensures ∙ c.write_u32.ensures)
