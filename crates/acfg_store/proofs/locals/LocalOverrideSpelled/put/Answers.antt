use Rattle.std.proofs.Common.{ℕ, ◌++◌, ◌∙◌, ap}
use Rattle.acfg_views.specs.Fields.{number}
use Rattle.acfg_store.specs.Records.{local_bytes, bit}
use Rattle.acfg_store.proofs.Fronts.{behind_two}
use Rattle.acfg_store.proofs.locals.LocalOverrideSpelled.put.Goals as goal

pub returns : goal.returns
unfolding local_bytes
returns c =
    behind_two c.args.out.now.items (number 4 c.args.self.now.index) (number 1 (bit c.args.self.now.value)) _ _ c.in_ok-put_u32.ensures
    (c.in_ok-put_u8.ensures ∙ ap (λ (n : ℕ). c.put_u32.new.out.items ++ number 1 n) c.bit_byte.ensures)
