use Rattle.std.proofs.Common.{ℕ, List, ◌++◌, ◌∙◌, ap, length}
use Rattle.std.specs.List.{flat_map}
use Rattle.acfg_views.specs.Fields.{number}
use Rattle.acfg_store.specs.Records.{locals_bytes, local_bytes}
use Rattle.acfg_store.proofs.Fronts.{behind_two}
use Rattle.acfg_store.proofs.locals.write_locals.Goals as goal

pub returns : goal.returns
unfolding locals_bytes
returns c =
    let rows = c.args.rows.now in
    behind_two c.new-bytes.result.items (number 4 (length rows)) (flat_map local_bytes rows) _ _ c.in_ok-put_u32.ensures c.in_ok-put_rows.ensures
    ∙ ap (λ (t : List ℕ). t ++ (number 4 (length rows) ++ flat_map local_bytes rows)) c.new-bytes.ensures.items
