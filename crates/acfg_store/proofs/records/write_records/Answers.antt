use Rattle.std.proofs.Common.{ℕ, List, ◌++◌, ◌∙◌, ap, length, codes, append_assoc, sym}
use Rattle.std.specs.List.{flat_map}
use Rattle.acfg_views.specs.Fields.{number}
use Rattle.acfg_store.specs.Records.{records_bytes, records_header, recorded_bytes}
use Rattle.acfg_store.proofs.Fronts.{behind_four}
use Rattle.acfg_store.proofs.records.write_records.Goals as goal

pub returns : goal.returns
unfolding records_bytes records_header
returns c =
    let rows = c.args.rows.now in
    behind_four c.new-bytes.result.items (codes "ACRF") (number 4 1) (number 4 (length rows)) (flat_map recorded_bytes rows) _ _ _ _
    (c.in_ok-put_bytes.ensures ∙ ap (λ (t : List ℕ). c.new-bytes.result.items ++ t) c.as_slice.ensures) c.in_ok-put_u32.ensures c.in_ok-put_u32-2.ensures c.in_ok-put_rows.ensures
    ∙ ap (λ (t : List ℕ). t ++ (codes "ACRF" ++ (number 4 1 ++ (number 4 (length rows) ++ flat_map recorded_bytes rows)))) c.new-bytes.ensures.items
    ∙ ap (λ (t : List ℕ). codes "ACRF" ++ t) (sym (append_assoc (number 4 1) (number 4 (length rows)) (flat_map recorded_bytes rows)))
