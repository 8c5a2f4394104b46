use Rattle.std.proofs.Common.{ℕ, List, ◌++◌, ◌∙◌, ap}
use Rattle.acfg_views.specs.Fields.{number, string}
use Rattle.acfg_store.specs.Names.{slot_number}
use Rattle.acfg_store.specs.Records.{recorded_bytes, recorded_tail}
use Rattle.acfg_store.proofs.Fronts.{behind_four}
use Rattle.acfg_store.proofs.records.RecordedSpelled.put.Goals as goal

pub returns : goal.returns
unfolding recorded_bytes recorded_tail
returns c =
    let row = c.args.self.now in
    let out = c.args.out.now.items in
    behind_four out (string row.name) (number 1 (slot_number row.release)) (number 1 (slot_number row.overrides)) row.digest _ _ _ _
    (c.in_ok-put_string.ensures ∙ ap (λ (t : List ℕ). out ++ string t) (c.as_bytes.ensures.value ∙ c.as_str.ensures.text))
    (c.in_ok-put_u8.ensures ∙ ap (λ (n : ℕ). c.put_string.new.out.items ++ number 1 n) c.slot_byte.ensures)
    (c.in_ok-put_u8-2.ensures ∙ ap (λ (n : ℕ). c.put_u8.new.out.items ++ number 1 n) c.slot_byte-2.ensures)
    (c.in_ok-put_bytes.ensures ∙ ap (λ (t : List ℕ). c.put_u8-2.new.out.items ++ t) c.as_slice.ensures)
