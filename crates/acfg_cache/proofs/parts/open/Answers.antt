use Rattle.std.proofs.Common.{◌≡◌, ◌∙◌, List, length, Ok, ap, sym, subst, rules}
use Rattle.acfg_wire.specs.declared.field.Field.{Field}
use Rattle.acfg_wire.specs.Laid.{laid_of}
use Rattle.acfg_cache.specs.Parts.{Part, opened, opened_as, parts_in}
use Rattle.acfg_cache.specs.Reading.{IfFault}
use Rattle.acfg_cache.specs.Bodies.{ReadFails, parts_read}
use Rattle.acfg_cache.proofs.Opened.{lent, opened_fails}
use Rattle.acfg_cache.proofs.parts.open.Goals as goal

pub returns-in-Ok-clause-ok : goal.returns-in-Ok-clause-ok
unfolding opened
returns-in-Ok-clause-ok c =
    let at = c.args.at in
    let total = length c.args.bytes.now in
    let items = c.in-Ok.fields.items in
    let new = c.place_fields.new.fields in
    let size : c.in-Ok.fields.len ≡ length items = search rules in
    let same : length new ≡ length items = c.place_fields.ensures.long ∙ ap (λ (fields : List Field). length fields) c.deref_mut.ensures.value in
    ap (opened_as at total) c.in-Ok.ensures.laid
    ∙ ap (λ (parts : List Part). Ok parts) (ap (λ (fields : List Field). parts_in at total (laid_of fields)) (sym c.deref_mut.ensures.value) ∙ sym c.place_fields.ensures.parts)
    ∙ ap (λ (fields : List Field). Ok (parts_read fields)) (sym (lent new items c.in-Ok.fields.len size same))

pub returns-in-Err-clause-err : goal.returns-in-Err-clause-err
returns-in-Err-clause-err c =
    subst (λ fault. IfFault fault (ReadFails (opened c.args.at c.args.bytes.now))) (sym c.move_fault.ensures)
    (opened_fails c.args.at c.args.bytes.now c.in-Err.fault c.in-Err.ensures.laid)
