use Rattle.acfg_store.proofs.SlotsMade.{files_put, slots_made}
use Rattle.acfg_store.proofs.installing.write_slots.Goals as goal

pub returns : goal.returns
returns c is =
    let kept = c.args.kept.now in
    slots_made kept is c.rows-rows.result.now c.rows-rows.ensures.order c.rows-rows.ensures.release c.as_slice-indexes.result.now c.as_slice-indexes.ensures.value c.rows-rows.ensures.server c.rows-rows.ensures.local
    c.in_ok-values.values.items c.in_ok-infos.infos.items c.in_ok-locals.locals.items c.in_ok-values.ensures c.in_ok-infos.ensures c.in_ok-locals.ensures c.args.dir.now c.put_file-3.new.files.items
    (files_put c.args.dir.now kept.name c.as_str-name.result.now c.as_str-name.ensures.text kept.release_slot kept.override_slot kept.release c.in_ok-values.values.items c.in_ok-infos.infos.items c.in_ok-locals.locals.items
    c.in_ok-files.files.items c.put_file.new.files.items c.put_file-2.new.files.items c.put_file-3.new.files.items c.in_ok-files.ensures c.in_ok-put_file.ensures c.in_ok-put_file-2.ensures c.in_ok-put_file-3.ensures)
