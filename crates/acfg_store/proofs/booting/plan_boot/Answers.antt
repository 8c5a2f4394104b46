use Rattle.std.proofs.Common.{List, ℕ, map, Some, ap, subst, sym, ◌∙◌}
use Rattle.acfg_images.specs.Files as four
use Rattle.acfg_store.specs.BootPlans.{IsCopyPlan, named_slot}
use Rattle.acfg_store.specs.Picked.{IsCopyFor}
use Rattle.acfg_store.proofs.Picking.{flags_again, writable_rows}
use Rattle.acfg_store.proofs.booting.plan_boot.Goals as goal

pub copy_set-requires-clause-writable : goal.copy_set-requires-clause-writable
copy_set-requires-clause-writable c =
    let rows = c.rows-rows.ensures in
    writable_rows c.args.one.now.container c.requires.valid c.rows-rows.result.now rows.order (record { release = rows.release; server = rows.server; local = rows.local })

pub returns : goal.returns
returns c =
    let one = c.args.one.now in
    let rows = c.rows-rows.ensures in
    let indexed = c.requires.indexed in
    record {
      writes = subst (λ (n : List ℕ). IsCopyPlan c.args.dir.now n (named_slot one) c.in_ok-writes.writes) c.as_str.ensures.text c.in_ok-writes.ensures.plan;
      copy = c.in_ok-copy.ensures;
      set = λ parts is. subst (λ (s : four.Files). IsCopyFor s parts.package_map.container one.container) (sym c.in_ok-writes.ensures.set)
          (c.in_ok-set.ensures parts one.container
          (flags_again one.release indexed.parts parts indexed.is_set is one.container.release c.rows-rows.result.now rows.order rows.release c.as_slice.result.now
          (ap (map (λ (index : ℕ). Some index)) c.as_slice.ensures.value ∙ indexed.are) indexed.release_is)
          (record { release = rows.release; server = rows.server; local = rows.local }));
    }
