use Rattle.std.proofs.Common.{arith, ap, length, ◌∙◌, ◌++◌, map}
use Rattle.acfg_images.specs.Building.{row_of, flag_of, source_of, flags_from, total, groups_of}
use Rattle.acfg_images.proofs.Numbering.{flag_more, source_more, size_first}
use Rattle.acfg_images.proofs.building.flags.list_flags.Goals as goal

pub push_flags-requires-clause-few : goal.push_flags-requires-clause-few
push_flags-requires-clause-few c =
    let entry = c.in-Some.ensures.steps in
    let size = size_first (c.in-Some.field-0-0.now, c.in-Some.flags.now) in
    omega (arith, c.loop-flags.invariant.flags, ap (λ es. total (groups_of es)) entry, size, ap length c.deref.ensures.value)

pub loop-flags-preserved : goal.loop-flags-preserved
loop-flags-preserved c =
    let so = c.loop-flags.invariant in
    let entry = c.in-Some.ensures.steps in
    let made = c.in_ok-push_flags.ensures in
    let rows = c.loop-flags.rows.items in
    let nodes = made.nodes ∙ ap (λ fs. map flag_of rows ++ flags_from c.loop-flags.id 0 (map row_of fs)) c.deref.ensures.value in
    let sources = made.sources ∙ ap (λ fs. map source_of rows ++ map row_of fs) c.deref.ensures.value in
    record {
      can = tt;
      finite = tt;
      nodes = flag_more _ _ _ _ (c.in-Some.field-0-0.now, c.in-Some.flags.now) _ _ so.nodes entry nodes;
      sources = source_more _ _ _ _ (c.in-Some.field-0-0.now, c.in-Some.flags.now) _ so.sources entry sources;
      buckets = made.buckets so.buckets;
      packages = omega (arith, so.packages, ap length entry);
      flags = omega (arith, so.flags, ap (λ es. total (groups_of es)) entry);
    }
