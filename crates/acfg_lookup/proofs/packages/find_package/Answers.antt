use Rattle.std.proofs.Common.{sym, ap, subst, arith}
use Rattle.std.specs.Option.{option_map}
use Rattle.acfg_views.specs.Layout.{package_map_type}
use Rattle.acfg_views.specs.Reading.{IsOpenMap, package_at, package_of}
use Rattle.acfg_lookup.specs.Lookup.{package_found}
use Rattle.acfg_lookup.proofs.Walks.{package_starts, package_end, package_more, package_reads, package_hit, package_on, moved}
use Rattle.acfg_lookup.proofs.packages.find_package.Goals as goal

pub loop-next-init : goal.loop-next-init
loop-next-init g c =
    package_starts c.args.set.now c.args.package.now c.as_bytes.result.now c.package_view-map.result.now c.buckets.result c.bucket.result c.bucket_at-next.result c.args.steps.now c.known.ensures.no_fault
    c.package_view-map.ensures c.buckets.ensures.open c.as_bytes.ensures.value c.buckets.ensures.count c.bucket.ensures.value c.bucket.ensures.below c.bucket_at-next.ensures

pub returns-in-Err-clause-found : goal.returns-in-Err-clause-found
returns-in-Err-clause-found g c =
    let opens = subst (IsOpenMap package_map_type) c.package_view-map.ensures c.buckets.ensures.open in
    let e = moved package_at c.package_view-map.result.now c.args.set.now.package_map c.loop-next.next _ c.package_view-map.ensures c.in-Err.ensures.node in
    absurd (package_reads c.args.set.now c.args.package.now c.args.steps.now c.loop-next.next c.loop-next.steps c.loop-next.invariant opens c.loop-next-test.true c.in-Err.field-0 e)

pub returns-in-Err-clause-steps : goal.returns-in-Err-clause-steps
returns-in-Err-clause-steps g c =
    let opens = subst (IsOpenMap package_map_type) c.package_view-map.ensures c.buckets.ensures.open in
    let more = package_more c.args.set.now c.args.package.now c.args.steps.now c.loop-next.next c.loop-next.steps c.loop-next.invariant opens c.loop-next-test.true in
    let step = c.in-Err.ensures.step in
    omega (arith, more, step)

pub returns-then-eq-clause-found : goal.returns-then-eq-clause-found
returns-then-eq-clause-found g c =
    let opens = subst (IsOpenMap package_map_type) c.package_view-map.ensures c.buckets.ensures.open in
    let e = moved package_at c.package_view-map.result.now c.args.set.now.package_map c.loop-next.next _ c.package_view-map.ensures c.in-Ok.ensures.node in
    let found = package_hit c.args.set.now c.args.package.now c.args.steps.now c.loop-next.next c.loop-next.steps c.loop-next.invariant opens c.loop-next-test.true (package_of c.in-Ok.node) c.in-Ok.node.end e (sym c.if-eq.ensures) in
    ap (option_map package_found) (sym found)

pub returns-then-eq-clause-steps : goal.returns-then-eq-clause-steps
returns-then-eq-clause-steps g c =
    let opens = subst (IsOpenMap package_map_type) c.package_view-map.ensures c.buckets.ensures.open in
    let more = package_more c.args.set.now c.args.package.now c.args.steps.now c.loop-next.next c.loop-next.steps c.loop-next.invariant opens c.loop-next-test.true in
    let step = c.in-Ok.ensures.step in
    omega (arith, more, step)

pub loop-next-smaller : goal.loop-next-smaller
loop-next-smaller g c =
    let opens = subst (IsOpenMap package_map_type) c.package_view-map.ensures c.buckets.ensures.open in
    let more = package_more c.args.set.now c.args.package.now c.args.steps.now c.loop-next.next c.loop-next.steps c.loop-next.invariant opens c.loop-next-test.true in
    let step = c.in-Ok.ensures.step in
    omega (arith, more, step)

pub loop-next-preserved : goal.loop-next-preserved
loop-next-preserved g c =
    let opens = subst (IsOpenMap package_map_type) c.package_view-map.ensures c.buckets.ensures.open in
    let e = moved package_at c.package_view-map.result.now c.args.set.now.package_map c.loop-next.next _ c.package_view-map.ensures c.in-Ok.ensures.node in
    let on = package_on c.args.set.now c.args.package.now c.args.steps.now c.loop-next.next c.loop-next.steps c.loop-next.invariant opens c.loop-next-test.true (package_of c.in-Ok.node) c.in-Ok.node.end e (sym c.if-eq.ensures) in
    rw c.in-Ok.ensures.step on

pub returns-clause-found : goal.returns-clause-found
returns-clause-found g c =
    let none = package_end c.args.set.now c.args.package.now c.args.steps.now c.loop-next.next c.loop-next.steps c.loop-next.invariant c.loop-next-test.false in
    ap (option_map package_found) (sym none.0)

pub returns-clause-steps : goal.returns-clause-steps
returns-clause-steps g c =
    (package_end c.args.set.now c.args.package.now c.args.steps.now c.loop-next.next c.loop-next.steps c.loop-next.invariant c.loop-next-test.false).1
