use Rattle.std.proofs.Common.{◌≡◌, ◌≢◌, ℕ, List, Bool, true, false, eqb, ◌&&◌, refl, sym, subst, arith}
use Rattle.std.specs.Str.{bytes_eq}
use Rattle.std.proofs.lemmas.Bool.Decides.{nat_tests}
use Rattle.acfg_views.specs.Layout.{Flag, flag_map_type}
use Rattle.acfg_views.specs.Reading.{IsOpenMap, flag_at, flag_of}
use Rattle.acfg_lookup.proofs.Walks.{is_flag, flag_starts, flag_end, flag_more, flag_reads, flag_hit, flag_on, moved}
use Rattle.acfg_lookup.proofs.flags.find_node.Goals as goal
use Rattle.acfg_lookup.proofs.flags.find_node.Goals.{else-node-package_id-via-then-node-package_id+else-eq, else-node-package_id-via-else-node-package_id}

it_is : (id : ℕ) (name : List ℕ) (n : Flag) → n.package_id ≡ id → true ≡ bytes_eq n.name name → is_flag id name n ≡ true
it_is id name n same hit = let there = sym hit in let here : eqb n.package_id id ≡ true = grind (arith, nat_tests) in rw (here, there) refl

another_id : (id : ℕ) (name : List ℕ) (n : Flag) → n.package_id ≢ id → is_flag id name n ≡ false
another_id id name n other = let apart : eqb n.package_id id ≡ false = grind (arith, nat_tests) in rw apart refl

another_name : (id : ℕ) (name : List ℕ) (n : Flag) → false ≡ bytes_eq n.name name → is_flag id name n ≡ false
another_name id name n miss = either (eqb n.package_id id) (bytes_eq n.name name) (sym miss)
  where
    either : (a b : Bool) → b ≡ false → (a && b) ≡ false
    either true b e = e
    either false b e = refl

pub loop-next-init : goal.loop-next-init
loop-next-init g c =
    flag_starts c.args.set.now c.args.package_id c.args.flag.now c.as_bytes.result.now c.flag_view-map.result.now c.buckets.result c.flag_bucket.result c.bucket_at-next.result c.args.steps.now c.known.ensures.no_fault
    c.flag_view-map.ensures c.buckets.ensures.open c.as_bytes.ensures.value c.buckets.ensures.count c.flag_bucket.ensures.value c.flag_bucket.ensures.below c.bucket_at-next.ensures

pub returns-in-Err-clause-found : goal.returns-in-Err-clause-found
returns-in-Err-clause-found g c =
    let opens = subst (IsOpenMap flag_map_type) c.flag_view-map.ensures c.buckets.ensures.open in
    let e = moved flag_at c.flag_view-map.result.now c.args.set.now.flag_map c.loop-next.next _ c.flag_view-map.ensures c.in-Err.ensures.node in
    absurd (flag_reads c.args.set.now c.args.package_id c.args.flag.now c.args.steps.now c.loop-next.next c.loop-next.steps c.loop-next.invariant opens c.loop-next-test.true c.in-Err.field-0 e)

pub returns-in-Err-clause-steps : goal.returns-in-Err-clause-steps
returns-in-Err-clause-steps g c =
    let opens = subst (IsOpenMap flag_map_type) c.flag_view-map.ensures c.buckets.ensures.open in
    let more = flag_more c.args.set.now c.args.package_id c.args.flag.now c.args.steps.now c.loop-next.next c.loop-next.steps c.loop-next.invariant opens c.loop-next-test.true in
    let step = c.in-Err.ensures.step in
    omega (arith, more, step)

pub returns-then-eq-clause-found : goal.returns-then-eq-clause-found
returns-then-eq-clause-found g c =
    let opens = subst (IsOpenMap flag_map_type) c.flag_view-map.ensures c.buckets.ensures.open in
    let e = moved flag_at c.flag_view-map.result.now c.args.set.now.flag_map c.loop-next.next _ c.flag_view-map.ensures c.in-Ok.ensures.node in
    let hit = it_is c.args.package_id c.args.flag.now (flag_of c.in-Ok.node) c.if-node-package_id.true c.if-eq.ensures in
    sym (flag_hit c.args.set.now c.args.package_id c.args.flag.now c.args.steps.now c.loop-next.next c.loop-next.steps c.loop-next.invariant opens c.loop-next-test.true (flag_of c.in-Ok.node) c.in-Ok.node.end e hit)

pub returns-then-eq-clause-steps : goal.returns-then-eq-clause-steps
returns-then-eq-clause-steps g c =
    let opens = subst (IsOpenMap flag_map_type) c.flag_view-map.ensures c.buckets.ensures.open in
    let more = flag_more c.args.set.now c.args.package_id c.args.flag.now c.args.steps.now c.loop-next.next c.loop-next.steps c.loop-next.invariant opens c.loop-next-test.true in
    let step = c.in-Ok.ensures.step in
    omega (arith, more, step)

pub loop-next-smaller : goal.loop-next-smaller
loop-next-smaller g c =
    let opens = subst (IsOpenMap flag_map_type) c.flag_view-map.ensures c.buckets.ensures.open in
    let more = flag_more c.args.set.now c.args.package_id c.args.flag.now c.args.steps.now c.loop-next.next c.loop-next.steps c.loop-next.invariant opens c.loop-next-test.true in
    let step = c.in-Ok.ensures.step in
    omega (arith, more, step)

pub loop-next-preserved : goal.loop-next-preserved
loop-next-preserved g c =
    let opens = subst (IsOpenMap flag_map_type) c.flag_view-map.ensures c.buckets.ensures.open in
    let e = moved flag_at c.flag_view-map.result.now c.args.set.now.flag_map c.loop-next.next _ c.flag_view-map.ensures c.in-Ok.ensures.node in
    let miss : is_flag c.args.package_id c.args.flag.now (flag_of c.in-Ok.node) ≡ false =
    elim c.else-node-package_id.branch [
      | else-node-package_id-via-then-node-package_id+else-eq w ↦ another_name c.args.package_id c.args.flag.now (flag_of c.in-Ok.node) w.if-eq.ensures
      | else-node-package_id-via-else-node-package_id w ↦ another_id c.args.package_id c.args.flag.now (flag_of c.in-Ok.node) w.if-node-package_id.false
    ] in
    let on = flag_on c.args.set.now c.args.package_id c.args.flag.now c.args.steps.now c.loop-next.next c.loop-next.steps c.loop-next.invariant opens c.loop-next-test.true (flag_of c.in-Ok.node) c.in-Ok.node.end e miss in
    rw c.in-Ok.ensures.step on

pub returns-clause-found : goal.returns-clause-found
returns-clause-found g c =
    sym (flag_end c.args.set.now c.args.package_id c.args.flag.now c.args.steps.now c.loop-next.next c.loop-next.steps c.loop-next.invariant c.loop-next-test.false).0

pub returns-clause-steps : goal.returns-clause-steps
returns-clause-steps g c =
    (flag_end c.args.set.now c.args.package_id c.args.flag.now c.args.steps.now c.loop-next.next c.loop-next.steps c.loop-next.invariant c.loop-next-test.false).1
