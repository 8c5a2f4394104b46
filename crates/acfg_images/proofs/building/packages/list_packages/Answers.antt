use Rattle.std.proofs.Common.{arith, rules, refl, ap, length, ◌≡◌, ◌∙◌}
use Rattle.acfg_sip.specs.Buckets.{hash}
use Rattle.acfg_images.specs.Building.{total, groups_of}
use Rattle.acfg_images.proofs.Numbering.{package_more, package_buckets_more, size_first}
use Rattle.acfg_images.proofs.building.packages.list_packages.Goals as goal

pub loop-name-preserved : goal.loop-name-preserved
loop-name-preserved c =
    let so = c.loop-name.invariant in
    let entry = c.in-Some.ensures.steps in
    let pushed = c.in_ok-push.ensures.items in
    let size = size_first (c.in-Some.name.now, c.in-Some.flags.now) in
    let count : c.len-in-loop-name.result ≡ length c.in-Some.flags.now.items = search rules in
    record {
      can = tt;
      finite = tt;
      nodes = package_more _ _ _ _ _ (c.in-Some.name.now, c.in-Some.flags.now) _ _ _ _ so.nodes entry pushed refl count;
      buckets = package_buckets_more c.args.buckets _ _ _ pushed so.buckets (c.bucket.ensures.value ∙ ap (λ name. hash name c.args.buckets) c.as_bytes.ensures.value);
      packages = omega (arith, so.packages, ap length entry);
      flags = omega (arith, so.flags, ap (λ es. total (groups_of es)) entry, size, count);
    }
