use Rattle.std.proofs.Common.{◌≡◌, drop}
use Rattle.acfg_views.specs.Fields.{numbers}
use Rattle.acfg_images.proofs.buckets.flag_buckets.Given as goal

abbrev pub invariant-loop-b : goal.invariant-loop-b
invariant-loop-b l = l.buckets.items ≡ numbers l.b (drop l.map.first_bucket l.map.file)
