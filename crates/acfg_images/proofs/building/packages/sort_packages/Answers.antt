use Rattle.std.proofs.Common.{refl, ◌<◌, ℕ, get_or, length}
use Rattle.std.proofs.lemmas.List.Sorted.{All-permutation}
use Rattle.acfg_images.specs.Links.{package_key}
use Rattle.acfg_images.specs.Building.{package_of, PackageHasBucket}
use Rattle.acfg_images.specs.declared.building.packages.PackageRow.{PackageRow}
use Rattle.acfg_images.proofs.Emptied.{package_in}
use Rattle.acfg_images.proofs.Sorting.{sorted_is}
use Rattle.acfg_images.proofs.Linking.{bucket-low}
use Rattle.acfg_images.proofs.building.packages.sort_packages.Goals as goal

pub returns-clause-order : goal.returns-clause-order
returns-clause-order c = λ count some has.
    let s = c.in_ok-sort_by_bucket.ensures in
    let after = c.sort_by_bucket.new.rows.items in
    let new = All-permutation (PackageHasBucket count) c.args.rows.now.items after s.permutation has in
    let low : (i : ℕ) (d : PackageRow) → i < length after → (get_or after i d).bucket < count = λ i d lt. bucket-low count package_key (package_of (get_or after i d)) _ some (new i d lt) in
    sorted_is (λ row. row.bucket) package_of package_key count package_in (λ b. refl) c.args.rows.now.items after s.sorted s.stable s.permutation low has

pub returns-clause-buckets : goal.returns-clause-buckets
returns-clause-buckets c = λ count has. All-permutation (PackageHasBucket count) c.args.rows.now.items c.sort_by_bucket.new.rows.items c.in_ok-sort_by_bucket.ensures.permutation has
