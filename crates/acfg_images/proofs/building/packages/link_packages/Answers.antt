use Rattle.std.proofs.Common.{arith, refl, get_or, length, suc, ◌≡◌, ◌-◌, ◌<◌}
use Rattle.acfg_views.specs.Layout.{package_node}
use Rattle.acfg_images.specs.Links.{package_key}
use Rattle.acfg_images.specs.Building.{package_of, package_with, led_package}
use Rattle.acfg_images.proofs.Sizes.{package_size}
use Rattle.acfg_images.proofs.Emptied.{no_package}
use Rattle.acfg_images.proofs.Linking.{bucket-low, starts, steps_back, one_more, ends_rows, ends_firsts}
use Rattle.acfg_images.proofs.building.packages.link_packages.Goals as goal

pub loop-i-init : goal.loop-i-init
loop-i-init c = (omega arith, starts package_node package_key package_with package_of (λ row. row.bucket) _ _ c.args.rows.now _ c.args.firsts.now refl c.requires.none (omega (arith, c.requires.room)))

pub overflow_cast-at : goal.overflow_cast-at
overflow_cast-at c =
    let back = steps_back package_node package_key package_with package_of (λ row. row.bucket) led_package (λ firsts row. refl) _ _ _ c.loop-i.rows c.loop-i.i (c.loop-i.i - 1) c.loop-i.at c.loop-i.firsts no_package (omega (arith, c.loop-i-test.true)) c.loop-i.invariant.1 in
    omega (arith, back, package_size (package_of (get_or c.loop-i.rows (c.loop-i.i - 1) no_package)), c.loop-i.auto.at-fits)

pub overflow_add-at : goal.overflow_add-at
overflow_add-at c =
    let back = steps_back package_node package_key package_with package_of (λ row. row.bucket) led_package (λ firsts row. refl) _ _ _ c.loop-i.rows c.loop-i.i (c.loop-i.i - 1) c.loop-i.at c.loop-i.firsts no_package (omega (arith, c.loop-i-test.true)) c.loop-i.invariant.1 in
    omega (arith, back, package_size (package_of (get_or c.loop-i.rows (c.loop-i.i - 1) no_package)), c.loop-i.auto.at-fits)

pub overflow_sub-at : goal.overflow_sub-at
overflow_sub-at c =
    let back = steps_back package_node package_key package_with package_of (λ row. row.bucket) led_package (λ firsts row. refl) _ _ _ c.loop-i.rows c.loop-i.i (c.loop-i.i - 1) c.loop-i.at c.loop-i.firsts no_package (omega (arith, c.loop-i-test.true)) c.loop-i.invariant.1 in
    omega (arith, back, package_size (package_of (get_or c.loop-i.rows (c.loop-i.i - 1) no_package)))

pub link-requires-clause-bucket : goal.link-requires-clause-bucket
link-requires-clause-bucket c = λ d.
    let so = c.loop-i.invariant.1 in
    let lt : c.loop-i.i - 1 < length c.args.rows.now = omega (arith, so.within, c.loop-i-test.true) in
    let row = get_or c.args.rows.now (c.loop-i.i - 1) d in
    let low : row.bucket < length c.args.firsts.now = bucket-low (length c.args.firsts.now) package_key (package_of row) _ c.requires.some (c.requires.buckets (c.loop-i.i - 1) d lt) in
    rw (so.front (c.loop-i.i - 1) d (omega (arith, c.loop-i-test.true)), so.count_is) low

pub loop-i-preserved : goal.loop-i-preserved
loop-i-preserved c =
    let so = c.loop-i.invariant.1 in
    let j = c.loop-i.i - 1 in
    let i_is : c.loop-i.i ≡ suc j = omega (arith, c.loop-i-test.true) in
    let lt : j < length c.args.rows.now = omega (arith, so.within, c.loop-i-test.true) in
    let back = steps_back package_node package_key package_with package_of (λ row. row.bucket) led_package (λ firsts row. refl) _ _ _ c.loop-i.rows c.loop-i.i j c.loop-i.at c.loop-i.firsts no_package i_is so in
    let size = package_size (package_of (get_or c.loop-i.rows j no_package)) in
    let own = c.requires.buckets j no_package lt in
    let low = bucket-low (length c.args.firsts.now) package_key (package_of (get_or c.args.rows.now j no_package)) _ c.requires.some own in
    let new = one_more package_node package_key package_with package_of (λ row. row.bucket) led_package (λ firsts row. refl) _ _ c.args.rows.now c.loop-i.rows c.link.new.rows c.loop-i.i j c.loop-i.at _ c.loop-i.firsts c.link.new.firsts no_package i_is so own low (omega (arith, back, size)) (c.link.ensures.rows no_package) (c.link.ensures.first no_package) in
    (omega (arith, new.within, new.len), new)

pub returns-clause-nodes : goal.returns-clause-nodes
returns-clause-nodes c = ends_rows package_node package_key package_with package_of (λ row. row.bucket) led_package (λ firsts row. refl) _ _ _ _ _ _ _ c.loop-i-test.false c.loop-i.invariant.1

pub returns-clause-firsts : goal.returns-clause-firsts
returns-clause-firsts c = λ b lt. ends_firsts package_node package_key package_with package_of (λ row. row.bucket) led_package (λ firsts row. refl) _ _ _ c.loop-i.rows _ _ _ c.loop-i-test.false c.loop-i.invariant.1 b (omega (arith, c.loop-i.invariant.1.count_is))
