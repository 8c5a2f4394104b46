use Rattle.std.proofs.Common.{◌∙◌, length, ap, arith}
use Rattle.acfg_images.specs.Files.{Files}
use Rattle.acfg_images.specs.Faults.{files_in}
use Rattle.acfg_images.proofs.Law.{checked_small}
use Rattle.acfg_images.proofs.releases.read_release.Goals as goal

pub overflow_cast-size : goal.overflow_cast-size
overflow_cast-size g c =
    let faultless = c.set.ensures.checked in
    let small = checked_small faultless.0 (files_in c.args.set.now) c.args.set.now faultless.1 in
    omega (arith, small, ap length (c.package_map.ensures ∙ ap (λ (f : Files). f.package_map) c.set.ensures.files))

pub overflow_cast-size-2 : goal.overflow_cast-size-2
overflow_cast-size-2 g c =
    let faultless = c.set-2.ensures.checked in
    let small = checked_small faultless.0 (files_in c.args.set.now) c.args.set.now faultless.1 in
    omega (arith, small, ap length (c.flag_map.ensures ∙ ap (λ (f : Files). f.flag_map) c.set-2.ensures.files))
