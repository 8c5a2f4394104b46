use Rattle.std.proofs.Common.{arith, subst, ap, length, ◌∙◌}
use Rattle.std.proofs.lemmas.List.{length-map}
use Rattle.acfg_images.specs.Files.{Files}
use Rattle.acfg_images.specs.Build.{Builds, sized}
use Rattle.acfg_images.specs.Building.{groups_of, all_flags, value_byte}
use Rattle.acfg_images.proofs.Imaging.{total_is, files_are}
use Rattle.acfg_images.proofs.building.build_groups.Goals as goal

pub build_parts-requires-clause-few : goal.build_parts-requires-clause-few
build_parts-requires-clause-few c =
    let groups = groups_of c.args.groups.now.entries in
    let size = ap length c.in_ok-parts.ensures.values ∙ length-map (all_flags groups) value_byte ∙ total_is groups in
    omega (arith, size, c.requires.flags, c.requires.few)

pub returns : goal.returns
returns c =
    let same = files_are c.args.container.now (groups_of c.args.groups.now.entries) c.in_ok-parts.parts c.in_ok-parts.ensures in
    subst (λ (files : Files). Builds c.build_parts.result (sized files)) same c.build_parts.ensures
