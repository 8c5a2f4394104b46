use Rattle.std.proofs.Common.{arith, inr, subst, sym, ap, length, ◌∙◌, ◌≤◌, Result}
use Rattle.std.proofs.lemmas.List.{length-map}
use Rattle.acfg_images.specs.Files.{Files}
use Rattle.acfg_images.specs.Build.{Builds, compiled_lent, sized}
use Rattle.acfg_images.specs.Building.{group_of, grouped, grouped_image, total}
use Rattle.acfg_images.specs.declared.building.fault.BuildFault.{BuildFault}
use Rattle.acfg_images.proofs.Grouping.{total_grouped, few_grouped}
use Rattle.acfg_images.proofs.Imaging.{too_many, few_flags, built_few}
use Rattle.acfg_images.proofs.building.build_lent.Goals as goal

pub returns-then-count-gt-MOST_FLAGS : goal.returns-then-count-gt-MOST_FLAGS
returns-then-count-gt-MOST_FLAGS c = inr (too_many c.args.container.now (compiled_lent c.args.flags.now) c.count_lent-count.result c.if-count-gt-MOST_FLAGS.true c.count_lent-count.ensures)

pub build_groups-requires-clause-flags : goal.build_groups-requires-clause-flags
build_groups-requires-clause-flags c =
    let flags = compiled_lent c.args.flags.now in
    ap total c.in_ok-groups.ensures ∙ total_grouped flags ∙ sym (few_flags flags c.count_lent-count.result c.if-count-gt-MOST_FLAGS.false c.count_lent-count.ensures)

pub build_groups-requires-clause-packages : goal.build_groups-requires-clause-packages
build_groups-requires-clause-packages c =
    let flags = compiled_lent c.args.flags.now in
    omega (arith, few_grouped flags, ap length c.in_ok-groups.ensures, length-map c.in_ok-groups.groups.entries group_of, few_flags flags c.count_lent-count.result c.if-count-gt-MOST_FLAGS.false c.count_lent-count.ensures)

pub returns : goal.returns
returns c =
    let flags = compiled_lent c.args.flags.now in
    let few : length flags ≤ 50000 = let n = few_flags flags c.count_lent-count.result c.if-count-gt-MOST_FLAGS.false c.count_lent-count.ensures in let le = c.if-count-gt-MOST_FLAGS.false in omega arith in
    let image = ap (λ groups. sized (grouped_image c.as_str.result.now groups)) c.in_ok-groups.ensures ∙ ap (λ container. sized (grouped_image container (grouped flags))) c.as_str.ensures.text ∙ sym (built_few c.args.container.now flags few) in
    subst (λ (due : Result Files BuildFault). Builds c.build_groups.result due) image c.build_groups.ensures
