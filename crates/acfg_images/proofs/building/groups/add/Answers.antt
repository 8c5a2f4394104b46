use Rattle.std.proofs.Common.{rules, refl, ap, ◌∙◌}
use Rattle.acfg_images.specs.Building.{groups_of}
use Rattle.acfg_images.proofs.Grouping.{grown_there, grown_new}
use Rattle.acfg_images.proofs.building.groups.add.Goals as goal

pub returns-in-Some : goal.returns-in-Some
returns-in-Some c =
    let h = c.get_mut.follows.holds c.push.new.self in
    ap groups_of h.0 ∙ grown_there _ c.args.row (λ key. refl) c.args.groups.now.entries c.in-Some.rows.now c.push.new.self c.in-Some.ensures.value c.in_ok-push.ensures.items

pub returns : goal.returns
returns c =
    let same = c.get_mut.follows.holds-at-none in
    ap groups_of c.in_ok-insert.ensures.entries ∙ rw same (grown_new _ c.args.row (λ key. refl) _ c.args.row.package refl (λ other. refl) c.args.groups.now.entries c.push-2.new.self c.in_default.ensures.value (search rules))
