use Rattle.std.proofs.Common.{rules, ◌≡◌}
use Rattle.acfg_images.specs.declared.purpose.Use.TheVariants as purpose
use Rattle.acfg_images.specs.Faults.{Opened}
use Rattle.acfg_store.proofs.Blaming.{set_told}
use Rattle.acfg_store.proofs.sets.check_copy.Goals as goal

pub returns-then-eq : goal.returns-then-eq
returns-then-eq c =
    let name : c.in-Ok.checked.package_map.container ≡ c.args.container.now = search rules in
    set_told (λ (opened : Opened). opened.package_map.container ≡ c.args.container.now) purpose.Copy c.args.set.now c.in-Ok.checked c.in-Ok.ensures.first c.in-Ok.ensures.sets name
