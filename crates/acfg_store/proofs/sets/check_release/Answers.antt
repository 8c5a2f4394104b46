use Rattle.std.proofs.Common.{rules, ◌≡◌}
use Rattle.acfg_images.specs.declared.purpose.Use.TheVariants as purpose
use Rattle.acfg_images.specs.Faults.{checked}
use Rattle.acfg_images.specs.Files.{joined}
use Rattle.sha2.specs.Sha256.{sha256}
use Rattle.acfg_store.specs.Damage.{IsItsRelease}
use Rattle.acfg_store.proofs.Blaming.{not_meant, set_told}
use Rattle.acfg_store.proofs.sets.check_release.Goals.{else-eq-via-then-eq+else-eq-2, else-eq-via-else-eq}
use Rattle.acfg_store.proofs.sets.check_release.Goals as goal

pub returns-then-eq-2 : goal.returns-then-eq-2
returns-then-eq-2 c =
    let name : c.in-Ok.checked.package_map.container ≡ c.args.row.now.name = search rules in
    let digest : c.args.row.now.digest ≡ sha256 (joined c.args.set.now) = search rules in
    set_told (IsItsRelease c.args.row.now c.args.set.now) purpose.Release c.args.set.now c.in-Ok.checked c.in-Ok.ensures.first c.in-Ok.ensures.sets (record { name = name; digest = digest })

pub returns-else-eq : goal.returns-else-eq
returns-else-eq c =
    not_meant (IsItsRelease c.args.row.now c.args.set.now) (checked purpose.Release c.args.set.now) c.in-Ok.checked c.in-Ok.ensures.first (λ is.
    elim c.else-eq.branch [
      | else-eq-via-then-eq+else-eq-2 w ↦ (let digest : c.args.row.now.digest ≡ sha256 (joined c.args.set.now) = is.digest in search rules)
      | else-eq-via-else-eq w ↦ (let name : c.in-Ok.checked.package_map.container ≡ c.args.row.now.name = is.name in search rules)
    ])
