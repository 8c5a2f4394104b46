use Rattle.std.proofs.Common.{◌∷◌, Option, ap, map, refl, reverse, ◌∙◌}
use Rattle.std.specs.Map.{update}
use Rattle.std.specs.Str.{bytes_eq}
use Rattle.acfg_device.specs.Disk as disk
use Rattle.acfg_memdev.proofs.Kept.{pushed, put_names, renamed}
use Rattle.acfg_memdev.specs.Held.{change_of}
use Rattle.acfg_memdev.specs.Slots.{disk_of, names_of}
use Rattle.acfg_memdev.specs.declared.disk.Change.TheVariants.{Moved}
use Rattle.std.proofs.Common.{None, sym}
use Rattle.acfg_device.proofs.Naming.{update_apart}
use Rattle.acfg_memdev.proofs.disk.rename.Goals as goal

pub returns-clause-ok : goal.returns-clause-ok
returns-clause-ok c =
    let old : disk.Names = names_of c.args.disk.now.slots in
    let from = c.args.from.now in
    let to = c.args.to.now in
    let made = c.in_ok-make_slot-2.ensures.names ∙ c.in_ok-make_slot.ensures.names in
    let emptied = put_names old _ _ from None made c.put-moved.ensures.names in
    let moved = c.put-moved.ensures.was ∙ ap (λ (names : disk.Names). names from) made in
    let lost = c.put-lost.ensures.was ∙ ap (λ (names : disk.Names). names to) emptied ∙ update_apart old from None to (λ same. c.requires (sym same)) in
    renamed (disk_of c.args.disk.now) _ from refl to
    (put_names (update bytes_eq old from None) _ _ to _ emptied c.put-lost.ensures.names ∙ ap (λ (file : Option disk.File). update bytes_eq (update bytes_eq old from None) to file) moved)
    (pushed c.reserve.new.self.items c.push_within.new.items.items (Moved c.in_ok-old.old c.in_ok-new.new c.put-lost.result) c.push_within.ensures
    ∙ (λ i. disk.Moved (c.in_ok-old.ensures.ok i) (c.in_ok-new.ensures.ok i) (lost i) ∷ reverse (map change_of (c.in_ok-reserve.ensures.items i))))
