use Rattle.std.proofs.Common.{rules, inr, ap, sym, ◌∙◌, ◌≡◌, ◌+◌, length, map, Ok}
use Rattle.std.proofs.lemmas.Bool.{ltb-true, ltb-false}
use Rattle.acfg_views.specs.Layout.{MOST_BYTES, package_node, flag_node}
use Rattle.acfg_images.specs.Files.{Files}
use Rattle.acfg_images.specs.Build.{told}
use Rattle.acfg_images.specs.Building.{map_size_of, package_of, flag_of, files_in_order}
use Rattle.acfg_images.proofs.Filing.{measured, sized_over, sized_within, over_told, within_told}
use Rattle.acfg_images.proofs.building.build_parts.Goals as goal

pub returns-then-are_too_large : goal.returns-then-are_too_large
returns-then-are_too_large c =
    let container = c.args.container.now in
    let parts = c.args.parts in
    let values : 21 + length container + length parts.values.items ≡ 21 + length container + c.len.result = search rules in
    let packages = c.package_map_size-package_size.ensures ∙ ap (λ rows. told (map_size_of package_node container parts.package_buckets (map package_of rows))) c.deref.ensures.value in
    let flags = c.flag_map_size-flag_size.ensures ∙ ap (λ rows. told (map_size_of flag_node container parts.flag_buckets (map flag_of rows))) c.deref-2.ensures.value in
    let size = measured container parts _ _ _ _ _ _ values c.requires.same packages flags c.saturating_add.ensures c.saturating_add-2.ensures c.saturating_add-size.ensures in
    inr (sized_over (files_in_order container parts) _ (over_told _ _ size (ltb-true MOST_BYTES c.saturating_add-size.result (sym c.are_too_large.ensures ∙ c.if-are_too_large.true))) size)

pub returns : goal.returns
returns c =
    let container = c.args.container.now in
    let parts = c.args.parts in
    let values : 21 + length container + length parts.values.items ≡ 21 + length container + c.len.result = search rules in
    let packages = c.package_map_size-package_size.ensures ∙ ap (λ rows. told (map_size_of package_node container parts.package_buckets (map package_of rows))) c.deref.ensures.value in
    let flags = c.flag_map_size-flag_size.ensures ∙ ap (λ rows. told (map_size_of flag_node container parts.flag_buckets (map flag_of rows))) c.deref-2.ensures.value in
    let size = measured container parts _ _ _ _ _ _ values c.requires.same packages flags c.saturating_add.ensures c.saturating_add-2.ensures c.saturating_add-size.ensures in
    sized_within (files_in_order container parts) (within_told _ _ size (ltb-false MOST_BYTES c.saturating_add-size.result (sym c.are_too_large.ensures ∙ c.if-are_too_large.false))) ∙ ap (λ (files : Files). Ok files) (sym c.in_ok-write_parts.ensures)
