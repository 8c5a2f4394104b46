use Rattle.std.proofs.Common.{⊎_elim, refl}
use Rattle.acfg_images.specs.Set.{notes_in, release_in}
use Rattle.acfg_store.proofs.copying.check_again.Goals as goal

pub unreachable-requires : goal.unreachable-requires
unreachable-requires c =
    let parts = c.requires.0 in
    ⊎_elim (λ e. c.in_default.not-OutOfMemory e)
    (λ none. none parts.package_map.container (release_in parts) (notes_in parts) (record { parts = parts; files_are = c.requires.1; container_is = refl; release_is = refl; notes_are = refl }))
    c.in-Err.ensures.sets
