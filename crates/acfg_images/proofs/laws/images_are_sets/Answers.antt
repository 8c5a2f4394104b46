use Rattle.std.proofs.Common.{◌≡◌, List, [], ◌∷◌, map, refl, sym, ap, ◌∙◌}
use Rattle.std.specs.List.{flat_map}
use Rattle.std.proofs.lemmas.List.{map-append}
use Rattle.acfg_base.proofs.Keys.{key_total}
use Rattle.acfg_base.proofs.Rows.{map_of-map}
use Rattle.acfg_base.specs.Places.{map_of}
use Rattle.acfg_base.specs.Release.{key_cmp, key_of, facts_of}
use Rattle.acfg_decls.specs.declared.flags.Flag.{Flag}
use Rattle.acfg_decls.specs.Releases.{entry_of}
use Rattle.acfg_images.specs.Build.{compiled_flag, compiled_in}
use Rattle.acfg_images.specs.ImageLaw.{compiled_key, CachesMakeReleases}
use Rattle.acfg_images.proofs.ImageSets.{images_are_sets}
use Rattle.acfg_images.proofs.laws.images_are_sets.Goals as goal

joined : (caches : List (List Flag)) → compiled_in caches ≡ map compiled_flag (flat_map (λ cache. cache) caches)
joined [] = refl
joined (cache ∷ caches) = rw (joined caches, map-append compiled_flag cache (flat_map (λ c. c) caches)) refl

releases : CachesMakeReleases
releases caches =
    let flags = flat_map (λ cache. cache) caches in
    ap (λ fs. map_of key_cmp compiled_key fs (λ flag. (flag.kind, flag.value))) (joined caches)
    ∙ map_of-map key_total compiled_key compiled_flag (λ flag. (flag.kind, flag.value)) flags
    ∙ sym (map_of-map key_total key_of entry_of facts_of flags)

pub returns : goal.returns
returns c = record { sets = images_are_sets; releases = releases }
