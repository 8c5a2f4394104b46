-- Which flags have an image, which release they make, and that their image is a set for that release.
use Rattle.std.specs.Prelude.{◌≡◌, ◌≢◌, ℕ, ◌≤◌, List, length, All, AllPairs, false}
use Rattle.std.specs.List.{flat_map}
use Rattle.acfg_base.specs.Names.{IsContainer}
use Rattle.acfg_base.specs.Release.{Key, key_cmp, ReleaseMap, IsKey}
use Rattle.acfg_base.specs.Places.{map_of}
use Rattle.acfg_decls.specs.declared.flags.Flag.{Flag}
use Rattle.acfg_decls.specs.Releases.{release}
use Rattle.acfg_views.specs.Layout.{MOST_BYTES}
use Rattle.acfg_images.specs.declared.purpose.Use.TheVariants.{Release}
use Rattle.acfg_images.specs.Files.{bytes_in_all}
use Rattle.acfg_images.specs.Set.{Notes, IsSet}
use Rattle.acfg_images.specs.Image.{Compiled, image}
use Rattle.acfg_images.specs.Build.{MOST_FLAGS, compiled_in}

-- a flag's package and name
abbrev pub compiled_key : Compiled → Key
compiled_key flag = (flag.package, flag.flag)

-- the release that flags make: each one's kind and value
abbrev pub release_made : List Compiled → ReleaseMap
release_made flags = map_of key_cmp compiled_key flags (λ flag. (flag.kind, flag.value))

-- no override at any of the flags, neither the server's nor a local one
abbrev pub no_notes : List Compiled → Notes
no_notes flags = map_of key_cmp compiled_key flags (λ _. (false, false))

-- Flags have an image where the container and their names are lawful, no two have one package and name, and they and
-- their files are within the limits.
pub record HaveImage (container : List ℕ) (flags : List Compiled) : Type 0 where
  pub container_name : IsContainer container
  pub names : All (λ flag. IsKey (compiled_key flag)) flags
  pub apart : AllPairs (λ a b. compiled_key a ≢ compiled_key b) flags
  pub count : length flags ≤ MOST_FLAGS
  pub size : bytes_in_all (image container flags) ≤ MOST_BYTES

-- the image of flags that have one is a set for a release: theirs, and without notes
abbrev pub ImagesAreSets : Type 0
ImagesAreSets = (container : List ℕ) (flags : List Compiled) → HaveImage container flags
    → IsSet (image container flags) Release container (release_made flags) (no_notes flags)

-- the release that the flags of caches make is the one of the compile step, of all of them
abbrev pub CachesMakeReleases : Type 0
CachesMakeReleases =
    (caches : List (List Flag)) → release_made (compiled_in caches) ≡ release (flat_map (λ cache. cache) caches)
