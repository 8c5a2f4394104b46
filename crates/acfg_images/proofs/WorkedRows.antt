-- The definition of an image, computed on small containers whose files are known.
use Rattle.std.proofs.Common.{◌≡◌, ℕ, List, [], ◌∷◌, ◌++◌, length, take, drop, map, true, false, refl, codes}
use Rattle.std.specs.Fmt.{digits}
use Rattle.acfg_base.specs.declared.releases.Kind.TheVariants.{ReadWrite, ReadOnly, Fixed}
use Rattle.acfg_sip.specs.SipHash.{whole_words, partial_group, sip_round, sip_rounds, initialized, compressed, finalized, siphash}
use Rattle.acfg_sip.specs.Buckets.{hash, size}
use Rattle.acfg_views.specs.Fields.{number, string}
use Rattle.acfg_views.specs.Layout.{package_node, flag_node, map_header, list_header, map_file, list_file}
use Rattle.acfg_images.specs.Files.{Files}
use Rattle.acfg_images.specs.Image.{Compiled, image, image_parts, files_of}

-- a container without flags: 7 buckets of 0, and nothing else behind the headers
empty : Files
unfolding image_parts files_of map_file list_file map_header list_header number string size
empty = image (codes "c") []

no_flags_maps : (length empty.package_map ≡ 54) × (length empty.flag_map ≡ 54) × (length empty.flag_val ≡ 22) × (length empty.flag_info ≡ 22) × (drop 26 empty.flag_map ≡ map (λ _. 0) (take 28 empty.flag_map))
unfolding empty image_parts files_of map_file list_file map_header list_header number string size
no_flags_maps = (refl, refl, refl, refl, refl)

-- three packages with eight flags
abbrev flag_in : List ℕ → List ℕ → Compiled
flag_in number name = record { «package» = codes "com.android.aconfig.storage.test_" ++ number; flag = name; kind = ReadWrite; value = true }

abbrev mockup_flags : List Compiled
mockup_flags =
    record (flag_in (codes "1") (codes "disabled_rw")) { value = false }
    ∷ record (flag_in (codes "1") (codes "enabled_ro")) { kind = ReadOnly }
    ∷ flag_in (codes "1") (codes "enabled_rw")
    ∷ record (flag_in (codes "2") (codes "disabled_rw")) { value = false }
    ∷ record (flag_in (codes "2") (codes "enabled_fixed_ro")) { kind = Fixed }
    ∷ record (flag_in (codes "2") (codes "enabled_ro")) { kind = ReadOnly }
    ∷ record (flag_in (codes "4") (codes "enabled_fixed_ro")) { kind = Fixed }
    ∷ flag_in (codes "4") (codes "enabled_rw")
    ∷ []

mockup : Files
mockup = image (codes "mockup") mockup_flags

mockup_values : (mockup.flag_val ≡ 1 ∷ 0 ∷ 0 ∷ 0 ∷ 6 ∷ 0 ∷ 0 ∷ 0 ∷ 0x6d ∷ 0x6f ∷ 0x63 ∷ 0x6b ∷ 0x75 ∷ 0x70 ∷ 2 ∷ 0x23 ∷ 0 ∷ 0 ∷ 0 ∷ 8 ∷ 0 ∷ 0 ∷ 0 ∷ 0x1b ∷ 0 ∷ 0 ∷ 0 ∷ 0 ∷ 1 ∷ 1 ∷ 0 ∷ 1 ∷ 1 ∷ 1 ∷ 1 ∷ [])
    × (drop 27 mockup.flag_info ≡ 2 ∷ 0 ∷ 2 ∷ 2 ∷ 0 ∷ 0 ∷ 0 ∷ 2 ∷ [])
unfolding mockup image_parts files_of list_file list_header number string
mockup_values = (refl, refl)

mockup_maps : (length mockup.package_map ≡ 209)
    × (take 31 mockup.package_map ≡ 1 ∷ 0 ∷ 0 ∷ 0 ∷ 6 ∷ 0 ∷ 0 ∷ 0 ∷ 0x6d ∷ 0x6f ∷ 0x63 ∷ 0x6b ∷ 0x75 ∷ 0x70 ∷ 0 ∷ 0xd1 ∷ 0 ∷ 0 ∷ 0 ∷ 3 ∷ 0 ∷ 0 ∷ 0 ∷ 0x1f ∷ 0 ∷ 0 ∷ 0 ∷ 0x3b ∷ 0 ∷ 0 ∷ 0 ∷ [])
    × (length mockup.flag_map ≡ 321)
unfolding mockup image_parts files_of map_file list_file map_header package_node flag_node number string size hash siphash whole_words partial_group initialized compressed finalized sip_rounds sip_round digits
mockup_maps = (refl, refl, refl)
