-- The outcome of `create-storage CONTAINER DIR CACHE..`: the merged flags of caches, written as an image set.
use Rattle.std.specs.Prelude.{◌≡◌, ◌≢◌, ◌⊎◌, ℕ, List, [], ◌∷◌, ◌++◌, All, Result, Ok, Err, Some, codes}
use Rattle.std.specs.Prelude.{false, length, map, slice_get, take}
use Rattle.std.specs.Fmt.{decimal}
use Rattle.hex.specs.Hex.{encode_lower}
use Rattle.sha2.specs.Sha256.{sha256}
use Rattle.acfg_base.specs.Bytes.{line_feed}
use Rattle.acfg_decls.specs.declared.flags.Flag.{Flag}
use Rattle.acfg_device.specs.Panel.{Files}
use Rattle.acfg_images.specs.declared.building.fault.BuildFault.{BuildFault}
use Rattle.acfg_images.specs.declared.building.fault.BuildFault.TheVariants as build
use Rattle.acfg_images.specs.declared.fault.FileType.{FileType}
use Rattle.acfg_images.specs.declared.fault.FileType.TheVariants.{PackageMap, FlagMap, FlagVal, FlagInfo}
use Rattle.acfg_images.specs.Build.{built, compiled_flag}
use Rattle.acfg_images.specs.Files.{Files as SetFiles, joined}
use Rattle.acfg_images.specs.Image.{Compiled, package_names}
use Rattle.acfg_top.specs.Caches.{IsBadCache, IsCache, WithMerged}
use Rattle.acfg_top.specs.Inputs.{Given, Judged, WithInputs, AreAccepted, FirstRefused, inputs_in}
use Rattle.acfg_top.specs.Outcome.{Outcome, Writes, Refused, Done}
use Rattle.acfg_top.specs.Query.{file_in}

-- ---- caches

-- all these flags are the container's
abbrev pub AreOwn : List ℕ → List Flag → Type 0
AreOwn container flags = All (λ flag. flag.container ≡ container) flags

-- the first flag that is another container's stands at this position
pub record FirstStranger (container : List ℕ) (flags : List Flag) (position : ℕ) : Type 0 where
  pub flag : Flag
  pub at : slice_get flags position ≡ Some flag
  pub strange : flag.container ≢ container
  pub before : AreOwn container (take position flags)

-- a cache is read as flags, and all of them are the container's
abbrev pub IsOwnCache : List ℕ → Given → List Flag → Type 0
IsOwnCache container input flags = IsCache input flags × AreOwn container flags

-- or it is refused for its own first fault, or else for its first flag of another container
abbrev pub IsStrangeCache : List ℕ → Given → List ℕ → Type 0
IsStrangeCache container input what =
    (flags : List Flag) × (position : ℕ) × IsCache input flags × FirstStranger container flags position
    × (what ≡ codes "wrong-container flag " ++ decimal position)

abbrev pub IsNoOwnCache : List ℕ → Given → List ℕ → Type 0
IsNoOwnCache container input what = IsBadCache input what ⊎ IsStrangeCache container input what

-- ---- the image

-- where one of a set's files is written, and its bytes
abbrev pub set_writes : List ℕ → SetFiles → Writes
set_writes dir set =
    (file_in dir PackageMap, set.package_map) ∷ (file_in dir FlagMap, set.flag_map)
    ∷ (file_in dir FlagVal, set.flag_val) ∷ (file_in dir FlagInfo, set.flag_info) ∷ []

-- a name that is one of these four
abbrev pub IsFileIn : List ℕ → List ℕ → Type 0
IsFileIn dir name = (file : FileType) × (name ≡ file_in dir file)

-- `stored N flags in M packages HEX`
abbrev pub stored_words : ℕ → ℕ → List ℕ → List ℕ
stored_words flags packages digest =
    codes "stored " ++ decimal flags ++ codes " flags in " ++ decimal packages ++ codes " packages "
    ++ encode_lower digest ++ line_feed ∷ []

-- how many flags and packages an image has, and the digest of its files
abbrev pub stored_line : List Compiled → SetFiles → List ℕ
stored_line flags set = stored_words (length flags) (length (package_names flags)) (sha256 (joined set))

-- a limit that is passed; want of memory is none of them, and isn't printed
abbrev pub limit_words : BuildFault → List ℕ
limit_words (build.TooManyFlags count) = codes "too-many-flags " ++ decimal count
limit_words (build.TooLarge bytes) = codes "too-large " ++ decimal bytes
limit_words build.OutOfMemory = codes "out-of-memory"

-- what is told of the image of flags: its files are stored in DIR, or DIR is refused for the limit that is passed
abbrev pub image_told : List ℕ → List Compiled → Result SetFiles BuildFault → Outcome
image_told dir flags (Ok set) = Done (stored_line flags set) (set_writes dir set)
image_told dir flags (Err fault) = Refused dir (limit_words fault)

-- ---- the outcome

module _ (container dir : List ℕ) where
  -- what follows from merged flags
  abbrev pub FlagsStored : List Flag → Outcome → Type 0
  FlagsStored flags outcome =
      let compiled = map compiled_flag flags in outcome ≡ image_told dir compiled (built container compiled)

  -- what follows from the flags of caches of these names: no two of them may have one name
  abbrev pub ListsStored : List (List ℕ) → List (List Flag) → Outcome → Type 0
  ListsStored names lists = WithMerged names lists false FlagsStored

  -- What follows from the caches that were read: cache by cache its fault or its first flag of another container, then
  -- a clash, then the limits, and then the files.
  abbrev pub StoredGives : List Given → Outcome → Type 0
  StoredGives inputs =
      Judged (FirstRefused (IsOwnCache container) (IsNoOwnCache container) inputs)
      (AreAccepted (IsOwnCache container) (IsNoOwnCache container) inputs)
      (ListsStored (map (λ input. input.name) inputs))

-- the outcome for these words
abbrev pub CreateStorageGives : List ℕ → List ℕ → List (List ℕ) → Files → Outcome → Type 0
CreateStorageGives container dir names files = WithInputs (inputs_in files names) (StoredGives container dir)
