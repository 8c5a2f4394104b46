-- The refusals of requests: the number and the name by which replies tell each of them.
use Rattle.std.specs.Prelude.{◌≡◌, ℕ, ◌==◌, List, [], ◌∷◌, find, codes}
use Rattle.std.specs.Option.{option_map_or}
use Rattle.acfg_model.specs.declared.refusals.Refusal.{Refusal}
use Rattle.acfg_model.specs.declared.refusals.Refusal.TheVariants.{BadRequest, UnknownContainer, UnknownFlag}
use Rattle.acfg_model.specs.declared.refusals.Refusal.TheVariants.{ReadOnly, NoBootCopy, NotBooted, NoOverride}
use Rattle.acfg_model.specs.declared.refusals.Refusal.TheVariants.{MissingFile, BadImage, FilesDisagree}
use Rattle.acfg_model.specs.declared.refusals.Refusal.TheVariants.{TooManyContainers, TooLong}

abbrev pub told_as : Refusal → ℕ × List ℕ
told_as BadRequest = (1, codes "bad-request")
told_as UnknownContainer = (2, codes "unknown-container")
told_as UnknownFlag = (3, codes "unknown-flag")
told_as ReadOnly = (4, codes "read-only")
told_as NoBootCopy = (5, codes "no-boot-copy")
told_as NotBooted = (6, codes "not-booted")
told_as NoOverride = (7, codes "no-override")
told_as MissingFile = (8, codes "missing-file")
told_as BadImage = (9, codes "bad-image")
told_as FilesDisagree = (10, codes "files-disagree")
told_as TooManyContainers = (11, codes "too-many-containers")
told_as TooLong = (12, codes "too-long")

abbrev pub number_of : Refusal → ℕ
number_of refusal = (told_as refusal).0

abbrev pub name_of : Refusal → List ℕ
name_of refusal = (told_as refusal).1

-- the number is that of a refusal
abbrev pub IsRefusal : ℕ → Type 0
IsRefusal number = (refusal : Refusal) × (number ≡ number_of refusal)

abbrev pub all_refusals : List Refusal
all_refusals =
    BadRequest ∷ UnknownContainer ∷ UnknownFlag ∷ ReadOnly ∷ NoBootCopy ∷ NotBooted
    ∷ NoOverride ∷ MissingFile ∷ BadImage ∷ FilesDisagree ∷ TooManyContainers ∷ TooLong ∷ []

-- the name of the refusal of that number
abbrev pub refusal_name : ℕ → List ℕ
refusal_name number = option_map_or name_of (find (λ refusal. number_of refusal == number) all_refusals) []
