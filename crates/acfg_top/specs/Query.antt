-- The outcome of `query DIR P F`: what the four files of a set in DIR list of a flag.
use Rattle.std.specs.Prelude.{◌≡◌, ℕ, List, [], ◌∷◌, ◌++◌, Bool, Option, None, Some, Result, Ok, Err}
use Rattle.std.specs.Prelude.{codes}
use Rattle.std.specs.Fmt.{decimal}
use Rattle.std.specs.Option.{option_map}
use Rattle.acfg_base.specs.Bytes.{line_feed}
use Rattle.acfg_base.specs.Words.{bool_word}
use Rattle.acfg_base.specs.declared.releases.Kind.{Kind}
use Rattle.acfg_base.specs.declared.releases.Kind.TheVariants.{ReadWrite, ReadOnly, Fixed}
use Rattle.acfg_device.specs.Panel.{Files}
use Rattle.acfg_views.specs.declared.fault.ViewFault.{ViewFault}
use Rattle.acfg_views.specs.declared.fault.ViewFault.TheVariants as view
use Rattle.acfg_images.specs.declared.fault.FileType.{FileType}
use Rattle.acfg_images.specs.declared.fault.FileType.TheVariants.{PackageMap, FlagMap, FlagVal, FlagInfo}
use Rattle.acfg_images.specs.declared.fault.Point2.{Point2}
use Rattle.acfg_images.specs.declared.fault.Point2.TheVariants as point
use Rattle.acfg_images.specs.declared.fault.ImageFault.{ImageFault}
use Rattle.acfg_images.specs.declared.fault.ImageFault.TheVariants as image
use Rattle.acfg_images.specs.declared.purpose.Use.TheVariants.{Copy}
use Rattle.acfg_images.specs.Files.{Files as SetFiles}
use Rattle.acfg_images.specs.Faults.{Opened, checked, parts_in}
use Rattle.acfg_images.specs.Set.{listed}
use Rattle.acfg_top.specs.Outcome.{Outcome, Refused, Done}

-- ---- the four files

-- the names of a set's files
abbrev pub file_name : FileType → List ℕ
file_name PackageMap = codes "package.map"
file_name FlagMap = codes "flag.map"
file_name FlagVal = codes "flag.val"
file_name FlagInfo = codes "flag.info"

-- `DIR/NAME`
abbrev pub file_in : List ℕ → FileType → List ℕ
file_in dir file = dir ++ codes "/" ++ file_name file

-- all four files, or the first one that isn't there
abbrev pub all_four : Option (List ℕ) → Option (List ℕ) → Option (List ℕ) → Option (List ℕ) → Result SetFiles FileType
all_four None flag_map flag_val flag_info = Err PackageMap
all_four (Some package_map) None flag_val flag_info = Err FlagMap
all_four (Some package_map) (Some flag_map) None flag_info = Err FlagVal
all_four (Some package_map) (Some flag_map) (Some flag_val) None = Err FlagInfo
all_four (Some package_map) (Some flag_map) (Some flag_val) (Some flag_info) = Ok (record {
  package_map = package_map;
  flag_map = flag_map;
  flag_val = flag_val;
  flag_info = flag_info;
})

-- the set in DIR
abbrev pub set_in : List ℕ → Files → Result SetFiles FileType
set_in dir files = all_four (files (file_in dir PackageMap)) (files (file_in dir FlagMap))
    (files (file_in dir FlagVal)) (files (file_in dir FlagInfo))

-- ---- faults, as they are printed

-- A bad kind is never told: it stands in a node, and then the node is.
abbrev pub view_words : ViewFault → List ℕ
view_words view.Short = codes "short"
view_words (view.BadVersion version) = codes "bad-version " ++ decimal version
view_words view.BadText = codes "bad-text"
view_words (view.BadFileType type) = codes "bad-file-type " ++ decimal type
view_words (view.BadSize size) = codes "bad-size " ++ decimal size
view_words view.BadOffsets = codes "bad-offsets"
view_words (view.BadKind kind) = codes "bad-kind " ++ decimal kind

abbrev pub point_words : Point2 → List ℕ
point_words point.Container = codes "container"
point_words point.Id = codes "id"
point_words point.Count = codes "count"
point_words point.Package = codes "package"
point_words point.Index = codes "index"
point_words point.Kind = codes "kind"

-- want of memory is no fault of files, and isn't printed
abbrev pub image_words : ImageFault → List ℕ
image_words (image.TooLarge bytes) = codes "too-large " ++ decimal bytes
image_words (image.View file fault) = view_words fault
image_words (image.Node file at) = codes "node at " ++ decimal at
image_words (image.Twice file at) = codes "twice at " ++ decimal at
image_words (image.Chain file at) = codes "chain at " ++ decimal at
image_words (image.Bits file at) = codes "bits at " ++ decimal at
image_words (image.Disagree what a b) =
    codes "disagree " ++ point_words what ++ codes " " ++ decimal a ++ codes " " ++ decimal b
image_words image.OutOfMemory = codes "out-of-memory"

-- the file that is named with a fault: package.map where it is none of one file
abbrev pub faulty_file : ImageFault → FileType
faulty_file (image.TooLarge bytes) = PackageMap
faulty_file (image.View file fault) = file
faulty_file (image.Node file at) = file
faulty_file (image.Twice file at) = file
faulty_file (image.Chain file at) = file
faulty_file (image.Bits file at) = file
faulty_file (image.Disagree what a b) = PackageMap
faulty_file image.OutOfMemory = PackageMap

-- ---- the answer

abbrev pub kind_name : Kind → List ℕ
kind_name ReadWrite = codes "read-write"
kind_name ReadOnly = codes "read-only"
kind_name Fixed = codes "fixed"

-- `P.F: KIND V`
abbrev pub found_line : List ℕ → List ℕ → Kind → Bool → List ℕ
found_line name flag kind value =
    name ++ codes "." ++ flag ++ codes ": " ++ kind_name kind ++ codes " " ++ bool_word value ++ line_feed ∷ []

-- the line for a flag that is there, or `none`
abbrev pub answer_line : List ℕ → List ℕ → Option (Kind × Bool) → List ℕ
answer_line name flag None = codes "none" ++ line_feed ∷ []
answer_line name flag (Some (kind, value)) = found_line name flag kind value

-- the kind and the value that an open set lists for a flag
abbrev pub listed_in : Opened → List ℕ → List ℕ → Option (Kind × Bool)
listed_in opened name flag = option_map (λ row. (row.kind, row.value)) (listed (parts_in opened) name flag)

-- what is told of a set that was checked: its first fault, or what it lists for the flag
abbrev pub told_of : List ℕ → List ℕ → List ℕ → Result Opened ImageFault → Outcome
told_of dir name flag (Err fault) = Refused (file_in dir (faulty_file fault)) (image_words fault)
told_of dir name flag (Ok opened) = Done (answer_line name flag (listed_in opened name flag)) []

-- what is told of four files, which may have overrides noted, or of the first one that isn't there
abbrev pub judged : List ℕ → List ℕ → List ℕ → Result SetFiles FileType → Outcome
judged dir name flag (Err missing) = Refused (file_in dir missing) (codes "missing")
judged dir name flag (Ok files) = told_of dir name flag (checked Copy files)

-- the outcome for the files in DIR
abbrev pub QueryGives : List ℕ → List ℕ → List ℕ → Files → Outcome → Type 0
QueryGives dir name flag files outcome = outcome ≡ judged dir name flag (set_in dir files)
