-- Compiling, as AOSP aconfig does it: which flags declarations and values make, and which of their tests fails first.
use Rattle.std.specs.Prelude.{◌≡◌, ℕ, ◌+◌, ◌<◌, Bool, false, not, IsTrue, List, [], ◌∷◌, ◌++◌, length, map}
use Rattle.std.specs.Prelude.{filter, Any, Contains, IsPermutation, MatchOption, ◌⊎◌, Option, None, Some, if◌then◌else◌}
use Rattle.std.specs.Prelude.{◌&&◌, codes}
use Rattle.std.specs.List.{flat_map, AllByRecursion}
use Rattle.std.specs.Str.{bytes_eq}
use Rattle.acfg_base.specs.Names.{IsName, IsPackage, IsContainer}
use Rattle.acfg_decls.specs.declared.flags.Flag.{Flag}
use Rattle.acfg_decls.specs.declared.flags.Point.{Point}
use Rattle.acfg_decls.specs.declared.declared.Placed.{Placed}
use Rattle.acfg_decls.specs.declared.declared.DeclaredFlag.{DeclaredFlag}
use Rattle.acfg_decls.specs.declared.declared.DeclarationsFile.{DeclarationsFile}
use Rattle.acfg_decls.specs.declared.declared.FlagValue.{FlagValue}
use Rattle.acfg_decls.specs.declared.declared.ValuesFile.{ValuesFile}
use Rattle.acfg_decls.specs.declared.faults.DeclWhat.{DeclWhat}
use Rattle.acfg_decls.specs.declared.faults.DeclWhat.TheVariants as what
use Rattle.acfg_decls.specs.declared.faults.CompileFault.{CompileFault}
use Rattle.acfg_decls.specs.declared.faults.CompileFault.TheVariants.{In, OutOfMemory}
use Rattle.acfg_decls.specs.declared.faults.DeclFault.{DeclFault}
use Rattle.acfg_decls.specs.declared.faults.DeclFault.TheVariants.{At, OutOfMemory as NoMemory}
use Rattle.acfg_decls.specs.Flags.{AreFlags}

-- declarations that name the container `system_ext` are of `system`
abbrev pub container_read : List ℕ → List ℕ
container_read container = if bytes_eq container (codes "system_ext") then codes "system" else container

-- ## The flags

-- the point of a declaration: DISABLED, and READ_WRITE unless the flag is fixed
abbrev pub start : List ℕ → DeclaredFlag → Point
start source flag = record { source = source; enabled = false; writable = not flag.fixed }

-- a value, and the file that it stands in
abbrev pub sourced : ValuesFile → List (List ℕ × FlagValue)
sourced file = map (λ value. (file.source, value)) file.values

-- whether a value is of this package and flag
abbrev pub is_of : List ℕ → List ℕ → List ℕ × FlagValue → Bool
is_of «package» name value = bytes_eq value.1.package.text «package» && bytes_eq value.1.name.text name

abbrev pub point_of : List ℕ × FlagValue → Point
point_of value = record { source = value.0; enabled = value.1.enabled; writable = value.1.writable }

-- the points of a flag behind its first: one for each of its values, in the order of the files and within them
abbrev pub points : List ℕ → List ℕ → List (List ℕ × FlagValue) → List Point
points «package» name values = map point_of (filter (is_of «package» name) values)

abbrev pub last_of : Point → List Point → Point
last_of point [] = point
last_of point (next ∷ rest) = last_of next rest

-- the flag of a declaration with these points behind its first: its last point says what it is
abbrev pub flag_with : List ℕ → List ℕ → List ℕ × DeclaredFlag → List Point → Flag
flag_with «package» container declared more =
    let first = start declared.0 declared.1 in
    record {
      «package» = «package»;
      name = declared.1.name.text;
      namespace = declared.1.namespace.text;
      description = declared.1.description.text;
      bugs = declared.1.bugs;
      enabled = (last_of first more).enabled;
      writable = (last_of first more).writable;
      trace = first ∷ more;
      fixed = declared.1.fixed;
      exported = declared.1.exported;
      container = container;
      purpose = declared.1.purpose;
    }

-- the flag that a declaration makes with these values
abbrev pub flag_of : List ℕ → List ℕ → List (List ℕ × FlagValue) → List ℕ × DeclaredFlag → Flag
flag_of «package» container values declared =
    flag_with «package» container declared (points «package» declared.1.name.text values)

-- the declared flags, each with the source of its file
abbrev pub declared : List DeclarationsFile → List (List ℕ × DeclaredFlag)
declared files = flat_map (λ file. map (λ flag. (file.source, flag)) file.flags) files

-- ## The tests, in their order

pub data Rule : Type 0 where
  Name : Rule
  Package : Rule
  Container : Rule

abbrev pub Keeps : Rule → List ℕ → Type 0
Keeps Name text = IsName text
Keeps Package text = IsPackage text
Keeps Container text = IsContainer text

pub data Test : Type 0 where
  -- a text is a lawful name
  Named : Rule → Placed → Test
  -- the file's package and container are those that are asked for
  OfPackage : List ℕ → Placed → Test
  OfContainer : List ℕ → Placed → Test
  -- a flag has a description, and one bug
  Described : Placed → Test
  Tracked : DeclaredFlag → Test
  -- no flag before it has its name, and there is room for it
  New : List (List ℕ) → DeclaredFlag → Test
  Room : List (List ℕ) → DeclaredFlag → Test
  -- a value makes no fixed flag READ_WRITE
  Free : List ℕ → List (List ℕ × DeclaredFlag) → FlagValue → Test

-- the most flags of a package
abbrev pub most_flags : ℕ
most_flags = 65535

-- the value makes a fixed flag of the package READ_WRITE
pub record Frees («package» : List ℕ) (flags : List (List ℕ × DeclaredFlag)) (value : FlagValue) : Type 0 where
  pub of : value.package.text ≡ «package»
  pub writable : IsTrue value.writable
  pub fixed : Any (λ flag. (flag.1.name.text ≡ value.name.text) × IsTrue flag.1.fixed) flags

abbrev pub Holds : Test → Type 0
Holds (Named rule placed) = Keeps rule placed.text
Holds (OfPackage asked placed) = placed.text ≡ asked
Holds (OfContainer asked placed) = container_read placed.text ≡ asked
Holds (Described placed) = 0 < length placed.text
Holds (Tracked flag) = length flag.bugs ≡ 1
Holds (New earlier flag) = Contains earlier flag.name.text → ⊥
Holds (Room earlier flag) = length earlier < most_flags
Holds (Free «package» flags value) = Frees «package» flags value → ⊥

abbrev pub place_of : Test → ℕ
place_of (Named rule placed) = placed.place
place_of (OfPackage asked placed) = placed.place
place_of (OfContainer asked placed) = placed.place
place_of (Described placed) = placed.place
place_of (Tracked flag) = flag.place
place_of (New earlier flag) = flag.place
place_of (Room earlier flag) = flag.place
place_of (Free «package» flags value) = value.place

abbrev pub what_of : Test → DeclWhat
what_of (Named rule placed) = what.BadName
what_of (OfPackage asked placed) = what.WrongPackage
what_of (OfContainer asked placed) = what.WrongContainer
what_of (Described placed) = what.EmptyDescription
what_of (Tracked flag) = what.BugCount (length flag.bugs)
what_of (New earlier flag) = what.Declared
what_of (Room earlier flag) = what.TooMany
what_of (Free «package» flags value) = what.FixedFlag

-- of these tests the first one that fails has this place and fault
abbrev pub FirstFails : List Test → ℕ → DeclWhat → Type 0
FirstFails [] place fault = ⊥
FirstFails (test ∷ tests) place fault =
    ((Holds test → ⊥) × (place ≡ place_of test) × (fault ≡ what_of test)) ⊎ (Holds test × FirstFails tests place fault)

-- a flag by itself
abbrev pub own_tests : DeclaredFlag → List Test
own_tests flag = Named Name flag.name ∷ Named Name flag.namespace ∷ Described flag.description ∷ Tracked flag ∷ []

-- a flag behind flags of these names
abbrev pub tests_behind : List (List ℕ) → DeclaredFlag → List Test
tests_behind earlier flag = own_tests flag ++ (New earlier flag ∷ Room earlier flag ∷ [])

-- flags, one behind the other
abbrev pub flag_tests : List (List ℕ) → List DeclaredFlag → List Test
flag_tests earlier [] = []
flag_tests earlier (flag ∷ flags) = tests_behind earlier flag ++ flag_tests (earlier ++ flag.name.text ∷ []) flags

abbrev pub names_of : List DeclaredFlag → List (List ℕ)
names_of flags = map (λ flag. flag.name.text) flags

-- what is asked of the container that a file names, where it names one
abbrev pub container_named : Option Placed → List Test
container_named None = []
container_named (Some container) = Named Container container ∷ []

abbrev pub container_asked : List ℕ → Option Placed → List Test
container_asked asked None = []
container_asked asked (Some container) = OfContainer asked container ∷ []

-- a declarations file's package and container
abbrev pub header_tests : List ℕ → List ℕ → DeclarationsFile → List Test
header_tests «package» container file =
    (Named Package file.package ∷ container_named file.container)
    ++ (OfPackage «package» file.package ∷ container_asked container file.container)

-- the tests of each declarations file, behind flags of these names
abbrev pub declarations_tests : List ℕ → List ℕ → List (List ℕ) → List DeclarationsFile → List (List Test)
declarations_tests «package» container earlier [] = []
declarations_tests «package» container earlier (file ∷ files) =
    (header_tests «package» container file ++ flag_tests earlier file.flags)
    ∷ declarations_tests «package» container (earlier ++ names_of file.flags) files

abbrev pub value_tests : List ℕ → List (List ℕ × DeclaredFlag) → FlagValue → List Test
value_tests «package» flags value =
    Named Package value.package ∷ Named Name value.name ∷ Free «package» flags value ∷ []

-- the tests of a values file, over the declared flags
abbrev pub file_tests : List ℕ → List (List ℕ × DeclaredFlag) → ValuesFile → List Test
file_tests «package» flags file = flat_map (value_tests «package» flags) file.values

-- the tests of each file, the declarations first and then the values
abbrev pub all_tests : List ℕ → List ℕ → List DeclarationsFile → List ValuesFile → List (List Test)
all_tests «package» container declarations values =
    declarations_tests «package» container [] declarations ++ map (file_tests «package» (declared declarations)) values

-- of the files' tests, numbered from a first file on, the first one that fails is in this file and has this place and
-- fault
abbrev pub FirstFailsIn : ℕ → List (List Test) → ℕ → ℕ → DeclWhat → Type 0
FirstFailsIn number [] file place fault = ⊥
FirstFailsIn number (tests ∷ more) file place fault =
    ((file ≡ number) × FirstFails tests place fault)
    ⊎ (AllByRecursion Holds tests × FirstFailsIn (number + 1) more file place fault)

-- ## What compiling answers

-- Declarations and values compile to these flags, the declared ones in the order of compiled flags.
pub record Compiles («package» container : List ℕ) (declarations : List DeclarationsFile) (values : List ValuesFile)
    (flags : List Flag) : Type 0 where
  pub passed : AllByRecursion (AllByRecursion Holds) (all_tests «package» container declarations values)
  pub are : AreFlags flags
  pub same : IsPermutation (map (flag_of «package» container (flat_map sourced values)) (declared declarations)) flags

-- The first fault of declarations and values, whose tests these are: its file, place and kind.
abbrev pub FailsToCompile : List (List Test) → ℕ → ℕ → DeclWhat → Type 0
FailsToCompile = FirstFailsIn 0

-- A file compiles to these flags with the package and the container that it names.
pub record CompilesOwn (file : DeclarationsFile) (flags : List Flag) : Type 0 where
  pub container : Placed
  pub named : file.container ≡ Some container
  pub compiles : Compiles file.package.text (container_read container.text) (file ∷ []) [] flags

-- The first fault of such a file: it names no container, or doesn't compile.
abbrev pub FailsOwn : DeclarationsFile → ℕ → ℕ → DeclWhat → Type 0
FailsOwn file number place fault =
    MatchOption file.container
    ((number ≡ 0) × (place ≡ file.end) × (fault ≡ what.MissingField))
    (λ container.
    FailsToCompile (all_tests file.package.text (container_read container.text) (file ∷ []) []) number place fault)

-- a fault in a file, for which this holds; nothing is said of a want of memory
abbrev pub IfIn : CompileFault → (ℕ → ℕ → DeclWhat → Type 0) → Type 0
IfIn (In file place fault) P = P file place fault
IfIn OutOfMemory P = Unit {0}

-- a fault at a place, for which this holds
abbrev pub IfAt : DeclFault → (ℕ → DeclWhat → Type 0) → Type 0
IfAt (At place fault) P = P place fault
IfAt NoMemory P = Unit {0}

-- a fault of a file, in the file of this position
abbrev pub in_file : ℕ → DeclFault → CompileFault
in_file number (At place fault) = In number place fault
in_file number NoMemory = OutOfMemory
