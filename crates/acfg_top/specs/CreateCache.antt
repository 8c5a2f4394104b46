-- The outcome of `create-cache PACKAGE CONTAINER OUT FILE..`: declarations and values compiled, and written as a cache.
use Rattle.std.specs.Prelude.{◌≡◌, ℕ, ◌==◌, Bool, not, List, [], ◌∷◌, ◌++◌, filter, length, map, slice_index_or, codes}
use Rattle.std.specs.Fmt.{decimal}
use Rattle.std.specs.List.{ends_with}
use Rattle.acfg_base.specs.Bytes.{line_feed}
use Rattle.acfg_decls.specs.declared.declared.DeclarationsFile.{DeclarationsFile}
use Rattle.acfg_decls.specs.declared.declared.ValuesFile.{ValuesFile}
use Rattle.acfg_decls.specs.declared.faults.DeclWhat.{DeclWhat}
use Rattle.acfg_decls.specs.declared.flags.Flag.{Flag}
use Rattle.acfg_decls.specs.declared.messages.Message.TheVariants.{FlagDeclarations, FlagValues}
use Rattle.acfg_decls.specs.Compile.{Compiles, FailsToCompile, container_read, all_tests}
use Rattle.acfg_decls.specs.Reading.{Declares, Refuses, Sets}
use Rattle.acfg_cache.specs.Writing.{cache}
use Rattle.acfg_device.specs.Panel.{Files}
use Rattle.acfg_top.specs.Flags.{fault_words}
use Rattle.acfg_top.specs.Inputs.{Given, Judged, WithInputs, AreAccepted, FirstRefused, inputs_in}
use Rattle.acfg_top.specs.Outcome.{Outcome, Done}

-- a file whose name ends in `.aconfig` has declarations; any other one has values
abbrev pub has_declarations : Given → Bool
has_declarations input = ends_with (λ a b. a == b) input.name (codes ".aconfig")

abbrev pub has_values : Given → Bool
has_values input = not (has_declarations input)

-- a file is read as declarations, or refused for its first fault
abbrev pub IsDeclarations : Given → DeclarationsFile → Type 0
IsDeclarations input file = Declares input.name input.bytes file

abbrev pub IsBadDeclarations : Given → List ℕ → Type 0
IsBadDeclarations input what =
    (place : ℕ) × (fault : DeclWhat) × Refuses FlagDeclarations input.bytes place fault
    × (what ≡ fault_words place fault)

-- and so as values
abbrev pub IsValues : Given → ValuesFile → Type 0
IsValues input file = Sets input.name input.bytes file

abbrev pub IsBadValues : Given → List ℕ → Type 0
IsBadValues input what =
    (place : ℕ) × (fault : DeclWhat) × Refuses FlagValues input.bytes place fault × (what ≡ fault_words place fault)

-- the names of files in the order in which they are compiled: the declarations, and then the values
abbrev pub sources : List DeclarationsFile → List ValuesFile → List (List ℕ)
sources declarations values = map (λ file. file.source) declarations ++ map (λ file. file.source) values

-- the first fault of compiling is refused for its file
pub record IsBadSource («package» container : List ℕ) (declarations : List DeclarationsFile) (values : List ValuesFile)
    (file what : List ℕ) : Type 0 where
  pub number : ℕ
  pub place : ℕ
  pub fault : DeclWhat
  pub first : FailsToCompile (all_tests «package» container declarations values) number place fault
  pub is_file : file ≡ slice_index_or (sources declarations values) number []
  pub is_fault : what ≡ fault_words place fault

-- `cached N flags`
abbrev pub cached_count : ℕ → List ℕ
cached_count count = codes "cached " ++ decimal count ++ codes " flags" ++ line_feed ∷ []

-- what follows from the flags: their cache at OUT
abbrev pub FlagsCached : List ℕ → List Flag → Outcome → Type 0
FlagsCached out flags outcome = outcome ≡ Done (cached_count (length flags)) ((out, cache flags) ∷ [])

module _ («package» container out : List ℕ) where
  -- what follows from declarations and values that are read
  abbrev pub SourcesGive : List DeclarationsFile → List ValuesFile → Outcome → Type 0
  SourcesGive declarations values =
      Judged (IsBadSource «package» container declarations values) (Compiles «package» container declarations values)
      (FlagsCached out)

  -- what follows from declarations that are read: the values are read next
  abbrev pub ValuesGive : List Given → List DeclarationsFile → Outcome → Type 0
  ValuesGive inputs declarations =
      Judged (FirstRefused IsValues IsBadValues (filter has_values inputs))
      (AreAccepted IsValues IsBadValues (filter has_values inputs)) (SourcesGive declarations)

  -- what follows from the files: the declarations are read first
  abbrev pub InputsGive : List Given → Outcome → Type 0
  InputsGive inputs =
      Judged (FirstRefused IsDeclarations IsBadDeclarations (filter has_declarations inputs))
      (AreAccepted IsDeclarations IsBadDeclarations (filter has_declarations inputs)) (ValuesGive inputs)

-- the outcome for these words; the container `system_ext` means `system`
abbrev pub CreateCacheGives : List ℕ → List ℕ → List ℕ → List (List ℕ) → Files → Outcome → Type 0
CreateCacheGives «package» container out names files =
    WithInputs (inputs_in files names) (InputsGive «package» (container_read container) out)
