-- What an update loads from a declarations file.
use Rattle.std.specs.Prelude.{◌≡◌, ◌≢◌, ◌⊎◌, ℕ, List, [], ◌∷◌, ◌++◌, Option, Some, None, codes}
use Rattle.sha2.specs.Sha256.{sha256}
use Rattle.acfg_decls.specs.declared.flags.Flag.{Flag}
use Rattle.acfg_decls.specs.declared.declared.DeclarationsFile.{DeclarationsFile}
use Rattle.acfg_decls.specs.declared.faults.DeclWhat.{DeclWhat}
use Rattle.acfg_decls.specs.declared.faults.DeclWhat.TheVariants.{WrongContainer}
use Rattle.acfg_decls.specs.declared.messages.Message.TheVariants.{FlagDeclarations}
use Rattle.acfg_decls.specs.Compile.{Compiles, FailsToCompile, all_tests}
use Rattle.acfg_decls.specs.Reading.{Declares, Refuses}
use Rattle.acfg_decls.specs.Releases.{release}
use Rattle.acfg_device.specs.Panel.{Files}
use Rattle.acfg_model.specs.declared.requests.Loaded.{Loaded}
use Rattle.acfg_model.specs.declared.requests.Loaded.TheVariants.{Missing, Bad, Disagree, Release}
use Rattle.acfg_model.specs.declared.requests.Request.{Request}
use Rattle.acfg_model.specs.declared.requests.Request.TheVariants.{Update, Server, Local, Unset, Boot, Get}

-- the declarations file of a directory
abbrev pub source_path : List ℕ → List ℕ
source_path dir = dir ++ codes "/flags.aconfig"

-- a file compiled by itself for a container, with the package that it names
abbrev pub CompilesFor : List ℕ → DeclarationsFile → List Flag → Type 0
CompilesFor container file flags = Compiles file.package.text container (file ∷ []) [] flags

-- its first fault
pub record FailsFor (container : List ℕ) (file : DeclarationsFile) (fault : DeclWhat) : Type 0 where
  pub number : ℕ
  pub place : ℕ
  pub first : FailsToCompile (all_tests file.package.text container (file ∷ []) []) number place fault

-- What the bytes at a path load as for a container: its flags behind the SHA-256 digest of the bytes (FIPS 180-4),
-- where they are declarations that compile for it.
abbrev pub BytesLoad : List ℕ → List ℕ → List ℕ → Loaded → Type 0
BytesLoad container path bytes Missing = ⊥
BytesLoad container path bytes Bad =
    ((place : ℕ) × (fault : DeclWhat) × Refuses FlagDeclarations bytes place fault)
    ⊎ ((file : DeclarationsFile) × (fault : DeclWhat) × Declares path bytes file × FailsFor container file fault
    × (fault ≢ WrongContainer))
BytesLoad container path bytes Disagree =
    (file : DeclarationsFile) × Declares path bytes file × FailsFor container file WrongContainer
BytesLoad container path bytes (Release digest loaded) =
    (file : DeclarationsFile) × (flags : List Flag) × Declares path bytes file × CompilesFor container file flags
    × (digest ≡ sha256 bytes) × (loaded ≡ release flags)

abbrev pub FileLoads : List ℕ → List ℕ → Option (List ℕ) → Loaded → Type 0
FileLoads container path None loaded = loaded ≡ Missing
FileLoads container path (Some bytes) loaded = BytesLoad container path bytes loaded

-- what is loaded for a request: the declarations file of an update's directory, and nothing for another request
abbrev pub Loads : Files → Request → Option Loaded → Type 0
Loads files (Update name dir) None = ⊥
Loads files (Update name dir) (Some loaded) = FileLoads name (source_path dir) (files (source_path dir)) loaded
Loads files (Server name «package» flag value) loaded = loaded ≡ None
Loads files (Local name «package» flag value now) loaded = loaded ≡ None
Loads files (Unset name «package» flag now) loaded = loaded ≡ None
Loads files Boot loaded = loaded ≡ None
Loads files (Get name «package» flag) loaded = loaded ≡ None
