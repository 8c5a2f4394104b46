-- What an update loads: the four files of a folder, as a release of a container.
use Rattle.std.specs.Prelude.{ℕ, List, Option, Some, None, Result, Ok, Err, if◌then◌else◌}
use Rattle.std.specs.Str.{bytes_eq}
use Rattle.acfg_device.specs.Panel.{Files}
use Rattle.acfg_images.specs.declared.fault.FileType.TheVariants.{PackageMap, FlagMap, FlagVal, FlagInfo}
use Rattle.acfg_images.specs.declared.fault.ImageFault.{ImageFault}
use Rattle.acfg_images.specs.declared.fault.ImageFault.TheVariants as fault
use Rattle.acfg_images.specs.declared.purpose.Use.TheVariants as purpose
use Rattle.acfg_images.specs.Faults.{Opened, checked}
use Rattle.acfg_images.specs.Files as four
use Rattle.acfg_images.specs.Laws.{release_of}
use Rattle.acfg_model.specs.declared.requests.Loaded.{Loaded}
use Rattle.acfg_model.specs.declared.requests.Loaded.TheVariants.{Missing, Bad, Disagree, Release}
use Rattle.acfg_model.specs.declared.requests.Request.{Request}
use Rattle.acfg_model.specs.declared.requests.Request.TheVariants.{Update, Server, Local, Unset, Boot, Get}
use Rattle.acfg_store.specs.Names.{source_path}
use Rattle.sha2.specs.Sha256.{sha256}

-- the set of four files, where all of them are there
abbrev pub set_of : (package_map flag_map flag_val flag_info : Option (List ℕ)) → Option four.Files
set_of (Some package_map) (Some flag_map) (Some flag_val) (Some flag_info) = Some (record {
  package_map = package_map;
  flag_map = flag_map;
  flag_val = flag_val;
  flag_info = flag_info;
})
set_of package_map flag_map flag_val flag_info = None

-- files that don't agree are told apart from all others that are no set
abbrev pub fault_loads : ImageFault → Loaded
fault_loads (fault.TooLarge bytes) = Bad
fault_loads (fault.View file why) = Bad
fault_loads (fault.Node file at) = Bad
fault_loads (fault.Twice file at) = Bad
fault_loads (fault.Chain file at) = Bad
fault_loads (fault.Bits file at) = Bad
fault_loads (fault.Disagree what a b) = Disagree
fault_loads fault.OutOfMemory = Bad

-- What a set loads as for a container, once it was checked as a release: the release behind the SHA-256 digest of the
-- four files joined, where it is of that container.
abbrev pub checked_loads : List ℕ → four.Files → Result Opened ImageFault → Loaded
checked_loads container set (Ok opened) =
    if bytes_eq opened.package_map.container container then Release (sha256 (four.joined set)) (release_of opened)
    else Disagree
checked_loads container set (Err why) = fault_loads why

-- what is found of four files loads as this
abbrev pub set_loads : List ℕ → Option four.Files → Loaded
set_loads container None = Missing
set_loads container (Some set) = checked_loads container set (checked purpose.Release set)

-- the set that stands in a folder
abbrev pub set_in : Files → List ℕ → Option four.Files
set_in files folder = set_of (files (source_path folder PackageMap)) (files (source_path folder FlagMap))
    (files (source_path folder FlagVal)) (files (source_path folder FlagInfo))

-- what is loaded for a request: the set in an update's folder, and nothing for another request
abbrev pub image_load : Files → Request → Option Loaded
image_load files (Update name folder) = Some (set_loads name (set_in files folder))
image_load files (Server name «package» flag value) = None
image_load files (Local name «package» flag value now) = None
image_load files (Unset name «package» flag now) = None
image_load files Boot = None
image_load files (Get name «package» flag) = None
