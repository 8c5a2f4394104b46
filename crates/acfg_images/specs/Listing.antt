-- How the code lists the flags of a set. No public clause cites these words.
use Rattle.std.specs.Prelude.{◌≡◌, ℕ, ◌<◌, List, length, Option, None, slice_index_or}
use Rattle.std.specs.Option.{option_map}
use Rattle.acfg_base.specs.Names.{IsName, IsPackage}
use Rattle.acfg_base.specs.declared.releases.Entry.{Entry}
use Rattle.acfg_views.specs.declared.nodes.PackageNode.{PackageNode}
use Rattle.acfg_views.specs.Layout.{Package, Flag}
use Rattle.acfg_views.specs.Reading.{package_of}
use Rattle.acfg_images.specs.Set.{Listed, listed_flag, package_with, index_of}
use Rattle.acfg_images.specs.Faults.{Opened, packages_in, parts_in}

-- the entry of a flag that a set lists
abbrev pub entry_of : Listed → Entry
entry_of row = record { «package» = row.package; flag = row.flag; kind = row.kind; value = row.value }

-- the entry of a flag of four open files
abbrev pub entry_in : Opened → Flag → Entry
entry_in opened flag = entry_of (listed_flag (parts_in opened) flag)

-- a table holds, at each id in it, the package that has it
abbrev pub HasPackages : List (Option PackageNode) → List Package → Type 0
HasPackages table packages =
    (id : ℕ) → id < length table → option_map package_of (slice_index_or table id None) ≡ package_with packages id

-- a flag whose package, names and value are there
pub record IsListable (opened : Opened) (flag : Flag) : Type 0 where
  pub known : flag.package_id < length (packages_in opened)
  pub «package» : IsPackage (entry_in opened flag).package
  pub name : IsName flag.name
  pub index : index_of (packages_in opened) flag < opened.values.count
