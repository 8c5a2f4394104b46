-- What the types of a flag's parts keep: lawful names, and texts that are UTF-8.
use Rattle.std.specs.Prelude.{List, All, IsUtf8}
use Rattle.acfg_base.specs.Names.{IsName, IsPackage, IsContainer}
use Rattle.acfg_decls.specs.declared.flags.Flag.{Flag}
use Rattle.acfg_decls.specs.declared.flags.Point.{Point}

-- the sources of a trace are texts
abbrev pub HaveSources : List Point → Type 0
HaveSources points = All (λ point. IsUtf8 point.source) points

-- the texts of the fields 1 to 4, of 5 to 8, and of 9 to 12
pub record HasNames (flag : Flag) : Type 0 where
  pub of_package : IsPackage flag.package
  pub of_name : IsName flag.name
  pub of_namespace : IsName flag.namespace
  pub of_description : IsUtf8 flag.description

pub record HasMiddle (flag : Flag) : Type 0 where
  pub of_bugs : All IsUtf8 flag.bugs
  pub of_sources : HaveSources flag.trace

abbrev pub HasEnd : Flag → Type 0
HasEnd flag = IsContainer flag.container

-- each value of the type `Flag` has these
pub record HasTexts (flag : Flag) : Type 0 where
  pub names : HasNames flag
  pub middle : HasMiddle flag
  pub of_container : HasEnd flag
