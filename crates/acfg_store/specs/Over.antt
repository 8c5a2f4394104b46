-- Private: the files of an override slot as they were read, over the flags of a release. No public clause cites it.
use Rattle.std.specs.Prelude.{◌≡◌, ℕ, ⊤, List, [], ◌∷◌, map, Option, Some, None, option_map, IfSome}
use Rattle.acfg_model.specs.declared.containers.FlagState.{FlagState}
use Rattle.acfg_store.specs.declared.locals.LocalOverride.{LocalOverride}
use Rattle.acfg_store.specs.declared.names.OverrideFile.{OverrideFile}
use Rattle.acfg_store.specs.declared.names.OverrideFile.TheVariants.{FlagVal, FlagInfo, Local, Log}
use Rattle.acfg_store.specs.declared.placed.Placed.{Placed}
use Rattle.acfg_store.specs.declared.slots.OverrideFiles.{OverrideFiles}
use Rattle.acfg_store.specs.Placed.{AreLocalsOver, IsInfoAt, IsListOver, IsValueAt, state_row}
use Rattle.acfg_views.specs.Fields.{IsBytes}
use Rattle.acfg_views.specs.Layout.{flag_info_type, flag_val_type}
use Rattle.acfg_views.specs.Reading.{IsOpenList, OpenList}

-- the files that are read, in order
abbrev pub three_files : List OverrideFile
three_files = FlagVal ∷ FlagInfo ∷ Local ∷ []

-- what was read of each file
abbrev pub read_over : OverrideFiles → OverrideFile → Option (List ℕ)
read_over read FlagVal = option_map (λ bytes. bytes.items) read.values
read_over read FlagInfo = option_map (λ bytes. bytes.items) read.infos
read_over read Local = option_map (λ bytes. bytes.items) read.locals
read_over read Log = None

-- what was read are bytes
abbrev pub AreBytesIn : (OverrideFile → Option (List ℕ)) → Type 0
AreBytesIn held = (file : OverrideFile) → IfSome (held file) IsBytes

module _ (container : List ℕ) (count : ℕ) (flags : List Placed) where
  -- the file was there, and is a list of one lawful byte a flag
  pub record HasList (held : Option (List ℕ)) (file_type : ℕ) (IsLawful : Placed → ℕ → Type 0)
      (list : OpenList) : Type 0 where
    pub bytes : List ℕ
    pub there : held ≡ Some bytes
    pub is : IsListOver file_type bytes container count IsLawful flags list

  -- the file was there, and lists local overrides
  pub record HasLocalsOver (held : Option (List ℕ)) (locals : List LocalOverride) : Type 0 where
    pub bytes : List ℕ
    pub there : held ≡ Some bytes
    pub is : AreLocalsOver bytes count flags locals

  abbrev pub HasValues : Option (List ℕ) → OpenList → Type 0
  HasValues held values = HasList held flag_val_type IsValueAt values

  abbrev pub HasInfos : Option (List ℕ) → OpenList → OpenList → Type 0
  HasInfos held values infos = HasList held flag_info_type (IsInfoAt values) infos

  -- nothing is at fault in a file, where nothing is in those before it
  abbrev pub IsSoundOver : (OverrideFile → Option (List ℕ)) → OverrideFile → Type 0
  IsSoundOver held FlagVal = (values : OpenList) × HasValues (held FlagVal) values
  IsSoundOver held FlagInfo = (values : OpenList) → HasValues (held FlagVal) values
      → (infos : OpenList) × HasInfos (held FlagInfo) values infos
  IsSoundOver held Local = (locals : List LocalOverride) × HasLocalsOver (held Local) locals
  IsSoundOver held Log = ⊤

  -- the flags with the overrides that the files hold
  pub record AreOverrides (held : OverrideFile → Option (List ℕ)) (rows : List FlagState) : Type 0 where
    pub values : OpenList
    pub infos : OpenList
    pub locals : List LocalOverride
    pub has_values : HasValues (held FlagVal) values
    pub has_infos : HasInfos (held FlagInfo) values infos
    pub has_locals : HasLocalsOver (held Local) locals
    pub values_open : IsOpenList flag_val_type values
    pub infos_open : IsOpenList flag_info_type infos
    pub rows_are : rows ≡ map (state_row values infos locals) flags
