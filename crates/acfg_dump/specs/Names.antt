-- A flag's values by their names, as AOSP aconfig's enums have them.
use Rattle.std.specs.Prelude.{ℕ, Bool, List, [], Option, None, Some, if◌then◌else◌, codes}
use Rattle.acfg_decls.specs.declared.flags.Purpose.{Purpose}
use Rattle.acfg_decls.specs.declared.flags.Purpose.TheVariants.{Unspecified, Feature, Bugfix}

abbrev pub permission_name : Bool → List ℕ
permission_name writable = if writable then codes "READ_WRITE" else codes "READ_ONLY"

abbrev pub state_name : Bool → List ℕ
state_name enabled = if enabled then codes "ENABLED" else codes "DISABLED"

-- nothing where there is no metadata
abbrev pub purpose_name : Option Purpose → List ℕ
purpose_name None = []
purpose_name (Some Unspecified) = codes "PURPOSE_UNSPECIFIED"
purpose_name (Some Feature) = codes "PURPOSE_FEATURE"
purpose_name (Some Bugfix) = codes "PURPOSE_BUGFIX"
