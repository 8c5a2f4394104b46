-- The one spelling of flags as a cache: fields in the order of their numbers, with shortest varints.
use Rattle.std.specs.Prelude.{ℕ, Bool, List, [], ◌++◌, Option, None, Some, if◌then◌else◌}
use Rattle.std.specs.List.{flat_map}
use Rattle.acfg_decls.specs.declared.flags.Flag.{Flag}
use Rattle.acfg_decls.specs.declared.flags.Point.{Point}
use Rattle.acfg_decls.specs.declared.flags.Purpose.{Purpose}
use Rattle.acfg_decls.specs.declared.flags.Purpose.TheVariants.{Unspecified, Feature, Bugfix}
use Rattle.acfg_wire.specs.Fields.{varint_field, bytes_field}

abbrev pub state_number : Bool → ℕ
state_number enabled = if enabled then 1 else 2

abbrev pub permission_number : Bool → ℕ
permission_number writable = if writable then 2 else 1

abbrev pub bool_number : Bool → ℕ
bool_number true_ = if true_ then 1 else 0

abbrev pub purpose_number : Purpose → ℕ
purpose_number Unspecified = 0
purpose_number Feature = 1
purpose_number Bugfix = 2

-- `tracepoint`: source, state, permission
abbrev pub point_bytes : Point → List ℕ
point_bytes point =
    bytes_field 1 point.source
    ++ (varint_field 2 (state_number point.enabled) ++ varint_field 3 (permission_number point.writable))

-- field 12 stands only where metadata was declared, and always has its purpose
abbrev pub metadata_field : Option Purpose → List ℕ
metadata_field None = []
metadata_field (Some purpose) = bytes_field 12 (varint_field 1 (purpose_number purpose))

-- the fields 1 to 4
abbrev pub named_fields : Flag → List ℕ
named_fields flag =
    bytes_field 1 flag.package
    ++ (bytes_field 2 flag.name ++ (bytes_field 3 flag.namespace ++ bytes_field 4 flag.description))

-- the fields 5 to 8: a bug and a trace are repeated
abbrev pub state_fields : Flag → List ℕ
state_fields flag =
    flat_map (λ bug. bytes_field 5 bug) flag.bugs
    ++ (varint_field 6 (state_number flag.enabled)
    ++ (varint_field 7 (permission_number flag.writable)
    ++ flat_map (λ point. bytes_field 8 (point_bytes point)) flag.trace))

-- the fields 9 to 12: 9 and 10 always stand
abbrev pub last_fields : Flag → List ℕ
last_fields flag =
    varint_field 9 (bool_number flag.fixed)
    ++ (varint_field 10 (bool_number flag.exported) ++ (bytes_field 11 flag.container ++ metadata_field flag.purpose))

-- `parsed_flag`
abbrev pub flag_bytes : Flag → List ℕ
flag_bytes flag = named_fields flag ++ (state_fields flag ++ last_fields flag)

-- `parsed_flags`: field 1 for each flag
abbrev pub cache : List Flag → List ℕ
cache flags = flat_map (λ flag. bytes_field 1 (flag_bytes flag)) flags
