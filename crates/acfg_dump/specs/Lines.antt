-- The lines of a dump: a flag's values in the place of the placeholders of a template.
use Rattle.std.specs.Prelude.{ℕ, Bool, List, [], ◌∷◌, ◌++◌, map, filter, codes}
use Rattle.std.specs.List.{flat_map, join_with_byte}
use Rattle.acfg_base.specs.Bytes.{line_feed, comma}
use Rattle.acfg_base.specs.Words.{bool_word}
use Rattle.acfg_decls.specs.Flags.{full_name}
use Rattle.acfg_decls.specs.declared.flags.Flag.{Flag}
use Rattle.acfg_decls.specs.declared.flags.Point.{Point}
use Rattle.acfg_dump.specs.declared.conditions.Condition.{Condition}
use Rattle.acfg_dump.specs.declared.parts.Part.{Part}
use Rattle.acfg_dump.specs.declared.parts.Part.TheVariants.{Byte, Value}
use Rattle.acfg_dump.specs.declared.parts.Placeholder.{Placeholder}
use Rattle.acfg_dump.specs.declared.parts.Placeholder.TheVariants as placeholder
use Rattle.acfg_dump.specs.Filter.{lets_through}
use Rattle.acfg_dump.specs.Names.{permission_name, purpose_name, state_name}

-- `SOURCE=STATE/PERMISSION`
abbrev pub point_text : Point → List ℕ
point_text point = point.source ++ codes "=" ++ state_name point.enabled ++ codes "/" ++ permission_name point.writable

-- what stands in the place of a placeholder
abbrev pub value_text : Flag → Placeholder → List ℕ
value_text flag placeholder.Package = flag.package
value_text flag placeholder.Name = flag.name
value_text flag placeholder.FullyQualifiedName = full_name flag
value_text flag placeholder.Namespace = flag.namespace
value_text flag placeholder.Description = flag.description
value_text flag placeholder.Bug = join_with_byte comma flag.bugs
value_text flag placeholder.State = state_name flag.enabled
value_text flag placeholder.StateBool = bool_word flag.enabled
value_text flag placeholder.Permission = permission_name flag.writable
value_text flag placeholder.IsFixedReadOnly = bool_word flag.fixed
value_text flag placeholder.IsExported = bool_word flag.exported
value_text flag placeholder.Container = flag.container
value_text flag placeholder.Purpose = purpose_name flag.purpose
value_text flag placeholder.Trace = join_with_byte comma (map point_text flag.trace)

abbrev pub part_text : Flag → Part → List ℕ
part_text flag (Byte byte) = byte ∷ []
part_text flag (Value value) = value_text flag value

-- a flag's line
abbrev pub line : List Part → Flag → List ℕ
line parts flag = flat_map (part_text flag) parts ++ line_feed ∷ []

-- The dump of flags by a template, of those that a filter lets through: a line each, in their order.
abbrev pub lines : List Part → List (List Condition) → List Flag → List ℕ
lines template alternatives flags = flat_map (line template) (filter (lets_through alternatives) flags)

-- a flag's line in the format `text`: `PACKAGE.NAME [CONTAINER]: PERMISSION + STATE`
abbrev pub flag_line : Flag → List ℕ
flag_line flag =
    flag.package ++ codes "." ++ flag.name ++ codes " [" ++ flag.container ++ codes "]: "
    ++ permission_name flag.writable ++ codes " + " ++ state_name flag.enabled ++ line_feed ∷ []
