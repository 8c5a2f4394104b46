-- The parts of a template and the text of each: raw bytes, where a brace is given twice, and placeholders.
use Rattle.std.specs.Prelude.{ℕ, ◌==◌, ◌||◌, Bool, if◌then◌else◌, List, [], ◌∷◌, ◌++◌, map, codes}
use Rattle.acfg_base.specs.Bytes.{open_brace, close_brace}
use Rattle.acfg_dump.specs.declared.parts.Part.{Part}
use Rattle.acfg_dump.specs.declared.parts.Part.TheVariants.{Byte, Value}
use Rattle.acfg_dump.specs.declared.parts.Placeholder.{Placeholder}
use Rattle.acfg_dump.specs.declared.parts.Placeholder.TheVariants as placeholder

abbrev pub is_brace : ℕ → Bool
is_brace byte = (byte == open_brace) || (byte == close_brace)

-- what stands between a placeholder's braces
abbrev pub placeholder_name : Placeholder → List ℕ
placeholder_name placeholder.Package = codes "package"
placeholder_name placeholder.Name = codes "name"
placeholder_name placeholder.FullyQualifiedName = codes "fully_qualified_name"
placeholder_name placeholder.Namespace = codes "namespace"
placeholder_name placeholder.Description = codes "description"
placeholder_name placeholder.Bug = codes "bug"
placeholder_name placeholder.State = codes "state"
placeholder_name placeholder.StateBool = codes "state:bool"
placeholder_name placeholder.Permission = codes "permission"
placeholder_name placeholder.IsFixedReadOnly = codes "is_fixed_read_only"
placeholder_name placeholder.IsExported = codes "is_exported"
placeholder_name placeholder.Container = codes "container"
placeholder_name placeholder.Purpose = codes "purpose"
placeholder_name placeholder.Trace = codes "trace"

-- a part as a template spells it: a brace is given twice, another byte is itself, a placeholder stands in braces
abbrev pub spelled : Part → List ℕ
spelled (Byte byte) = if is_brace byte then byte ∷ byte ∷ [] else byte ∷ []
spelled (Value value) = open_brace ∷ placeholder_name value ++ close_brace ∷ []

-- bytes that are printed as they are
abbrev pub raw : List ℕ → List Part
raw bytes = map Byte bytes
