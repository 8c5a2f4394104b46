use Rattle.std.proofs.Common.{◌≡◌, ℕ, List, [], ◌∷◌, ◌++◌, Bool, true, map, filter, codes, refl, sym, ap, subst, ◌∙◌, append_assoc, inl, inr}
use Rattle.std.specs.List.{flat_map, list_all, list_any}
use Rattle.acfg_decls.specs.declared.flags.Flag.{Flag}
use Rattle.acfg_dump.specs.declared.conditions.Condition.{Condition}
use Rattle.acfg_dump.specs.declared.parts.Part.{Part}
use Rattle.acfg_dump.specs.declared.parts.Part.TheVariants.{Byte, Value}
use Rattle.acfg_dump.specs.declared.parts.Placeholder.TheVariants as placeholder
use Rattle.acfg_dump.specs.Filter.{lets_through, IsFilter}
use Rattle.acfg_dump.specs.Lines.{flag_line, line, lines}
use Rattle.acfg_dump.specs.Parts.{raw, spelled}
use Rattle.acfg_dump.specs.Template.{text_format, IsTemplate}
use Rattle.acfg_dump.proofs.OneCondition.{one_filter}
use Rattle.acfg_dump.proofs.Spelling.{one_spelling}
use Rattle.acfg_dump.proofs.laws.text_lines.Goals as goal

-- the parts of the format
abbrev format : List Part
format =
    Value placeholder.FullyQualifiedName ∷ raw (codes " [") ++ Value placeholder.Container ∷ raw (codes "]: ")
    ++ Value placeholder.Permission ∷ raw (codes " + ") ++ Value placeholder.State ∷ []

spelled_format : text_format ≡ flat_map spelled format
spelled_format = refl

all_pass : (flags : List Flag) → filter (lets_through ([] ∷ [])) flags ≡ flags
all_pass [] = refl
all_pass (flag ∷ flags) = ap (λ rest. flag ∷ rest) (all_pass flags)

each_line : (flag : Flag) → line format flag ≡ flag_line flag
each_line flag = simp append_assoc

each_lines : (flags : List Flag) → flat_map (line format) flags ≡ flat_map flag_line flags
each_lines [] = refl
each_lines (flag ∷ flags) = λ j. each_line flag j ++ each_lines flags j

pub returns : goal.returns
returns c = λ parts filter is all flags.
    let same : parts ≡ format = one_spelling parts format (sym is ∙ spelled_format) in
    let passes : filter ≡ [] ∷ [] = one_filter (codes "all") filter ([] ∷ []) all (inl (refl, refl)) in
    (λ j. lines (same j) (passes j) flags) ∙ ap (flat_map (line format)) (all_pass flags) ∙ each_lines flags
