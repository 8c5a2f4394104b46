-- What a template's text means: its parts, or the first place where it has none.
use Rattle.std.specs.Prelude.{◌≡◌, ◌<◌, ℕ, if◌then◌else◌, List, ◌++◌, length, codes}
use Rattle.std.specs.List.{flat_map}
use Rattle.std.specs.Str.{bytes_eq}
use Rattle.acfg_dump.specs.declared.fault.DumpFault.{DumpFault}
use Rattle.acfg_dump.specs.declared.fault.DumpFault.TheVariants.{BadPlaceholder, BadFilter, OutOfMemory}
use Rattle.acfg_dump.specs.declared.parts.Part.{Part}
use Rattle.acfg_dump.specs.Parts.{spelled}

-- the templates of the formats `text` and `bool`
abbrev pub text_format : List ℕ
text_format = codes "{fully_qualified_name} [{container}]: {permission} + {state}"

abbrev pub bool_format : List ℕ
bool_format = codes "{fully_qualified_name}={state:bool}"

-- a text that is just the name of a format stands for its template, and another one for itself
abbrev pub template_of : List ℕ → List ℕ
template_of text =
    if bytes_eq text (codes "text") then text_format
    else (if bytes_eq text (codes "bool") then bool_format else text)

-- the text is that of the parts
abbrev pub IsTemplate : List ℕ → List Part → Type 0
IsTemplate text parts = template_of text ≡ flat_map spelled parts

-- The first bad place of a text: parts stand before it, and what is there, a brace, begins no part.
pub record IsBadPlace (text : List ℕ) (place : ℕ) : Type 0 where
  pub before : List Part
  pub behind : List ℕ
  pub cut : text ≡ flat_map spelled before ++ behind
  pub at : length (flat_map spelled before) ≡ place
  pub more : 0 < length behind
  pub none : (part : Part) (rest : List ℕ) → behind ≡ spelled part ++ rest → ⊥

-- a fault of a text stands where it tells
abbrev pub PartsFail : List ℕ → DumpFault → Type 0
PartsFail text (BadPlaceholder place) = IsBadPlace text place
PartsFail text (BadFilter place) = ⊥
PartsFail text OutOfMemory = Unit {0}

-- and that of a template's text
abbrev pub TemplateFails : List ℕ → DumpFault → Type 0
TemplateFails text fault = PartsFail (template_of text) fault
