-- What a filter's text means: its alternatives, or the place of the first bad condition; and which flags it lets
-- through.
use Rattle.std.specs.Prelude.{◌≡◌, ◌≢◌, ◌<◌, ◌+◌, ◌==◌, ◌⊎◌, ℕ, Bool, true, false, codes}
use Rattle.std.specs.Prelude.{List, [], ◌∷◌, ◌++◌, length, map, sum_by, All}
use Rattle.std.specs.List.{AllZip, list_all, list_any, slice_split}
use Rattle.std.specs.Str.{bytes_eq}
use Rattle.acfg_base.specs.Bytes.{plus, comma, colon}
use Rattle.acfg_base.specs.Words.{bool_word}
use Rattle.acfg_decls.specs.declared.flags.Flag.{Flag}
use Rattle.acfg_dump.specs.declared.conditions.Condition.{Condition}
use Rattle.acfg_dump.specs.declared.conditions.Condition.TheVariants.{Has, Is}
use Rattle.acfg_dump.specs.declared.conditions.Fact.{Fact}
use Rattle.acfg_dump.specs.declared.conditions.Fact.TheVariants as fact
use Rattle.acfg_dump.specs.declared.conditions.Key.{Key}
use Rattle.acfg_dump.specs.declared.conditions.Key.TheVariants as key
use Rattle.acfg_dump.specs.declared.fault.DumpFault.{DumpFault}
use Rattle.acfg_dump.specs.declared.fault.DumpFault.TheVariants.{BadPlaceholder, BadFilter, OutOfMemory}
use Rattle.acfg_dump.specs.Names.{permission_name, state_name}

-- the keys of a flag's texts
abbrev pub key_name : Key → List ℕ
key_name key.Package = codes "package"
key_name key.Name = codes "name"
key_name key.Namespace = codes "namespace"
key_name key.Container = codes "container"
key_name key.Bug = codes "bug"

-- the keys of what is so of a flag or isn't
abbrev pub fact_name : Fact → List ℕ
fact_name fact.State = codes "state"
fact_name fact.Permission = codes "permission"
fact_name fact.IsFixedReadOnly = codes "is_fixed_read_only"
fact_name fact.IsExported = codes "is_exported"

-- the word for a fact that is so or isn't
abbrev pub fact_word : Fact → Bool → List ℕ
fact_word fact.State so = state_name so
fact_word fact.Permission so = permission_name so
fact_word fact.IsFixedReadOnly so = bool_word so
fact_word fact.IsExported so = bool_word so

-- `KEY:VALUE`
abbrev pub condition_text : Condition → List ℕ
condition_text (Has key value) = key_name key ++ colon ∷ value
condition_text (Is fact so) = fact_name fact ++ colon ∷ fact_word fact so

-- a value that is compared with a flag's text isn't empty
abbrev pub HasValue : Condition → Type 0
HasValue (Has key value) = 0 < length value
HasValue (Is fact so) = Unit {0}

-- the text is that of the condition
pub record IsCondition (text : List ℕ) (condition : Condition) : Type 0 where
  pub same : text ≡ condition_text condition
  pub some : HasValue condition

-- A text cut at each `,`, and these pieces at each `+`: the texts of its conditions, alternative by alternative.
abbrev pub pieces : ℕ → List ℕ → List (List ℕ)
pieces separator text = slice_split (λ byte. byte == separator) text

abbrev pub condition_texts : List ℕ → List (List (List ℕ))
condition_texts text = map (pieces plus) (pieces comma text)

-- The text is that of the alternatives, each of them conditions that have to hold together. `all` asks for nothing.
abbrev pub IsFilter : List ℕ → List (List Condition) → Type 0
IsFilter text alternatives =
    ((text ≡ codes "all") × (alternatives ≡ [] ∷ []))
    ⊎ ((text ≢ codes "all") × AllZip (AllZip IsCondition) (condition_texts text) alternatives)

-- the text is a condition's
abbrev pub IsSome : List ℕ → Type 0
IsSome text = (condition : Condition) × IsCondition text condition

-- the bytes of some conditions, with the separator behind each
abbrev pub extent : List (List ℕ) → ℕ
extent texts = sum_by (λ text. length text + 1) texts

-- Of conditions that stand one behind another from a start, the first bad one, and where it begins.
pub record IsFirstBad (texts : List (List ℕ)) (start place : ℕ) : Type 0 where
  pub before : List (List ℕ)
  pub bad : List ℕ
  pub behind : List (List ℕ)
  pub cut : texts ≡ before ++ bad ∷ behind
  pub at : start + extent before ≡ place
  pub lawful : All IsSome before
  pub none : IsSome bad → ⊥

-- of alternatives that stand one behind another, the place of the first bad condition
pub record IsBadAmong (texts : List (List (List ℕ))) (place : ℕ) : Type 0 where
  pub before : List (List (List ℕ))
  pub bad : List (List ℕ)
  pub behind : List (List (List ℕ))
  pub cut : texts ≡ before ++ bad ∷ behind
  pub lawful : All (All IsSome) before
  pub first : IsFirstBad bad (sum_by extent before) place

-- the place of a text's first bad condition, where it isn't `all`
pub record IsBadCondition (text : List ℕ) (place : ℕ) : Type 0 where
  pub other : text ≢ codes "all"
  pub among : IsBadAmong (condition_texts text) place

-- a filter's fault stands where it tells
abbrev pub FilterFails : List ℕ → DumpFault → Type 0
FilterFails text (BadPlaceholder place) = ⊥
FilterFails text (BadFilter place) = IsBadCondition text place
FilterFails text OutOfMemory = Unit {0}

-- the texts of a flag that a key names: its bugs, or one
abbrev pub texts_of : Key → Flag → List (List ℕ)
texts_of key.Package flag = flag.package ∷ []
texts_of key.Name flag = flag.name ∷ []
texts_of key.Namespace flag = flag.namespace ∷ []
texts_of key.Container flag = flag.container ∷ []
texts_of key.Bug flag = flag.bugs

abbrev pub fact_of : Fact → Flag → Bool
fact_of fact.State flag = flag.enabled
fact_of fact.Permission flag = flag.writable
fact_of fact.IsFixedReadOnly flag = flag.fixed
fact_of fact.IsExported flag = flag.exported

abbrev pub bool_eq : Bool → Bool → Bool
bool_eq true other = other
bool_eq false true = false
bool_eq false false = true

-- whether a condition holds of a flag
abbrev pub holds : Flag → Condition → Bool
holds flag (Has key value) = list_any (λ text. bytes_eq text value) (texts_of key flag)
holds flag (Is fact so) = bool_eq (fact_of fact flag) so

-- whether a filter lets a flag through: all conditions of some alternative hold of it
abbrev pub lets_through : List (List Condition) → Flag → Bool
lets_through alternatives flag = list_any (list_all (holds flag)) alternatives
