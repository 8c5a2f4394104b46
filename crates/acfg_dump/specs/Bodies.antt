-- Words of private bodies: no public clause cites them.
use Rattle.std.specs.Prelude.{◌≡◌, ◌≢◌, ◌==◌, ℕ, Bool, false, List, [], ◌∷◌, ◌++◌, All}
use Rattle.acfg_base.specs.Bytes.{close_brace}
use Rattle.acfg_dump.specs.declared.fault.DumpFault.{DumpFault}
use Rattle.acfg_dump.specs.declared.fault.DumpFault.TheVariants.{BadPlaceholder, BadFilter, OutOfMemory}
use Rattle.acfg_dump.specs.declared.parts.Placeholder.{Placeholder}
use Rattle.acfg_dump.specs.Filter.{IsBadAmong, IsFirstBad}
use Rattle.acfg_dump.specs.Parts.{placeholder_name}

-- the text begins with what none of the values is spelled as
abbrev pub BeginsNone : {A : Type 0} → (A → List ℕ) → List ℕ → Type 0
BeginsNone {A} spell text = (x : A) (rest : List ℕ) → text ≡ spell x ++ rest → ⊥

-- a placeholder's name and the brace behind it
abbrev pub closed_name : Placeholder → List ℕ
closed_name value = placeholder_name value ++ close_brace ∷ []

-- a fault of conditions, and one of alternatives
abbrev pub ConditionsFail : List (List ℕ) → ℕ → DumpFault → Type 0
ConditionsFail texts start (BadPlaceholder place) = ⊥
ConditionsFail texts start (BadFilter place) = IsFirstBad texts start place
ConditionsFail texts start OutOfMemory = Unit {0}

abbrev pub AlternativesFail : List (List (List ℕ)) → DumpFault → Type 0
AlternativesFail texts (BadPlaceholder place) = ⊥
AlternativesFail texts (BadFilter place) = IsBadAmong texts place
AlternativesFail texts OutOfMemory = Unit {0}

-- no byte of the text is this one
abbrev pub IsWithout : ℕ → List ℕ → Type 0
IsWithout byte text = All (λ other. other ≢ byte) text

-- a text cut at the first byte of a kind: what is before it and what is behind it
pub record IsCutAt (byte : ℕ) (text before behind : List ℕ) : Type 0 where
  pub first : IsWithout byte before
  pub whole : text ≡ before ++ byte ∷ behind

-- whether a text begins with a byte
abbrev pub begins : ℕ → List ℕ → Bool
begins byte [] = false
begins byte (first ∷ rest) = first == byte
