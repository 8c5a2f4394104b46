-- How a failure of the host is counted: once, until the count stands at its last number. What a write that was
-- broken off leaves.
use Rattle.std.specs.Prelude.{◌≡◌, ◌+◌, ◌++◌, ℕ, List, Option, Result, MatchResult, min}
use Rattle.std.specs.Io.KnownBytes.{Appends}
use Rattle.acfg_device.specs.Panel.{last_count}
use Rattle.acfg_device.specs.declared.panel.ReadFault.{ReadFault}
use Rattle.acfg_device.specs.declared.panel.ReadFault.TheVariants.{Failed, OutOfMemory}

-- a call that fails is counted, and another isn't
abbrev pub CountsFailure : {T E : Type 0} → Result T E → ℕ → ℕ → Type 0
CountsFailure result before after = MatchResult result (λ _. after ≡ before) (λ _. after ≡ min (before + 1) last_count)

-- so is a read that fails, but for want of memory
abbrev pub CountsFault : ReadFault → ℕ → ℕ → Type 0
CountsFault Failed before after = after ≡ min (before + 1) last_count
CountsFault OutOfMemory before after = after ≡ before

-- known bytes grew by the first few of these
abbrev pub AppendsPart : Option (List ℕ) → Option (List ℕ) → List ℕ → Type 0
AppendsPart before after bytes = (part rest : List ℕ) × (bytes ≡ part ++ rest) × Appends before after part
