-- Faults with a place are handed on.
use Rattle.std.proofs.Common.{ℕ}
use Rattle.acfg_text.specs.declared.fault.TextWhat.{TextWhat}
use Rattle.acfg_text.specs.declared.fault.TextFault.{TextFault}
use Rattle.acfg_text.specs.declared.fault.TextFault.TheVariants.{At, OutOfMemory}
use Rattle.acfg_text.specs.TextFaults.{IfAt}

pub at_weaker : (f : TextFault) (P Q : ℕ → TextWhat → Type 0) → ((p : ℕ) (w : TextWhat) → P p w → Q p w) → IfAt f P → IfAt f Q
at_weaker (At place what) P Q weaker holds = weaker place what holds
at_weaker OutOfMemory P Q weaker holds = tt
