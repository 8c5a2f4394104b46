use Rattle.std.proofs.Common.{◌≡◌, ℕ, drop}
use Rattle.acfg_decls.specs.Walk.{digits}
use Rattle.acfg_decls.specs.Numbers.{Agree}
use Rattle.acfg_decls.proofs.scalars.read_digits.Given as goal

abbrev pub invariant-loop-byte : goal.invariant-loop-byte
invariant-loop-byte l = (number : ℕ) × (digits l.base 0 l.text ≡ digits l.base number (drop l.byte-index l.text)) × Agree number l.number
