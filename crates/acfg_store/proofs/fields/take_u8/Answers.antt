use Rattle.std.proofs.Common.{◌≡◌, ◌<◌, ◌≤◌, ◌∙◌, length, arith, sym, eqb, false, true, ℕ, List}
use Rattle.std.proofs.lemmas.Bool.Decides.{nat_tests}
use Rattle.acfg_store.proofs.Fronts.{number_none, byte_front}
use Rattle.acfg_store.proofs.fields.take_u8.Goals as goal

empty : (bytes : List ℕ) → eqb (length bytes) 0 ≡ true → length bytes < 1
empty bytes e = grind (arith, nat_tests)

some : (bytes : List ℕ) → eqb (length bytes) 0 ≡ false → 1 ≤ length bytes
some bytes e = grind (arith, nat_tests)

pub returns-then-is_empty : goal.returns-then-is_empty
returns-then-is_empty c = λ n rest _. number_none 1 c.args.bytes.now (empty c.args.bytes.now (sym c.is_empty.ensures ∙ c.if-is_empty.true)) n rest

pub returns : goal.returns
returns c =
    byte_front c.args.bytes.now c.split_at.result.0.now c.split_at.result.1.now (λ i. omega (arith, c.type_inv.bytes i))
    (some c.args.bytes.now (sym c.is_empty.ensures ∙ c.if-is_empty.false)) c.split_at.ensures.front c.split_at.ensures.back
