-- What is judged step by step: the answer of a step makes that of the whole.
use Rattle.std.proofs.Common.{ℕ, List, refl, inl, inr}
use Rattle.std.specs.Prelude.{Result, Ok, Err, IfOk}
use Rattle.acfg_top.specs.Bodies.{IfRefused, IsAnswer, IsMade, IsOf, IsProduct}
use Rattle.acfg_top.specs.Inputs.{Judged}
use Rattle.acfg_top.specs.Outcome.{Outcome, Refused, Done}
use Rattle.acfg_top.specs.declared.ending.Stop.{Stop}
use Rattle.acfg_top.specs.declared.output.Output.{Output}
use Rattle.acfg_top.specs.declared.told.Halt.{Halt}
use Rattle.acfg_top.specs.declared.told.Halt.TheVariants as halt
use Rattle.acfg_top.specs.declared.told.Told.{Told}

module _ {X : Type 0} (refuses : List ℕ → List ℕ → Type 0) (accepts : X → Type 0) (follows : X → Outcome → Type 0) where
  -- something was accepted, and the rest is told
  pub told_next : (x : X) → accepts x → (answer : Result Told Stop) → IfOk answer (IsAnswer (follows x)) → IfOk answer (IsAnswer (Judged refuses accepts follows))
  told_next x accepted (Ok told) rest = (rest.0, inr (x, accepted, rest.1), rest.2)
  told_next x accepted (Err stop) rest = tt

  pub told_last : (x : X) → accepts x → (told : Told) (outcome : Outcome) → follows x outcome → IsOf outcome told → IsAnswer (Judged refuses accepts follows) told
  told_last x accepted told outcome given of = (outcome, inr (x, accepted, given), of)

  -- it was refused
  pub told_refused : (file what : List ℕ) → refuses file what → (told : Told) → IsOf (Refused file what) told → IsAnswer (Judged refuses accepts follows) told
  told_refused file what refused told of = (Refused file what, inl (file, what, refused, refl), of)

  pub told_halted : (told : Told) → IfRefused refuses (halt.Refused told) → IsAnswer (Judged refuses accepts follows) told
  told_halted told refused = told_refused refused.0 refused.1 refused.2 told refused.3

  -- the same of what is written
  pub product_next : (x : X) → accepts x → (output : Output) → IsProduct (follows x) output → IsProduct (Judged refuses accepts follows) output
  product_next x accepted output rest = (rest.0, inr (x, accepted, rest.1), rest.2)

  pub made_next : (x : X) → accepts x → (output : Output) → IsMade (follows x) output → IsMade (Judged refuses accepts follows) output
  made_next x accepted output made = record { text = made.text; writes = made.writes; given = inr (x, accepted, made.given); is = made.is }

  -- a refusal, here or in what follows
  pub halted_here : (h : Halt) → IfRefused refuses h → IfRefused (λ file what. Judged refuses accepts follows (Refused file what)) h
  halted_here (halt.Refused told) refused = (refused.0, refused.1, inl (refused.0, refused.1, refused.2, refl), refused.3)
  halted_here halt.OutOfMemory refused = tt

  pub halted_next : (x : X) → accepts x → (h : Halt) → IfRefused (λ file what. follows x (Refused file what)) h → IfRefused (λ file what. Judged refuses accepts follows (Refused file what)) h
  halted_next x accepted (halt.Refused told) refused = (refused.0, refused.1, inr (x, accepted, refused.2), refused.3)
  halted_next x accepted halt.OutOfMemory refused = tt

-- what is done is an outcome
pub made_product : (gives : Outcome → Type 0) (output : Output) → IsMade gives output → IsProduct gives output
made_product gives output made = (Done made.text made.writes, made.given, made.is)
