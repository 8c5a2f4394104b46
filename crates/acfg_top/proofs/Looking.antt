-- What a look alone leaves where a command is broken off behind it, and a refusal as what there is to write and tell.
use Rattle.std.proofs.Common.{◌≡◌, [], refl, sym, ◌∙◌, ap, subst, inl}
use Rattle.std.proofs.lemmas.List.{append-nil}
use Rattle.std.specs.Prelude.{Result, Ok, Err, OnErr}
use Rattle.acfg_device.specs.Account.{Account}
use Rattle.acfg_device.specs.Only.{OnlyReads}
use Rattle.acfg_device.specs.Panel.{Files}
use Rattle.acfg_device.specs.declared.panel.Panel.{Ghosts}
use Rattle.acfg_top.specs.Bodies.{IfRefused, IsOf, IsOutputOf, IsProduct}
use Rattle.acfg_top.specs.Outcome.{Outcome, Refused, IsBroken, said_for}
use Rattle.acfg_top.specs.declared.ending.Ending.{Ending}
use Rattle.acfg_top.specs.declared.ending.Stop.{Stop}
use Rattle.acfg_top.specs.declared.ending.Stop.TheVariants.{Failed}
use Rattle.acfg_top.specs.declared.output.Output.{Output}
use Rattle.acfg_top.specs.declared.told.Halt.{Halt}
use Rattle.acfg_top.specs.declared.told.Halt.TheVariants as halt
use Rattle.acfg_top.specs.declared.told.Told.{Told}
use Rattle.acfg_top.proofs.Telling.{named_spares}

-- nothing was said and no file was written, so that any outcome is broken off
looked_broken : {P : Type 0} (panel : Ghosts P) {before after : P} {looks : Type 0} → OnlyReads panel before after looks → (outcome : Outcome) → IsBroken panel outcome before after
looked_broken panel {before} reads outcome = record {
  said = ([], said_for outcome, refl, reads.said ∙ sym (append-nil (panel.said before)));
  files = λ name apart. ap (λ (f : Files). f name) reads.files;
  order = inl reads.said;
  spared = named_spares outcome (record {
    names = ap (λ (a : Account). a.now.names) reads.account;
    pending = ap (λ (a : Account). a.now.pending) reads.account;
  });
}

pub look_breaks : {P : Type 0} (panel : Ghosts P) {before after : P} {looks : Type 0} → OnlyReads panel before after looks → (gives : Outcome → Type 0) → (result : Result Ending Stop)
    → OnErr result ((outcome : Outcome) → gives outcome → IsBroken panel outcome before after)
look_breaks panel reads gives (Ok ending) = tt
look_breaks panel reads gives (Err stop) = λ outcome given. looked_broken panel reads outcome

-- a stop is one beside any value
abbrev stopped : (X : Type 0) → Stop → Result X Stop
stopped X stop = Err stop

stop_in : {X Y : Type 0} → Result X Stop → Result Y Stop
stop_in (Ok x) = Err Failed
stop_in (Err stop) = Err stop

pub failed_too : {X Y : Type 0} (stop : Stop) (result : Result X Stop) → result ≡ Err stop → result ≡ Err Failed → stopped Y stop ≡ Err Failed
unfolding stop_in
failed_too stop result is failed = ap stop_in (sym is ∙ failed)

-- a refusal writes no file
pub product_halted : (gives : Outcome → Type 0) (h : Halt) (told other : Told) → h ≡ halt.Refused told → other ≡ told → IfRefused (λ file what. gives (Refused file what)) h
    → (output : Output) → ((outcome : Outcome) → IsOf outcome other → IsOutputOf outcome output) → IsProduct gives output
product_halted gives h told other is same refused output of =
    let r = subst (IfRefused (λ file what. gives (Refused file what))) is refused in
    (Refused r.0 r.1, r.2, of (Refused r.0 r.1) (subst (IsOf (Refused r.0 r.1)) (sym same) r.3))
