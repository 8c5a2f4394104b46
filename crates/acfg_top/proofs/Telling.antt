-- What a command leaves that looks at its inputs and then says its words, and what a run answers for its outcome.
use Rattle.std.proofs.Common.{◌≡◌, ◌≢◌, ℕ, List, [], ◌++◌, ◌⊎◌, refl, sym, ◌∙◌, ap, subst, inl, inr}
use Rattle.std.specs.Prelude.{Option, None, Some, Result, Ok, Err, IfOk, IfSome, OnErr, OnOk}
use Rattle.acfg_device.specs.Account.{Account}
use Rattle.acfg_device.specs.Disk.{Disk, File, IsSettled, IsSynced}
use Rattle.acfg_device.specs.Only.{OnlySays}
use Rattle.acfg_device.specs.Panel.{Files, Rose, SaysPart}
use Rattle.acfg_device.specs.declared.panel.Panel.{Ghosts}
use Rattle.acfg_top.specs.declared.ending.Ending.{Ending}
use Rattle.acfg_top.specs.declared.ending.Stop.{Stop}
use Rattle.acfg_top.specs.declared.ending.Stop.TheVariants.{Failed, OutOfMemory}
use Rattle.acfg_top.specs.declared.told.Told.{Told}
use Rattle.acfg_top.specs.Bodies.{status_of, Comes, IsEnding, IsOf}
use Rattle.acfg_top.specs.Outcome.{Outcome, Usage, Refused, Damaged, Done, Replayed, Answers, Makes, Spares, StaysNamed, TakesTurns, Tells, Writes, IsBroken, IsDone, IsWritten, said_for, status_for, writes_of, written}

-- a disk with the same names and pending name changes is settled where the other one is
pub settled_too : (before after : Disk) → after.names ≡ before.names → after.pending ≡ before.pending → IsSettled before → IsSettled after
settled_too before after names pending settled = record {
  kept = pending ∙ settled.kept;
  synced = λ name. subst (λ (file : Option File). IfSome file (λ file. IsSynced file.loose)) (sym (ap (λ names. names name) names)) (settled.synced name);
}

all_of : Option Writes → Writes
all_of None = []
all_of (Some all) = all

none_some : (all : Writes) → ◌≡◌ {A = Option Writes} None (Some all) → ⊥
none_some all is = cc

-- an outcome that writes no file leaves the files
pub makes_none : (outcome : Outcome) → writes_of outcome ≡ Some [] → (before after : Files) → after ≡ before → Makes outcome before after
unfolding all_of
makes_none Usage nothing before after same = same
makes_none (Refused file what) nothing before after same = same
makes_none (Damaged file) nothing before after same = same
makes_none (Done text writes) nothing before after same = same ∙ ap (λ (all : Writes). written all before) (sym (ap all_of nothing))
makes_none (Replayed dir text state) nothing before after same = absurd (none_some [] nothing)

-- a disk whose names stay is spared, whatever the outcome is
pub named_spares : (outcome : Outcome) {before after : Disk} → StaysNamed before after → Spares outcome before after
named_spares Usage same = same
named_spares (Refused file what) same = same
named_spares (Damaged file) same = tt
named_spares (Done text writes) same = tt
named_spares (Replayed dir text state) same = tt

-- what was said or written after a look
order_earlier : {P : Type 0} (panel : Ghosts P) {before mid after : P} → panel.files mid ≡ panel.files before → panel.said mid ≡ panel.said before → panel.account mid ≡ panel.account before
    → (outcome : Outcome) → (panel.said after ≡ panel.said mid) ⊎ IsWritten panel outcome mid after ⊎ TakesTurns outcome → (panel.said after ≡ panel.said before) ⊎ IsWritten panel outcome before after ⊎ TakesTurns outcome
order_earlier panel files said account outcome (inl same) = inl (same ∙ said)
order_earlier panel {before} {mid} {after} files said account outcome (inr (inl done)) = inr (inl (record {
  files = subst (λ (f : Files). Makes outcome f (panel.files after)) files done.files;
  settled = λ settled. done.settled (subst (λ a. IsSettled a.now) (sym account) settled);
}))
order_earlier panel files said account outcome (inr (inr turns)) = inr (inr turns)

-- what was broken off after a look was broken off
pub broken_earlier : {P : Type 0} (panel : Ghosts P) {before mid after : P} → panel.files mid ≡ panel.files before → panel.said mid ≡ panel.said before → panel.account mid ≡ panel.account before
    → (outcome : Outcome) → IsBroken panel outcome mid after → IsBroken panel outcome before after
broken_earlier panel {before} {mid} {after} files said account outcome broken = record {
  said = (broken.said.0, broken.said.1, broken.said.2, broken.said.3 ∙ ap (λ s. s ++ broken.said.0) said);
  files = λ name apart. broken.files name apart ∙ ap (λ (f : Files). f name) files;
  order = order_earlier panel files said account outcome broken.order;
  spared = subst (λ (a : Account). Spares outcome a.now (panel.account after).now) account broken.spared;
}

module _ {P : Type 0} (panel : Ghosts P) {before mid after : P} {fails : Type 0} (files : panel.files mid ≡ panel.files before) (said : panel.said mid ≡ panel.said before) where
  module _ (account : panel.account mid ≡ panel.account before) where
    -- the files of an outcome that writes none
    told_written : (outcome : Outcome) → writes_of outcome ≡ Some [] → OnlySays panel mid after fails → IsWritten panel outcome before after
    told_written outcome nothing says = record {
      files = makes_none outcome nothing (panel.files before) (panel.files after) (says.files ∙ files);
      settled = λ settled. settled_too _ _ says.names says.pending (subst (λ a. IsSettled a.now) (sym account) settled);
    }

    -- words alone spare the disk
    told_spared : (outcome : Outcome) → OnlySays panel mid after fails → Spares outcome (panel.account before).now (panel.account after).now
    told_spared outcome says = named_spares outcome (record {
      names = says.names ∙ ap (λ (a : Account). a.now.names) account;
      pending = says.pending ∙ ap (λ (a : Account). a.now.pending) account;
    })

    -- a first part of the words of an outcome that writes no file was said
    pub told_broken : (outcome : Outcome) (words : List ℕ) → words ≡ said_for outcome → writes_of outcome ≡ Some [] → OnlySays panel mid after fails → SaysPart (panel.said mid) (panel.said after) words
        → IsBroken panel outcome before after
    told_broken outcome words same nothing says part = record {
      said = (part.0, part.1, sym same ∙ part.2, part.3 ∙ ap (λ s. s ++ part.0) said);
      files = λ name apart. ap (λ (f : Files). f name) (says.files ∙ files);
      order = inr (inl (told_written outcome nothing says));
      spared = told_spared outcome says;
    }

    -- the words of an outcome that writes no file were said
    told_done : (outcome : Outcome) (words : List ℕ) → words ≡ said_for outcome → writes_of outcome ≡ Some [] → OnlySays panel mid after fails → panel.said after ≡ panel.said mid ++ words
        → IsDone panel outcome before after
    told_done outcome words same nothing says grown = let done = told_written outcome nothing says in record {
      said = grown ∙ (λ j. said j ++ same j);
      files = done.files;
      settled = done.settled;
      spared = told_spared outcome says;
    }

    -- and told so
    pub tell_comes : (gives : Outcome → Type 0) (outcome : Outcome) → gives outcome → (told : Told) → IsOf outcome told → (result : Result Ending Stop)
        → OnlySays panel mid after fails → IfOk result (λ ending. ending ≡ told.ending) → OnOk result (panel.said after ≡ panel.said mid ++ told.text.items)
        → IfOk result (λ ending. Comes panel gives ending before after)
    tell_comes gives outcome given told of (Ok ending) says same grown = record {
      outcome = outcome;
      given = given;
      is = subst (IsEnding outcome) (sym same) of.ending;
      done = told_done outcome told.text.items of.text of.nothing says grown;
    }
    tell_comes gives outcome given told of (Err stop) says same grown = tt

ending_status : (outcome : Outcome) (ending : Ending) → IsEnding outcome ending → status_of (Ok ending) ≡ status_for outcome
ending_status Usage ending is = absurd is
ending_status (Refused file what) ending is = ap (λ (e : Ending). status_of (Ok e)) is
ending_status (Damaged file) ending is = ap (λ (e : Ending). status_of (Ok e)) is
ending_status (Done text writes) ending is = ap (λ (e : Ending). status_of (Ok e)) is
ending_status (Replayed dir text state) ending is = ap (λ (e : Ending). status_of (Ok e)) is

-- a command answers for its outcome, which is one
pub answers_exact : {P : Type 0} (panel : Ghosts P) (gives : Outcome → Type 0) → ((a b : Outcome) → gives a → gives b → a ≡ b) → (result : Result Ending Stop) (status : ℕ) (before after : P)
    → IfOk result (λ ending. Comes panel gives ending before after) → OnErr result ((outcome : Outcome) → gives outcome → IsBroken panel outcome before after)
    → (result ≡ Err Failed → Rose (panel.faults before) (panel.faults after)) → status ≡ status_of result
    → (outcome : Outcome) → gives outcome → Answers panel outcome status before after
answers_exact panel gives one (Ok ending) status before after comes broken rose is outcome given =
    let same = one comes.outcome outcome comes.given given in
    inl (record {
      is = is ∙ ending_status comes.outcome ending comes.is ∙ ap status_for same;
      done = subst (λ o. IsDone panel o before after) same comes.done;
    })
answers_exact panel gives one (Err Failed) status before after comes broken rose is outcome given = inr (inl (record { is = is; rose = rose refl; broken = broken outcome given }))
answers_exact panel gives one (Err OutOfMemory) status before after comes broken rose is outcome given = inr (inr (record { is = is; broken = broken outcome given }))

-- a command that told its outcome told one of those that words give
pub ending_tells : {P : Type 0} (panel : Ghosts P) (gives words_give : Outcome → Type 0) → ((outcome : Outcome) → gives outcome → words_give outcome) → (result : Result Ending Stop) (status : ℕ) (before after : P)
    → IfOk result (λ ending. Comes panel gives ending before after) → status ≡ status_of result → status ≢ 4 → status ≢ 5 → Tells panel words_give status before after
ending_tells panel gives words_give given (Ok ending) status before after comes is failed starved = record {
  outcome = comes.outcome;
  given = given comes.outcome comes.given;
  ends = record { is = is ∙ ending_status comes.outcome ending comes.is; done = comes.done };
}
ending_tells panel gives words_give given (Err Failed) status before after comes is failed starved = absurd (failed is)
ending_tells panel gives words_give given (Err OutOfMemory) status before after comes is failed starved = absurd (starved is)
