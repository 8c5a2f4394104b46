-- What a script on a device directory leaves of its outcome, and of cuts.
use Rattle.std.proofs.Common.{◌≡◌, ℕ, List, [], ◌++◌, ◌⊎◌, refl, sym, ◌∙◌, ap, subst, inl, inr, codes}
use Rattle.std.proofs.lemmas.List.{append-nil}
use Rattle.std.specs.Prelude.{None, Some, Option, Result, Ok, Err, IfOk, OnErr, OnOk}
use Rattle.acfg_daemon.specs.Lines.{lines}
use Rattle.acfg_daemon.specs.Replayed.{HasBegun, ImageLoads, IsReplayed, LeavesOfReplay, OnlyAnswers}
use Rattle.acfg_daemon.specs.Transcript.{Begins, Runs}
use Rattle.acfg_daemon.proofs.OneLine.{begins_transcript, runs_transcript, runs_unique}
use Rattle.acfg_device.specs.Account.{Account}
use Rattle.acfg_device.specs.Disk.{IsSettled, told}
use Rattle.acfg_device.specs.Left.{LeavesSince, SaysOnly}
use Rattle.acfg_device.specs.Only.{OnlyReads, OnlySays}
use Rattle.acfg_device.specs.Panel.{Files, SaysPart}
use Rattle.acfg_device.specs.declared.panel.Panel.{Ghosts}
use Rattle.acfg_device.proofs.Moments.{weakened}
use Rattle.acfg_device.proofs.Runs.{at_rest}
use Rattle.acfg_model.specs.State.{State}
use Rattle.acfg_store.specs.Damage.{IsDamaged}
use Rattle.acfg_store.specs.Names.{IsOfDirectory}
use Rattle.acfg_store.specs.Stands.{Stands}
use Rattle.acfg_store.proofs.Damaging.{one_damaged, stand_undamaged}
use Rattle.acfg_store.proofs.OneState.{one_state}
use Rattle.acfg_top.specs.Bodies.{Comes, IsOf}
use Rattle.acfg_top.specs.Outcome.{Outcome, Refused, Damaged, Replayed, IsBroken, said_for}
use Rattle.acfg_top.specs.Replay.{LeavesOfCommand, ReplayGives}
use Rattle.acfg_top.specs.declared.ending.Ending.{Ending}
use Rattle.acfg_top.specs.declared.ending.Ending.TheVariants as end
use Rattle.acfg_top.specs.declared.ending.Stop.{Stop}
use Rattle.acfg_top.specs.declared.told.Told.{Told}
use Rattle.acfg_top.proofs.Putting.{comes_earlier}
use Rattle.acfg_top.proofs.Telling.{broken_earlier}

-- ---- the outcome

-- `replay SCRIPT DIR` has one outcome
pub replay_gives_unique : (script dir : List ℕ) (files : Files) (found : Option (List ℕ)) (a b : Outcome) → ReplayGives script dir files found a → ReplayGives script dir files found b → a ≡ b
replay_gives_unique script dir files None a b gives also = gives ∙ sym also
replay_gives_unique script dir files (Some bytes) a b (inl (file, damaged, is)) (inl (other, damaged_too, is_too)) =
    is ∙ ap (λ (file : List ℕ). Damaged file) (one_damaged files dir file other damaged damaged_too) ∙ sym is_too
replay_gives_unique script dir files (Some bytes) a b (inl (file, damaged, is)) (inr (state, after, text, stands, runs, is_too)) = absurd (stand_undamaged files dir state file stands damaged)
replay_gives_unique script dir files (Some bytes) a b (inr (state, after, text, stands, runs, is)) (inl (file, damaged, is_too)) = absurd (stand_undamaged files dir state file stands damaged)
replay_gives_unique script dir files (Some bytes) a b (inr (state, after, text, stands, runs, is)) (inr (other, later, said, stands_too, runs_too, is_too)) =
    let start = one_state files dir state other stands stands_too in
    let same = runs_unique (ImageLoads files) (λ request one two l m. l ∙ sym m) other 1 (lines bytes) after later text said (subst (λ (s : State). Runs (ImageLoads files) s 1 (lines bytes) after text) start runs) runs_too in
    is ∙ (λ j. Replayed dir (same.1 j) (same.0 j)) ∙ sym is_too

-- the script was answered to its end
pub answered_comes : {P : Type 0} (panel : Ghosts P) (script dir bytes : List ℕ) {before after : P} {fails : Type 0}
    → IsReplayed (panel.files before) (panel.said before) dir bytes (panel.files after) (panel.said after) → OnlyAnswers panel (IsOfDirectory dir) before after fails
    → (IsSettled (panel.account before).now → IsSettled (panel.account after).now) → Comes panel (ReplayGives script dir (panel.files before) (Some bytes)) end.Done before after
answered_comes panel script dir bytes played answers settles = record {
  outcome = Replayed dir played.text played.after;
  given = inr (played.state, played.after, played.text, played.stood, played.runs, refl);
  is = refl;
  done = record { said = played.words; files = (played.stands, answers.others); settled = settles; spared = tt };
}

-- a first part of the transcript was said
begun_part : (first : Files) (spoken dir bytes said : List ℕ) (state after : State) (text : List ℕ) → Stands first dir state → Runs (ImageLoads first) state 1 (lines bytes) after text
    → (said ≡ spoken) ⊎ HasBegun first spoken dir bytes said → SaysPart spoken said text
begun_part first spoken dir bytes said state after text stands runs (inl none) = ([], text, refl, none ∙ sym (append-nil spoken))
begun_part first spoken dir bytes said state after text stands runs (inr begun) =
    let begins = subst (λ (s : State). Begins (ImageLoads first) s 1 (lines bytes) begun.text) (one_state first dir begun.state state begun.stood stands) begun.begins in
    let rest = begins_transcript (ImageLoads first) (λ request one other l m. l ∙ sym m) state 1 (lines bytes) begun.text text begins (runs_transcript (ImageLoads first) state 1 (lines bytes) after text runs) in
    (begun.text, rest.0, rest.1, begun.words)

-- the script was broken off; a directory that stands for no state is as it was
pub answered_broken : {P : Type 0} (panel : Ghosts P) (script dir bytes : List ℕ) {before after : P} {fails : Type 0}
    → (panel.said after ≡ panel.said before) ⊎ HasBegun (panel.files before) (panel.said before) dir bytes (panel.said after)
    → ((name : List ℕ) → IsDamaged (panel.files before) dir name → (panel.files after ≡ panel.files before) × (panel.said after ≡ panel.said before))
    → OnlyAnswers panel (IsOfDirectory dir) before after fails
    → (outcome : Outcome) → ReplayGives script dir (panel.files before) (Some bytes) outcome → IsBroken panel outcome before after
answered_broken panel script dir bytes {before} {after} begun kept answers outcome (inl (file, damaged, is)) =
    let same = kept file damaged in
    subst (λ (o : Outcome). IsBroken panel o before after) (sym is) (record {
      said = ([], said_for (Damaged file), refl, same.1 ∙ sym (append-nil (panel.said before)));
      files = λ name apart. ap (λ (f : Files). f name) same.0;
      order = inl same.1;
      spared = tt;
    })
answered_broken panel script dir bytes {before} {after} begun kept answers outcome (inr (state, later, text, stands, runs, is)) =
    subst (λ (o : Outcome). IsBroken panel o before after) (sym is) (record {
      said = begun_part (panel.files before) (panel.said before) dir bytes (panel.said after) state later text stands runs begun;
      files = answers.others;
      order = inr (inr tt);
      spared = tt;
    })

module _ {P : Type 0} (panel : Ghosts P) (script dir bytes file : List ℕ) {before mid : P} (damaged : IsDamaged (panel.files before) dir file) (kept : (panel.files mid ≡ panel.files before) × (panel.said mid ≡ panel.said before))
    (after : P) {fails : Type 0} (line : Told) (of : IsOf (Damaged file) line) (says : OnlySays panel mid after fails) (settles : IsSettled (panel.account before).now → IsSettled (panel.account after).now) where
  -- damage was told
  pub damage_comes : (result : Result Ending Stop) → IfOk result (λ ending. ending ≡ line.ending) → OnOk result (panel.said after ≡ panel.said mid ++ line.text.items)
      → IfOk result (λ ending. Comes panel (ReplayGives script dir (panel.files before) (Some bytes)) ending before after)
  damage_comes (Ok ending) same grown = record {
    outcome = Damaged file;
    given = inl (file, damaged, refl);
    is = same ∙ of.ending;
    done = record { said = grown ∙ (λ j. kept.1 j ++ of.text j); files = says.files ∙ kept.0; settled = settles; spared = tt };
  }
  damage_comes (Err stop) same grown = tt

  -- or a first part of it
  pub damage_broken : (result : Result Ending Stop) → OnErr result (SaysPart (panel.said mid) (panel.said after) line.text.items)
      → OnErr result ((outcome : Outcome) → ReplayGives script dir (panel.files before) (Some bytes) outcome → IsBroken panel outcome before after)
  damage_broken (Ok ending) part = tt
  damage_broken (Err stop) part = λ outcome given.
      subst (λ (o : Outcome). IsBroken panel o before after) (replay_gives_unique script dir (panel.files before) (Some bytes) (Damaged file) outcome (inl (file, damaged, refl)) given) (record {
        said = (part.0, part.1, sym of.text ∙ part.2, part.3 ∙ ap (λ (s : List ℕ). s ++ part.0) kept.1);
        files = λ name apart. ap (λ (f : Files). f name) (says.files ∙ kept.0);
        order = inr (inl (record { files = says.files ∙ kept.0; settled = settles }));
        spared = tt;
      })

-- ---- cuts

module _ (script dir : List ℕ) where
  -- what a cut leaves of lines that are answered
  pub answers_leave : (first : Files) (spoken bytes : List ℕ) → first script ≡ Some bytes → (start after : Account) → LeavesSince start after (LeavesOfReplay first spoken dir bytes)
      → LeavesSince start after (LeavesOfCommand script dir first spoken)
  answers_leave first spoken bytes there start after cut = weakened (LeavesOfCommand script dir first spoken) (LeavesOfReplay first spoken dir bytes) start after cut (λ files said left. of files said left)
    where
      of : (files : Files) (said : List ℕ) → LeavesOfReplay first spoken dir bytes files said → LeavesOfCommand script dir first spoken files said
      of files said (inl none) = inl none
      of files said (inr part) = inr (inr (record { bytes = bytes; there = there; part = part }))

  -- a line is said that tells damage or a missing script, where no file has changed
  refusal_leaves : (first now : Files) (spoken here text line : List ℕ) → now ≡ first → here ≡ spoken → text ≡ line → (files : Files) (said : List ℕ) → SaysOnly now here text files said
      → (files ≡ first) × SaysPart spoken said line
  refusal_leaves first now spoken here text line same is spelled files said left =
      (left.left ∙ same, (left.words.0, left.words.1, sym spelled ∙ left.words.2, left.words.3 ∙ ap (λ (s : List ℕ). s ++ left.words.0) is))

  pub missing_leaves : (first now : Files) (spoken here : List ℕ) → first script ≡ None → now ≡ first → here ≡ spoken → (text : List ℕ) → text ≡ said_for (Refused script (codes "missing"))
      → (files : Files) (said : List ℕ) → SaysOnly now here text files said → LeavesOfCommand script dir first spoken files said
  missing_leaves first now spoken here absent same is text spelled files said left =
      let outcome = Refused script (codes "missing") in
      let given = subst (λ found. ReplayGives script dir first found outcome) (sym absent) refl in
      let part = refusal_leaves first now spoken here text (said_for outcome) same is spelled files said left in
      inr (inl (record { outcome = outcome; given = given; refuses = λ turns. turns; same = part.0; words = part.1 }))

  pub damage_leaves : (first now : Files) (spoken here bytes file : List ℕ) → first script ≡ Some bytes → IsDamaged first dir file → now ≡ first → here ≡ spoken → (text : List ℕ) → text ≡ said_for (Damaged file)
      → (files : Files) (said : List ℕ) → SaysOnly now here text files said → LeavesOfCommand script dir first spoken files said
  damage_leaves first now spoken here bytes file there damaged same is text spelled files said left =
      let outcome = Damaged file in
      let given = subst (λ found. ReplayGives script dir first found outcome) (sym there) (inl (file, damaged, refl)) in
      let part = refusal_leaves first now spoken here text (said_for outcome) same is spelled files said left in
      inr (inl (record { outcome = outcome; given = given; refuses = λ turns. turns; same = part.0; words = part.1 }))

  -- nothing was done behind a look
  pub rests : {P : Type 0} (panel : Ghosts P) {before mid : P} {looks : Type 0} → OnlyReads panel before mid looks → panel.files before ≡ told (panel.account before).now → panel.said before ≡ (panel.account before).now.said
      → IsSettled (panel.account before).now → LeavesSince (panel.account before) (panel.account mid) (LeavesOfCommand script dir (panel.files before) (panel.said before))
  rests panel {before} {mid} reads files said settled =
      subst (λ (after : Account). LeavesSince (panel.account before) after (LeavesOfCommand script dir (panel.files before) (panel.said before))) (sym reads.account)
      (at_rest (LeavesOfCommand script dir (panel.files before) (panel.said before)) (panel.files before) (panel.said before) files said settled (inl (refl, refl)))

  -- a missing script was told behind a look
  pub missing_cut : {P : Type 0} (panel : Ghosts P) {before mid : P} {looks : Type 0} → OnlyReads panel before mid looks → (after : Account) (text : List ℕ) → text ≡ said_for (Refused script (codes "missing"))
      → panel.files before script ≡ None → LeavesSince (panel.account mid) after (SaysOnly (panel.files mid) (panel.said mid) text)
      → LeavesSince (panel.account before) after (LeavesOfCommand script dir (panel.files before) (panel.said before))
  missing_cut panel {before} {mid} reads after text spelled absent cut =
      subst (λ (start : Account). LeavesSince start after (LeavesOfCommand script dir (panel.files before) (panel.said before))) reads.account
      (weakened (LeavesOfCommand script dir (panel.files before) (panel.said before)) (SaysOnly (panel.files mid) (panel.said mid) text) (panel.account mid) after cut
      (missing_leaves (panel.files before) (panel.files mid) (panel.said before) (panel.said mid) absent reads.files reads.said text spelled))

-- ---- behind the look at the script

module _ {P : Type 0} (panel : Ghosts P) (script dir bytes : List ℕ) {before mid : P} {looks : Type 0} (reads : OnlyReads panel before mid looks) (there : panel.files before script ≡ Some bytes) (after : P) where
  given_before : (outcome : Outcome) → ReplayGives script dir (panel.files mid) (Some bytes) outcome → ReplayGives script dir (panel.files before) (panel.files before script) outcome
  given_before outcome given =
      subst (λ found. ReplayGives script dir (panel.files before) found outcome) (sym there) (subst (λ (f : Files). ReplayGives script dir f (Some bytes) outcome) reads.files given)

  given_behind : (outcome : Outcome) → ReplayGives script dir (panel.files before) (panel.files before script) outcome → ReplayGives script dir (panel.files mid) (Some bytes) outcome
  given_behind outcome given =
      subst (λ (f : Files). ReplayGives script dir f (Some bytes) outcome) (sym reads.files) (subst (λ found. ReplayGives script dir (panel.files before) found outcome) there given)

  pub comes_before : (result : Result Ending Stop) → IfOk result (λ ending. Comes panel (ReplayGives script dir (panel.files mid) (Some bytes)) ending mid after)
      → IfOk result (λ ending. Comes panel (ReplayGives script dir (panel.files before) (panel.files before script)) ending before after)
  comes_before result comes =
      comes_earlier panel reads (ReplayGives script dir (panel.files mid) (Some bytes)) (ReplayGives script dir (panel.files before) (panel.files before script)) given_before after result comes

  pub broken_before : (result : Result Ending Stop) → OnErr result ((outcome : Outcome) → ReplayGives script dir (panel.files mid) (Some bytes) outcome → IsBroken panel outcome mid after)
      → OnErr result ((outcome : Outcome) → ReplayGives script dir (panel.files before) (panel.files before script) outcome → IsBroken panel outcome before after)
  broken_before (Ok ending) broken = tt
  broken_before (Err stop) broken = λ outcome given. broken_earlier panel reads.files reads.said reads.account outcome (broken outcome (given_behind outcome given))
