-- What is left where files are written and then words are said.
use Rattle.std.proofs.Common.{◌≡◌, ℕ, zero, suc, List, [], ◌∷◌, ◌++◌, Contains, map, string_bytes, refl, sym, ◌∙◌, ap, subst, arith, inl, inr}
use Rattle.std.proofs.lemmas.List.{append-nil}
use Rattle.std.specs.Prelude.{Result, Ok, Err, IfOk, OnErr, OnOk}
use Rattle.acfg_commit.specs.Written.{IsNameAmong}
use Rattle.acfg_commit.specs.Written.{written as written_by}
use Rattle.acfg_commit.specs.declared.several.NewFile.{NewFile}
use Rattle.acfg_commit.proofs.Files.{written_others}
use Rattle.acfg_device.specs.Disk.{IsSettled}
use Rattle.acfg_device.specs.Only.{OnlyChanges, OnlyReads, OnlySays}
use Rattle.acfg_device.specs.Panel.{Files, SaysPart}
use Rattle.acfg_device.specs.declared.panel.Panel.{Ghosts}
use Rattle.acfg_device.proofs.OnlyThen.{rose_then}
use Rattle.acfg_device.specs.Account.{Account}
use Rattle.acfg_device.specs.Disk.{Disk}
use Rattle.acfg_top.specs.Bodies.{AreWrites, Comes, IsEnding, IsOutputOf, IsProduct, writes_in}
use Rattle.acfg_top.specs.Outcome.{Outcome, Usage, Refused, Damaged, Done, Replayed, IsBroken, IsDone, IsOutput, IsWritten, Makes, OnlyWrites, Spares, Writes, said_for, written}
use Rattle.acfg_top.specs.declared.ending.Ending.{Ending}
use Rattle.acfg_top.specs.declared.ending.Ending.TheVariants as end
use Rattle.acfg_top.specs.declared.ending.Stop.{Stop}
use Rattle.acfg_top.specs.declared.output.Output.{Output}
use Rattle.acfg_top.proofs.Telling.{broken_earlier, settled_too}

-- files written are the same as writes
same_files : (files : List NewFile) (first : Files) → written_by files first ≡ written (writes_in files) first
same_files [] first = refl
same_files (file ∷ files) first = same_files files _

-- a file that is written is one of the outputs
pub among_writes : (files : List NewFile) (name : List ℕ) → IsNameAmong files name → Contains (map (λ (write : List ℕ × List ℕ). write.0) (writes_in files)) name
among_writes [] name among = absurd (omega (arith, among.1.1))
among_writes (file ∷ files) name (one, (zero, low, is), named) = (0, omega arith, sym (named ∙ ap (λ (file : NewFile). string_bytes file.name) (sym is)))
among_writes (file ∷ files) name (one, (suc k, low, is), named) =
    let rest = among_writes files name (one, (k, omega (arith, low), is), named) in
    (suc rest.0, omega (arith, rest.1), rest.2)

-- files that were written are those of the outcome
makes_writes : (outcome : Outcome) (all : Writes) → AreWrites outcome all → (before after : Files) → after ≡ written all before → Makes outcome before after
makes_writes Usage all are before after is = subst (λ (all : Writes). after ≡ written all before) (sym are) is
makes_writes (Refused file what) all are before after is = subst (λ (all : Writes). after ≡ written all before) (sym are) is
makes_writes (Damaged file) all are before after is = subst (λ (all : Writes). after ≡ written all before) (sym are) is
makes_writes (Done text writes) all are before after is = subst (λ (all : Writes). after ≡ written all before) (sym are) is
makes_writes (Replayed dir text state) all are before after is = absurd are

-- the names of files
abbrev names_in : Writes → List (List ℕ)
names_in all = map (λ (write : List ℕ × List ℕ). write.0) all

none_named : (all : Writes) (name : List ℕ) → [] ≡ all → Contains (names_in all) name → ⊥
none_named all name are among =
    let none : Contains (names_in []) name = subst (λ (all : Writes). Contains (names_in all) name) (sym are) among in
    omega (arith, none.1)

writes_outputs : (outcome : Outcome) (all : Writes) → AreWrites outcome all → (name : List ℕ) → Contains (names_in all) name → IsOutput outcome name
writes_outputs Usage all are name among = none_named all name are among
writes_outputs (Refused file what) all are name among = none_named all name are among
writes_outputs (Damaged file) all are name among = none_named all name are among
writes_outputs (Done text writes) all are name among = subst (λ (all : Writes). Contains (names_in all) name) (sym are) among
writes_outputs (Replayed dir text state) all are name among = absurd are

-- where all is done there is no disk to spare
done_spares : (outcome : Outcome) (ending : Ending) → ending ≡ end.Done → IsEnding outcome ending → (before after : Disk) → Spares outcome before after
done_spares Usage ending done is before after = absurd is
done_spares (Refused file what) ending done is before after = let no : end.Refused ≡ end.Done = sym is ∙ done in cc
done_spares (Damaged file) ending done is before after = tt
done_spares (Done text writes) ending done is before after = tt
done_spares (Replayed dir text state) ending done is before after = tt

module _ {P : Type 0} (panel : Ghosts P) (output : Output) (ends : output.told.ending ≡ end.Done) (outcome : Outcome) (of : IsOutputOf outcome output) where
  pub output_of : (name : List ℕ) → IsNameAmong output.files.items name → IsOutput outcome name
  output_of name among = writes_outputs outcome (writes_in output.files.items) of.files name (among_writes output.files.items name among)

  -- the files are written, whatever is said behind that
  put_written : {before mid after : P} {fails : Type 0} → panel.files mid ≡ written_by output.files.items (panel.files before)
      → (IsSettled (panel.account before).now → IsSettled (panel.account mid).now) → OnlySays panel mid after fails → IsWritten panel outcome before after
  put_written {before} {mid} {after} files settles says = record {
    files = makes_writes outcome (writes_in output.files.items) of.files (panel.files before) (panel.files after)
        (says.files ∙ files ∙ same_files output.files.items (panel.files before));
    settled = λ settled. settled_too _ _ says.names says.pending (settles settled);
  }

  -- all is done
  pub put_done : {before mid after : P} {fails : Type 0} → panel.files mid ≡ written_by output.files.items (panel.files before) → panel.said mid ≡ panel.said before
      → (IsSettled (panel.account before).now → IsSettled (panel.account mid).now) → OnlySays panel mid after fails → panel.said after ≡ panel.said mid ++ output.told.text.items
      → IsDone panel outcome before after
  put_done files said settles says grown =
      let done = put_written files settles says in
      record { said = grown ∙ (λ j. said j ++ of.text j); files = done.files; settled = done.settled; spared = done_spares outcome output.told.ending ends of.ending _ _ }

  -- files couldn't be written
  pub saving_broken : {before after : P} {fails : Type 0} → OnlyChanges panel (IsNameAmong output.files.items) before after fails → IsBroken panel outcome before after
  saving_broken {before} changes = record {
    said = ([], said_for outcome, refl, changes.said ∙ sym (append-nil (panel.said before)));
    files = λ name apart. changes.others name (λ among. apart (output_of name among));
    order = inl changes.said;
    spared = done_spares outcome output.told.ending ends of.ending _ _;
  }

  -- files were written, and words couldn't be said
  pub saying_broken : {before mid after : P} {fails : Type 0} → panel.files mid ≡ written_by output.files.items (panel.files before) → panel.said mid ≡ panel.said before
      → (IsSettled (panel.account before).now → IsSettled (panel.account mid).now) → OnlySays panel mid after fails → SaysPart (panel.said mid) (panel.said after) output.told.text.items → IsBroken panel outcome before after
  saying_broken {before} {mid} {after} files said settles says part = record {
    said = (part.0, part.1, sym of.text ∙ part.2, part.3 ∙ ap (λ s. s ++ part.0) said);
    files = λ name apart.
        ap (λ (f : Files). f name) (says.files ∙ files) ∙ written_others output.files.items (panel.files before) name (λ among. apart (output_of name among));
    order = inr (inl (put_written files settles says));
    spared = done_spares outcome output.told.ending ends of.ending _ _;
  }

module _ {P : Type 0} (panel : Ghosts P) (changed : List ℕ → Type 0) where
  -- files alone
  pub changes_writes : {before after : P} {fails failed : Type 0} → (failed → fails) → OnlyChanges panel changed before after fails → OnlyWrites panel changed before after failed
  changes_writes {before} fail changes = record {
    others = changes.others;
    words = λ tells. ([], changes.said ∙ sym (append-nil (panel.said before)));
    count = changes.count;
    failed = λ failed. changes.failed (fail failed);
  }

  -- files, and then words
  pub changes_says : {before mid after : P} {fails failed : Type 0} → OnlyChanges panel changed before mid fails → OnlySays panel mid after failed → OnlyWrites panel changed before after failed
  changes_says {before} changes says = record {
    others = λ name apart. ap (λ (f : Files). f name) says.files ∙ changes.others name apart;
    words = λ tells. let more = says.words tells in (more.0, more.1 ∙ ap (λ s. s ++ more.0) changes.said);
    count = omega (arith, changes.count, says.count);
    failed = λ failed. rose_then _ _ _ changes.count says.count (says.failed failed);
  }

  -- a look, and then both
  pub reads_writes : {before mid after : P} {looks fails : Type 0} → OnlyReads panel before mid looks → OnlyWrites panel changed mid after fails → OnlyWrites panel changed before after fails
  reads_writes {before} reads writes = record {
    others = λ name apart. writes.others name apart ∙ ap (λ (f : Files). f name) reads.files;
    words = λ tells. let more = writes.words tells in (more.0, more.1 ∙ ap (λ s. s ++ more.0) reads.said);
    count = omega (arith, reads.count, writes.count);
    failed = λ failed. rose_then _ _ _ reads.count writes.count (writes.failed failed);
  }

  -- a look alone
  pub looks_writes : {before after : P} {looks fails : Type 0} → (fails → looks) → OnlyReads panel before after looks → OnlyWrites panel changed before after fails
  looks_writes {before} fail reads = record {
    others = λ name apart. ap (λ (f : Files). f name) reads.files;
    words = λ tells. ([], reads.said ∙ sym (append-nil (panel.said before)));
    count = reads.count;
    failed = λ failed. reads.failed (fail failed);
  }

  -- other names for the files that may change
  pub writes_more : {other : List ℕ → Type 0} {before after : P} {fails : Type 0} → ((name : List ℕ) → changed name → other name) → OnlyWrites panel changed before after fails → OnlyWrites panel other before after fails
  writes_more more writes = record { others = λ name apart. writes.others name (λ here. apart (more name here)); words = writes.words; count = writes.count; failed = writes.failed }

-- what is done behind a look is done from before it
pub done_earlier : {P : Type 0} (panel : Ghosts P) {before mid after : P} {looks : Type 0} → OnlyReads panel before mid looks → (outcome : Outcome) → IsDone panel outcome mid after → IsDone panel outcome before after
done_earlier panel {before} {mid} {after} reads outcome done = record {
  said = done.said ∙ ap (λ s. s ++ said_for outcome) reads.said;
  files = subst (λ (f : Files). Makes outcome f (panel.files after)) reads.files done.files;
  settled = λ settled. done.settled (subst (λ a. IsSettled a.now) (sym reads.account) settled);
  spared = subst (λ (a : Account). Spares outcome a.now (panel.account after).now) reads.account done.spared;
}

-- and told so
pub comes_earlier : {P : Type 0} (panel : Ghosts P) {before mid : P} {looks : Type 0} → OnlyReads panel before mid looks → (gives_behind gives : Outcome → Type 0) → ((outcome : Outcome) → gives_behind outcome → gives outcome)
    → (after : P) (result : Result Ending Stop) → IfOk result (λ ending. Comes panel gives_behind ending mid after) → IfOk result (λ ending. Comes panel gives ending before after)
comes_earlier panel reads gives_behind gives given after (Ok ending) comes = record {
  outcome = comes.outcome;
  given = given comes.outcome comes.given;
  is = comes.is;
  done = done_earlier panel reads comes.outcome comes.done;
}
comes_earlier panel reads gives_behind gives given after (Err stop) comes = tt

module _ {P : Type 0} (panel : Ghosts P) (output : Output) (ends : output.told.ending ≡ end.Done) {before mid after : P} {fails : Type 0} (files : panel.files mid ≡ written_by output.files.items (panel.files before)) (said : panel.said mid ≡ panel.said before)
    (says : OnlySays panel mid after fails) where
  -- files were written, and words were said
  pub put_ends : (result : Result Ending Stop) → (IsSettled (panel.account before).now → IsSettled (panel.account mid).now) → IfOk result (λ ending. ending ≡ output.told.ending)
      → OnOk result (panel.said after ≡ panel.said mid ++ output.told.text.items)
      → IfOk result (λ ending. (outcome : Outcome) → IsOutputOf outcome output → IsEnding outcome ending × IsDone panel outcome before after)
  put_ends (Ok ending) settles same grown = λ outcome of. (subst (IsEnding outcome) (sym same) of.ending, put_done panel output ends outcome of files said settles says grown)
  put_ends (Err stop) settles same grown = tt

  -- or not all of them
  pub put_breaks : (result : Result Ending Stop) → (IsSettled (panel.account before).now → IsSettled (panel.account mid).now) → OnErr result (SaysPart (panel.said mid) (panel.said after) output.told.text.items)
      → OnErr result ((outcome : Outcome) → IsOutputOf outcome output → IsBroken panel outcome before after)
  put_breaks (Ok ending) settles part = tt
  put_breaks (Err stop) settles part = λ outcome of. saying_broken panel output ends outcome of files said settles says part

-- what a command makes of a look, and then writes and says
module _ {P : Type 0} (panel : Ghosts P) {before mid : P} (after : P) {looks : Type 0} (reads : OnlyReads panel before mid looks) (gives : Outcome → Type 0) (output : Output) (product : IsProduct gives output) where
  pub put_comes : (result : Result Ending Stop) → IfOk result (λ ending. (outcome : Outcome) → IsOutputOf outcome output → IsEnding outcome ending × IsDone panel outcome mid after)
      → IfOk result (λ ending. Comes panel gives ending before after)
  put_comes (Ok ending) ends =
      let end = ends product.0 product.2 in
      record { outcome = product.0; given = product.1; is = end.0; done = done_earlier panel reads product.0 end.1 }
  put_comes (Err stop) ends = tt

  pub put_broken : ((a b : Outcome) → gives a → gives b → a ≡ b) → (result : Result Ending Stop) → OnErr result ((outcome : Outcome) → IsOutputOf outcome output → IsBroken panel outcome mid after)
      → OnErr result ((outcome : Outcome) → gives outcome → IsBroken panel outcome before after)
  put_broken one (Ok ending) broken = tt
  put_broken one (Err stop) broken = λ outcome given.
      broken_earlier panel reads.files reads.said reads.account outcome (broken outcome (subst (λ o. IsOutputOf o output) (one product.0 outcome product.1 given) product.2))

-- files that couldn't be written break off what has to be done
pub save_breaks : {P : Type 0} (panel : Ghosts P) (output : Output) → output.told.ending ≡ end.Done → {before after : P} {fails : Type 0} (result : Result Ending Stop) → OnlyChanges panel (IsNameAmong output.files.items) before after fails
    → OnErr result ((outcome : Outcome) → IsOutputOf outcome output → IsBroken panel outcome before after)
save_breaks panel output ends (Ok ending) changes = tt
save_breaks panel output ends (Err stop) changes = λ outcome of. saving_broken panel output ends outcome of changes

-- the same files by another list
pub changes_same : {P : Type 0} {panel : Ghosts P} {before after : P} {fails : Type 0} (files other : List NewFile) → files ≡ other → OnlyChanges panel (IsNameAmong files) before after fails
    → OnlyChanges panel (IsNameAmong other) before after fails
changes_same {P} {panel} {before} {after} {fails} files other same changes = subst (λ (files : List NewFile). OnlyChanges panel (IsNameAmong files) before after fails) same changes
