-- One call behind another, where each only reads, only says or only changes some files. A function of such
-- calls mostly needs none of these, since `search` opens the words; they serve answers of loops, as
--     says = says_then so_far.says (reads_says c.read.ensures.reads) (λ fault. fault);
use Rattle.std.proofs.Common.{◌≤◌, ◌++◌, ℕ, List, [], ◌∙◌, ap, arith, append_assoc}
use Rattle.acfg_device.specs.Only.{OnlyChanges, OnlyReads, OnlySays}
use Rattle.acfg_device.specs.Panel.{Files, Rose}
use Rattle.acfg_device.specs.declared.panel.Panel.{Ghosts}

-- a count that rose in the second of two calls rose in both together
pub rose_then : (first second third : ℕ) → first ≤ second → second ≤ third → Rose second third → Rose first third
rose_then first second third early late rose = λ low. omega (arith, rose (omega arith))

module _ {P : Type 0} {panel : Ghosts P} {first second third : P} {one two fails : Type 0} where
  pub reads_then : OnlyReads panel first second one → OnlyReads panel second third two → (fails → two) → OnlyReads panel first third fails
  reads_then early late is = record {
    files = late.files ∙ early.files;
    said = late.said ∙ early.said;
    account = late.account ∙ early.account;
    count = omega (arith, early.count, late.count);
    failed = λ fault. rose_then _ _ _ early.count late.count (late.failed (is fault));
  }

  pub says_then : OnlySays panel first second one → OnlySays panel second third two → (fails → two) → OnlySays panel first third fails
  says_then early late is = record {
    files = late.files ∙ early.files;
    names = late.names ∙ early.names;
    pending = late.pending ∙ early.pending;
    words = λ told.
        let before = early.words told in
        let after = late.words told in
        (before.0 ++ after.0, after.1 ∙ ap (λ (said : List ℕ). said ++ after.0) before.1 ∙ append_assoc (panel.said first) before.0 after.0);
    count = omega (arith, early.count, late.count);
    failed = λ fault. rose_then _ _ _ early.count late.count (late.failed (is fault));
  }

  pub changes_then : (changed : List ℕ → Type 0) → OnlyChanges panel changed first second one → OnlyChanges panel changed second third two → (fails → two)
      → OnlyChanges panel changed first third fails
  changes_then changed early late is = record {
    others = λ name apart. late.others name apart ∙ early.others name apart;
    said = late.said ∙ early.said;
    count = omega (arith, early.count, late.count);
    failed = λ fault. rose_then _ _ _ early.count late.count (late.failed (is fault));
  }

module _ {P : Type 0} {panel : Ghosts P} {first second : P} {fails : Type 0} where
  -- and changes nothing
  pub reads_changes : (changed : List ℕ → Type 0) → OnlyReads panel first second fails → OnlyChanges panel changed first second fails
  reads_changes changed reads = record {
    others = λ name apart. ap (λ (files : Files). files name) reads.files;
    said = reads.said;
    count = reads.count;
    failed = reads.failed;
  }

  -- more files may have changed
  pub changes_more : (some changed : List ℕ → Type 0) → ((name : List ℕ) → some name → changed name) → OnlyChanges panel some first second fails → OnlyChanges panel changed first second fails
  changes_more some changed among changes = record {
    others = λ name apart. changes.others name (λ is. apart (among name is));
    said = changes.said;
    count = changes.count;
    failed = changes.failed;
  }
