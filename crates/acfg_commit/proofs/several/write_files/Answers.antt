use Rattle.std.proofs.Common.{◌≡◌, ◌+◌, inr, ℕ, List, arith, refl, sym, ◌∙◌, ap, subst, drop}
use Rattle.std.proofs.lemmas.List.{take_all}
use Rattle.acfg_device.proofs.Carried.{carry_start}
use Rattle.acfg_device.proofs.OnlyThen.{changes_more, changes_then}
use Rattle.acfg_device.proofs.Runs.{carry_run}
use Rattle.acfg_commit.proofs.Writing.{among, free_at, free_later, one_synced, one_written}
use Rattle.acfg_commit.specs.Written.{AreSynced, IsNameAmong, written}
use Rattle.acfg_commit.specs.declared.several.NewFile.{NewFile}
use Rattle.acfg_commit.proofs.several.write_files.Goals as goal

pub loop-file-init : goal.loop-file-init
loop-file-init g c = record {
  files = λ told. refl;
  changes = record { others = λ name apart. refl; said = refl; count = omega arith; failed = λ never. absurd never };
  cut = λ told free. carry_start (IsNameAmong c.args.files.now) (g.D.Panel.account c.args.device.now);
  free = λ told name free. free;
  ready = λ told ready. ready;
  calls = λ told. omega arith;
  synced = λ told k d low. absurd (omega (arith, low));
}

pub returns-in_err-write_synced-clause-changes : goal.returns-in_err-write_synced-clause-changes
returns-in_err-write_synced-clause-changes g c =
    let here = among c.args.files.now c.loop-file.file-index c.file-item.result c.as_str.result.now c.as_slice.result.now c.loop-file-test.true c.file-item.is c.as_str.ensures.value c.as_slice.ensures.value in
    changes_then (IsNameAmong c.args.files.now) c.loop-file.invariant.changes
    (changes_more (λ (other : List ℕ). other ≡ c.as_str.result.now) (IsNameAmong c.args.files.now) (λ name is. subst (IsNameAmong c.args.files.now) (sym is) here) c.in_err-write_synced.ensures.changes)
    (λ fails. refl)

pub returns-in_err-write_synced-clause-cut : goal.returns-in_err-write_synced-clause-cut
returns-in_err-write_synced-clause-cut g c told free =
    let so_far = c.loop-file.invariant in
    let here = among c.args.files.now c.loop-file.file-index c.file-item.result c.as_str.result.now c.as_slice.result.now c.loop-file-test.true c.file-item.is c.as_str.ensures.value c.as_slice.ensures.value in
    let alone = free_at c.args.files.now c.loop-file.file-index c.file-item.result c.as_str.result.now c.as_slice.result.now c.loop-file-test.true c.file-item.is c.as_str.ensures.value c.as_slice.ensures.value
    (g.D.Panel.account c.args.device.now).now (g.D.Panel.account c.loop-file.device).now free (so_far.free told) in
    carry_run (IsNameAmong c.args.files.now) (λ (other : List ℕ). other ≡ c.as_str.result.now) (IsNameAmong c.args.files.now) (λ name is. is)
    (λ name is. subst (IsNameAmong c.args.files.now) (sym is) here) (so_far.cut told free) (c.in_err-write_synced.ensures.cut told (inr alone))

pub loop-file-preserved : goal.loop-file-preserved
loop-file-preserved g c =
    let so_far = c.loop-file.invariant in
    let here = among c.args.files.now c.loop-file.file-index c.file-item.result c.as_str.result.now c.as_slice.result.now c.loop-file-test.true c.file-item.is c.as_str.ensures.value c.as_slice.ensures.value in
    record {
      files = λ told.
          ap (written (drop (c.loop-file.file-index + 1) c.args.files.now)) (c.in_ok-write_synced.ensures.files told)
          ∙ sym (one_written c.args.files.now c.loop-file.file-index c.file-item.result c.as_str.result.now c.as_slice.result.now c.loop-file-test.true c.file-item.is c.as_str.ensures.value c.as_slice.ensures.value
          (g.D.Panel.files c.loop-file.device))
          ∙ so_far.files told;
      changes =
          changes_then (IsNameAmong c.args.files.now) so_far.changes
          (changes_more (λ (other : List ℕ). other ≡ c.as_str.result.now) (IsNameAmong c.args.files.now) (λ name is. subst (IsNameAmong c.args.files.now) (sym is) here) c.write_synced.ensures.changes)
          (λ never. absurd never);
      cut = λ told free.
          let alone = free_at c.args.files.now c.loop-file.file-index c.file-item.result c.as_str.result.now c.as_slice.result.now c.loop-file-test.true c.file-item.is c.as_str.ensures.value c.as_slice.ensures.value
          (g.D.Panel.account c.args.device.now).now (g.D.Panel.account c.loop-file.device).now free (so_far.free told) in
          carry_run (IsNameAmong c.args.files.now) (λ (other : List ℕ). other ≡ c.as_str.result.now) (IsNameAmong c.args.files.now) (λ name is. is)
          (λ name is. subst (IsNameAmong c.args.files.now) (sym is) here) (so_far.cut told free) (c.in_ok-write_synced.ensures.cut told (inr alone));
      free = λ told. free_later (g.D.Panel.account c.args.device.now).now (g.D.Panel.account c.loop-file.device).now (g.D.Panel.account c.write_synced.new.device).now _ _ (c.in_ok-write_synced.ensures.disk told) (so_far.free told);
      ready = λ told ready. c.in_ok-write_synced.ensures.ready told (so_far.ready told ready);
      calls = λ told. omega (arith, c.in_ok-write_synced.ensures.calls told, so_far.calls told);
      synced = λ told.
          one_synced c.args.files.now c.loop-file.file-index c.file-item.result c.as_str.result.now c.as_slice.result.now c.loop-file-test.true c.file-item.is c.as_str.ensures.value c.as_slice.ensures.value
          (g.D.Panel.account c.loop-file.device).now (g.D.Panel.account c.write_synced.new.device).now (c.in_ok-write_synced.ensures.disk told) (so_far.synced told);
    }

pub returns-clause-synced : goal.returns-clause-synced
returns-clause-synced g c told =
    subst (λ (files : List NewFile). AreSynced files (g.D.Panel.account c.loop-file.device).now) (take_all c.loop-file.file-index c.args.files.now c.loop-file-test.false) (c.loop-file.invariant.synced told)
