use Rattle.std.proofs.Common.{subst}
use Rattle.acfg_device.specs.Panel.{Files}
use Rattle.acfg_device.proofs.OnlyThen.{reads_then}
use Rattle.acfg_store.specs.Kept.{entry_of}
use Rattle.acfg_store.specs.Opening.{KeepsFiles, TellsOfRow}
use Rattle.acfg_store.specs.Stands.{Holds}
use Rattle.acfg_store.proofs.Stored.{fault_behind, held_more, kept_more, of_more}
use Rattle.acfg_store.proofs.opening.open_all.Goals as goal

pub returns-in-Err-clause-damaged : goal.returns-in-Err-clause-damaged
returns-in-Err-clause-damaged g c told =
    fault_behind c.args.rows.now c.loop-row.kept.items c.loop-row.row-index c.row-item.result c.loop-row-test.true c.row-item.is (g.P.Panel.files c.args.panel.now) c.args.dir.now
    c.loop-row.invariant.of (c.loop-row.invariant.holds told) c.in-Err.fault
    (subst (λ (files : Files). TellsOfRow files c.args.dir.now c.row-item.result c.in-Err.fault) c.loop-row.invariant.reads.files (c.in-Err.ensures.damaged told))

pub loop-row-preserved : goal.loop-row-preserved
loop-row-preserved g c = record {
  of = of_more c.args.rows.now c.loop-row.kept.items c.loop-row.row-index c.row-item.result c.loop-row-test.true c.row-item.is c.in-Ok.one c.push.new.self.items c.in_ok-push-in-Ok.ensures.items
      c.loop-row.invariant.of c.in-Ok.ensures.listed c.in-Ok.ensures.valid c.in-Ok.ensures.indexed c.in-Ok.ensures.copied;
  holds = λ told.
      held_more c.args.rows.now c.loop-row.kept.items c.loop-row.row-index c.row-item.result c.loop-row-test.true c.row-item.is c.in-Ok.one c.push.new.self.items c.in_ok-push-in-Ok.ensures.items
      (g.P.Panel.files c.args.panel.now) c.args.dir.now (c.loop-row.invariant.holds told)
      (subst (λ (files : Files). Holds files c.args.dir.now (entry_of c.in-Ok.one)) c.loop-row.invariant.reads.files (c.in-Ok.ensures.holds told));
  keeps = λ told.
      kept_more c.loop-row.kept.items c.in-Ok.one c.push.new.self.items c.in_ok-push-in-Ok.ensures.items (g.P.Panel.files c.args.panel.now) c.args.dir.now (c.loop-row.invariant.keeps told)
      (subst (λ (files : Files). KeepsFiles files c.args.dir.now c.in-Ok.one) c.loop-row.invariant.reads.files (c.in-Ok.ensures.keeps told));
  reads = reads_then c.loop-row.invariant.reads c.open_one.ensures.reads (λ never. absurd never);
}
