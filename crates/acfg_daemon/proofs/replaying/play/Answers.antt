use Rattle.std.proofs.Common.{◌+◌, ◌∙◌, length, [], arith, sym, refl}
use Rattle.std.proofs.lemmas.List.{append-nil}
use Rattle.std.proofs.lemmas.Bool.{eqb-true}
use Rattle.acfg_device.proofs.Moments.{joined}
use Rattle.acfg_store.specs.Applied.{state_in}
use Rattle.acfg_store.specs.Names.{IsOfDirectory}
use Rattle.acfg_daemon.specs.Lines.{lines}
use Rattle.acfg_daemon.specs.Playing.{LeavesLine}
use Rattle.acfg_daemon.specs.Replayed.{LeavesRun}
use Rattle.acfg_daemon.proofs.Answered.{answers_then}
use Rattle.acfg_daemon.proofs.Played.{goes_begun, goes_on, goes_start, goes_stops, goes_whole, leaves_run, line_others, run_rests}
use Rattle.acfg_daemon.proofs.replaying.play.Goals as goal

pub loop-rest-init : goal.loop-rest-init
loop-rest-init g c = record {
  short = omega arith;
  dir = refl;
  answers = record { others = λ name apart. refl; words = λ tells. ([], sym (append-nil (g.D.Panel.said c.args.device.now))); count = omega arith; failed = λ none. absurd none };
  goes = λ tells. goes_start (g.D.Panel.files c.args.device.now) (g.D.Panel.said c.args.device.now) c.args.opened c.args.script.now;
  ready = c.requires;
  cut = λ tells settled. run_rests (g.D.Panel.account c.args.device.now) (g.D.Panel.files c.args.device.now) (g.D.Panel.said c.args.device.now) c.args.opened (lines c.args.script.now)
      (g.met.D.Panel.files_told c.args.device.now) (g.met.D.Panel.said_told c.args.device.now) settled (c.requires tells);
  settled = λ tells settled. settled;
}

pub loop-rest-preserved : goal.loop-rest-preserved
loop-rest-preserved g c =
    let kept = c.loop-rest.invariant in
    let taken = c.in_ok-store.ensures in
    let first = g.D.Panel.files c.args.device.now in
    let before = g.D.Panel.said c.args.device.now in
    let middle = c.loop-rest.device in
    let script = c.args.script.now in
    record {
      short = omega (arith, kept.short, c.split_line.ensures.shorter);
      dir = taken.dir ∙ kept.dir;
      answers = answers_then (IsOfDirectory c.args.opened.dir) kept.answers (line_others c.args.opened c.loop-rest.store kept.dir taken.answers) (λ none. absurd none);
      goes = λ tells. goes_on first (g.D.Panel.files middle) before c.args.opened script c.loop-rest.store c.loop-rest.number c.loop-rest.rest.now (g.D.Panel.said middle) c.split_line.result.0.now c.split_line.result.1.now
          (kept.goes tells) c.split_line.ensures.lines kept.answers.others _ _ (taken.said tells);
      ready = taken.open;
      cut = λ tells settled. joined (LeavesRun first before c.args.opened.dir (state_in c.args.opened) (lines script)) (LeavesLine (g.D.Panel.files middle) (g.D.Panel.said middle) c.loop-rest.store (c.loop-rest.number + 1) c.split_line.result.0.now)
          (g.D.Panel.account c.args.device.now) (g.D.Panel.account middle) _ (kept.cut tells settled) (taken.cut tells (kept.settled tells settled))
          (leaves_run first (g.D.Panel.files middle) before c.args.opened script c.loop-rest.store c.loop-rest.number c.loop-rest.rest.now (g.D.Panel.said middle) c.split_line.result.0.now c.split_line.result.1.now
          (kept.goes tells) c.split_line.ensures.lines kept.answers.others);
      settled = λ tells settled. taken.settled tells (kept.settled tells settled) (λ e. cc);
    }

pub returns-in_err-store-clause-begun : goal.returns-in_err-store-clause-begun
returns-in_err-store-clause-begun g c tells =
    let kept = c.loop-rest.invariant in
    let middle = c.loop-rest.device in
    goes_stops (g.D.Panel.files c.args.device.now) (g.D.Panel.files middle) (g.D.Panel.said c.args.device.now) c.args.opened c.args.script.now c.loop-rest.store c.loop-rest.number c.loop-rest.rest.now (g.D.Panel.said middle) c.split_line.result.0.now c.split_line.result.1.now
    (kept.goes tells) c.split_line.ensures.lines kept.answers.others _ (c.in_err-store.ensures.begun tells)

pub returns-in_err-store-clause-cut : goal.returns-in_err-store-clause-cut
returns-in_err-store-clause-cut g c tells settled =
    let kept = c.loop-rest.invariant in
    let first = g.D.Panel.files c.args.device.now in
    let before = g.D.Panel.said c.args.device.now in
    let middle = c.loop-rest.device in
    let script = c.args.script.now in
    joined (LeavesRun first before c.args.opened.dir (state_in c.args.opened) (lines script)) (LeavesLine (g.D.Panel.files middle) (g.D.Panel.said middle) c.loop-rest.store (c.loop-rest.number + 1) c.split_line.result.0.now)
    (g.D.Panel.account c.args.device.now) (g.D.Panel.account middle) _ (kept.cut tells settled) (c.in_err-store.ensures.cut tells (kept.settled tells settled))
    (leaves_run first (g.D.Panel.files middle) before c.args.opened script c.loop-rest.store c.loop-rest.number c.loop-rest.rest.now (g.D.Panel.said middle) c.split_line.result.0.now c.split_line.result.1.now
    (kept.goes tells) c.split_line.ensures.lines kept.answers.others)

pub returns-clause-told : goal.returns-clause-told
returns-clause-told g c tells =
    let kept = c.loop-rest.invariant in
    let none = eqb-true (length c.loop-rest.rest.now) 0 (sym c.loop-rest-test.ensures) in
    goes_whole (g.D.Panel.files c.args.device.now) (g.D.Panel.files c.loop-rest.device) (g.D.Panel.said c.args.device.now) c.args.opened c.args.script.now c.loop-rest.store c.loop-rest.number c.loop-rest.rest.now _ (kept.goes tells) (kept.ready tells) none

pub returns-clause-begun : goal.returns-clause-begun
returns-clause-begun g c tells =
    let none = eqb-true (length c.loop-rest.rest.now) 0 (sym c.loop-rest-test.ensures) in
    goes_begun (g.D.Panel.files c.args.device.now) (g.D.Panel.said c.args.device.now) c.args.opened c.args.script.now c.loop-rest.store c.loop-rest.number c.loop-rest.rest.now _ (c.loop-rest.invariant.goes tells) none
