use Rattle.std.proofs.Common.{◌+◌, length, [], arith, subst, sym, refl}
use Rattle.std.proofs.lemmas.List.{append-nil}
use Rattle.std.proofs.lemmas.Bool.{eqb-true}
use Rattle.acfg_model.specs.State.{State}
use Rattle.acfg_daemon.specs.Sources.{Loads}
use Rattle.acfg_daemon.specs.Transcript.{LineSays, BeginsLine}
use Rattle.acfg_daemon.proofs.OneTranscript.{loads_unique}
use Rattle.acfg_daemon.proofs.Going.{Goes, goes_start, goes_on, goes_stops, goes_whole, goes_begun, said_part}
use Rattle.acfg_device.proofs.OnlyThen.{says_then}
use Rattle.acfg_daemon.proofs.rehearsal.rehearse.Goals as goal

pub loop-rest-init : goal.loop-rest-init
loop-rest-init g c =
    let before = g.P.Panel.said c.args.panel.now in
    let files = g.P.Panel.files c.args.panel.now in
    record {
      short = omega arith;
      says = record { files = refl; names = refl; pending = refl; words = λ tells. ([], sym (append-nil before)); count = omega arith; failed = λ none. absurd none };
      goes = λ tells. subst (λ (state : State). Goes (Loads files) before c.args.script.now state 0 c.args.script.now before) (sym c.new-machine.ensures) (goes_start (Loads files) before c.args.script.now);
    }

pub loop-rest-preserved : goal.loop-rest-preserved
loop-rest-preserved g c =
    let kept = c.loop-rest.invariant in
    let taken = c.in_ok-take_line.ensures in
    record {
      short = omega (arith, kept.short, c.split_line.ensures.shorter);
      says = says_then kept.says taken.says (λ none. absurd none);
      goes = λ tells.
          let says = taken.ok tells in
          goes_on _ _ _ c.loop-rest.machine c.take_line.new.machine c.loop-rest.number c.loop-rest.rest.now c.split_line.result.0.now c.split_line.result.1.now _ says.0 _ (kept.goes tells) c.split_line.ensures.lines
          (subst (λ files. LineSays (Loads files) c.loop-rest.machine (c.loop-rest.number + 1) c.split_line.result.0.now c.take_line.new.machine says.0) kept.says.files says.1) says.2;
    }

pub returns-in_err-take_line-clause-begun : goal.returns-in_err-take_line-clause-begun
returns-in_err-take_line-clause-begun g c tells =
    let kept = c.loop-rest.invariant in
    let part = c.in_err-take_line.ensures.err tells in
    goes_stops _ _ _ c.loop-rest.machine c.loop-rest.number c.loop-rest.rest.now c.split_line.result.0.now c.split_line.result.1.now _ part.0 _ (kept.goes tells) c.split_line.ensures.lines
    (subst (λ files. BeginsLine (Loads files) c.loop-rest.machine (c.loop-rest.number + 1) c.split_line.result.0.now part.0) kept.says.files part.1) part.2

pub returns-in_err-take_line-clause-part : goal.returns-in_err-take_line-clause-part
returns-in_err-take_line-clause-part g c tells =
    said_part (Loads (g.P.Panel.files c.args.panel.now)) (loads_unique (g.P.Panel.files c.args.panel.now)) (g.P.Panel.said c.args.panel.now) c.args.script.now (g.P.Panel.said c.take_line.new.panel) (returns-in_err-take_line-clause-begun g c tells)

pub returns-clause-told : goal.returns-clause-told
returns-clause-told g c tells =
    let none = eqb-true (length c.loop-rest.rest.now) 0 (sym c.loop-rest-test.ensures) in
    goes_whole _ _ _ c.loop-rest.machine c.loop-rest.number c.loop-rest.rest.now _ (c.loop-rest.invariant.goes tells) none

pub returns-clause-begun : goal.returns-clause-begun
returns-clause-begun g c tells =
    let none = eqb-true (length c.loop-rest.rest.now) 0 (sym c.loop-rest-test.ensures) in
    goes_begun _ _ _ c.loop-rest.machine c.loop-rest.number c.loop-rest.rest.now _ (c.loop-rest.invariant.goes tells) none

pub returns-clause-part : goal.returns-clause-part
returns-clause-part g c tells =
    said_part (Loads (g.P.Panel.files c.args.panel.now)) (loads_unique (g.P.Panel.files c.args.panel.now)) (g.P.Panel.said c.args.panel.now) c.args.script.now (g.P.Panel.said c.loop-rest.panel) (returns-clause-begun g c tells)
