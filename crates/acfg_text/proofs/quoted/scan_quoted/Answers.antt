use Rattle.std.proofs.Common.{◌+◌, sym, ap, ◌∙◌, arith}
use Rattle.acfg_text.specs.Scanning.{is_cut, unknown_escape}
use Rattle.acfg_text.proofs.Scans.{escape_tail, tail_is, scan_close, scan_line, scan_plain, scan_escape, scan_unknown, scan_end, room_behind}
use Rattle.acfg_text.proofs.quoted.scan_quoted.Goals as goal

pub returns-in-Close-clause-value : goal.returns-in-Close-clause-value
returns-in-Close-clause-value c = sym (c.loop-at.invariant.1 ∙ scan_close c.args.quote c.loop-at.at c.args.text.now c.loop-at-test.true (sym c.in-Close.ensures))

pub returns-in-Line-clause-value : goal.returns-in-Line-clause-value
returns-in-Line-clause-value c = sym (c.loop-at.invariant.1 ∙ scan_line c.args.quote c.loop-at.at c.args.text.now c.loop-at-test.true (sym c.in-Line.ensures))

pub loop-at-preserved-in-Plain : goal.loop-at-preserved-in-Plain
loop-at-preserved-in-Plain c = (omega arith, c.loop-at.invariant.1 ∙ scan_plain c.args.quote c.loop-at.at c.args.text.now c.loop-at-test.true (sym c.in-Plain.ensures))

pub overflow_add-at-in-Some : goal.overflow_add-at-in-Some
overflow_add-at-in-Some c = omega (arith, room_behind c.args.quote c.loop-at.at c.args.text.now c.loop-at-test.true c.in-Some.meaning (escape_tail c.loop-at.at c.args.text.now _ c.in-Some.ensures))

pub overflow_add-at-in-Some-2 : goal.overflow_add-at-in-Some-2
overflow_add-at-in-Some-2 c = omega (arith, room_behind c.args.quote c.loop-at.at c.args.text.now c.loop-at-test.true c.in-Some.meaning (escape_tail c.loop-at.at c.args.text.now _ c.in-Some.ensures))

pub loop-at-preserved : goal.loop-at-preserved
loop-at-preserved c = (
  room_behind c.args.quote c.loop-at.at c.args.text.now c.loop-at-test.true c.in-Some.meaning (escape_tail c.loop-at.at c.args.text.now _ c.in-Some.ensures),
  c.loop-at.invariant.1 ∙ scan_escape c.args.quote c.loop-at.at c.args.text.now c.loop-at-test.true c.in-Some.meaning (sym c.in-Backslash.ensures) (escape_tail c.loop-at.at c.args.text.now _ c.in-Some.ensures),
)

pub returns-in-None-clause-value : goal.returns-in-None-clause-value
returns-in-None-clause-value c = c.unknown_escape.ensures ∙ ap (λ l. unknown_escape (is_cut l) c.loop-at.at) (tail_is (c.loop-at.at + 1) c.args.text.now) ∙ sym (c.loop-at.invariant.1 ∙ scan_unknown c.args.quote c.loop-at.at c.args.text.now c.loop-at-test.true (sym c.in-Backslash.ensures) (escape_tail c.loop-at.at c.args.text.now _ c.in-None.ensures))

pub returns-clause-value : goal.returns-clause-value
returns-clause-value c = sym (c.loop-at.invariant.1 ∙ scan_end c.args.quote c.loop-at.at c.args.text.now c.loop-at-test.false)
