use Rattle.std.proofs.Common.{◌≡◌, ◌+◌, ◌++◌, drop, sym, ap, ◌∙◌, arith, append_assoc}
use Rattle.acfg_text.specs.Escapes.{value_behind}
use Rattle.acfg_text.specs.Meanings.{bytes_of}
use Rattle.acfg_text.proofs.Scans.{escape_tail, value_escape, room_behind}
use Rattle.acfg_text.proofs.quoted.push_value.Goals as goal

pub overflow_add-at-in-Some : goal.overflow_add-at-in-Some
overflow_add-at-in-Some c = omega (arith, room_behind c.args.quote c.loop-at.at c.args.text.now c.loop-at-test.true c.in-Some.meaning (escape_tail c.loop-at.at c.args.text.now _ c.in-Some.ensures))

pub overflow_add-at-in-Some-2 : goal.overflow_add-at-in-Some-2
overflow_add-at-in-Some-2 c = omega (arith, room_behind c.args.quote c.loop-at.at c.args.text.now c.loop-at-test.true c.in-Some.meaning (escape_tail c.loop-at.at c.args.text.now _ c.in-Some.ensures))

pub loop-at-preserved : goal.loop-at-preserved
loop-at-preserved c =
    let value : value_behind c.args.quote 0 (drop c.loop-at.at c.args.text.now) ≡ bytes_of c.in-Some.meaning.sign ++ value_behind c.args.quote 0 (drop (c.loop-at.at + (c.in-Some.meaning.length + 1)) c.args.text.now)
    = value_escape c.args.quote c.loop-at.at c.args.text.now c.loop-at-test.true c.in-Some.meaning (sym c.in-Backslash.ensures) (escape_tail c.loop-at.at c.args.text.now _ c.in-Some.ensures) in (
      room_behind c.args.quote c.loop-at.at c.args.text.now c.loop-at-test.true c.in-Some.meaning (escape_tail c.loop-at.at c.args.text.now _ c.in-Some.ensures),
      ap (λ l. l ++ value_behind c.args.quote 0 (drop (c.loop-at.at + (c.in-Some.meaning.length + 1)) c.args.text.now)) c.in_ok-push_sign-in-Some.ensures
          ∙ append_assoc c.loop-at.out.items (bytes_of c.in-Some.meaning.sign) (value_behind c.args.quote 0 (drop (c.loop-at.at + (c.in-Some.meaning.length + 1)) c.args.text.now))
          ∙ ap (λ l. c.loop-at.out.items ++ l) (sym value) ∙ c.loop-at.invariant.1,
    )
