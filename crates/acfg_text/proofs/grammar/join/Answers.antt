use Rattle.std.proofs.Common.{◌+◌, true, ap, sym, ◌∙◌, arith}
use Rattle.acfg_text.specs.Machine.{in_text, st, run}
use Rattle.acfg_text.specs.Escapes.{spelled}
use Rattle.acfg_text.specs.Reading.{ahead}
use Rattle.acfg_text.proofs.Parts.{joined_more}
use Rattle.acfg_text.proofs.grammar.join.Goals as goal

pub loop-text-preserved : goal.loop-text-preserved
loop-text-preserved c = record {
  above = omega arith;
  within = omega (arith, c.in-Some.ensures.within);
  leads = λ h slot place top frames.
      joined_more c.args.tokens.now c.args.end c.args.from c.loop-text.at c.in-Some.ensures.ahead.0 (spelled c.args.first.now) c.loop-text.bytes.items c.in-Some.text.now c.loop-text.invariant.leads c.in-Some.ensures.ahead.1 h slot place top frames
      ∙ ap (λ b. run true c.args.end (ahead c.args.tokens.now (c.loop-text.at + 1)) (st (in_text h slot place b) top frames)) (sym c.in_ok-push_spelled-2.ensures);
}
