use Rattle.std.proofs.Common.{refl, arith}
use Rattle.acfg_text.proofs.Plainness.{are_plain}
use Rattle.acfg_text.proofs.reader.FieldReader.new.Goals as goal

pub invariant_of-result : goal.invariant_of-result
invariant_of-result c = record { plain = are_plain c.args.source.now c.in_ok-tokens.tokens c.in_ok-tokens.ensures.ok c.in_ok-tokens.ensures.few; within = omega arith }

pub returns-clause-ok : goal.returns-clause-ok
returns-clause-ok c = record { found = c.in_ok-tokens.tokens; lexes = c.in_ok-tokens.ensures.ok; ends = refl; leads = refl }
