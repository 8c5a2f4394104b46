use Rattle.std.proofs.Common.{sym, subst, true, ◌+◌}
use Rattle.acfg_text.specs.declared.tree.Value.TheVariants as v
use Rattle.acfg_text.specs.Reading.{cursor, ReadsValue}
use Rattle.acfg_text.proofs.Parts.{scalar_word, scalar_number, scalar_none}
use Rattle.acfg_text.proofs.grammar.read_scalar.Goals as goal

pub returns-in_ok-text_of-in-Word-clause-ok : goal.returns-in_ok-text_of-in-Word-clause-ok
returns-in_ok-text_of-in-Word-clause-ok c depth =
    subst (λ t. ReadsValue (cursor c.args.tokens.now c.args.end depth c.args.at) true (v.Word c.args.seen.place t) (c.args.at + 1)) (sym c.in_ok-text_of-in-Word.ensures) (scalar_word c.args.tokens.now c.args.end depth c.args.at c.args.seen c.requires.next c.in-Word.is)

pub returns-in_ok-text_of-in-Number-clause-ok : goal.returns-in_ok-text_of-in-Number-clause-ok
returns-in_ok-text_of-in-Number-clause-ok c depth =
    subst (λ t. ReadsValue (cursor c.args.tokens.now c.args.end depth c.args.at) true (v.Number c.args.seen.place t) (c.args.at + 1)) (sym c.in_ok-text_of-in-Number.ensures) (scalar_number c.args.tokens.now c.args.end depth c.args.at c.args.seen c.requires.next c.in-Number.is)

pub returns-in_default : goal.returns-in_default
returns-in_default c = record { ok = tt; within = tt; err = λ depth. scalar_none c.args.tokens.now c.args.end depth c.args.at c.args.seen c.requires.next c.in_default.not-Word c.in_default.not-Number c.in_default.not-Quoted c.requires.opens }
