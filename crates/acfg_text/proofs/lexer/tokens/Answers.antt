use Rattle.std.proofs.Common.{map, sym, subst}
use Rattle.acfg_text.specs.Terminals.{lexeme_of}
use Rattle.acfg_text.specs.Lexes.{Lexes}
use Rattle.acfg_text.proofs.Slices.{lexes_slices, lexes_rising}
use Rattle.acfg_text.proofs.lexer.tokens.Goals as goal

pub returns-clause-ok : goal.returns-clause-ok
returns-clause-ok c = subst (Lexes c.args.source.now) (sym c.in_ok-list.ensures) c.in_ok-found.ensures.ok

pub returns-clause-slices : goal.returns-clause-slices
returns-clause-slices c = lexes_slices c.args.source.now (map lexeme_of c.in_ok-list.list.items) (subst (Lexes c.args.source.now) (sym c.in_ok-list.ensures) c.in_ok-found.ensures.ok)

pub returns-clause-rising : goal.returns-clause-rising
returns-clause-rising c = lexes_rising c.args.source.now (map lexeme_of c.in_ok-list.list.items) (subst (Lexes c.args.source.now) (sym c.in_ok-list.ensures) c.in_ok-found.ensures.ok)
