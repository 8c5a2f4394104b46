use Rattle.std.proofs.Common.{map, sym, subst}
use Rattle.std.proofs.lemmas.Result.{err_from_is_err_and}
use Rattle.acfg_text.specs.Lexes.{Lexes}
use Rattle.acfg_text.specs.Machine.{fault}
use Rattle.acfg_text.specs.Marked.{marked}
use Rattle.acfg_text.proofs.Lexing.{lex_lexes, lex_faults}
use Rattle.acfg_text.proofs.Failures.{at_weaker}
use Rattle.acfg_text.proofs.lexer.lexed.Goals as goal

pub returns-clause-ok : goal.returns-clause-ok
returns-clause-ok c = subst (Lexes c.args.source.now) (sym c.new-found.ensures) (lex_lexes c.args.source.now (map (marked c.args.source.now) c.in_ok-marks.marks) c.in_ok-marks.ensures.ok)

pub returns-in_err-marks-clause-err : goal.returns-in_err-marks-clause-err
returns-in_err-marks-clause-err c =
    let p = err_from_is_err_and c.from_residual.result c.from_residual.ensures.1 in
    rw (p.1, p.2) (at_weaker c.in_err-marks.field-0.0 _ _ (λ q w e. lex_faults c.args.source.now (fault q w) e) c.in_err-marks.ensures.err)
