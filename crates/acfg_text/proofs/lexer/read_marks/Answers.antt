use Rattle.std.proofs.lemmas.Result.{err_from_is_err_and}
use Rattle.acfg_text.proofs.Scans.{tail_is}
use Rattle.std.proofs.Common.{◌≡◌, ℕ, ◌+◌, ◌-◌, List, length, length-drop, ◌∙◌, ap, sym, arith, map, take, drop, ◌∷◌, [], Ok, append-nil}
use Rattle.acfg_text.specs.Scanning.{with_front, lex, comment_len}
use Rattle.acfg_text.specs.Terminals.{lexeme}
use Rattle.acfg_text.specs.Machine.{fault}
use Rattle.acfg_text.specs.Marked.{marked}
use Rattle.acfg_text.proofs.Steps.{lex_white, lex_comment, lex_nothing, lex_failed, lex_found, is_marked, found_more, lex_end}
use Rattle.acfg_text.proofs.Failures.{at_weaker}
use Rattle.acfg_text.proofs.lexer.read_marks.Goals as goal

pub loop-at-preserved-in-White : goal.loop-at-preserved-in-White
loop-at-preserved-in-White c = (omega arith, c.loop-at.invariant.1 ∙ ap (with_front (map (marked c.args.source.now) c.loop-at.found)) (lex_white c.loop-at.at c.args.source.now c.loop-at-test.true (sym c.in-White.ensures)))

pub loop-at-preserved-in-Comment : goal.loop-at-preserved-in-Comment
loop-at-preserved-in-Comment c =
    let rest : List ℕ = drop (c.loop-at.at + 1) c.args.source.now in
    let len : c.comment_len.result ≡ comment_len rest = c.comment_len.ensures.value ∙ ap comment_len (tail_is (c.loop-at.at + 1) c.args.source.now) in (
      omega (arith, c.comment_len.ensures.within, ap length (tail_is (c.loop-at.at + 1) c.args.source.now), length-drop (c.loop-at.at + 1) c.args.source.now),
      c.loop-at.invariant.1 ∙ ap (with_front (map (marked c.args.source.now) c.loop-at.found)) (lex_comment c.loop-at.at c.args.source.now c.loop-at-test.true (sym c.in-Comment.ensures)
          ∙ ap (λ n. lex 0 (c.loop-at.at + (1 + n)) (drop (c.loop-at.at + (1 + n)) c.args.source.now)) (sym len)),
    )

pub returns-in_err-end-in-Token-clause-err : goal.returns-in_err-end-in-Token-clause-err
returns-in_err-end-in-Token-clause-err c =
    let p = err_from_is_err_and c.from_residual.result c.from_residual.ensures.1 in
    rw (p.1, p.2) (at_weaker c.in_err-end-in-Token.field-0.0 _ _ (λ q w failed. c.loop-at.invariant.1 ∙ ap (with_front (map (marked c.args.source.now) c.loop-at.found)) (lex_failed c.loop-at.at c.args.source.now c.loop-at-test.true c.in-Token.kind (fault q w) (sym c.in-Token.ensures) failed)) c.in_err-end-in-Token.ensures.err)

pub loop-at-preserved : goal.loop-at-preserved
loop-at-preserved c =
    let step : lex 0 c.loop-at.at (drop c.loop-at.at c.args.source.now)
    ≡ with_front (lexeme c.in-Token.kind c.loop-at.at (take (c.in_ok-end-in-Token.end - c.loop-at.at) (drop c.loop-at.at c.args.source.now)) ∷ []) (lex 0 c.in_ok-end-in-Token.end (drop c.in_ok-end-in-Token.end c.args.source.now))
    = lex_found c.loop-at.at c.args.source.now c.loop-at-test.true c.in-Token.kind c.in_ok-end-in-Token.end c.in_ok-end-in-Token.ensures.within.0 c.in_ok-end-in-Token.ensures.within.1 (sym c.in-Token.ensures) c.in_ok-end-in-Token.ensures.ok in (
      c.in_ok-end-in-Token.ensures.within.1,
      c.loop-at.invariant.1 ∙ ap (with_front (map (marked c.args.source.now) c.loop-at.found)) step ∙ found_more c.args.source.now c.loop-at.found (c.loop-at.at, c.in_ok-end-in-Token.end) _ (lex 0 c.in_ok-end-in-Token.end (drop c.in_ok-end-in-Token.end c.args.source.now)) (is_marked c.loop-at.at c.args.source.now c.loop-at-test.true c.in-Token.kind c.in_ok-end-in-Token.end c.in_ok-end-in-Token.ensures.within.0 c.in_ok-end-in-Token.ensures.within.1 (sym c.in-Token.ensures))
          ∙ ap (λ l. with_front (map (marked c.args.source.now) l) (lex 0 c.in_ok-end-in-Token.end (drop c.in_ok-end-in-Token.end c.args.source.now))) (sym c.in_ok-push-in-Token.ensures),
    )

pub returns-in-Nothing-clause-err : goal.returns-in-Nothing-clause-err
returns-in-Nothing-clause-err c = c.loop-at.invariant.1 ∙ ap (with_front (map (marked c.args.source.now) c.loop-at.found)) (lex_nothing c.loop-at.at c.args.source.now c.loop-at-test.true (sym c.in-Nothing.ensures))

pub returns-clause-ok : goal.returns-clause-ok
returns-clause-ok c = c.loop-at.invariant.1 ∙ ap (with_front (map (marked c.args.source.now) c.loop-at.found)) (lex_end c.loop-at.at c.args.source.now c.loop-at-test.false) ∙ ap Ok (append-nil (map (marked c.args.source.now) c.loop-at.found))
