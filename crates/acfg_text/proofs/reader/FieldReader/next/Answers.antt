use Rattle.std.proofs.Common.{◌<◌, length, sym}
use Rattle.std.specs.Prelude.{◌≤◌}
use Rattle.std.proofs.lemmas.Option.{MatchOption-at_none, MatchOption-at_some}
use Rattle.std.proofs.lemmas.Result.{err_from_is_err_and}
use Rattle.acfg_text.proofs.Failures.{at_weaker}
use Rattle.acfg_text.proofs.Onward.{reads_next, reads_all, fails_next, less_left, within_some}
use Rattle.acfg_text.proofs.reader.FieldReader.next.Goals as goal

pub next_field-requires : goal.next_field-requires
next_field-requires c = record { plain = c.self.invariant.plain }

pub returns-in_err-field-clause-err : goal.returns-in_err-field-clause-err
returns-in_err-field-clause-err c =
    let p = err_from_is_err_and c.from_residual.result c.from_residual.ensures.1 in
    rw (p.1, p.2) (at_weaker c.in_err-field.field-0.0 _ _ (λ q w f. fails_next c.self.inside.tokens c.self.inside.end c.self.inside.at c.args.self.now (sym c.self.view_is) q w f) c.in_err-field.ensures.err)

pub returns-in_default-clause-ok : goal.returns-in_default-clause-ok
returns-in_default-clause-ok c = reads_all c.self.inside.tokens c.self.inside.end c.self.inside.at c.args.self.now (sym c.self.view_is) (MatchOption-at_none _ _ c.in_default.is c.in_ok-field.ensures.ok)

pub invariant_of-self : goal.invariant_of-self
invariant_of-self c = record { plain = c.self.invariant.plain; within = (within_some (c.in-Some.field, c.in-Some.next) c.in-Some.is c.in_ok-field.ensures.within).1 }

pub returns-clause-ok : goal.returns-clause-ok
returns-clause-ok c = reads_next c.self.inside.tokens c.self.inside.end c.self.inside.at c.args.self.now (sym c.self.view_is) c.in-Some.next c.in-Some.field (MatchOption-at_some _ _ (c.in-Some.field, c.in-Some.next) c.in-Some.is c.in_ok-field.ensures.ok)

pub returns-clause-shorter : goal.returns-clause-shorter
returns-clause-shorter c =
    let within : (c.self.inside.at < c.in-Some.next) × (c.in-Some.next ≤ length c.self.inside.tokens) = within_some (c.in-Some.field, c.in-Some.next) c.in-Some.is c.in_ok-field.ensures.within in
    less_left c.self.inside.tokens c.self.inside.end c.self.inside.at c.args.self.now (sym c.self.view_is) c.in-Some.next within.0 within.1
