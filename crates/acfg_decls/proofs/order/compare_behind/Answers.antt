use Rattle.std.proofs.Common.{◌∷◌, ◌++◌, ◌∙◌, ap₂, arith}
use Rattle.std.specs.Ordering.{nat_cmp, ordering_then}
use Rattle.std.specs.Cmp.Lexicographic.{slice_cmp}
use Rattle.acfg_base.specs.Names.{dot}
use Rattle.acfg_decls.proofs.Fronts.{text_fronts}
use Rattle.acfg_decls.proofs.order.compare_behind.Goals as goal

pub returns : goal.returns
returns c =
    c.then.ensures
    ∙ ap₂ ordering_then (c.cmp.ensures ∙ ap₂ (slice_cmp nat_cmp) c.split_at.ensures.front c.split_at-2.ensures.front)
    (c.compare_ended.ensures ∙ ap₂ (λ a b. slice_cmp nat_cmp a (b ++ dot ∷ c.args.name.now)) c.split_at.ensures.back c.split_at-2.ensures.back)
    ∙ text_fronts c.min-common.result c.args.text.now c.args.package.now (dot ∷ c.args.name.now) (omega arith) (omega arith)
