use Rattle.std.proofs.Common.{◌∷◌, ◌++◌, ◌∙◌, ap₂, arith}
use Rattle.std.specs.Ordering.{nat_cmp, ordering_then}
use Rattle.std.specs.Cmp.Lexicographic.{slice_cmp}
use Rattle.acfg_base.specs.Names.{dot}
use Rattle.acfg_decls.proofs.Fronts.{fronts}
use Rattle.acfg_decls.proofs.order.compare_joined.Goals as goal

pub returns : goal.returns
returns c =
    c.then.ensures
    ∙ ap₂ ordering_then (c.cmp.ensures ∙ ap₂ (slice_cmp nat_cmp) c.split_at.ensures.front c.split_at-2.ensures.front)
    (c.compare_rests.ensures ∙ ap₂ (λ a b. slice_cmp nat_cmp (a ++ dot ∷ c.args.name.now) (b ++ dot ∷ c.args.other_name.now)) c.split_at.ensures.back c.split_at-2.ensures.back)
    ∙ fronts c.min-common.result c.args.package.now (dot ∷ c.args.name.now) c.args.other_package.now (dot ∷ c.args.other_name.now) (omega arith) (omega arith)
