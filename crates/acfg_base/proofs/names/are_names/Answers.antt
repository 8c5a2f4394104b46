use Rattle.std.proofs.Common.{◌≡◌, arith, rules, length, get_or, sym, subst, ◌∙◌, ap}
use Rattle.acfg_base.specs.Bodies.{MayFollow}
use Rattle.acfg_base.proofs.Neighbours.{before, FollowBelow, are_names, follow_below, ends_in_name}
use Rattle.acfg_base.proofs.names.are_names.Goals as goal

pub returns-then-not-may_follow : goal.returns-then-not-may_follow
returns-then-not-may_follow c = (
  λ h. cc,
  λ names. c.if-not-may_follow.ensures.1 (subst (λ p. MayFollow p (get_or c.args.text.now c.loop-byte.byte-index 0)) (sym c.loop-byte.invariant.previous) (follow_below _ names _ c.loop-byte-test.true)),
)

pub returns : goal.returns
returns c =
    let ends : c.loop-byte.byte-index ≡ length c.args.text.now = omega arith in
    let last : c.loop-byte.previous ≡ before c.args.text.now (length c.args.text.now) = c.loop-byte.invariant.previous ∙ ap (before c.args.text.now) ends in (
      λ h. are_names _ (subst (FollowBelow c.args.text.now) ends c.loop-byte.invariant.each) (λ e. let is_dot = last ∙ e in search rules),
      λ names. let not_dot : c.loop-byte.previous ≡ 46 → ⊥ = λ e. ends_in_name _ names (sym last ∙ e) in search rules,
    )
