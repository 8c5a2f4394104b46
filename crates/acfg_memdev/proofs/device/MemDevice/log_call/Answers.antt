use Rattle.std.proofs.Common.{◌∙◌, ap, refl, sym, subst, List, ℕ, ◌++◌, [], ◌∷◌}
use Rattle.acfg_memdev.specs.History.{CanDo, History, account_of}
use Rattle.acfg_memdev.specs.Kept.{call_of}
use Rattle.acfg_memdev.proofs.Ties.{tied_logged}
use Rattle.acfg_memdev.specs.declared.call.Call.{Call}
use Rattle.acfg_memdev.proofs.device.MemDevice.log_call.Goals as goal

pub invariant_of-self-2 : goal.invariant_of-self-2
invariant_of-self-2 c =
    tied_logged c.self.inside _ c.args.number c.args.call c.self.invariant
    (subst (λ (device : History). CanDo (call_of c.args.call) (account_of device).now) (sym c.self.view_is) c.requires)
    refl refl
    (c.push_within.ensures ∙ ap (λ (log : List (ℕ × Call)). log ++ (c.args.number, c.args.call) ∷ []) c.in_ok-reserve.ensures.items)
    c.in_ok-perform.ensures.ok
