use Rattle.std.proofs.Common.{ℕ, List, Contains, subst, sym}
use Rattle.acfg_hostdev.proofs.Noted.{kept_pushed}
use Rattle.acfg_hostdev.proofs.folders.Folders.note.Goals as goal

pub returns-clause-kept : goal.returns-clause-kept
returns-clause-kept c name has = kept_pushed _ _ _ c.in_ok-push.ensures.items name (subst (λ (names : List (List ℕ)). Contains names name) (sym c.self.view_is) has)
