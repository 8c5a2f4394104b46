use Rattle.std.proofs.Common.{◌≡◌, ◌∙◌, List, sym, ap, subst}
use Rattle.std.specs.Borrow.{Bor}
use Rattle.acfg_decls.specs.declared.flags.Flag.{Flag}
use Rattle.acfg_decls.specs.Flags.{AreFlags}
use Rattle.acfg_cache.specs.Merging.{IsMerged, lent}
use Rattle.acfg_cache.proofs.merging.merge.Goals as goal

pub from_sorted-requires : goal.from_sorted-requires
from_sorted-requires c =
    let copied : c.in_ok-flags.flags.items ≡ lent c.in_ok-joined.joined.items = c.in_ok-flags.ensures ∙ ap (λ (flags : List (Bor Flag)). lent flags) c.deref.ensures.value in
    subst AreFlags (sym copied) c.in_ok-joined.ensures.ok.are

pub returns-clause-ok : goal.returns-clause-ok
returns-clause-ok c =
    let copied : c.in_ok-flags.flags.items ≡ lent c.in_ok-joined.joined.items = c.in_ok-flags.ensures ∙ ap (λ (flags : List (Bor Flag)). lent flags) c.deref.ensures.value in
    subst (λ (flags : List Flag). IsMerged c.args.lists.now c.args.dedup flags) (sym (c.from_sorted.ensures ∙ copied)) c.in_ok-joined.ensures.ok
