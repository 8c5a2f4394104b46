use Rattle.std.proofs.Common.{◌∙◌, List, [], ap, subst, sym}
use Rattle.acfg_store.specs.Commits.{IsLayout}
use Rattle.acfg_store.specs.Opening.{all_sets_of, entries_of}
use Rattle.acfg_store.specs.Sets.{AreSetsOfAll, Sets}
use Rattle.acfg_store.specs.Stands.{Entry, Stands, state_of}
use Rattle.acfg_store.proofs.Opened.{layout_stands}
use Rattle.acfg_store.proofs.Stored.{none_kept_of, none_lie, reads_leave}
use Rattle.acfg_store.proofs.store.Store.open.Goals as goal

pub returns-in-Err-clause-cut : goal.returns-in-Err-clause-cut
returns-in-Err-clause-cut g c told = reads_leave (g.D.Panel.account c.args.device.now) (g.D.Panel.account c.read_part.new.panel) c.read_part.ensures.reads.account

pub returns-in_err-new-in-None-clause-cut : goal.returns-in_err-new-in-None-clause-cut
returns-in_err-new-in-None-clause-cut g c told = reads_leave (g.D.Panel.account c.args.device.now) (g.D.Panel.account c.read_part.new.panel) c.read_part.ensures.reads.account

pub returns-in_ok-new-in-None-clause-cut : goal.returns-in_ok-new-in-None-clause-cut
returns-in_ok-new-in-None-clause-cut g c told = reads_leave (g.D.Panel.account c.args.device.now) (g.D.Panel.account c.read_part.new.panel) c.read_part.ensures.reads.account

pub returns-in_ok-new-in-None-clause-lies : goal.returns-in_ok-new-in-None-clause-lies
returns-in_ok-new-in-None-clause-lies g c told =
    let none = rw c.in-None.is at (c.in-Ok.ensures.found told) in
    subst (IsLayout (g.D.Panel.files c.args.device.now) c.args.dir.now) (sym (c.in_ok-new-in-None.ensures.entries ∙ ap entries_of c.new.ensures.items))
    (none_lie (g.D.Panel.files c.args.device.now) c.args.dir.now (sym none))

pub returns-in_ok-new-in-None-clause-stands : goal.returns-in_ok-new-in-None-clause-stands
returns-in_ok-new-in-None-clause-stands g c told =
    let none = rw c.in-None.is at (c.in-Ok.ensures.found told) in
    subst (λ (entries : List Entry). Stands (g.D.Panel.files c.args.device.now) c.args.dir.now (state_of entries)) (sym (c.in_ok-new-in-None.ensures.entries ∙ ap entries_of c.new.ensures.items))
    (layout_stands (g.D.Panel.files c.args.device.now) c.args.dir.now [] (none_lie (g.D.Panel.files c.args.device.now) c.args.dir.now (sym none)))

pub returns-in_ok-new-in-None-clause-kept : goal.returns-in_ok-new-in-None-clause-kept
returns-in_ok-new-in-None-clause-kept g c told =
    subst (λ (both : List Entry × List Sets). AreSetsOfAll (g.D.Panel.files c.args.device.now) c.args.dir.now both.0 both.1)
    (λ i. (sym (c.in_ok-new-in-None.ensures.entries ∙ ap entries_of c.new.ensures.items) i, sym (c.in_ok-new-in-None.ensures.sets ∙ ap all_sets_of c.new.ensures.items) i))
    (none_kept_of (g.D.Panel.files c.args.device.now) c.args.dir.now)
