use Rattle.std.proofs.Common.{◌∙◌, List, subst, sym}
use Rattle.acfg_store.specs.Commits.{IsLayout}
use Rattle.acfg_store.specs.Opening.{entries_of}
use Rattle.acfg_store.specs.Sets.{AreSetsOfAll, Sets}
use Rattle.acfg_store.specs.Stands.{Entry}
use Rattle.acfg_store.proofs.Opened.{listed_layout}
use Rattle.acfg_store.proofs.Stored.{all_kept}
use Rattle.acfg_store.proofs.store.Store.read_listed.Goals as goal

pub returns-in-Ok-clause-lies : goal.returns-in-Ok-clause-lies
returns-in-Ok-clause-lies g c told =
    let spells = rw c.in-Some.is at c.in_ok-found.ensures in
    subst (IsLayout (g.P.Panel.files c.args.panel.now) c.args.dir.now) (sym c.in_ok-new-in-Ok.ensures.entries)
    (listed_layout (g.P.Panel.files c.args.panel.now) c.args.dir.now (entries_of c.in-Ok.containers.items) c.in-Some.rows c.args.bytes.now (c.requires.there told) spells
    (c.in-Ok.ensures.of.listed ∙ c.as_slice.ensures.all) c.in-Ok.ensures.of.valid (c.in-Ok.ensures.holds told))

pub returns-in-Ok-clause-kept : goal.returns-in-Ok-clause-kept
returns-in-Ok-clause-kept g c told =
    subst (λ (both : List Entry × List Sets). AreSetsOfAll (g.P.Panel.files c.args.panel.now) c.args.dir.now both.0 both.1)
    (λ i. (sym c.in_ok-new-in-Ok.ensures.entries i, sym c.in_ok-new-in-Ok.ensures.sets i))
    (all_kept (g.P.Panel.files c.args.panel.now) c.args.dir.now c.in-Ok.containers.items (c.in-Ok.ensures.keeps told))
