use Rattle.std.proofs.Common.{ℕ, List, subst}
use Rattle.acfg_store.specs.Gathered.{AreContainerRead}
use Rattle.acfg_store.specs.StoreFaults.{NamesPart}
use Rattle.acfg_store.proofs.Stored.{row_told}
use Rattle.acfg_store.proofs.opening.open_one.Goals as goal

pub returns-in-Ok-judge-clause-holds : goal.returns-in-Ok-judge-clause-holds
returns-in-Ok-judge-clause-holds g c told = c.in-Ok-judge.ensures.holds (g.P.Panel.files c.args.panel.now) c.args.dir.now (c.in-Ok.ensures.read told)

pub returns-in-Ok-judge-clause-keeps : goal.returns-in-Ok-judge-clause-keeps
returns-in-Ok-judge-clause-keeps g c told = c.in-Ok-judge.ensures.keeps (g.P.Panel.files c.args.panel.now) c.args.dir.now (c.in-Ok.ensures.read told)

pub returns-in-Err-judge-clause-damaged : goal.returns-in-Err-judge-clause-damaged
returns-in-Err-judge-clause-damaged g c told =
    row_told (g.P.Panel.files c.args.panel.now) c.args.dir.now c.args.row.now (λ files dir. AreContainerRead files dir c.args.row.now c.in-Ok.read) (c.in-Ok.ensures.read told) c.in-Err-judge.fault
    c.in-Err-judge.ensures c.name_fault.result
    (subst (λ (name : List ℕ). NamesPart c.args.dir.now name c.in-Err-judge.fault c.name_fault.result) c.as_str.ensures.text c.name_fault.ensures)
