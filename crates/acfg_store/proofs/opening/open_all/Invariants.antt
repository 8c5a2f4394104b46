use Rattle.std.proofs.Common.{All, take, IsTrue}
use Rattle.acfg_device.specs.Only.{OnlyReads}
use Rattle.acfg_store.specs.Opening.{AreOfRows, KeepsFiles, entries_of}
use Rattle.acfg_store.specs.Stands.{Holds}
use Rattle.acfg_store.proofs.opening.open_all.Given as goal

abbrev pub invariant-loop-row : goal.invariant-loop-row
invariant-loop-row g l = record {
  of : AreOfRows (take l.row-index l.rows) l.kept.items;
  holds : IsTrue g.P.Panel.tells → All (Holds (g.P.Panel.files l.fn.panel) l.fn.dir) (entries_of l.kept.items);
  keeps : IsTrue g.P.Panel.tells → All (KeepsFiles (g.P.Panel.files l.fn.panel) l.fn.dir) l.kept.items;
  reads : OnlyReads g.P.Panel l.fn.panel l.panel ⊥;
}
