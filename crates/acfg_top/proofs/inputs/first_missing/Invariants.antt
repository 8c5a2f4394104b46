use Rattle.std.proofs.Common.{◌≡◌, drop, map, string_bytes}
use Rattle.std.specs.Prelude.{IsTrue}
use Rattle.acfg_device.specs.Only.{OnlyReads}
use Rattle.acfg_top.specs.Bodies.{missing_of}
use Rattle.acfg_top.specs.Inputs.{inputs_in}
use Rattle.acfg_top.proofs.inputs.first_missing.Given as goal

abbrev pub invariant-loop-name : goal.invariant-loop-name
invariant-loop-name g l = record {
  found : IsTrue g.P.Panel.tells → missing_of (inputs_in (g.P.Panel.files l.fn.panel) (map string_bytes (drop l.name-index l.names))) ≡ missing_of (inputs_in (g.P.Panel.files l.fn.panel) (map string_bytes l.names));
  reads : OnlyReads g.P.Panel l.fn.panel l.panel ⊥;
}
