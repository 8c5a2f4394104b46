-- Flags that stand where a list has none.
use Rattle.std.proofs.Common.{ℕ, List, [], false, None}
use Rattle.acfg_decls.specs.declared.declared.Placed.{Placed}
use Rattle.acfg_decls.specs.declared.declared.DeclaredFlag.{DeclaredFlag}
use Rattle.acfg_decls.specs.declared.flags.Flag.{Flag}

abbrev pub blank : Flag
blank = record {
  «package» = [];
  name = [];
  namespace = [];
  description = [];
  bugs = [];
  enabled = false;
  writable = false;
  trace = [];
  fixed = false;
  exported = false;
  container = [];
  purpose = None;
}

abbrev pub blank_declared : List ℕ × DeclaredFlag
blank_declared =
    let placed : Placed = record { place = 0; text = [] } in
    ([], record { place = 0; name = placed; namespace = placed; description = placed; bugs = []; fixed = false; exported = false; purpose = None })
