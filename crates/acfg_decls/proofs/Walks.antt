-- The fault of a walk at a message's end.
use Rattle.std.proofs.Common.{List, [], ◌∷◌}
use Rattle.std.specs.Prelude.{if◌then◌else◌}
use Rattle.acfg_text.specs.declared.tree.Tree.{Tree, out-Tree}
use Rattle.acfg_decls.specs.declared.messages.Message.{Message}
use Rattle.acfg_decls.specs.declared.faults.DeclWhat.TheVariants.{MissingField}
use Rattle.acfg_decls.specs.Walk.{Fault, is_whole}

-- what is told at a message's end
abbrev pub lacking : Message → Tree → List Fault
lacking message tree = if is_whole message (out-Tree tree).items then [] else ((out-Tree tree).end, MissingField) ∷ []
