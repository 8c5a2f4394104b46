use Rattle.std.proofs.Common.{◌-◌, ◌≤◌, ℕ, List, length}
use Rattle.acfg_text.specs.declared.tree.Item.{Item}
use Rattle.acfg_text.specs.Escapes.{spelled}
use Rattle.acfg_text.specs.Machine.{Head, Slot, Frame, in_text, st}
use Rattle.acfg_text.specs.Reading.{Leads}
use Rattle.acfg_text.proofs.grammar.join.Given as goal

abbrev pub invariant-loop-text : goal.invariant-loop-text
invariant-loop-text l = record {
  above : l.from ≤ l.at;
  within : l.at ≤ length l.tokens;
  leads : (h : Head) (slot : Slot) (place : ℕ) (top : List Item) (frames : List Frame) → Leads l.tokens l.end l.from (st (in_text h slot place (spelled l.first)) top frames) l.at (st (in_text h slot place l.bytes.items) top frames);
}

abbrev pub decreases-loop-text : goal.decreases-loop-text
decreases-loop-text l = length l.tokens - l.at
