use Rattle.std.proofs.Common.{◌≡◌, ◌+◌, ◌-◌, ◌*◌, ◌≤◌, List, [], length}
use Rattle.acfg_text.specs.Machine.{Frame, at_field, st}
use Rattle.acfg_text.specs.Reading.{Leads}
use Rattle.acfg_text.proofs.Parts.{ListSoFar}
use Rattle.acfg_text.proofs.grammar.+fields.Given as goal

abbrev pub decreases-read_fields : goal.decreases-read_fields
decreases-read_fields l = 8 * (32 - l.depth) + 7

abbrev pub decreases-read_field : goal.decreases-read_field
decreases-read_field l = 8 * (32 - l.depth) + 6

abbrev pub decreases-read_held : goal.decreases-read_held
decreases-read_held l = 8 * (32 - l.depth) + 5

abbrev pub decreases-read_valued : goal.decreases-read_valued
decreases-read_valued l = 8 * (32 - l.depth) + 4

abbrev pub decreases-read_list : goal.decreases-read_list
decreases-read_list l = 8 * (32 - l.depth) + 3

abbrev pub decreases-read_element : goal.decreases-read_element
decreases-read_element l = 8 * (32 - l.depth) + 2

abbrev pub decreases-read_message : goal.decreases-read_message
decreases-read_message l = 8 * (32 - l.depth) + 1

abbrev pub invariant-read_fields-loop-name : goal.invariant-read_fields-loop-name
invariant-read_fields-loop-name l = record {
  above : l.from ≤ l.at;
  within : l.at ≤ length l.tokens;
  leads : (frames : List Frame) → length frames ≡ l.depth → Leads l.tokens l.end l.from (st at_field [] frames) l.at (st at_field l.items frames);
}

abbrev pub decreases-read_fields-loop-name : goal.decreases-read_fields-loop-name
decreases-read_fields-loop-name l = length l.tokens - l.at

abbrev pub invariant-read_list-loop-more : goal.invariant-read_list-loop-more
invariant-read_list-loop-more l = record {
  above : l.from ≤ l.at;
  within : l.at ≤ length l.tokens;
  leads : ListSoFar l.tokens l.end l.depth l.colon l.from l.at l.more l.values;
}

abbrev pub decreases-read_list-loop-more : goal.decreases-read_list-loop-more
decreases-read_list-loop-more l = length l.tokens - l.at
