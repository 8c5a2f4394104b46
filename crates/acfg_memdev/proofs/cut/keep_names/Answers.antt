use Rattle.std.proofs.Common.{◌≤◌, arith, length, sym, ◌∙◌}
use Rattle.acfg_memdev.proofs.Undoing.{all_kept, length-changes_of}
use Rattle.acfg_memdev.specs.Slots.{changes_of, names_of}
use Rattle.acfg_memdev.proofs.cut.keep_names.Goals as goal

pub returns : goal.returns
returns c =
    let few : length (changes_of c.newest.pending.items) ≤ c.args.count = omega (arith, length-changes_of c.newest.pending.items, c.newest.pending.ok, c.len.ensures, c.newest-test.false) in
    sym (all_kept c.args.count (changes_of c.newest.pending.items) (names_of c.newest.slots) few) ∙ c.newest.invariant
