use Rattle.std.proofs.Common.{◌≡◌, length, refl, rules}
use Rattle.acfg_images.proofs.Tables.{index_some, index_none}
use Rattle.acfg_images.proofs.disagree.index_counted.Goals as goal

pub returns-in-Some : goal.returns-in-Some
returns-in-Some c =
    let size : length c.count_numbers.new.counts ≡ length c.args.indexes.now = search (rules, c.requires.same) in
    index_some c.count_numbers.new.counts c.args.indexes.now c.in-Some.k _ size c.count_numbers.ensures c.in-Some.ensures.first c.in-Some.ensures.within refl

pub returns-in-None : goal.returns-in-None
returns-in-None c =
    let size : length c.count_numbers.new.counts ≡ length c.args.indexes.now = search (rules, c.requires.same) in
    index_none c.count_numbers.new.counts c.args.indexes.now size c.count_numbers.ensures c.in-None.ensures.first
