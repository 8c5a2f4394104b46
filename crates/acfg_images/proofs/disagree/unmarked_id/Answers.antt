use Rattle.std.proofs.Common.{◌≡◌, length, Some, None, rules}
use Rattle.acfg_images.proofs.Tables.{ids_are}
use Rattle.acfg_images.proofs.disagree.unmarked_id.Goals as goal

pub returns-in-Some : goal.returns-in-Some
returns-in-Some c =
    let size : length c.mark_ids.new.marks ≡ length c.args.packages.now = search (rules, c.requires.same) in
    ids_are c.mark_ids.new.marks c.args.packages.now (Some c.in-Some.k) size c.mark_ids.ensures c.in-Some.ensures.first

pub returns-in-None : goal.returns-in-None
returns-in-None c =
    let size : length c.mark_ids.new.marks ≡ length c.args.packages.now = search (rules, c.requires.same) in
    ids_are c.mark_ids.new.marks c.args.packages.now None size c.mark_ids.ensures c.in-None.ensures.first
