use Rattle.std.proofs.Common.{◌≡◌, ◌∙◌, length, Some, None, ℕ, ap, rules}
use Rattle.acfg_images.specs.declared.fault.Point2.TheVariants.{Kind}
use Rattle.acfg_images.specs.declared.fault.ImageFault.TheVariants.{Disagree}
use Rattle.acfg_images.proofs.Tables.{kinds_are}
use Rattle.acfg_images.proofs.disagree.kind_unmarked.Goals as goal

pub returns-in-Some : goal.returns-in-Some
returns-in-Some c =
    let size : length c.unmark_wrong_kinds.new.marks ≡ c.args.infos.now.count = search (rules, c.requires.same) in
    ap (λ (n : ℕ). Some (Disagree Kind c.in-Some.k n)) (c.from.ensures ∙ c.at.ensures)
    ∙ kinds_are c.args.infos.now c.args.starts.now c.unmark_wrong_kinds.new.marks c.args.flags.now (Some c.in-Some.k) size c.unmark_wrong_kinds.ensures c.in-Some.ensures.first

pub returns-in-None : goal.returns-in-None
returns-in-None c =
    let size : length c.unmark_wrong_kinds.new.marks ≡ c.args.infos.now.count = search (rules, c.requires.same) in
    kinds_are c.args.infos.now c.args.starts.now c.unmark_wrong_kinds.new.marks c.args.flags.now None size c.unmark_wrong_kinds.ensures c.in-None.ensures.first
