use Rattle.std.proofs.Common.{◌≡◌, length, rules}
use Rattle.acfg_images.proofs.Tables.{no_flag, fits_next, fits_all}
use Rattle.acfg_images.proofs.agree.unmark_wrong_kinds.Goals as goal

pub loop-flag-preserved : goal.loop-flag-preserved
loop-flag-preserved c =
    let size : length c.loop-flag.marks ≡ c.args.infos.now.count = search (rules, c.requires.infos) in
    fits_next c.args.infos.now c.args.starts.now c.loop-flag.marks c.unmark.new.marks c.args.flags.now c.loop-flag.flag-index no_flag _ c.loop-flag-test.true size c.loop-flag.invariant c.wrong_kind.ensures c.unmark.ensures

pub returns : goal.returns
returns c = fits_all c.args.infos.now c.args.starts.now _ c.args.flags.now c.loop-flag.flag-index c.loop-flag-test.false c.loop-flag.invariant
