use Rattle.std.proofs.Common.{subst, arith}
use Rattle.std.proofs.lemmas.List.{get_or-map, length-map}
use Rattle.acfg_views.specs.Reading.{flag_of}
use Rattle.acfg_images.specs.Listing.{IsListable}
use Rattle.acfg_images.proofs.Tables.{no_flag}
use Rattle.acfg_images.proofs.releases.list_entries.Goals as goal

pub make_entry-requires-clause-listable : goal.make_entry-requires-clause-listable
make_entry-requires-clause-listable c =
    let flags = c.args.flags.now in
    let lt = c.loop-flag-test.true in
    subst (IsListable c.args.set.now) (get_or-map flag_of flags c.loop-flag.flag-index no_flag (flag_of no_flag) lt) (c.requires.listable c.loop-flag.flag-index (flag_of no_flag) (omega (arith, length-map flags flag_of)))
