use Rattle.std.proofs.Common.{◌≡◌, map, take}
use Rattle.acfg_views.specs.Reading.{flag_of}
use Rattle.acfg_images.specs.Listing.{entry_in}
use Rattle.acfg_images.proofs.releases.list_entries.Given as goal

abbrev pub invariant-loop-flag : goal.invariant-loop-flag
invariant-loop-flag l = l.entries.items ≡ map (entry_in l.set) (map flag_of (take l.flag-index l.flags))
