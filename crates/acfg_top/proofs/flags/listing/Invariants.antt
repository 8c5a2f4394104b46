use Rattle.std.proofs.Common.{◌≡◌, take, string_bytes}
use Rattle.std.specs.List.{flat_map}
use Rattle.acfg_dump.specs.Lines.{flag_line}
use Rattle.acfg_top.proofs.flags.listing.Given as goal

abbrev pub invariant-loop-flag : goal.invariant-loop-flag
invariant-loop-flag l = string_bytes l.text ≡ flat_map flag_line (take l.flag-index l.flags)
