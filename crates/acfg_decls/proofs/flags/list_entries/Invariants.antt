use Rattle.std.proofs.Common.{◌≡◌, map, take}
use Rattle.acfg_decls.specs.Releases.{entry_of}
use Rattle.acfg_decls.proofs.flags.list_entries.Given as goal

abbrev pub invariant-loop-flag : goal.invariant-loop-flag
invariant-loop-flag l = l.entries.items ≡ map entry_of (take l.flag-index l.list)
