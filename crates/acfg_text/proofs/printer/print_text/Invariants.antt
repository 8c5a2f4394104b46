use Rattle.std.proofs.Common.{◌≡◌, ◌++◌, take}
use Rattle.std.specs.List.{flat_map}
use Rattle.acfg_text.specs.Printed.{printed_byte}
use Rattle.acfg_text.proofs.printer.print_text.Given as goal

abbrev pub invariant-loop-byte : goal.invariant-loop-byte
invariant-loop-byte l = l.out.items ≡ l.initial.out.items ++ flat_map printed_byte (take l.byte-index l.text)
