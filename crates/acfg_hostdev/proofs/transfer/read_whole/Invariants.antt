use Rattle.std.proofs.Common.{◌≡◌, ◌≤◌, length}
use Rattle.std.specs.Io.KnownBytes.{Consumes}
use Rattle.acfg_hostdev.proofs.transfer.read_whole.Given as goal

abbrev pub invariant-loop : goal.invariant-loop
invariant-loop g l = record {
  taken : Consumes (g.R.Read.remaining l.initial.from) (g.R.Read.remaining l.from) l.bytes.items;
  most : length l.bytes.items ≤ 1073741824;
  chunk : length l.chunk ≡ 16384;
}
