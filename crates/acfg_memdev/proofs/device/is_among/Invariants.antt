use Rattle.std.proofs.Common.{◌≡◌, drop}
use Rattle.acfg_memdev.specs.History.{is_listed}
use Rattle.acfg_memdev.proofs.device.is_among.Given as goal

abbrev pub invariant-loop-fail : goal.invariant-loop-fail
invariant-loop-fail l = is_listed l.fails l.number ≡ is_listed (drop l.fail-index l.fails) l.number
