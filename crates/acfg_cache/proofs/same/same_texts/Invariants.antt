use Rattle.std.proofs.Common.{◌≡◌, length, take}
use Rattle.acfg_cache.proofs.same.same_texts.Given as goal

abbrev pub invariant-loop-i : goal.invariant-loop-i
invariant-loop-i l = record { long : length l.texts ≡ length l.others; alike : take l.i l.texts ≡ take l.i l.others }
