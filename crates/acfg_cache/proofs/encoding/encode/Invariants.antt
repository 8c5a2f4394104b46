use Rattle.std.proofs.Common.{◌≡◌, ◌++◌, drop, take}
use Rattle.std.specs.Prelude.{All}
use Rattle.acfg_cache.specs.Texts.{HasTexts}
use Rattle.acfg_cache.specs.Writing.{cache}
use Rattle.acfg_cache.proofs.encoding.encode.Given as goal

-- what is written, and what is left to write, is all
abbrev pub invariant-loop-flag : goal.invariant-loop-flag
invariant-loop-flag l = record {
  written : l.out.items ++ cache (drop l.flag-index l.flag-items) ≡ cache l.flags;
  texts : All HasTexts (take l.flag-index l.flag-items);
}
