use Rattle.std.proofs.Common.{◌≡◌, ◌++◌, length, map, string_bytes}
use Rattle.std.specs.List.{slice_split}
use Rattle.std.specs.Str.{IsUtf8}
use lib.Dec.{eqb}
use Rattle.acfg_base.specs.Bytes.{space}
use Rattle.acfg_top.proofs.jobs.split_words.Given as goal

-- the words so far, and those of what is left
abbrev pub invariant-loop-word : goal.invariant-loop-word
invariant-loop-word l = record {
  text : IsUtf8 l.rest;
  same : map string_bytes l.words.items ++ slice_split (λ byte. eqb byte space) l.rest ≡ slice_split (λ byte. eqb byte space) l.text;
}

abbrev pub decreases-loop-word : goal.decreases-loop-word
decreases-loop-word l = length l.rest
