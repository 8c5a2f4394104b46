use Rattle.std.proofs.Common.{◌≡◌, ◌++◌, drop, filter_map}
use Rattle.acfg_decls.specs.Reading.{text_of}
use Rattle.acfg_decls.proofs.reading.add_texts.Given as goal

-- what is there, and what is left to add, is all
abbrev pub invariant-loop-value : goal.invariant-loop-value
invariant-loop-value l = l.texts ++ filter_map text_of (drop l.value-index l.values) ≡ l.fn.texts ++ filter_map text_of l.values
