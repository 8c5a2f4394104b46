use Rattle.std.proofs.Common.{◌≡◌, ◌++◌, drop}
use Rattle.acfg_decls.specs.Reading.{all_in, text_of}
use Rattle.acfg_decls.proofs.reading.texts_in.Given as goal

-- what is there, and what is left to add, is all
abbrev pub invariant-loop-item : goal.invariant-loop-item
invariant-loop-item l = l.texts ++ all_in text_of l.name (drop l.item-index l.items) ≡ all_in text_of l.name l.items
