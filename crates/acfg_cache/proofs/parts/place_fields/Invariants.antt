use Rattle.std.proofs.Common.{◌≡◌, ◌++◌, drop, length, take}
use Rattle.std.specs.Prelude.{All}
use Rattle.acfg_wire.specs.Laid.{laid_of}
use Rattle.acfg_cache.specs.Parts.{parts_in}
use Rattle.acfg_cache.specs.Bodies.{EndsWithin, parts_read}
use Rattle.acfg_cache.proofs.parts.place_fields.Given as goal

-- those in front are placed, and the others are as they were read
abbrev pub invariant-loop-i : goal.invariant-loop-i
invariant-loop-i l = record {
  long : length l.fields ≡ length l.fn.fields;
  rest : drop l.i l.fields ≡ drop l.i l.fn.fields;
  placed : parts_read (take l.i l.fields) ++ parts_in l.at (length l.bytes) (laid_of (drop l.i l.fn.fields)) ≡ parts_in l.at (length l.bytes) (laid_of l.fn.fields);
  within : All EndsWithin (take l.i l.fields);
}
