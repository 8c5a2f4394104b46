use Rattle.acfg_memdev.proofs.cut.undo.Goals as goal

pub returns-in-Moved : goal.returns-in-Moved
returns-in-Moved c = rw c.in-Moved.is (rw (c.as_str-in-Moved.ensures.value, c.as_str-in-Moved-2.ensures.value) at c.move_back.ensures)
