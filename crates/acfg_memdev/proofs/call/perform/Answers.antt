use Rattle.acfg_memdev.proofs.call.perform.Goals as goal

pub returns-in-Rename-clause-ok : goal.returns-in-Rename-clause-ok
returns-in-Rename-clause-ok c = rw c.in-Rename.is (rw (c.as_str-in-Rename.ensures.value, c.as_str-in-Rename-2.ensures.value) at c.rename.ensures.ok)
