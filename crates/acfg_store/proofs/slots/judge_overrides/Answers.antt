use Rattle.std.proofs.Common.{List, inl, refl, subst, sym}
use Rattle.acfg_store.specs.declared.names.OverrideFile.TheVariants as override
use Rattle.acfg_store.specs.declared.placed.Placed.{Placed}
use Rattle.acfg_store.specs.Over.{HasValues, read_over}
use Rattle.acfg_store.proofs.slots.judge_overrides.Goals as goal

pub returns-in-None : goal.returns-in-None
returns-in-None c = inl (
  refl,
  λ sound. c.in-None.ensures.found sound.0
      (subst (λ (flags : List Placed). HasValues c.args.container.now c.args.count flags (read_over c.args.read.now override.FlagVal) sound.0) (sym c.deref.ensures.value) sound.1),
)
