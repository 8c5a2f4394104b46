use Rattle.std.proofs.Common.{List, inl, inr, refl, subst, sym}
use Rattle.acfg_store.specs.declared.names.OverrideFile.TheVariants as override
use Rattle.acfg_store.specs.declared.placed.Placed.{Placed}
use Rattle.acfg_store.specs.Over.{HasInfos, read_over}
use Rattle.acfg_store.proofs.slots.judge_infos.Goals as goal

pub returns-in-None : goal.returns-in-None
returns-in-None c =
    inr (
      (c.args.values.now, c.requires.values),
      inl (
        refl,
        λ sound.
            let found = sound c.args.values.now c.requires.values in
            c.in-None.ensures.found found.0
            (subst (λ (flags : List Placed). HasInfos c.args.container.now c.args.count flags (read_over c.args.read.now override.FlagInfo) c.args.values.now found.0) (sym c.deref.ensures.value) found.1),
      ),
    )
