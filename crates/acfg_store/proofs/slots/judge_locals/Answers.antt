use Rattle.std.proofs.Common.{List, inl, inr, refl, subst, sym}
use Rattle.acfg_store.specs.Over.{HasInfos, HasLocalsOver, read_over}
use Rattle.acfg_store.specs.Placed.{IsValueAt}
use Rattle.acfg_store.specs.declared.names.OverrideFile.TheVariants as override
use Rattle.acfg_store.specs.declared.placed.Placed.{Placed}
use Rattle.acfg_store.proofs.Overlaid.{one_over}
use Rattle.acfg_store.proofs.slots.judge_locals.Goals as goal
use Rattle.acfg_views.specs.Layout.{flag_val_type}
use Rattle.acfg_views.specs.Reading.{OpenList}

pub returns-in-None : goal.returns-in-None
returns-in-None c =
    inr (
      (c.args.values.now, c.requires.values),
      inr (
        λ values has. (
          c.args.infos.now,
          subst (λ (v : OpenList). HasInfos c.args.container.now c.args.count c.args.flags.items (read_over c.args.read.now override.FlagInfo) v c.args.infos.now)
              (one_over c.args.container.now c.args.count c.args.flags.items (read_over c.args.read.now override.FlagVal) flag_val_type IsValueAt IsValueAt c.args.values.now values c.requires.values has) c.requires.infos,
        ),
        inl (
          refl,
          λ sound.
              (rw c.in-None.is at c.in_ok-found.ensures) sound.0
              (subst (λ (flags : List Placed). HasLocalsOver c.args.container.now c.args.count flags (read_over c.args.read.now override.Local) sound.0) (sym c.deref.ensures.value) sound.1),
        ),
      ),
    )
