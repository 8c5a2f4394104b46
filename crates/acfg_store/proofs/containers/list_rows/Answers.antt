use Rattle.std.proofs.Common.{ℕ, List, map, ap, ◌∙◌, subst, sym}
use Rattle.acfg_images.specs.declared.purpose.Use.TheVariants as purpose
use Rattle.acfg_images.specs.Faults.{checked, parts_in}
use Rattle.acfg_model.specs.FlagStates.{release_in}
use Rattle.acfg_store.specs.declared.names.Part.TheVariants as part
use Rattle.acfg_store.specs.Damage.{IsFirst, IsItsRelease}
use Rattle.acfg_store.specs.Judged.{IsBlamed}
use Rattle.acfg_store.specs.Kept.{IsFaultWhere, OverridesStand}
use Rattle.acfg_store.specs.Over.{AreOverrides, IsSoundOver, read_over, three_files}
use Rattle.acfg_store.specs.Placed.{index_of}
use Rattle.acfg_store.proofs.Holding.{release_same}
use Rattle.acfg_store.proofs.Judging.{fault_told, flags_counted, flags_within, overrides_fault, release_fault}
use Rattle.acfg_store.proofs.Numbering.{indexes_listed}
use Rattle.acfg_store.proofs.containers.list_rows.Goals as goal

pub returns-in-Err : goal.returns-in-Err
returns-in-Err c =
    fault_told (IsBlamed (IsItsRelease c.args.row.now c.args.set.now) (checked purpose.Release c.args.set.now))
    (IsFaultWhere c.args.row.now (OverridesStand c.args.row.now c.args.set.now (read_over c.args.read.now))) (part.Release c.args.row.now.release)
    (λ file blamed. release_fault c.args.row.now c.args.set.now (read_over c.args.read.now) file blamed) c.in-Err.fault c.in_release.result c.in_release.ensures c.in-Err.ensures

pub judge_overrides-requires : goal.judge_overrides-requires
judge_overrides-requires c =
    flags_within c.args.row.now c.args.set.now c.in-Ok.checked c.in-Ok.ensures c.in_ok-flags.flags.items c.in_ok-flags.ensures.flags c.count-count.result c.count-count.ensures.flags

pub returns-in-Ok-judge_overrides : goal.returns-in-Ok-judge_overrides
returns-in-Ok-judge_overrides c =
    let over : AreOverrides c.args.row.now.name c.count-count.result c.in_ok-flags.flags.items (read_over c.args.read.now) c.in-Ok-judge_overrides.rows.items =
    subst (λ (name : List ℕ). AreOverrides name c.count-count.result c.in_ok-flags.flags.items (read_over c.args.read.now) c.in-Ok-judge_overrides.rows.items) c.as_str.ensures.text c.in-Ok-judge_overrides.ensures in (
      record {
        opened = c.in-Ok.checked;
        is = c.in-Ok.ensures;
        flags = c.in_ok-flags.flags.items;
        are = c.in_ok-flags.ensures.flags;
        keys = c.in_ok-flags.ensures.keys;
        count = c.count-count.result;
        count_is = c.count-count.ensures.flags ∙ flags_counted c.args.row.now c.args.set.now c.in-Ok.checked c.in-Ok.ensures;
        over = over;
      },
      record {
        parts = parts_in c.in-Ok.checked;
        is_set = c.in-Ok.ensures.is_set;
        are = indexes_listed (parts_in c.in-Ok.checked) c.in_ok-flags.flags.items c.in_ok-flags.ensures.flags over.values over.infos over.locals c.in-Ok-judge_overrides.rows.items over.rows_are
            c.in_ok-indexes.indexes.items (c.in_ok-indexes.ensures ∙ ap (map index_of) c.as_slice.ensures.value);
        count_is = c.count-count.ensures.flags ∙ flags_counted c.args.row.now c.args.set.now c.in-Ok.checked c.in-Ok.ensures;
        release_is = release_same (parts_in c.in-Ok.checked) c.in_ok-flags.flags.items c.in_ok-flags.ensures.flags over.values over.infos over.locals ∙ ap release_in (sym over.rows_are);
      },
    )

pub returns-in-Err-judge_overrides : goal.returns-in-Err-judge_overrides
returns-in-Err-judge_overrides c =
    fault_told (IsFirst (IsSoundOver c.as_str.result.now c.count-count.result c.in_ok-flags.flags.items (read_over c.args.read.now)) three_files)
    (IsFaultWhere c.args.row.now (OverridesStand c.args.row.now c.args.set.now (read_over c.args.read.now))) (part.Override c.args.row.now.overrides)
    (λ file first.
    overrides_fault c.args.row.now c.args.set.now c.in-Ok.checked c.in-Ok.ensures c.in_ok-flags.flags.items c.in_ok-flags.ensures.flags c.count-count.result c.count-count.ensures.flags (read_over c.args.read.now) c.are_bytes.ensures file
    (subst (λ (name : List ℕ). IsFirst (IsSoundOver name c.count-count.result c.in_ok-flags.flags.items (read_over c.args.read.now)) three_files file) c.as_str.ensures.text first))
    c.in-Err-judge_overrides.fault c.in_overrides.result c.in_overrides.ensures c.in-Err-judge_overrides.ensures
