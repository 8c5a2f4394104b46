use Rattle.std.proofs.Common.{ℕ, List, Some, refl, subst}
use Rattle.acfg_model.specs.Views.{boot_of}
use Rattle.acfg_store.specs.declared.boots.BootFiles.TheVariants.{Named}
use Rattle.acfg_store.specs.declared.names.Part.TheVariants as part
use Rattle.acfg_store.specs.Copies.{IsCopyAt, IsCopyOf}
use Rattle.acfg_store.specs.Damage.{boot_name}
use Rattle.acfg_store.specs.Kept.{IsFaultWhere, RowsStand}
use Rattle.acfg_store.proofs.Faulting.{stand_as}
use Rattle.acfg_store.proofs.Judging.{copy_fault, fault_told}
use Rattle.acfg_store.proofs.Keeping.{copy_set, copy_valid, kept_made, rows_lawful}
use Rattle.acfg_store.proofs.containers.judge_named.Goals as goal

pub kept-requires : goal.kept-requires
kept-requires c =
    let of : IsCopyOf c.args.row.now.name c.in-Ok.found.set c.in-Ok.found.copy = subst (λ (name : List ℕ). IsCopyOf name c.in-Ok.found.set c.in-Ok.found.copy) c.as_str.ensures.text c.in-Ok.ensures.1 in
    rows_lawful c.args.row.now c.args.set c.requires.rows.0 c.args.flags.rows.items c.requires.rows.1 c.requires.digest (Some (boot_of c.in-Ok.found.copy))
    (copy_valid c.args.row.now.name c.in-Ok.found.set c.in-Ok.found.copy of)

pub returns-in-Ok : goal.returns-in-Ok
returns-in-Ok c =
    let of : IsCopyOf c.args.row.now.name c.in-Ok.found.set c.in-Ok.found.copy = subst (λ (name : List ℕ). IsCopyOf name c.in-Ok.found.set c.in-Ok.found.copy) c.as_str.ensures.text c.in-Ok.ensures.1 in
    kept_made c.args.row.now c.args.set c.args.flags.rows.items (Named c.args.slot c.args.files) _ (Some c.args.slot) (Some (boot_of c.in-Ok.found.copy)) (Some c.in-Ok.found.set) c.requires.digest
    (copy_valid c.args.row.now.name c.in-Ok.found.set c.in-Ok.found.copy of) c.requires.rows.0 c.requires.rows.1
    (λ files dir booted. record {
      set = c.in-Ok.found.set;
      pointer = booted.0;
      stand = stand_as files (boot_name files dir c.args.row.now c.args.slot) c.args.files booted.1 c.in-Ok.found.set c.in-Ok.ensures.0;
      is_set = copy_set c.args.row.now.name c.in-Ok.found.set c.in-Ok.found.copy of;
    }) (λ files dir booted. stand_as files (boot_name files dir c.args.row.now c.args.slot) c.args.files booted.1 c.in-Ok.found.set c.in-Ok.ensures.0) c.requires.name refl refl refl c.kept.ensures refl refl c.requires.indexes
    (c.args.row.now.name, copy_set c.args.row.now.name c.in-Ok.found.set c.in-Ok.found.copy of)

pub returns-in-Err : goal.returns-in-Err
returns-in-Err c =
    fault_told (IsCopyAt c.as_str.result.now c.args.files) (IsFaultWhere c.args.row.now (RowsStand c.args.row.now c.args.set c.args.flags.rows.items (Named c.args.slot c.args.files))) (part.Boot c.args.slot)
    (λ file at. copy_fault c.args.row.now c.args.set c.args.flags.rows.items c.args.slot c.args.files file (subst (λ (name : List ℕ). IsCopyAt name c.args.files file) c.as_str.ensures.text at))
    c.in-Err.fault c.in_boot.result c.in_boot.ensures c.in-Err.ensures
