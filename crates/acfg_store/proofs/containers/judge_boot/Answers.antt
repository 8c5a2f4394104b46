use Rattle.std.proofs.Common.{None, refl}
use Rattle.acfg_store.specs.declared.boots.BootFiles.TheVariants.{Absent}
use Rattle.acfg_store.proofs.Judging.{pointer_fault}
use Rattle.acfg_store.proofs.Keeping.{kept_made, rows_lawful, unbooted}
use Rattle.acfg_store.proofs.containers.judge_boot.Goals as goal

pub kept-requires : goal.kept-requires
kept-requires c = rows_lawful c.args.row.now c.args.set c.requires.rows.0 c.args.flags.rows.items c.requires.rows.1 c.requires.digest None unbooted

pub returns-in-Absent : goal.returns-in-Absent
returns-in-Absent c =
    rw c.in-Absent.is (kept_made c.args.row.now c.args.set c.args.flags.rows.items Absent _ None None None c.requires.digest unbooted c.requires.rows.0 c.requires.rows.1 (λ files dir none. none) (λ files dir none. tt)
    c.in_ok-name.ensures.cases refl refl refl c.kept.ensures refl refl c.requires.indexes tt)

pub returns-in-Bad : goal.returns-in-Bad
returns-in-Bad c = rw c.in-Bad.is (pointer_fault c.args.row.now c.args.set c.args.flags.rows.items)

pub returns-in-Named : goal.returns-in-Named
returns-in-Named c = rw c.in-Named.is c.judge_named.ensures
