use Rattle.acfg_store.specs.Kept.{IsFaultWhere, OverridesStand, RowsStand, SetStands}
use Rattle.acfg_store.specs.Over.{read_over}
use Rattle.acfg_store.proofs.Judging.{given_more, same_fault}
use Rattle.acfg_store.proofs.containers.judge_set.Goals as goal

pub judge_boot-requires-clause-rows : goal.judge_boot-requires-clause-rows
judge_boot-requires-clause-rows c = (read_over c.args.read, c.in-Ok.ensures.0)

pub judge_boot-requires-clause-indexes : goal.judge_boot-requires-clause-indexes
judge_boot-requires-clause-indexes c = c.in-Ok.ensures.1

pub returns-in-Ok : goal.returns-in-Ok
returns-in-Ok c =
    given_more c.args.row.now (RowsStand c.args.row.now c.args.set c.in-Ok.flags.rows.items c.args.boot) (SetStands c.args.row.now c.args.set (read_over c.args.read) c.args.boot)
    (λ files dir given. record {
      held = read_over c.args.read;
      of = c.in-Ok.ensures.0;
      fits = c.are_bytes.ensures;
      stand = given.stand;
      overrides = given.overrides;
      booted = given.booted;
    }) _ c.judge_boot.ensures

pub returns-in-Err : goal.returns-in-Err
returns-in-Err c =
    same_fault (IsFaultWhere c.args.row.now (OverridesStand c.args.row.now c.args.set (read_over c.args.read))) (IsFaultWhere c.args.row.now (SetStands c.args.row.now c.args.set (read_over c.args.read) c.args.boot)) (λ part told files dir given. told files dir (record { stand = given.stand; overrides = given.overrides })) c.in-Err.fault c.in-Err.ensures
