use Rattle.acfg_images.specs.declared.purpose.Use.TheVariants as purpose
use Rattle.acfg_store.specs.Damage.{IsItsRelease, release_name}
use Rattle.acfg_store.specs.Gathered.{AreContainerRead}
use Rattle.acfg_store.specs.Kept.{SetStands}
use Rattle.acfg_store.specs.Over.{read_over}
use Rattle.acfg_store.proofs.Faulting.{missing_first, release_at, stand_as}
use Rattle.acfg_store.proofs.Judging.{given_more}
use Rattle.acfg_store.proofs.containers.judge.Goals as goal

pub returns-in-Ok : goal.returns-in-Ok
returns-in-Ok c =
    given_more c.args.row.now (SetStands c.args.row.now c.in-Ok.set (read_over c.args.read.overrides) c.args.read.boot) (λ files dir. AreContainerRead files dir c.args.row.now c.args.read)
    (λ files dir given. record {
      stand = stand_as files (release_name files dir c.args.row.now) c.args.read.release given.release c.in-Ok.set c.in-Ok.ensures;
      overrides = given.overrides;
      booted = given.boot;
    }) _ c.judge_set.ensures

pub returns-in-Err : goal.returns-in-Err
returns-in-Err c files dir given =
    release_at files dir c.args.row.now c.in-Err.file
    (missing_first files (release_name files dir c.args.row.now) purpose.Release (IsItsRelease c.args.row.now) c.args.read.release given.release c.in-Err.file c.in-Err.ensures)
