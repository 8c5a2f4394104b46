use Rattle.std.proofs.Common.{List, ℕ, subst, string_bytes}
use Rattle.acfg_device.specs.Left.{SaysOnly}
use Rattle.acfg_device.proofs.Moments.{joined}
use Rattle.acfg_daemon.specs.Replayed.{TellsDamage}
use Rattle.acfg_daemon.proofs.Going.{on_err}
use Rattle.acfg_store.specs.Damage.{IsDamaged}
use Rattle.acfg_top.specs.Bodies.{IsOf}
use Rattle.acfg_top.specs.Outcome.{Damaged}
use Rattle.acfg_top.specs.Replay.{LeavesOfCommand}
use Rattle.acfg_top.proofs.Replaying.{answered_broken, answered_comes, answers_leave, damage_broken, damage_comes, damage_leaves}
use Rattle.acfg_top.proofs.replay.answer.Goals as goal

pub returns-in-Ok-clause-told : goal.returns-in-Ok-clause-told
returns-in-Ok-clause-told g c = λ tells.
    let played = c.in-Ok.ensures in
    answered_comes g.D.Panel c.args.script.now c.args.dir.now c.args.bytes.now (played.told tells) played.answers (λ settled. played.settled tells settled (λ e. cc))

pub returns-in-Err-Device-clause-broken : goal.returns-in-Err-Device-clause-broken
returns-in-Err-Device-clause-broken g c = λ tells.
    let played = c.in-Err-Device.ensures in
    answered_broken g.D.Panel c.args.script.now c.args.dir.now c.args.bytes.now (played.begun tells) (played.kept tells) played.answers

pub returns-in-Err-OutOfMemory-clause-broken : goal.returns-in-Err-OutOfMemory-clause-broken
returns-in-Err-OutOfMemory-clause-broken g c = λ tells.
    let played = c.in-Err-OutOfMemory.ensures in
    answered_broken g.D.Panel c.args.script.now c.args.dir.now c.args.bytes.now (played.begun tells) (played.kept tells) played.answers

-- ---- damage

pub returns-in_err-told-in-Err-Damaged-clause-broken : goal.returns-in_err-told-in-Err-Damaged-clause-broken
returns-in_err-told-in-Err-Damaged-clause-broken g c = λ tells.
    let played = c.in-Err-Damaged.ensures in
    on_err c.from_residual.result _ (answered_broken g.D.Panel c.args.script.now c.args.dir.now c.args.bytes.now (played.begun tells) (played.kept tells) played.answers)

pub returns-in_ok-told-in-Err-Damaged-clause-told : goal.returns-in_ok-told-in-Err-Damaged-clause-told
returns-in_ok-told-in-Err-Damaged-clause-told g c = λ tells.
    let played = c.in-Err-Damaged.ensures in
    let first = g.D.Panel.files c.args.device.now in
    let dir = c.args.dir.now in
    let damaged : IsDamaged first dir (string_bytes c.in-Err-Damaged.file) = subst (TellsDamage first dir) c.in-Err-Damaged.field-0-is (played.damaged tells) in
    let of : IsOf (Damaged (string_bytes c.in-Err-Damaged.file)) c.in_ok-told-in-Err-Damaged.told = subst (λ (name : List ℕ). IsOf (Damaged name) c.in_ok-told-in-Err-Damaged.told) c.as_str.ensures.value c.in_ok-told-in-Err-Damaged.ensures in
    damage_comes g.D.Panel c.args.script.now dir c.args.bytes.now (string_bytes c.in-Err-Damaged.file) damaged (played.kept tells (string_bytes c.in-Err-Damaged.file) damaged)
    c.tell.new.panel c.in_ok-told-in-Err-Damaged.told of c.tell.ensures.says
    (λ settled. c.tell.ensures.settled tells (played.settled tells settled (λ e. let is = c.in-Err-Damaged.field-0-is in cc)))
    c.tell.result c.tell.ensures.ending (c.tell.ensures.ok tells)

pub returns-in_ok-told-in-Err-Damaged-clause-broken : goal.returns-in_ok-told-in-Err-Damaged-clause-broken
returns-in_ok-told-in-Err-Damaged-clause-broken g c = λ tells.
    let played = c.in-Err-Damaged.ensures in
    let first = g.D.Panel.files c.args.device.now in
    let dir = c.args.dir.now in
    let damaged : IsDamaged first dir (string_bytes c.in-Err-Damaged.file) = subst (TellsDamage first dir) c.in-Err-Damaged.field-0-is (played.damaged tells) in
    let of : IsOf (Damaged (string_bytes c.in-Err-Damaged.file)) c.in_ok-told-in-Err-Damaged.told = subst (λ (name : List ℕ). IsOf (Damaged name) c.in_ok-told-in-Err-Damaged.told) c.as_str.ensures.value c.in_ok-told-in-Err-Damaged.ensures in
    damage_broken g.D.Panel c.args.script.now dir c.args.bytes.now (string_bytes c.in-Err-Damaged.file) damaged (played.kept tells (string_bytes c.in-Err-Damaged.file) damaged)
    c.tell.new.panel c.in_ok-told-in-Err-Damaged.told of c.tell.ensures.says
    (λ settled. c.tell.ensures.settled tells (played.settled tells settled (λ e. let is = c.in-Err-Damaged.field-0-is in cc)))
    c.tell.result (c.tell.ensures.err tells)

pub returns-in_ok-told-in-Err-Damaged-clause-cut : goal.returns-in_ok-told-in-Err-Damaged-clause-cut
returns-in_ok-told-in-Err-Damaged-clause-cut g c = λ tells settled.
    let played = c.in-Err-Damaged.ensures in
    let device = c.args.device.now in
    let middle = c.replay.new.device in
    let first = g.D.Panel.files device in
    let spoken = g.D.Panel.said device in
    let script = c.args.script.now in
    let dir = c.args.dir.now in
    let text = c.in_ok-told-in-Err-Damaged.told.text.items in
    let damaged : IsDamaged first dir (string_bytes c.in-Err-Damaged.file) = subst (TellsDamage first dir) c.in-Err-Damaged.field-0-is (played.damaged tells) in
    let of : IsOf (Damaged (string_bytes c.in-Err-Damaged.file)) c.in_ok-told-in-Err-Damaged.told = subst (λ (name : List ℕ). IsOf (Damaged name) c.in_ok-told-in-Err-Damaged.told) c.as_str.ensures.value c.in_ok-told-in-Err-Damaged.ensures in
    let kept = played.kept tells (string_bytes c.in-Err-Damaged.file) damaged in
    joined (LeavesOfCommand script dir first spoken) (SaysOnly (g.D.Panel.files middle) (g.D.Panel.said middle) text)
    (g.D.Panel.account device) (g.D.Panel.account middle) (g.D.Panel.account c.tell.new.panel)
    (answers_leave script dir first spoken c.args.bytes.now (c.requires tells) (g.D.Panel.account device) (g.D.Panel.account middle) (played.cut tells settled))
    (c.tell.ensures.cut tells (played.settled tells settled (λ e. let is = c.in-Err-Damaged.field-0-is in cc)))
    (damage_leaves script dir first (g.D.Panel.files middle) spoken (g.D.Panel.said middle) c.args.bytes.now (string_bytes c.in-Err-Damaged.file) (c.requires tells) damaged kept.0 kept.1 text of.text)
