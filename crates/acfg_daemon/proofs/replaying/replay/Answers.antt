use Rattle.std.proofs.Common.{◌≡◌, ◌∙◌, Err, List, ℕ, inl, inr, ap, subst, sym}
use Rattle.std.proofs.lemmas.Result.{err_from_is_err_and, IfErr-weaker, on_ok_weaker}
use Rattle.acfg_device.proofs.Moments.{joined}
use Rattle.acfg_store.specs.Applied.{state_in}
use Rattle.acfg_store.specs.Names.{IsOfDirectory}
use Rattle.acfg_store.specs.Stands.{state_of}
use Rattle.acfg_store.proofs.Damaging.{stand_undamaged}
use Rattle.acfg_daemon.specs.Lines.{lines}
use Rattle.acfg_daemon.specs.declared.fault.DaemonFault.TheVariants.{Device}
use Rattle.acfg_daemon.specs.Replayed.{IsNoDamage, LeavesOfReplay, LeavesRun, OnlyAnswers, TellsDamage}
use Rattle.acfg_daemon.proofs.Answered.{answers_then, syncs_answers}
use Rattle.acfg_daemon.proofs.Played.{same_err}
use Rattle.acfg_daemon.proofs.Opening.{all_played, device_told, is_open, none_told, opening_leaves, part_played, some_played, tells_too, undamaged}
use Rattle.acfg_daemon.proofs.replaying.replay.Goals as goal

-- ---- the store isn't opened

pub returns-in_err-store-clause-begun : goal.returns-in_err-store-clause-begun
returns-in_err-store-clause-begun g c tells = inl c.in_err-store.ensures.syncs.said

pub returns-in_err-store-clause-damaged : goal.returns-in_err-store-clause-damaged
returns-in_err-store-clause-damaged g c tells =
    let p = err_from_is_err_and c.from_residual.result c.from_residual.ensures.1 in
    rw (p.1, p.2) (tells_too (g.D.Panel.files c.args.device.now) c.args.dir.now _ (c.in_err-store.ensures.damaged tells))

pub returns-in_err-store-clause-cut : goal.returns-in_err-store-clause-cut
returns-in_err-store-clause-cut g c tells settled =
    opening_leaves (g.D.Panel.account c.args.device.now) _ (g.D.Panel.files c.args.device.now) (g.D.Panel.said c.args.device.now) c.args.dir.now c.args.script.now
    (g.met.D.Panel.files_told c.args.device.now) (g.met.D.Panel.said_told c.args.device.now) settled (c.in_err-store.ensures.cut tells)

pub returns-in_err-store-clause-answers : goal.returns-in_err-store-clause-answers
returns-in_err-store-clause-answers g c =
    let p = err_from_is_err_and c.from_residual.result c.from_residual.ensures.1 in
    syncs_answers (IsOfDirectory c.args.dir.now) c.in_err-store.ensures.syncs (λ is. ap Err (device_told _ (sym p.2 ∙ same_err _ _ (sym p.1 ∙ is))))

pub returns-in_err-store-clause-damage : goal.returns-in_err-store-clause-damage
returns-in_err-store-clause-damage g c name is =
    let syncs = c.in_err-store.ensures.syncs in
    record { files = syncs.files; said = syncs.said; count = syncs.count; failed = λ none. absurd none }

pub returns-in_err-store-clause-kept : goal.returns-in_err-store-clause-kept
returns-in_err-store-clause-kept g c tells name damaged = let syncs = c.in_err-store.ensures.syncs in (syncs.files, syncs.said)

-- ---- it is opened

pub play-requires : goal.play-requires
play-requires g c tells =
    let opened = c.in_ok-store.ensures in
    is_open (g.D.Panel.files c.args.device.now) _ c.args.dir.now c.in_ok-store.store opened.dir opened.syncs.files (opened.lies tells) (opened.kept tells)

pub returns-clause-told : goal.returns-clause-told
returns-clause-told g c tells =
    let opened = c.in_ok-store.ensures in
    on_ok_weaker c.play.result (all_played (g.D.Panel.files c.args.device.now) _ (g.D.Panel.said c.args.device.now) _ c.args.dir.now c.args.script.now c.in_ok-store.store opened.dir opened.syncs.files opened.syncs.said (is_open (g.D.Panel.files c.args.device.now) (g.D.Panel.files c.open.new.device) c.args.dir.now c.in_ok-store.store opened.dir opened.syncs.files (opened.lies tells) (opened.kept tells)) _ _) (c.play.ensures.told tells)

pub returns-clause-begun : goal.returns-clause-begun
returns-clause-begun g c tells =
    let opened = c.in_ok-store.ensures in
    inr (some_played (g.D.Panel.files c.args.device.now) _ (g.D.Panel.said c.args.device.now) _ c.args.dir.now c.args.script.now c.in_ok-store.store opened.dir opened.syncs.files opened.syncs.said (is_open (g.D.Panel.files c.args.device.now) (g.D.Panel.files c.open.new.device) c.args.dir.now c.in_ok-store.store opened.dir opened.syncs.files (opened.lies tells) (opened.kept tells)) _ (c.play.ensures.begun tells))

pub returns-clause-damaged : goal.returns-clause-damaged
returns-clause-damaged g c tells = IfErr-weaker c.play.result IsNoDamage (TellsDamage (g.D.Panel.files c.args.device.now) c.args.dir.now) (none_told (g.D.Panel.files c.args.device.now) c.args.dir.now) c.play.ensures.fault

pub returns-clause-cut : goal.returns-clause-cut
returns-clause-cut g c tells settled =
    let opened = c.in_ok-store.ensures in
    let first = g.D.Panel.files c.args.device.now in
    let spoken = g.D.Panel.said c.args.device.now in
    let middle = c.open.new.device in
    joined (LeavesOfReplay first spoken c.args.dir.now c.args.script.now) (LeavesRun (g.D.Panel.files middle) (g.D.Panel.said middle) c.in_ok-store.store.dir (state_in c.in_ok-store.store) (lines c.args.script.now))
    (g.D.Panel.account c.args.device.now) (g.D.Panel.account middle) (g.D.Panel.account c.play.new.device)
    (opening_leaves (g.D.Panel.account c.args.device.now) (g.D.Panel.account middle) first spoken c.args.dir.now c.args.script.now
    (g.met.D.Panel.files_told c.args.device.now) (g.met.D.Panel.said_told c.args.device.now) settled (opened.cut tells))
    (c.play.ensures.cut tells (opened.settled tells settled))
    (part_played first (g.D.Panel.files middle) spoken (g.D.Panel.said middle) c.args.dir.now c.args.script.now c.in_ok-store.store opened.dir opened.syncs.files opened.syncs.said (is_open (g.D.Panel.files c.args.device.now) (g.D.Panel.files c.open.new.device) c.args.dir.now c.in_ok-store.store opened.dir opened.syncs.files (opened.lies tells) (opened.kept tells)))

pub returns-clause-answers : goal.returns-clause-answers
returns-clause-answers g c =
    let opened = c.in_ok-store.ensures in
    let early : OnlyAnswers g.D.Panel (IsOfDirectory c.args.dir.now) c.args.device.now c.open.new.device ⊥ = syncs_answers (IsOfDirectory c.args.dir.now) opened.syncs (λ none. absurd none) in
    answers_then (IsOfDirectory c.args.dir.now) early
    (subst (λ (d : List ℕ). OnlyAnswers g.D.Panel (IsOfDirectory d) c.open.new.device c.play.new.device (c.play.result ≡ Err Device)) opened.dir c.play.ensures.answers) (λ is. is)

pub returns-clause-damage : goal.returns-clause-damage
returns-clause-damage g c name is = absurd (undamaged c.play.result _ c.play.ensures.fault is)

pub returns-clause-kept : goal.returns-clause-kept
returns-clause-kept g c tells name damaged =
    absurd (stand_undamaged (g.D.Panel.files c.args.device.now) c.args.dir.now (state_of c.in_ok-store.store.entries) name (c.in_ok-store.ensures.stands tells) damaged)
