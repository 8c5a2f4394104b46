use Rattle.std.proofs.Common.{◌∙◌, ◌++◌, [], List, ℕ, string_bytes, sym, ap, inr}
use Rattle.std.proofs.lemmas.List.{append-nil}
use Rattle.acfg_daemon.proofs.Answered.{line_may, line_said}
use Rattle.acfg_daemon.proofs.Going.{on_err}
use Rattle.acfg_daemon.proofs.replaying.take_line.Goals as goal

pub returns-in_err-say-clause-begun : goal.returns-in_err-say-clause-begun
returns-in_err-say-clause-begun g c tells =
    let failed = c.in_err-say.ensures.err tells in
    let taken = c.in_ok-store.ensures.taken tells in
    on_err c.from_residual-in_err-say.result _ (record {
      part = failed.0;
      begins = inr (_, string_bytes c.answer.new.reply, failed.1, taken.says, sym c.as_bytes.ensures.value ∙ failed.2);
      words = failed.3 ∙ ap (λ (said : List ℕ). said ++ failed.0) c.in_ok-store.ensures.changes.said;
    })

pub returns-in_err-say-clause-cut : goal.returns-in_err-say-clause-cut
returns-in_err-say-clause-cut g c tells settled =
    let middle = c.answer.new.device in
    let changes = c.in_ok-store.ensures.changes in
    line_may (g.D.Panel.account c.args.device.now) (g.D.Panel.account middle) (g.D.Panel.account c.say.new.self) (g.D.Panel.files c.args.device.now) (g.D.Panel.files middle) (g.D.Panel.said c.args.device.now) c.args.store c.in_ok-store.store c.args.number c.args.line.now
    (string_bytes c.answer.new.reply) (c.in_ok-store.ensures.cut tells settled) (c.in_ok-store.ensures.settled tells settled (λ e. cc)) (g.met.D.Panel.files_told middle)
    (sym changes.said ∙ g.met.D.Panel.said_told middle) (c.in_ok-store.ensures.taken tells) (c.in_ok-store.ensures.open tells) changes.others
    c.as_bytes.result.now (sym c.as_bytes.ensures.value) (c.in_err-say.ensures.account_err tells)

pub returns-clause-cut : goal.returns-clause-cut
returns-clause-cut g c tells settled =
    let middle = c.answer.new.device in
    let changes = c.in_ok-store.ensures.changes in
    line_said (g.D.Panel.account c.args.device.now) (g.D.Panel.account middle) (g.D.Panel.account c.say.new.self) (g.D.Panel.files c.args.device.now) (g.D.Panel.files middle) (g.D.Panel.said c.args.device.now) c.args.store c.in_ok-store.store c.args.number c.args.line.now
    (string_bytes c.answer.new.reply) c.as_bytes.result.now [] (c.in_ok-store.ensures.cut tells settled) (c.in_ok-store.ensures.settled tells settled (λ e. cc)) (g.met.D.Panel.files_told middle)
    (sym changes.said ∙ g.met.D.Panel.said_told middle) (c.in_ok-store.ensures.taken tells) (c.in_ok-store.ensures.open tells) changes.others
    (sym c.as_bytes.ensures.value ∙ sym (append-nil c.as_bytes.result.now)) (c.in_ok-say.ensures.account_ok tells)
