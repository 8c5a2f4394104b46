use Rattle.std.proofs.Common.{refl, ap, ◌∙◌}
use Rattle.acfg_model.specs.declared.requests.Reply.TheVariants.{Refused}
use Rattle.acfg_daemon.specs.Lines.{Complete, TooLong, BadLine}
use Rattle.acfg_daemon.specs.Replies.{reply_line}
use Rattle.acfg_daemon.proofs.Answered.{line_rests, serves_line}
use Rattle.acfg_daemon.proofs.replaying.answer.Goals as goal

pub returns-in_err-put_bad_line-in-BadLine-clause-cut : goal.returns-in_err-put_bad_line-in-BadLine-clause-cut
returns-in_err-put_bad_line-in-BadLine-clause-cut g c tells settled =
    line_rests (g.D.Panel.account c.args.device.now) (g.D.Panel.files c.args.device.now) (g.D.Panel.said c.args.device.now) c.args.store c.args.number c.args.line.now
    (g.met.D.Panel.files_told c.args.device.now) (g.met.D.Panel.said_told c.args.device.now) settled (c.requires tells)

pub returns-in_err-put_reply-in-TooLong-clause-cut : goal.returns-in_err-put_reply-in-TooLong-clause-cut
returns-in_err-put_reply-in-TooLong-clause-cut g c tells settled =
    line_rests (g.D.Panel.account c.args.device.now) (g.D.Panel.files c.args.device.now) (g.D.Panel.said c.args.device.now) c.args.store c.args.number c.args.line.now
    (g.met.D.Panel.files_told c.args.device.now) (g.met.D.Panel.said_told c.args.device.now) settled (c.requires tells)

pub returns-in_ok-put_bad_line-in-BadLine-clause-cut : goal.returns-in_ok-put_bad_line-in-BadLine-clause-cut
returns-in_ok-put_bad_line-in-BadLine-clause-cut g c tells settled =
    line_rests (g.D.Panel.account c.args.device.now) (g.D.Panel.files c.args.device.now) (g.D.Panel.said c.args.device.now) c.args.store c.args.number c.args.line.now
    (g.met.D.Panel.files_told c.args.device.now) (g.met.D.Panel.said_told c.args.device.now) settled (c.requires tells)

pub returns-in_ok-put_reply-in-TooLong-clause-cut : goal.returns-in_ok-put_reply-in-TooLong-clause-cut
returns-in_ok-put_reply-in-TooLong-clause-cut g c tells settled =
    line_rests (g.D.Panel.account c.args.device.now) (g.D.Panel.files c.args.device.now) (g.D.Panel.said c.args.device.now) c.args.store c.args.number c.args.line.now
    (g.met.D.Panel.files_told c.args.device.now) (g.met.D.Panel.said_told c.args.device.now) settled (c.requires tells)

pub returns-in_err-store-in-Complete-clause-cut : goal.returns-in_err-store-in-Complete-clause-cut
returns-in_err-store-in-Complete-clause-cut g c tells settled =
    serves_line (g.D.Panel.account c.args.device.now) (g.D.Panel.account c.serve.new.device) (g.D.Panel.files c.args.device.now) (g.D.Panel.said c.args.device.now) c.args.store c.args.number c.args.line.now c.in-Complete.client c.in-Complete.text.now
    (c.in-Complete.ensures c.args.number) (c.in_err-store-in-Complete.ensures.cut tells settled)

pub returns-in_err-put_reply-in-Complete-clause-cut : goal.returns-in_err-put_reply-in-Complete-clause-cut
returns-in_err-put_reply-in-Complete-clause-cut g c tells settled =
    serves_line (g.D.Panel.account c.args.device.now) (g.D.Panel.account c.serve.new.device) (g.D.Panel.files c.args.device.now) (g.D.Panel.said c.args.device.now) c.args.store c.args.number c.args.line.now c.in-Complete.client c.in-Complete.text.now
    (c.in-Complete.ensures c.args.number) (c.in_ok-store-in-Complete.ensures.cut tells settled)

pub returns-in_ok-put_reply-in-Complete-clause-cut : goal.returns-in_ok-put_reply-in-Complete-clause-cut
returns-in_ok-put_reply-in-Complete-clause-cut g c tells settled =
    serves_line (g.D.Panel.account c.args.device.now) (g.D.Panel.account c.serve.new.device) (g.D.Panel.files c.args.device.now) (g.D.Panel.said c.args.device.now) c.args.store c.args.number c.args.line.now c.in-Complete.client c.in-Complete.text.now
    (c.in-Complete.ensures c.args.number) (c.in_ok-store-in-Complete.ensures.cut tells settled)

pub returns-in_ok-put_bad_line-in-BadLine-clause-taken : goal.returns-in_ok-put_bad_line-in-BadLine-clause-taken
returns-in_ok-put_bad_line-in-BadLine-clause-taken g c tells = record {
  dir = refl;
  says = (BadLine c.args.number, c.in-BadLine.ensures c.args.number, (refl, c.in_ok-put_bad_line-in-BadLine.ensures));
}

pub returns-in_ok-put_reply-in-TooLong-clause-taken : goal.returns-in_ok-put_reply-in-TooLong-clause-taken
returns-in_ok-put_reply-in-TooLong-clause-taken g c tells = record {
  dir = refl;
  says = (TooLong c.in-TooLong.client, c.in-TooLong.ensures c.args.number, (refl, c.in_ok-put_reply-in-TooLong.ensures ∙ ap (λ n. reply_line c.in-TooLong.client (Refused n)) c.number.ensures));
}

pub returns-in_ok-put_reply-in-Complete-clause-taken : goal.returns-in_ok-put_reply-in-Complete-clause-taken
returns-in_ok-put_reply-in-Complete-clause-taken g c tells =
    let served = c.in_ok-store-in-Complete.ensures.served tells in
    record {
      dir = served.dir;
      says = (Complete c.in-Complete.client c.in-Complete.text.now, c.in-Complete.ensures c.args.number, (c.in_ok-store-in-Complete.served, served.serves, c.in_ok-put_reply-in-Complete.ensures));
    }
