use Rattle.std.proofs.Common.{refl, ap, ◌∙◌}
use Rattle.acfg_model.specs.declared.requests.Reply.TheVariants.{Refused}
use Rattle.acfg_daemon.specs.Replies.{reply_line}
use Rattle.acfg_daemon.specs.Lines.{Complete, TooLong, BadLine}
use Rattle.acfg_daemon.proofs.rehearsal.answer.Goals as goal

pub returns-in_ok-put_bad_line-in-BadLine-clause-told : goal.returns-in_ok-put_bad_line-in-BadLine-clause-told
returns-in_ok-put_bad_line-in-BadLine-clause-told g c tells = (BadLine c.args.number, c.in-BadLine.ensures c.args.number, (refl, c.in_ok-put_bad_line-in-BadLine.ensures))

pub returns-in_ok-put_reply-in-TooLong-clause-told : goal.returns-in_ok-put_reply-in-TooLong-clause-told
returns-in_ok-put_reply-in-TooLong-clause-told g c tells = (TooLong c.in-TooLong.client, c.in-TooLong.ensures c.args.number, (refl, c.in_ok-put_reply-in-TooLong.ensures ∙ ap (λ n. reply_line c.in-TooLong.client (Refused n)) c.number.ensures))

pub returns-in_ok-put_reply-in-Complete-clause-told : goal.returns-in_ok-put_reply-in-Complete-clause-told
returns-in_ok-put_reply-in-Complete-clause-told g c tells = (
  Complete c.in-Complete.client c.in-Complete.text.now,
  c.in-Complete.ensures c.args.number,
  (c.in_ok-served-in-Complete.served, c.in_ok-served-in-Complete.ensures.told tells, c.in_ok-put_reply-in-Complete.ensures),
)
