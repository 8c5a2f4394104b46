use Rattle.std.proofs.Common.{[], sym}
use Rattle.std.proofs.lemmas.List.{append-nil}
use Rattle.acfg_commit.proofs.Speaking.{line_part, line_said, says_only}
use Rattle.acfg_commit.proofs.line.say_line.Goals as goal

pub returns-in_err-say-clause-words : goal.returns-in_err-say-clause-words
returns-in_err-say-clause-words g c told = line_part _ _ _ (c.in_err-say.ensures.account_err told)

pub returns-in_err-say-clause-cut : goal.returns-in_err-say-clause-cut
returns-in_err-say-clause-cut g c told settled =
    says_only _ _ _ _ _ (g.met.P.Panel.files_told c.args.panel.now) (g.met.P.Panel.said_told c.args.panel.now) settled (returns-in_err-say-clause-words g c told)

pub returns-clause-words : goal.returns-clause-words
returns-clause-words g c told = line_said _ _ _ c.args.line.now [] (sym (append-nil c.args.line.now)) (c.in_ok-say.ensures.account_ok told)

pub returns-clause-cut : goal.returns-clause-cut
returns-clause-cut g c told settled = says_only _ _ _ _ _ (g.met.P.Panel.files_told c.args.panel.now) (g.met.P.Panel.said_told c.args.panel.now) settled (returns-clause-words g c told)
