use Rattle.acfg_daemon.proofs.Joined.{lines_bare, lines_unended, lines_whole_again}
use Rattle.acfg_daemon.proofs.lines.script_of_lines.Goals as goal

pub returns-clause-bare : goal.returns-clause-bare
returns-clause-bare c = lines_bare

pub returns-clause-whole : goal.returns-clause-whole
returns-clause-whole c = lines_whole_again

pub returns-clause-unended : goal.returns-clause-unended
returns-clause-unended c = lines_unended
