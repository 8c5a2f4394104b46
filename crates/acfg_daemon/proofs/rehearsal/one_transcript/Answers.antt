use Rattle.acfg_daemon.proofs.OneTranscript.{one_transcript, begins_transcript, whole_begins}
use Rattle.acfg_daemon.proofs.rehearsal.one_transcript.Goals as goal

pub returns-clause-same : goal.returns-clause-same
returns-clause-same c = one_transcript

pub returns-clause-begins : goal.returns-clause-begins
returns-clause-begins c = begins_transcript

pub returns-clause-whole : goal.returns-clause-whole
returns-clause-whole c = whole_begins
