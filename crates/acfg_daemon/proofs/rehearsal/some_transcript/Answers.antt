use Rattle.acfg_daemon.proofs.SomeTranscript.{some_bytes, some_transcript}
use Rattle.acfg_daemon.proofs.rehearsal.some_transcript.Goals as goal

pub returns-clause-loads : goal.returns-clause-loads
returns-clause-loads c = λ container path bytes none. some_bytes container path bytes (λ found. none found.0 found.1)

pub returns-clause-script : goal.returns-clause-script
returns-clause-script c = λ files state number lines none. some_transcript files state number lines (λ found. none found.0 found.1)
