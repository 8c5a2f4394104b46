use Rattle.std.proofs.Common.{◌∙◌, sym}
use Rattle.acfg_daemon.specs.Replayed.{ImageLoads}
use Rattle.acfg_store.specs.Loading.{image_load}
use Rattle.std.specs.Prelude.{refl}
use Rattle.acfg_daemon.proofs.OneLine.{begins_transcript, runs_transcript, runs_unique, transcript_runs}
use Rattle.acfg_daemon.proofs.SomeTranscript.{some_run}
use Rattle.acfg_daemon.proofs.replaying.one_replay.Goals as goal

pub returns-clause-same : goal.returns-clause-same
returns-clause-same c = λ files. runs_unique (ImageLoads files) (λ request one other a b. a ∙ sym b)

pub returns-clause-begins : goal.returns-clause-begins
returns-clause-begins c = λ files state number lines after part text begins runs. begins_transcript (ImageLoads files) (λ request one other a b. a ∙ sym b) state number lines part text begins (runs_transcript (ImageLoads files) state number lines after text runs)

pub returns-clause-some : goal.returns-clause-some
returns-clause-some c = λ files state number lines none. some_run (ImageLoads files) (λ request found. found (image_load files request, refl)) state number lines (λ found.
    let runs = transcript_runs (ImageLoads files) state number lines found.0 found.1 in
    none runs.0 found.0 runs.1)
