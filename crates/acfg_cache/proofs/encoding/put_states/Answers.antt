use Rattle.std.proofs.Common.{subst}
use Rattle.std.specs.Prelude.{All, IsUtf8}
use Rattle.acfg_cache.specs.Texts.{HasMiddle, HaveSources}
use Rattle.acfg_cache.proofs.Passed.{on_ok_weaker}
use Rattle.acfg_cache.proofs.encoding.put_states.Goals as goal

pub returns-clause-texts : goal.returns-clause-texts
returns-clause-texts c =
    on_ok_weaker c.put_trace.result (HaveSources c.as_slice-2.result.now) (HasMiddle c.args.flag.now)
    (λ sources. record {
      of_bugs = subst (All IsUtf8) c.as_slice.ensures c.in_ok-put_bugs.ensures.texts;
      of_sources = subst HaveSources c.as_slice-2.ensures sources;
    })
    c.put_trace.ensures.texts
