use Rattle.std.proofs.Common.{◌≡◌, ◌∙◌, ◌++◌, List, ℕ, ap, subst}
use Rattle.std.specs.Prelude.{All, IsUtf8}
use Rattle.std.proofs.lemmas.List.{take_all}
use Rattle.std.proofs.lemmas.List.Elements.{All-more}
use Rattle.acfg_wire.specs.Fields.{bytes_field}
use Rattle.acfg_cache.proofs.Steps.{put_next}
use Rattle.acfg_cache.proofs.encoding.put_bugs.Goals as goal

pub loop-bug-preserved : goal.loop-bug-preserved
loop-bug-preserved c =
    let bugs = c.args.bugs.now in
    let i = c.loop-bug.bug-index in
    let bug : List ℕ = c.bug-item.result in
    let read : c.as_bytes.result.now ≡ bug = c.as_bytes.ensures.value ∙ c.as_str.ensures in
    record {
      written = put_next (λ (b : List ℕ). bytes_field 5 b) bugs i bug c.loop-bug.out.items c.put_content.new.out.items _ c.loop-bug-test.true c.bug-item.is
          (c.in_ok-put_content.ensures ∙ ap (λ (b : List ℕ). c.loop-bug.out.items ++ bytes_field 5 b) read) c.loop-bug.invariant.written;
      texts = All-more IsUtf8 bugs i bug c.loop-bug-test.true c.loop-bug.invariant.texts (subst IsUtf8 (read ∙ c.bug-item.is) c.as_bytes.ensures.utf8);
    }

pub returns-clause-texts : goal.returns-clause-texts
returns-clause-texts c = subst (All IsUtf8) (take_all c.loop-bug.bug-index c.args.bugs.now c.loop-bug-test.false) c.loop-bug.invariant.texts
