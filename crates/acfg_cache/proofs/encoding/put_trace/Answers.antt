use Rattle.std.proofs.Common.{◌≡◌, ◌∙◌, ◌++◌, List, ℕ, ap, subst}
use Rattle.std.specs.Prelude.{IsUtf8}
use Rattle.std.proofs.lemmas.List.{take_all}
use Rattle.std.proofs.lemmas.List.Elements.{All-more}
use Rattle.acfg_decls.specs.declared.flags.Point.{Point}
use Rattle.acfg_wire.specs.Fields.{bytes_field}
use Rattle.acfg_cache.specs.Texts.{HaveSources}
use Rattle.acfg_cache.specs.Writing.{point_bytes}
use Rattle.acfg_cache.proofs.Steps.{put_next}
use Rattle.acfg_cache.proofs.encoding.put_trace.Goals as goal

pub loop-point-preserved : goal.loop-point-preserved
loop-point-preserved c =
    let trace = c.args.trace.now in
    let i = c.loop-point.point-index in
    let point : Point = c.point-item.result in
    let read : c.deref.result.now ≡ point_bytes point = c.deref.ensures.value ∙ c.in_ok-put_point.ensures.bytes ∙ ap (λ (bytes : List ℕ). bytes ++ point_bytes point) c.clear.ensures.items in
    record {
      written = put_next (λ (p : Point). bytes_field 8 (point_bytes p)) trace i point c.loop-point.out.items c.put_content.new.out.items _ c.loop-point-test.true c.point-item.is
          (c.in_ok-put_content.ensures ∙ ap (λ (b : List ℕ). c.loop-point.out.items ++ bytes_field 8 b) read) c.loop-point.invariant.written;
      texts = All-more (λ (p : Point). IsUtf8 p.source) trace i point c.loop-point-test.true c.loop-point.invariant.texts
          (subst (λ (p : Point). IsUtf8 p.source) c.point-item.is c.in_ok-put_point.ensures.texts);
    }

pub returns-clause-texts : goal.returns-clause-texts
returns-clause-texts c = subst HaveSources (take_all c.loop-point.point-index c.args.trace.now c.loop-point-test.false) c.loop-point.invariant.texts
