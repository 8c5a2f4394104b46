use Rattle.std.proofs.Common.{◌≡◌, ◌∙◌, ◌++◌, ◌<◌, ◌^◌, ℕ, List, length, sym, ap, subst, arith}
use Rattle.std.specs.Prelude.{All}
use Rattle.std.proofs.lemmas.List.{append-nil, drop_all, take_all}
use Rattle.std.proofs.lemmas.List.Elements.{All-more}
use Rattle.acfg_decls.specs.declared.flags.Flag.{Flag}
use Rattle.acfg_wire.specs.Fields.{bytes_field}
use Rattle.acfg_cache.specs.Reading.{Reads}
use Rattle.acfg_cache.specs.Texts.{HasTexts}
use Rattle.acfg_cache.specs.Writing.{cache, flag_bytes}
use Rattle.acfg_cache.proofs.Again.{reads_again}
use Rattle.acfg_cache.proofs.Steps.{put_next}
use Rattle.acfg_cache.proofs.encoding.encode.Goals as goal

pub loop-flag-preserved : goal.loop-flag-preserved
loop-flag-preserved c =
    let flags = c.list-flag-items.result.now in
    let i = c.loop-flag.flag-index in
    let flag : Flag = c.flag-item.result in
    let read : c.deref.result.now ≡ flag_bytes flag = c.deref.ensures.value ∙ c.in_ok-put_flag.ensures.bytes ∙ ap (λ (bytes : List ℕ). bytes ++ flag_bytes flag) c.clear.ensures.items in
    record {
      written = put_next (λ (f : Flag). bytes_field 1 (flag_bytes f)) flags i flag c.loop-flag.out.items c.put_content.new.out.items _ c.loop-flag-test.true c.flag-item.is
          (c.in_ok-put_content.ensures ∙ ap (λ (b : List ℕ). c.loop-flag.out.items ++ bytes_field 1 b) read) c.loop-flag.invariant.written;
      texts = All-more HasTexts flags i flag c.loop-flag-test.true c.loop-flag.invariant.texts (subst HasTexts c.flag-item.is c.in_ok-put_flag.ensures.texts);
    }

pub returns-clause-again : goal.returns-clause-again
returns-clause-again c =
    let flags = c.list-flag-items.result.now in
    let out = c.loop-flag.out in
    let left = ap cache (drop_all c.loop-flag.flag-index flags c.loop-flag-test.false) in
    let whole : out.items ≡ cache c.args.flags.now = sym (ap (λ (bytes : List ℕ). out.items ++ bytes) left ∙ append-nil out.items) ∙ c.loop-flag.invariant.written in
    let texts = subst (All HasTexts) (take_all c.loop-flag.flag-index flags c.loop-flag-test.false ∙ c.list-flag-items.ensures.all) c.loop-flag.invariant.texts in
    let small = out.small in
    let ok = out.ok in
    let sized = ap length whole in
    let short : length (cache c.args.flags.now) < 2 ^ 64 = omega (arith, ok.0, ok.1, small, sized) in
    subst (λ (bytes : List ℕ). Reads bytes c.args.flags.now) (sym whole) (reads_again c.args.flags.now c.list-flag-items.ensures.lawful texts short)
