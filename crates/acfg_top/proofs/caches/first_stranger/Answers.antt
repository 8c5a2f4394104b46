use Rattle.std.proofs.Common.{◌≡◌, refl, sym, ◌∙◌, subst}
use Rattle.std.specs.Prelude.{All}
use Rattle.std.proofs.lemmas.List.{take_all}
use Rattle.std.proofs.lemmas.List.Elements.{All-more}
use Rattle.std.proofs.lemmas.Option.{slice_get_read}
use Rattle.acfg_decls.specs.declared.flags.Flag.{Flag}
use Rattle.acfg_top.proofs.Strangers.{other_text, same_text}
use Rattle.acfg_top.proofs.caches.first_stranger.Goals as goal

pub returns-then-ne : goal.returns-then-ne
returns-then-ne c =
    let flags = c.args.flags.now in
    let flag = c.index-flags-position.result in
    record {
      flag = flag;
      at = slice_get_read flags _ c.loop-position.position flag refl c.loop-position-test.true c.index-flags-position.is;
      strange = λ same. other_text c.as_str.result.now c.args.container.now c.ne.result c.ne.ensures c.if-ne.true (c.as_str.ensures.text ∙ same);
      before = c.loop-position.invariant;
    }

pub loop-position-preserved : goal.loop-position-preserved
loop-position-preserved c =
    let own = λ (flag : Flag). flag.container ≡ c.args.container.now in
    All-more own c.args.flags.now c.loop-position.position c.index-flags-position.result c.loop-position-test.true c.loop-position.invariant
    (subst own c.index-flags-position.is (sym c.as_str.ensures.text ∙ same_text c.as_str.result.now c.args.container.now c.ne.result c.ne.ensures c.if-ne.false))

pub returns : goal.returns
returns c =
    subst (All (λ (flag : Flag). flag.container ≡ c.args.container.now)) (take_all c.loop-position.position c.args.flags.now c.loop-position-test.false) c.loop-position.invariant
