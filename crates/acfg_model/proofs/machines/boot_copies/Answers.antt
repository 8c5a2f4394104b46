use Rattle.std.proofs.Common.{[], ◌∷◌, ◌++◌, ap, sym, ◌∙◌, map, take, take_all}
use Rattle.std.proofs.lemmas.List.{map-append, take_more}
use Rattle.acfg_model.specs.declared.machines.NamedContainer.{NamedContainer}
use Rattle.acfg_model.specs.Step.{boot_map}
use Rattle.acfg_model.specs.Views.{boot_of}
use Rattle.acfg_model.proofs.machines.boot_copies.Goals as goal

pub loop-named-preserved : goal.loop-named-preserved
loop-named-preserved c =
    let f = λ (n : NamedContainer). boot_map n.container in
    let named = c.named-item.result in
    let i = c.loop-named.named-index in
    ap (map boot_of) c.in_ok-push.ensures.items ∙ map-append boot_of c.loop-named.copies.items (c.in_ok-boot_copy.field-0 ∷ [])
    ∙ (λ j. c.loop-named.invariant j ++ (c.in_ok-boot_copy.ensures ∙ ap f c.named-item.is) j ∷ [])
    ∙ sym (ap (map f) (take_more c.args.containers.now i named c.loop-named-test.true) ∙ map-append f (take i c.args.containers.now) _)

pub returns : goal.returns
returns c = c.loop-named.invariant ∙ ap (map (λ (n : NamedContainer). boot_map n.container)) (take_all c.loop-named.named-index _ c.loop-named-test.false)
