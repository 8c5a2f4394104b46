use Rattle.std.proofs.Common.{◌∙◌, Vec, ap, map, option_map, refl, string_bytes, sym, ℕ}
use Rattle.std.proofs.lemmas.List.{map-append}
use Rattle.std.proofs.lemmas.Map.Iter.{rest_more}
use Rattle.std.specs.Map.Iter.{deref}
use Rattle.std.specs.declared.alloc.Global.{Global}
use Rattle.acfg_device.specs.Panel.{Files}
use Rattle.acfg_memdev.proofs.Leaving.{more_listed, none_listed}
use Rattle.acfg_memdev.specs.Cut.{filled}
use Rattle.acfg_memdev.specs.Kept.{entry_of}
use Rattle.acfg_memdev.specs.Slots.{names_of}
use Rattle.acfg_memdev.proofs.cut.files_left.Goals as goal

pub loop-name-init : goal.loop-name-init
loop-name-init c =
    none_listed c.args.slots.now (option_map (filled c.args.fill)) c.into_iter-name-iterator.result (map entry_of c.new-left.result.items) refl (c.into_iter-name-iterator.ensures.into_iter_gives ∙ c.keys-name-items.ensures.rest) (ap (map entry_of) c.new-left.ensures.items)

pub loop-name-preserved-in_ok-push-in-Some-2 : goal.loop-name-preserved-in_ok-push-in-Some-2
loop-name-preserved-in_ok-push-in-Some-2 c name =
    let all : Files = λ other. option_map (filled c.args.fill) (names_of c.args.slots.now other) in
    let named = c.in_ok-from_str-in-Some-2.ensures.ok ∙ c.as_str-in-Some-2.ensures.value in
    c.loop-name.invariant name
    ∙ more_listed all (map entry_of c.loop-name.left.items) (map entry_of c.push.new.self.items) (string_bytes c.in_ok-from_str-in-Some-2.field-0) c.in-Some.name.now c.in-Some-2.bytes.items c.loop-name.name-iterator c.next.new.self
    (rest_more deref _ _ c.next.result c.in-Some.name c.in-Some.is c.next.ensures.steps)
    named
    (sym (ap (option_map (λ (bytes : Vec ℕ Global). bytes.items)) c.in-Some-2.is) ∙ c.in_ok-bytes.ensures ∙ ap all (c.as_str.ensures.value ∙ sym named))
    (ap (map entry_of) c.in_ok-push-in-Some-2.ensures.items ∙ map-append entry_of c.loop-name.left.items _)
    name
