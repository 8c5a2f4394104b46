use Rattle.std.proofs.Common.{◌≡◌, ◌∙◌, refl}
use Rattle.acfg_cache.specs.Reading.{text_or_none}
use Rattle.acfg_cache.specs.Bodies.{leaves_read}
use Rattle.acfg_cache.proofs.conditions.build_flag.Goals as goal

pub returns : goal.returns
returns c =
    let names = c.requires in
    let description : c.in_ok-copy.field-0 ≡ text_or_none 4 (leaves_read c.as_slice-said.result.now) = c.in_ok-copy.ensures ∙ c.text_or_none.ensures in
    rw (names.of_package, names.of_name, names.of_namespace, description, c.in_ok-texts.ensures, c.has_number.ensures, c.has_number-2.ensures, c.in_ok-make_trace.ensures, c.is_true.ensures, c.is_true-2.ensures, names.of_container, c.make_purpose.ensures, c.as_slice-said.ensures.value, c.deref.ensures.value, c.deref-2.ensures.value)
    refl
