use Rattle.std.proofs.Common.{◌≡◌, ◌+◌, ◌≤◌, length, map, ap, ◌∙◌, arith}
use Rattle.acfg_base.specs.Bytes.{plus}
use Rattle.acfg_dump.specs.Filter.{extent, pieces}
use Rattle.acfg_dump.proofs.Extents.{extent_pieces, words}
use Rattle.acfg_dump.proofs.filter.read_alternative.Goals as goal

pub read_conditions-requires : goal.read_conditions-requires
read_conditions-requires c =
    let bytes : extent (words c.deref.result.now) ≡ length c.args.text.now + 1 =
    ap (λ texts. extent (words texts)) c.deref.ensures.value ∙ ap extent c.in_ok-texts.ensures ∙ extent_pieces plus c.args.text.now in
    omega (arith, c.requires)
