use Rattle.std.proofs.Common.{subst, ℕ, List}
use Rattle.std.specs.Str.{IsCharBoundary}
use Rattle.acfg_hostdev.proofs.Ends.{stem_boundary}
use Rattle.acfg_hostdev.proofs.folders.folder_of.Goals as goal

pub range-requires-clause-end_boundary : goal.range-requires-clause-end_boundary
range-requires-clause-end_boundary c =
    subst (λ (bytes : List ℕ). IsCharBoundary bytes c.end_of_part-stem.result) c.as_bytes-bytes.ensures.value
    (stem_boundary c.as_bytes-bytes.result.now c.end_of_part-whole.result c.end_of_slash-front.result c.end_of_part-stem.result c.end_of_slash-front.ensures.within c.end_of_slash-front.ensures.last
    c.end_of_part-stem.ensures.within c.end_of_part-stem.ensures.last c.end_of_part-stem.ensures.behind c.if-stem-gt0.true)
