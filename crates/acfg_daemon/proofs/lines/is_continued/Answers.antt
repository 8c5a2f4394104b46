use Rattle.std.proofs.Common.{[], ◌∷◌, take, length, ◌-◌}
use Rattle.std.proofs.lemmas.Slice.Eq.{ends_is}
use Rattle.std.proofs.lemmas.Bool.Decides.{Decides-eqb}
use Rattle.acfg_base.specs.Bytes.{backslash}
use Rattle.acfg_daemon.proofs.lines.is_continued.Goals as goal

pub returns : goal.returns
returns c =
    let piece = c.args.piece.now in
    let both = ends_is Decides-eqb piece (backslash ∷ []) c.ends_with.result c.ends_with.ensures.value in
    (λ ends. (take (length piece - 1) piece, both.0 ends), λ ends. both.1 ends.0 ends.1)
