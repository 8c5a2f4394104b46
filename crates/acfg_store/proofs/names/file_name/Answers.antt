use Rattle.std.proofs.Common.{ℕ, List, ◌∷◌, ◌++◌, ◌∙◌, ap}
use Rattle.acfg_store.specs.Names.{path, slash}
use Rattle.acfg_store.proofs.names.file_name.Goals as goal

pub returns : goal.returns
unfolding path
returns c =
    c.in_ok-name.ensures.ok
    ∙ ap (λ (e : List ℕ). c.args.dir.now ++ slash ∷ (c.args.container.now ++ e)) c.ending_of-ending.ensures
