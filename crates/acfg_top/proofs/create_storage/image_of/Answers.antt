use Rattle.std.proofs.Common.{rules, sym, ap, map, ⊎_elim}
use Rattle.acfg_cache.specs.Merging.{lent}
use Rattle.acfg_images.specs.Build.{compiled_flag}
use Rattle.acfg_top.specs.CreateStorage.{image_told, limit_words}
use Rattle.acfg_top.proofs.create_storage.image_of.Goals as goal

pub returns-in-Ok-clause-ok : goal.returns-in-Ok-clause-ok
returns-in-Ok-clause-ok c = c.in-Ok.ensures

pub returns-in_ok-refused-in-Err-clause-err : goal.returns-in_ok-refused-in-Err-clause-err
returns-in_ok-refused-in-Err-clause-err c =
    let dir = c.args.dir.now in
    let compiled = map compiled_flag (lent c.args.flags.now) in
    ⊎_elim (λ starved. absurd (search (rules, starved, c.in-Err.is, c.in-Err.ensures)))
    (λ due. (dir, limit_words c.in-Err.fault, sym (ap (image_told dir compiled) due), c.in_ok-refused-in-Err.ensures))
    c.in-Err.ensures
