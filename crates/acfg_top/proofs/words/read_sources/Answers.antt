use Rattle.std.proofs.Common.{◌≡◌, true, false, map, string_bytes}
use Rattle.acfg_top.proofs.AskingCache.{no_files}
use Rattle.acfg_top.proofs.words.read_sources.Goals as goal

pub returns-then-not-are_path_words : goal.returns-then-not-are_path_words
returns-then-not-are_path_words c =
    no_files c.args.package.now c.args.container.now c.args.out.now (map string_bytes c.args.files.now)
    (λ words. let none : false ≡ true = c.if-not-are_path_words.ensures.1 words in cc)
