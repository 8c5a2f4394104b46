use Rattle.std.proofs.Common.{◌≡◌, true, false, map, string_bytes}
use Rattle.acfg_top.proofs.Asking.{no_caches}
use Rattle.acfg_top.proofs.words.read_create_storage.Goals as goal

pub returns-then-not-are_path_words : goal.returns-then-not-are_path_words
returns-then-not-are_path_words c =
    no_caches c.args.container.now c.args.dir.now (map string_bytes c.args.caches.now)
    (λ words. let none : false ≡ true = c.if-not-are_path_words.ensures.1 words in cc)
