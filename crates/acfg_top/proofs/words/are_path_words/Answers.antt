use Rattle.std.proofs.Common.{rules, string_bytes, ◌<◌, length}
use Rattle.acfg_top.specs.Words.{IsPathWord}
use Rattle.acfg_top.proofs.Lists.{path_words}
use Rattle.acfg_top.proofs.words.are_path_words.Goals as goal

pub returns-then-not-is_empty : goal.returns-then-not-is_empty
returns-then-not-is_empty c =
    let some : 0 < length c.args.words.now = search (rules, c.is_empty.ensures, c.if-not-is_empty.true) in
    path_words IsPathWord string_bytes c.args.words.now c.are_paths.result some c.are_paths.ensures
