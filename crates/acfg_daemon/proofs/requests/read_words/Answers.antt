use Rattle.std.proofs.Common.{◌∙◌, sym, map, ◌<◌, [], length, arith}
use Rattle.std.proofs.lemmas.List.{get_or-map, length-map}
use Rattle.acfg_daemon.proofs.Words.{first_verb}
use Rattle.acfg_daemon.proofs.requests.read_words.Goals as goal

pub returns-in-None : goal.returns-in-None
returns-in-None c request asked =
    let words = c.args.words.now in
    let some : 0 < length (map (λ word. word.now) words) = omega (arith, length-map words (λ word. word.now)) in
    let verb = first_verb (map (λ word. word.now) words) some request asked in
    c.in-None.ensures verb.0 (sym (get_or-map (λ word. word.now) words 0 _ [] (omega arith)) ∙ verb.1)
