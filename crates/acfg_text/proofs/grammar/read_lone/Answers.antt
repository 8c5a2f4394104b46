use Rattle.std.proofs.Common.{◌+◌, ◌∙◌}
use Rattle.std.proofs.lemmas.Str.{is_utf8-from_IsUtf8}
use Rattle.acfg_text.specs.Escapes.{spelled}
use Rattle.acfg_text.proofs.Parts.{text_fails, value_read_text, not_utf8, joins_none}
use Rattle.acfg_text.proofs.grammar.read_lone.Goals as goal

pub returns-in_ok-copy-in-Ok-clause-ok : goal.returns-in_ok-copy-in-Ok-clause-ok
returns-in_ok-copy-in-Ok-clause-ok c depth =
    value_read_text c.args.tokens.now c.args.end depth c.args.at (c.args.at + 1) c.args.token c.args.text.now _ c.requires.next c.requires.quoted (joins_none c.args.tokens.now c.args.end (spelled c.args.token.text.now) c.args.text.now (c.args.at + 1) c.requires.value c.requires.ends)
    (is_utf8-from_IsUtf8 c.args.text.now c.in-Ok.ensures.cases.1) (c.in_ok-copy-in-Ok.ensures ∙ c.in-Ok.ensures.cases.0)

pub returns-in-Err-clause-err : goal.returns-in-Err-clause-err
returns-in-Err-clause-err c depth =
    text_fails c.args.tokens.now c.args.end depth c.args.at (c.args.at + 1) c.args.token c.args.text.now c.requires.next c.requires.quoted (joins_none c.args.tokens.now c.args.end (spelled c.args.token.text.now) c.args.text.now (c.args.at + 1) c.requires.value c.requires.ends)
    (not_utf8 c.args.text.now (λ u. absurd (c.in-Err.ensures.cases.0 u)))
