use Rattle.std.proofs.Common.{◌∙◌, ap, subst}
use Rattle.std.specs.Str.{IsUtf8}
use Rattle.std.proofs.lemmas.Str.{is_utf8-from_IsUtf8, IsUtf8-string_bytes}
use Rattle.acfg_text.proofs.Parts.{text_fails, value_read_text, not_utf8}
use Rattle.acfg_text.proofs.grammar.read_joined.Goals as goal

pub returns-in-Ok-clause-ok : goal.returns-in-Ok-clause-ok
returns-in-Ok-clause-ok c depth =
    value_read_text c.args.tokens.now c.args.end depth c.args.at c.in_ok-bytes.next c.args.first c.in_ok-bytes.bytes.items c.new.result c.requires.next c.requires.quoted c.in_ok-bytes.ensures.ok
    (is_utf8-from_IsUtf8 c.in_ok-bytes.bytes.items (subst IsUtf8 (ap (λ b. b.items) c.in-Ok.ensures.ok) (IsUtf8-string_bytes c.in-Ok.text))) (c.new.ensures ∙ ap (λ b. b.items) c.in-Ok.ensures.ok)

pub returns-clause-err : goal.returns-clause-err
returns-clause-err c depth =
    text_fails c.args.tokens.now c.args.end depth c.args.at c.in_ok-bytes.next c.args.first c.in_ok-bytes.bytes.items c.requires.next c.requires.quoted c.in_ok-bytes.ensures.ok (not_utf8 c.in_ok-bytes.bytes.items c.in-Err.ensures.succeeds)
