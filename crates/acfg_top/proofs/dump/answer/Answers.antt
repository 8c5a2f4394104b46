use Rattle.std.proofs.Common.{codes, ◌++◌, map, string_bytes, refl, subst}
use Rattle.std.specs.Fmt.{decimal}
use Rattle.acfg_dump.specs.Template.{IsTemplate, TemplateFails}
use Rattle.acfg_top.specs.Dump.{FilterGives, IsBadFormat}
use Rattle.acfg_top.proofs.Answering.{told_next, told_refused}
use Rattle.acfg_top.proofs.dump.answer.Goals as goal

pub returns-in-Ok-clause-told : goal.returns-in-Ok-clause-told
returns-in-Ok-clause-told g c = λ tells.
    let format = c.args.asked.format.now in
    let files = g.P.Panel.files c.args.panel.now in
    told_next (IsBadFormat format) (IsTemplate format) (λ template. FilterGives template c.args.asked.filter.now (map string_bytes c.args.asked.files.now) files)
    c.in-Ok.template c.in-Ok.ensures.ok c.filtered.result (c.filtered.ensures.told tells)

pub returns-in_ok-refused-in-Err-BadPlaceholder-clause-told : goal.returns-in_ok-refused-in-Err-BadPlaceholder-clause-told
returns-in_ok-refused-in-Err-BadPlaceholder-clause-told g c = λ tells.
    let format = c.args.asked.format.now in
    let files = g.P.Panel.files c.args.panel.now in
    told_refused (IsBadFormat format) (IsTemplate format) (λ template. FilterGives template c.args.asked.filter.now (map string_bytes c.args.asked.files.now) files)
    (codes "format") (codes "bad-placeholder at " ++ decimal c.in-Err-BadPlaceholder.place)
    (record { place = c.in-Err-BadPlaceholder.place; bad = subst (TemplateFails format) c.in-Err-BadPlaceholder.field-0-is c.in-Err-BadPlaceholder.ensures.err; is_file = refl; is_bad = refl })
    _ c.in_ok-refused-in-Err-BadPlaceholder.ensures
