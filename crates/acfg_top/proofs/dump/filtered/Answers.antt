use Rattle.std.proofs.Common.{codes, ◌++◌, map, string_bytes, refl, subst}
use Rattle.std.specs.Fmt.{decimal}
use Rattle.acfg_dump.specs.Filter.{FilterFails, IsFilter}
use Rattle.acfg_top.specs.Dump.{FilesGive, IsBadFilter}
use Rattle.acfg_top.proofs.Answering.{told_next, told_refused}
use Rattle.acfg_top.proofs.dump.filtered.Goals as goal

pub returns-in-Ok-clause-told : goal.returns-in-Ok-clause-told
returns-in-Ok-clause-told g c = λ tells.
    let text = c.args.filter.now in
    let files = g.P.Panel.files c.args.panel.now in
    told_next (IsBadFilter text) (IsFilter text) (λ filter. FilesGive c.args.template.now filter (map string_bytes c.args.files.now) files)
    c.in-Ok.filter c.in-Ok.ensures.ok c.read_files.result (c.read_files.ensures.told tells)

pub returns-in_ok-refused-in-Err-BadFilter-clause-told : goal.returns-in_ok-refused-in-Err-BadFilter-clause-told
returns-in_ok-refused-in-Err-BadFilter-clause-told g c = λ tells.
    let text = c.args.filter.now in
    let files = g.P.Panel.files c.args.panel.now in
    told_refused (IsBadFilter text) (IsFilter text) (λ filter. FilesGive c.args.template.now filter (map string_bytes c.args.files.now) files)
    (codes "filter") (codes "bad-filter at " ++ decimal c.in-Err-BadFilter.place)
    (record { place = c.in-Err-BadFilter.place; bad = subst (FilterFails text) c.in-Err-BadFilter.field-0-is c.in-Err-BadFilter.ensures.err; is_file = refl; is_bad = refl })
    _ c.in_ok-refused-in-Err-BadFilter.ensures
