use Rattle.std.proofs.Common.{ap, sym, ◌∙◌, length, arith}
use Rattle.std.specs.List.{flat_map}
use Rattle.acfg_dump.specs.Parts.{spelled}
use Rattle.acfg_dump.proofs.Spelling.{bad_place, one_bad_place, one_spelling}
use Rattle.acfg_dump.specs.Template.{template_of}
use Rattle.acfg_dump.proofs.SomeReading.{some_template}
use Rattle.acfg_dump.proofs.laws.one_template.Goals as goal

pub returns-clause-one : goal.returns-clause-one
returns-clause-one c = λ text parts other is also. one_spelling parts other (sym is ∙ also)

pub returns-clause-place : goal.returns-clause-place
returns-clause-place c = λ text place other bad also.
    sym bad.at ∙ ap (λ parts. length (flat_map spelled parts)) (one_bad_place bad.before also.before bad.behind also.behind bad.more bad.none also.more also.none (sym bad.cut ∙ also.cut)) ∙ also.at

pub returns-clause-never_both : goal.returns-clause-never_both
returns-clause-never_both c = λ text parts place is bad. bad_place parts bad.before bad.behind bad.more bad.none (sym is ∙ bad.cut)

pub returns-clause-some : goal.returns-clause-some
returns-clause-some c = λ text none never. some_template (template_of text) none never
