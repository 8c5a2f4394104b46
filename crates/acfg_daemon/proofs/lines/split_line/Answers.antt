use Rattle.std.proofs.Common.{◌∙◌, sym, ap, ◌+◌, ◌-◌, ◌∷◌, length, take, drop, arith}
use Rattle.std.proofs.lemmas.List.{take_all, length-drop}
use Rattle.acfg_daemon.specs.Lines.{lines}
use Rattle.acfg_daemon.proofs.Cuts.{lines_cut, lines_whole, take_nothing}
use Rattle.acfg_daemon.proofs.lines.split_line.Goals as goal

pub returns-in-Some-clause-lines : goal.returns-in-Some-clause-lines
returns-in-Some-clause-lines c =
    let script = c.args.script.now in
    let behind = drop (c.in-Some.end + 1) script in
    lines_cut script c.in-Some.end c.in-Some.ensures ∙ ap (λ rest. take c.in-Some.end script ∷ lines rest) (sym (take_all (length script - (c.in-Some.end + 1)) behind (omega (arith, length-drop (c.in-Some.end + 1) script))))

pub returns-in-None-clause-lines : goal.returns-in-None-clause-lines
returns-in-None-clause-lines c =
    let script = c.args.script.now in
    let nothing = take_nothing (length script - length script) (drop (length script) script) (omega arith) in
    lines_whole script c.requires c.in-None.ensures ∙ ap (λ rest. script ∷ lines rest) nothing
