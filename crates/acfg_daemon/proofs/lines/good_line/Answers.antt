use Rattle.std.proofs.Common.{◌∙◌, subst, ◌+◌, ◌-◌, length, drop, arith}
use Rattle.std.proofs.lemmas.List.{take_all, length-drop}
use Rattle.acfg_base.specs.Bytes.{space}
use Rattle.acfg_base.specs.Bytes.{backslash}
use Rattle.acfg_daemon.specs.Lines.{EndsIn}
use Rattle.acfg_daemon.proofs.Cuts.{first_cut, nowhere}
use Rattle.acfg_daemon.proofs.Clients.{no_space, good_parts}
use Rattle.acfg_daemon.proofs.lines.good_line.Goals as goal

pub returns-in_err-space : goal.returns-in_err-space
returns-in_err-space c = rw c.from_residual.ensures (λ read good. no_space c.args.line.now read.0 read.1 (nowhere space c.args.line.now c.in_err-space.ensures) good)

pub returns-in_err-client : goal.returns-in_err-client
returns-in_err-client c =
    rw c.from_residual-in_err-client.ensures (λ read good.
    c.in_err-client.ensures read.0 (good.bound, (good_parts c.args.line.now c.in_ok-space.space read.0 read.1 (first_cut space c.args.line.now c.in_ok-space.space c.in_ok-space.ensures) good).0))

pub returns-then-is_continued : goal.returns-then-is_continued
returns-then-is_continued c read good =
    let line = c.args.line.now in
    let i = c.in_ok-space.space in
    let parts = good_parts line i read.0 read.1 (first_cut space line i c.in_ok-space.ensures) good in
    let piece = take_all (length line - (i + 1)) (drop (i + 1) line) (omega (arith, length-drop (i + 1) line)) in
    good.whole (subst (λ text. EndsIn text backslash) (piece ∙ parts.1) (c.is_continued.ensures.0 c.if-is_continued.true))
