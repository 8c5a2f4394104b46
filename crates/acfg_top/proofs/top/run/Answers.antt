use Rattle.std.proofs.Common.{◌≡◌, ◌∙◌, ap, map, string_bytes, inl, subst}
use Rattle.std.specs.Prelude.{Err}
use Rattle.acfg_device.specs.Disk.{IsSettled}
use Rattle.acfg_device.specs.Left.{LeavesSince}
use Rattle.acfg_top.specs.Bodies.{command_of, status_of}
use Rattle.acfg_top.specs.Commands.{CommandGives, Gives, Only}
use Rattle.acfg_top.specs.Replay.{LeavesOfCommand}
use Rattle.acfg_top.specs.Words.{Replay}
use Rattle.acfg_top.specs.declared.ending.Stop.TheVariants.{Failed}
use Rattle.acfg_top.proofs.Asking.{asks_unique}
use Rattle.acfg_top.proofs.Keeping.{of_replay, only_weaker, status_failed}
use Rattle.acfg_top.proofs.OneOutcome.{command_gives_unique, gives_command}
use Rattle.acfg_top.proofs.Telling.{answers_exact, ending_tells}
use Rattle.acfg_top.proofs.top.run.Goals as goal

pub returns-in-Some-clause-exact : goal.returns-in-Some-clause-exact
returns-in-Some-clause-exact g c = λ tells outcome gives.
    let command = command_of c.in-Some.command in
    let files = g.D.Panel.files c.args.dev.now in
    answers_exact g.D.Panel (CommandGives command files) (command_gives_unique command files) c.carry_out.result c.status.result c.args.dev.now c.carry_out.new.dev
    (c.carry_out.ensures.told tells) (c.carry_out.ensures.broken tells) c.carry_out.ensures.failed c.status.ensures
    outcome (gives_command (map string_bytes c.args.words.now) command files outcome c.in-Some.ensures gives)

pub returns-in-Some-clause-told : goal.returns-in-Some-clause-told
returns-in-Some-clause-told g c = λ tells failed starved.
    let command = command_of c.in-Some.command in
    let files = g.D.Panel.files c.args.dev.now in
    ending_tells g.D.Panel (CommandGives command files) (Gives (map string_bytes c.args.words.now) files) (λ outcome given. inl (command, c.in-Some.ensures, given))
    c.carry_out.result c.status.result c.args.dev.now c.carry_out.new.dev (c.carry_out.ensures.told tells) c.status.ensures failed starved

pub returns-in-Some-clause-only : goal.returns-in-Some-clause-only
returns-in-Some-clause-only g c = λ command asks.
    subst (λ command. Only g.D.Panel command c.args.dev.now c.carry_out.new.dev (c.status.result ≡ 4)) (asks_unique (map string_bytes c.args.words.now) (command_of c.in-Some.command) command c.in-Some.ensures asks)
    (only_weaker g.D.Panel (command_of c.in-Some.command) c.args.dev.now c.carry_out.new.dev (status_failed c.carry_out.result c.status.result c.status.ensures) c.carry_out.ensures.only)

pub returns-in-Some-clause-cut : goal.returns-in-Some-clause-cut
returns-in-Some-clause-cut g c = λ tells settled script dir asks.
    let device = c.args.dev.now in
    of_replay (command_of c.in-Some.command) script dir
    (λ script dir. LeavesSince (g.D.Panel.account device) (g.D.Panel.account c.carry_out.new.dev) (LeavesOfCommand script dir (g.D.Panel.files device) (g.D.Panel.said device)))
    (asks_unique (map string_bytes c.args.words.now) (command_of c.in-Some.command) (Replay script dir) c.in-Some.ensures asks) (c.carry_out.ensures.cut tells settled)

pub returns-in-Some-clause-settled : goal.returns-in-Some-clause-settled
returns-in-Some-clause-settled g c = λ tells settled script dir asks lives.
    of_replay (command_of c.in-Some.command) script dir
    (λ script dir. (c.carry_out.result ≡ Err Failed → ⊥) → IsSettled (g.D.Panel.account c.carry_out.new.dev).now)
    (asks_unique (map string_bytes c.args.words.now) (command_of c.in-Some.command) (Replay script dir) c.in-Some.ensures asks) (c.carry_out.ensures.settled tells settled)
    (λ failed. lives (c.status.ensures ∙ ap status_of failed))

pub returns-in-None-clause-cut : goal.returns-in-None-clause-cut
returns-in-None-clause-cut g c = λ tells settled script dir asks. absurd (c.in-None.ensures (Replay script dir) asks)
