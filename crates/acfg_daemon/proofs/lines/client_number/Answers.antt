use Rattle.std.proofs.Common.{◌≡◌, sym, subst, true, false}
use Rattle.std.specs.Str.{IsUtf8}
use Rattle.std.specs.Str.Parse.{ParsesUnsigned}
use Rattle.acfg_daemon.specs.Bodies.{BeginsPlainly}
use Rattle.acfg_daemon.proofs.Clients.{decimal_plain, decimal_text, parsed_finds}
use Rattle.acfg_daemon.proofs.lines.client_number.Goals as goal

pub returns-then-not-begins_plainly : goal.returns-then-not-begins_plainly
returns-then-not-begins_plainly c client is =
    let plain : false ≡ true = c.if-not-begins_plainly.ensures.1 (subst BeginsPlainly (sym is.1) (decimal_plain client is.0)) in cc

pub returns-in-Err : goal.returns-in-Err
returns-in-Err c client is = c.in-Err.ensures.cases.0 (subst IsUtf8 (sym is.1) (decimal_text client is.0))

pub returns-in-Ok : goal.returns-in-Ok
returns-in-Ok c =
    let plain = c.begins_plainly.ensures.0 c.if-not-begins_plainly.false in
    rw c.ok.ensures.value (parsed_finds c.args.word.now c.parse.result plain (subst (λ text. ParsesUnsigned 8 10 text c.parse.result) c.in-Ok.ensures.cases.0 c.parse.ensures.value.0))
