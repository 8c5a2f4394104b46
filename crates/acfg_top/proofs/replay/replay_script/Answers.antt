use Rattle.std.proofs.Common.{◌≡◌, ℕ, Global, refl, sym, ◌∙◌, ap, subst, codes}
use Rattle.std.proofs.lemmas.Result.{on_err_weaker}
use Rattle.std.specs.Option.{option_map}
use Rattle.std.specs.Prelude.{None, Some, Vec}
use Rattle.acfg_device.specs.Account.{Account}
use Rattle.acfg_device.specs.Disk.{IsSettled}
use Rattle.acfg_device.specs.Only.{OnlyReads}
use Rattle.acfg_top.specs.Outcome.{Refused, said_for, writes_of}
use Rattle.acfg_top.specs.Replay.{ReplayGives}
use Rattle.acfg_top.proofs.Looking.{look_breaks}
use Rattle.acfg_top.proofs.Replaying.{broken_before, comes_before, missing_cut, rests}
use Rattle.acfg_top.proofs.Telling.{tell_comes, told_broken}
use Rattle.acfg_top.proofs.replay.replay_script.Goals as goal

-- ---- the script can't be read

pub returns-in_err-bytes-clause-broken : goal.returns-in_err-bytes-clause-broken
returns-in_err-bytes-clause-broken g c = λ tells.
    let read = c.in_err-bytes.ensures in
    let reads : OnlyReads g.D.Panel c.args.device.now c.read.new.self ⊥ = record { files = read.files; said = read.said; account = read.account; count = read.count; failed = λ none. absurd none } in
    let files = g.D.Panel.files c.args.device.now in
    look_breaks g.D.Panel reads (ReplayGives c.args.script.now c.args.dir.now files (files c.args.script.now)) _

pub returns-in_err-bytes-clause-cut : goal.returns-in_err-bytes-clause-cut
returns-in_err-bytes-clause-cut g c = λ tells settled.
    let read = c.in_err-bytes.ensures in
    let reads : OnlyReads g.D.Panel c.args.device.now c.read.new.self ⊥ = record { files = read.files; said = read.said; account = read.account; count = read.count; failed = λ none. absurd none } in
    rests c.args.script.now c.args.dir.now g.D.Panel reads (g.met.D.Panel.files_told c.args.device.now) (g.met.D.Panel.said_told c.args.device.now) settled

-- ---- it isn't there

pub returns-in_err-told-in-None-clause-cut : goal.returns-in_err-told-in-None-clause-cut
returns-in_err-told-in-None-clause-cut g c = λ tells settled.
    let read = c.in_ok-bytes.ensures in
    let reads : OnlyReads g.D.Panel c.args.device.now c.read.new.self ⊥ = record { files = read.files; said = read.said; account = read.account; count = read.count; failed = λ none. absurd none } in
    rests c.args.script.now c.args.dir.now g.D.Panel reads (g.met.D.Panel.files_told c.args.device.now) (g.met.D.Panel.said_told c.args.device.now) settled

pub returns-in_ok-told-in-None-clause-told : goal.returns-in_ok-told-in-None-clause-told
returns-in_ok-told-in-None-clause-told g c = λ tells.
    let read = c.in_ok-bytes.ensures in
    let script = c.args.script.now in
    let dir = c.args.dir.now in
    let files = g.D.Panel.files c.args.device.now in
    let absent : files script ≡ None = sym (read.found tells) ∙ ap (option_map (λ (bytes : Vec ℕ Global). bytes.items)) c.in-None.is in
    tell_comes g.D.Panel read.files read.said read.account (ReplayGives script dir files (files script)) (Refused script (codes "missing"))
    (subst (λ found. ReplayGives script dir files found (Refused script (codes "missing"))) (sym absent) refl)
    c.in_ok-told-in-None.told c.in_ok-told-in-None.ensures c.tell.result c.tell.ensures.says c.tell.ensures.ending (c.tell.ensures.ok tells)

pub returns-in_ok-told-in-None-clause-broken : goal.returns-in_ok-told-in-None-clause-broken
returns-in_ok-told-in-None-clause-broken g c = λ tells.
    let read = c.in_ok-bytes.ensures in
    let script = c.args.script.now in
    let dir = c.args.dir.now in
    let files = g.D.Panel.files c.args.device.now in
    let of = c.in_ok-told-in-None.ensures in
    let absent : files script ≡ None = sym (read.found tells) ∙ ap (option_map (λ (bytes : Vec ℕ Global). bytes.items)) c.in-None.is in
    on_err_weaker c.tell.result (λ part outcome given.
    let same : outcome ≡ Refused script (codes "missing") = subst (λ found. ReplayGives script dir files found outcome) absent given in
    told_broken g.D.Panel read.files read.said read.account outcome c.in_ok-told-in-None.told.text.items (of.text ∙ ap said_for (sym same)) (ap writes_of same ∙ of.nothing) c.tell.ensures.says part) (c.tell.ensures.err tells)

pub returns-in_ok-told-in-None-clause-cut : goal.returns-in_ok-told-in-None-clause-cut
returns-in_ok-told-in-None-clause-cut g c = λ tells settled.
    let read = c.in_ok-bytes.ensures in
    let reads : OnlyReads g.D.Panel c.args.device.now c.read.new.self ⊥ = record { files = read.files; said = read.said; account = read.account; count = read.count; failed = λ none. absurd none } in
    let script = c.args.script.now in
    let absent : g.D.Panel.files c.args.device.now script ≡ None = sym (read.found tells) ∙ ap (option_map (λ (bytes : Vec ℕ Global). bytes.items)) c.in-None.is in
    missing_cut script c.args.dir.now g.D.Panel reads (g.D.Panel.account c.tell.new.panel) c.in_ok-told-in-None.told.text.items c.in_ok-told-in-None.ensures.text absent
    (c.tell.ensures.cut tells (subst (λ (a : Account). IsSettled a.now) (sym read.account) settled))

-- ---- it is answered

pub returns-in-Some-clause-told : goal.returns-in-Some-clause-told
returns-in-Some-clause-told g c = λ tells.
    let read = c.in_ok-bytes.ensures in
    let reads : OnlyReads g.D.Panel c.args.device.now c.read.new.self ⊥ = record { files = read.files; said = read.said; account = read.account; count = read.count; failed = λ none. absurd none } in
    let there : g.D.Panel.files c.args.device.now c.args.script.now ≡ Some c.deref.result.now =
    sym (read.found tells) ∙ ap (option_map (λ (bytes : Vec ℕ Global). bytes.items)) c.in-Some.is ∙ ap Some (sym c.deref.ensures.value) in
    comes_before g.D.Panel c.args.script.now c.args.dir.now c.deref.result.now reads there c.answer.new.device c.answer.result (c.answer.ensures.told tells)

pub returns-in-Some-clause-broken : goal.returns-in-Some-clause-broken
returns-in-Some-clause-broken g c = λ tells.
    let read = c.in_ok-bytes.ensures in
    let reads : OnlyReads g.D.Panel c.args.device.now c.read.new.self ⊥ = record { files = read.files; said = read.said; account = read.account; count = read.count; failed = λ none. absurd none } in
    let there : g.D.Panel.files c.args.device.now c.args.script.now ≡ Some c.deref.result.now =
    sym (read.found tells) ∙ ap (option_map (λ (bytes : Vec ℕ Global). bytes.items)) c.in-Some.is ∙ ap Some (sym c.deref.ensures.value) in
    broken_before g.D.Panel c.args.script.now c.args.dir.now c.deref.result.now reads there c.answer.new.device c.answer.result (c.answer.ensures.broken tells)
