use Rattle.std.proofs.Common.{sym, subst, IsTrue}
use Rattle.std.specs.Prelude.{IfOk, OnErr}
use Rattle.acfg_top.specs.Bodies.{command_of, Comes}
use Rattle.acfg_top.specs.Commands.{CommandGives}
use Rattle.acfg_top.specs.Outcome.{Outcome, IsBroken}
use Rattle.acfg_top.proofs.top.carry_out.Goals as goal

pub returns-in-Query-clause-broken : goal.returns-in-Query-clause-broken
returns-in-Query-clause-broken g c =
    subst (λ command. IsTrue g.D.Panel.tells → OnErr c.query.result ((outcome : Outcome) → CommandGives (command_of command) (g.D.Panel.files c.args.dev.now) outcome
    → IsBroken g.D.Panel outcome c.args.dev.now c.query.new.panel)) (sym c.in-Query.is) c.query.ensures.broken

pub returns-in-Dump-clause-told : goal.returns-in-Dump-clause-told
returns-in-Dump-clause-told g c =
    subst (λ command. IsTrue g.D.Panel.tells → IfOk c.dump_caches.result (λ ending. Comes g.D.Panel (CommandGives (command_of command) (g.D.Panel.files c.args.dev.now)) ending
    c.args.dev.now c.dump_caches.new.panel)) (sym c.in-Dump.is) c.dump_caches.ensures.told

pub returns-in-Dump-clause-broken : goal.returns-in-Dump-clause-broken
returns-in-Dump-clause-broken g c =
    subst (λ command. IsTrue g.D.Panel.tells → OnErr c.dump_caches.result ((outcome : Outcome) → CommandGives (command_of command) (g.D.Panel.files c.args.dev.now) outcome
    → IsBroken g.D.Panel outcome c.args.dev.now c.dump_caches.new.panel)) (sym c.in-Dump.is) c.dump_caches.ensures.broken

pub returns-in-CreateCache-clause-broken : goal.returns-in-CreateCache-clause-broken
returns-in-CreateCache-clause-broken g c =
    subst (λ command. IsTrue g.D.Panel.tells → OnErr c.create_cache.result ((outcome : Outcome) → CommandGives (command_of command) (g.D.Panel.files c.args.dev.now) outcome
    → IsBroken g.D.Panel outcome c.args.dev.now c.create_cache.new.device)) (sym c.in-CreateCache.is) c.create_cache.ensures.broken

pub returns-in-CreateStorage-clause-told : goal.returns-in-CreateStorage-clause-told
returns-in-CreateStorage-clause-told g c =
    subst (λ command. IsTrue g.D.Panel.tells → IfOk c.create_storage.result (λ ending. Comes g.D.Panel (CommandGives (command_of command) (g.D.Panel.files c.args.dev.now)) ending
    c.args.dev.now c.create_storage.new.device)) (sym c.in-CreateStorage.is) c.create_storage.ensures.told

pub returns-in-CreateStorage-clause-broken : goal.returns-in-CreateStorage-clause-broken
returns-in-CreateStorage-clause-broken g c =
    subst (λ command. IsTrue g.D.Panel.tells → OnErr c.create_storage.result ((outcome : Outcome) → CommandGives (command_of command) (g.D.Panel.files c.args.dev.now) outcome
    → IsBroken g.D.Panel outcome c.args.dev.now c.create_storage.new.device)) (sym c.in-CreateStorage.is) c.create_storage.ensures.broken

pub returns-in-CreateAll-clause-told : goal.returns-in-CreateAll-clause-told
returns-in-CreateAll-clause-told g c =
    subst (λ command. IsTrue g.D.Panel.tells → IfOk c.create_all.result (λ ending. Comes g.D.Panel (CommandGives (command_of command) (g.D.Panel.files c.args.dev.now)) ending
    c.args.dev.now c.create_all.new.device)) (sym c.in-CreateAll.is) c.create_all.ensures.told

pub returns-in-CreateAll-clause-broken : goal.returns-in-CreateAll-clause-broken
returns-in-CreateAll-clause-broken g c =
    subst (λ command. IsTrue g.D.Panel.tells → OnErr c.create_all.result ((outcome : Outcome) → CommandGives (command_of command) (g.D.Panel.files c.args.dev.now) outcome
    → IsBroken g.D.Panel outcome c.args.dev.now c.create_all.new.device)) (sym c.in-CreateAll.is) c.create_all.ensures.broken
