use Rattle.std.proofs.Common.{List, false, map, subst, sym}
use Rattle.std.specs.Borrow.{Bor}
use Rattle.acfg_decls.specs.declared.flags.Flag.{Flag}
use Rattle.std.proofs.lemmas.Result.{IfErr-weaker, IfOk-weaker, err_from_is_err_and}
use Rattle.acfg_cache.specs.Merging.{IsMerged, lent}
use Rattle.acfg_top.specs.Bodies.{IfRefused, IsMade, inputs_of}
use Rattle.acfg_top.specs.Caches.{Clashing}
use Rattle.acfg_top.specs.CreateStorage.{FlagsStored, IsNoOwnCache, IsOwnCache, ListsStored, StoredGives}
use Rattle.acfg_top.specs.Inputs.{AreAccepted, FirstRefused, Given}
use Rattle.acfg_top.specs.Outcome.{Refused}
use Rattle.acfg_top.proofs.Answering.{halted_here, halted_next, made_next}
use Rattle.acfg_top.proofs.create_storage.store_inputs.Goals as goal

pub returns-in_err-lists-clause-err : goal.returns-in_err-lists-clause-err
returns-in_err-lists-clause-err c =
    let p = err_from_is_err_and c.from_residual.result c.from_residual.ensures.1 in
    let container = c.args.container.now in
    let inputs = inputs_of c.args.inputs.now in
    rw (p.1, p.2) (halted_here (FirstRefused (IsOwnCache container) (IsNoOwnCache container) inputs) (AreAccepted (IsOwnCache container) (IsNoOwnCache container) inputs)
    (ListsStored container c.args.dir.now (map (λ (input : Given). input.name) inputs)) c.in_err-lists.field-0.0 c.in_err-lists.ensures.err)

pub returns-in_err-flags-clause-err : goal.returns-in_err-flags-clause-err
returns-in_err-flags-clause-err c =
    let p = err_from_is_err_and c.from_residual-in_err-flags.result c.from_residual-in_err-flags.ensures.1 in
    let container = c.args.container.now in
    let inputs = inputs_of c.args.inputs.now in
    let names = map (λ (input : Given). input.name) inputs in
    let lists = c.deref.result.now in
    let halted = c.in_err-flags.field-0.0 in
    rw (p.1, p.2) (halted_next (FirstRefused (IsOwnCache container) (IsNoOwnCache container) inputs) (AreAccepted (IsOwnCache container) (IsNoOwnCache container) inputs) (ListsStored container c.args.dir.now names)
    lists (subst (AreAccepted (IsOwnCache container) (IsNoOwnCache container) inputs) (sym c.deref.ensures.value) c.in_ok-lists.ensures.ok) halted
    (halted_here (Clashing names lists false) (IsMerged lists false) (FlagsStored container c.args.dir.now) halted c.in_err-flags.ensures.err))

pub returns-clause-ok : goal.returns-clause-ok
returns-clause-ok c =
    let container = c.args.container.now in
    let dir = c.args.dir.now in
    let inputs = inputs_of c.args.inputs.now in
    let names = map (λ (input : Given). input.name) inputs in
    let lists = c.deref.result.now in
    let flags = lent c.deref-2.result.now in
    let merged : IsMerged lists false flags = subst (λ (them : List (Bor Flag)). IsMerged lists false (lent them)) (sym c.deref-2.ensures.value) c.in_ok-flags.ensures.ok in
    IfOk-weaker c.store_flags.result (IsMade (FlagsStored container dir flags)) (IsMade (StoredGives container dir inputs))
    (λ output made. made_next (FirstRefused (IsOwnCache container) (IsNoOwnCache container) inputs) (AreAccepted (IsOwnCache container) (IsNoOwnCache container) inputs) (ListsStored container dir names)
    lists (subst (AreAccepted (IsOwnCache container) (IsNoOwnCache container) inputs) (sym c.deref.ensures.value) c.in_ok-lists.ensures.ok) output
    (made_next (Clashing names lists false) (IsMerged lists false) (FlagsStored container dir) flags merged output made))
    c.store_flags.ensures.ok

pub returns-clause-err : goal.returns-clause-err
returns-clause-err c =
    let container = c.args.container.now in
    let dir = c.args.dir.now in
    let inputs = inputs_of c.args.inputs.now in
    let names = map (λ (input : Given). input.name) inputs in
    let lists = c.deref.result.now in
    let flags = lent c.deref-2.result.now in
    let merged : IsMerged lists false flags = subst (λ (them : List (Bor Flag)). IsMerged lists false (lent them)) (sym c.deref-2.ensures.value) c.in_ok-flags.ensures.ok in
    IfErr-weaker c.store_flags.result (IfRefused (λ file what. FlagsStored container dir flags (Refused file what))) (IfRefused (λ file what. StoredGives container dir inputs (Refused file what)))
    (λ halted refused. halted_next (FirstRefused (IsOwnCache container) (IsNoOwnCache container) inputs) (AreAccepted (IsOwnCache container) (IsNoOwnCache container) inputs) (ListsStored container dir names)
    lists (subst (AreAccepted (IsOwnCache container) (IsNoOwnCache container) inputs) (sym c.deref.ensures.value) c.in_ok-lists.ensures.ok) halted
    (halted_next (Clashing names lists false) (IsMerged lists false) (FlagsStored container dir) flags merged halted refused))
    c.store_flags.ensures.err
