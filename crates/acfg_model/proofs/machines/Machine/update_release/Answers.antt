use Rattle.std.proofs.Common.{◌≤◌, ◌<◌, length, set, bytes_eq, refl, sym, ap, subst, ◌∙◌, arith}
use Rattle.std.specs.FinMap.{get, insert, len}
use Rattle.acfg_base.specs.Names.{IsContainer}
use Rattle.acfg_base.specs.Places.{StandsAt, WouldStandAt}
use Rattle.acfg_model.specs.declared.machines.NamedContainer.{NamedContainer}
use Rattle.acfg_model.specs.declared.requests.Reply.TheVariants.{Refused, Updated, Unchanged}
use Rattle.acfg_model.specs.State.{State, name_cmp}
use Rattle.acfg_model.specs.Step.{release_step}
use Rattle.acfg_model.specs.Machines.{kept_name, state_of, IsKept}
use Rattle.acfg_model.proofs.Kept.{pair_of, state_at, state_same, state_set, state_absent, state_insert, len-state_of, IsKept-set, IsKept-insert, release_step-same, release_step-with_release, release_step-full, release_step-added}
use Rattle.acfg_model.proofs.machines.Machine.update_release.Goals as goal

pub returns-then-eq-clause-ok : goal.returns-then-eq-clause-ok
returns-then-eq-clause-ok c =
    let list = c.self.inside.containers.items in
    let named = c.index_mut-named.result.now in
    let stands = subst (λ rows. StandsAt name_cmp kept_name rows c.args.name.now c.in-Ok.at) c.deref.ensures.value (subst (λ name. StandsAt name_cmp kept_name c.deref.result.now name c.in-Ok.at) c.as_str.ensures.text c.in-Ok.ensures) in
    let there = state_at list c.self.invariant c.args.name.now c.in-Ok.at stands named c.index_mut-named.ensures.value in
    let same = ap (λ d. bytes_eq d c.args.digest) (sym c.digest.ensures) ∙ sym c.eq.ensures ∙ c.if-eq.true in
    ap (λ (s : State). release_step s c.args.name.now c.args.digest c.args.release (get s c.args.name.now)) (sym c.self.view_is)
    ∙ release_step-same (state_of list) c.args.name.now c.args.digest c.args.release named.container there same
    ∙ ap (λ s. pair_of s Unchanged) (sym (state_same list c.self.invariant c.args.name.now c.in-Ok.at stands named c.index_mut-named.ensures.value named.container refl))

pub invariant_of-self-in-Ok : goal.invariant_of-self-in-Ok
invariant_of-self-in-Ok c =
    let stands = subst (λ rows. StandsAt name_cmp kept_name rows c.args.name.now c.in-Ok.at) c.deref.ensures.value (subst (λ name. StandsAt name_cmp kept_name c.deref.result.now name c.in-Ok.at) c.as_str.ensures.text c.in-Ok.ensures) in
    IsKept-set c.self.inside.containers.items c.self.invariant c.args.name.now c.in-Ok.at stands c.index_mut-named.result.now c.index_mut-named.ensures.value c.set_release.new.self c.in_ok-set_release-in-Ok.ensures.valid

pub returns-in_ok-set_release-in-Ok-clause-ok : goal.returns-in_ok-set_release-in-Ok-clause-ok
returns-in_ok-set_release-in-Ok-clause-ok c =
    let list = c.self.inside.containers.items in
    let named = c.index_mut-named.result.now in
    let stands = subst (λ rows. StandsAt name_cmp kept_name rows c.args.name.now c.in-Ok.at) c.deref.ensures.value (subst (λ name. StandsAt name_cmp kept_name c.deref.result.now name c.in-Ok.at) c.as_str.ensures.text c.in-Ok.ensures) in
    let there = state_at list c.self.invariant c.args.name.now c.in-Ok.at stands named c.index_mut-named.ensures.value in
    let apart = ap (λ d. bytes_eq d c.args.digest) (sym c.digest.ensures) ∙ sym c.eq.ensures ∙ c.if-eq.false in
    let made = state_set list c.self.invariant c.args.name.now c.in-Ok.at stands named c.index_mut-named.ensures.value c.set_release.new.self ∙ ap (insert (state_of list) c.args.name.now) c.in_ok-set_release-in-Ok.ensures.ok in
    ap (λ (s : State). release_step s c.args.name.now c.args.digest c.args.release (get s c.args.name.now)) (sym c.self.view_is)
    ∙ release_step-with_release (state_of list) c.args.name.now c.args.digest c.args.release named.container there apart
    ∙ ap (λ s. pair_of s (Updated c.args.digest (len c.args.release))) (sym made)
    ∙ ap (λ n. pair_of (state_of (set list c.in-Ok.at (record { name = named.name; container = c.set_release.new.self }))) (Updated c.args.digest n)) (sym c.len-count.ensures.count)

pub returns-then-as_slice-ge-MOST_CONTAINERS-clause-ok : goal.returns-then-as_slice-ge-MOST_CONTAINERS-clause-ok
returns-then-as_slice-ge-MOST_CONTAINERS-clause-ok c =
    let list = c.self.inside.containers.items in
    let gap = subst (λ rows. WouldStandAt name_cmp kept_name rows c.args.name.now c.in-Err.at) c.deref.ensures.value (subst (λ name. WouldStandAt name_cmp kept_name c.deref.result.now name c.in-Err.at) c.as_str.ensures.text c.in-Err.ensures) in
    let absent = state_absent list c.args.name.now c.in-Err.at gap in
    let full : 256 ≤ len (state_of list) = omega (arith, len-state_of list c.self.invariant, ap length c.as_slice.ensures.value, c.if-as_slice-ge-MOST_CONTAINERS.true) in
    ap (λ (s : State). release_step s c.args.name.now c.args.digest c.args.release (get s c.args.name.now)) (sym c.self.view_is)
    ∙ release_step-full (state_of list) c.args.name.now c.args.digest c.args.release absent full
    ∙ ap (λ (s : State). pair_of s (Refused 11)) c.self.view_is
    ∙ ap (λ n. pair_of c.args.self.now (Refused n)) (sym c.number.ensures)

pub invariant_of-self-in-Err : goal.invariant_of-self-in-Err
invariant_of-self-in-Err c =
    let list = c.self.inside.containers.items in
    let named : NamedContainer = record { name = c.in_ok-name-in-Err.name; container = c.in_ok-container-in-Err.container } in
    let gap = subst (λ rows. WouldStandAt name_cmp kept_name rows c.args.name.now c.in-Err.at) c.deref.ensures.value (subst (λ name. WouldStandAt name_cmp kept_name c.deref.result.now name c.in-Err.at) c.as_str.ensures.text c.in-Err.ensures) in
    let here : WouldStandAt name_cmp kept_name list named.name c.in-Err.at = subst (λ name. WouldStandAt name_cmp kept_name list name c.in-Err.at) (sym c.in_ok-name-in-Err.ensures.cases) gap in
    let room : length list < 256 = omega (arith, ap length c.as_slice.ensures.value, c.if-as_slice-ge-MOST_CONTAINERS.false) in
    subst IsKept (sym c.in_ok-insert-in-Err.ensures.items) (IsKept-insert list c.self.invariant named c.in-Err.at here room (subst IsContainer (sym c.in_ok-name-in-Err.ensures.cases) c.as_str.ensures.lawful) c.in_ok-container-in-Err.ensures.valid)

pub returns-in_ok-insert-in-Err-clause-ok : goal.returns-in_ok-insert-in-Err-clause-ok
returns-in_ok-insert-in-Err-clause-ok c =
    let list = c.self.inside.containers.items in
    let named : NamedContainer = record { name = c.in_ok-name-in-Err.name; container = c.in_ok-container-in-Err.container } in
    let gap = subst (λ rows. WouldStandAt name_cmp kept_name rows c.args.name.now c.in-Err.at) c.deref.ensures.value (subst (λ name. WouldStandAt name_cmp kept_name c.deref.result.now name c.in-Err.at) c.as_str.ensures.text c.in-Err.ensures) in
    let here : WouldStandAt name_cmp kept_name list named.name c.in-Err.at = subst (λ name. WouldStandAt name_cmp kept_name list name c.in-Err.at) (sym c.in_ok-name-in-Err.ensures.cases) gap in
    let absent = state_absent list c.args.name.now c.in-Err.at gap in
    let room : len (state_of list) < 256 = omega (arith, len-state_of list c.self.invariant, ap length c.as_slice.ensures.value, c.if-as_slice-ge-MOST_CONTAINERS.false) in
    let made = ap state_of c.in_ok-insert-in-Err.ensures.items ∙ state_insert list c.self.invariant named c.in-Err.at here
    ∙ ap (λ k. insert (state_of list) k named.container) c.in_ok-name-in-Err.ensures.cases ∙ ap (insert (state_of list) c.args.name.now) c.in_ok-container-in-Err.ensures.made in
    ap (λ (s : State). release_step s c.args.name.now c.args.digest c.args.release (get s c.args.name.now)) (sym c.self.view_is)
    ∙ release_step-added (state_of list) c.args.name.now c.args.digest c.args.release absent room
    ∙ ap (λ s. pair_of s (Updated c.args.digest (len c.args.release))) (sym made)
    ∙ ap (λ n. pair_of (state_of c.insert.new.self.items) (Updated c.args.digest n)) (sym c.len-count.ensures.count)
