-- What a change that is for now makes of the containers that are kept, and of the state.
use Rattle.std.proofs.Common.{◌≡◌, ◌⊎◌, ℕ, ◌<◌, Bool, true, false, cond, List, length, get_or, set, Option, None, Some, Ok, option_map, inl, inr, refl, sym, ap, subst, ◌∙◌}
use Rattle.std.specs.FinMap.{get, insert, get-insert}
use Rattle.std.specs.Ordering.{eq_by_cmp}
use Rattle.std.proofs.lemmas.List.{get_or-map, get_or-set_same, get_or_default, length-map, length-set, map-set, set-get_or, set-set}
use Rattle.acfg_base.specs.Places.{AreInOrder, StandsAt, WouldStandAt}
use Rattle.acfg_base.specs.Release.{Key}
use Rattle.acfg_base.proofs.Rows.{Equal_of, map_of-set}
use Rattle.acfg_device.specs.Left.{SameBut}
use Rattle.acfg_device.specs.Panel.{Files}
use Rattle.acfg_model.specs.declared.changes.Change.{Change}
use Rattle.acfg_model.specs.declared.changes.Change.TheVariants.{SetServer, SetLocal, UnsetLocal}
use Rattle.acfg_model.specs.declared.refusals.Refusal.{Refusal}
use Rattle.acfg_model.specs.declared.refusals.Refusal.TheVariants.{UnknownContainer}
use Rattle.acfg_model.specs.declared.requests.Reply.{Reply}
use Rattle.acfg_model.specs.declared.requests.Reply.TheVariants.{Fine}
use Rattle.acfg_model.specs.State.{BootMap, Container, State, name_cmp}
use Rattle.acfg_model.specs.Step.{IsRenewable, boot_refusal, change_refusal, change_step, changed, changed_key, now_refusal, refused, renewed, replaced, unless, with_change, with_change_now}
use Rattle.acfg_model.proofs.Kept.{name_exact, name_total}
use Rattle.acfg_store.specs.declared.containers.Kept.{Kept}
use Rattle.acfg_store.specs.Applied.{IsBetween, IsMixedAt, boot_in}
use Rattle.acfg_store.specs.BootPlans.{renewed_at, renewed_entry}
use Rattle.acfg_store.specs.ChangedNow.{IsChangedNow, IsRefusedNow, IsTurnedNow}
use Rattle.acfg_store.specs.Commits.{LeavesState, IsEitherState}
use Rattle.acfg_store.specs.Kept.{entry_of, kept_name}
use Rattle.acfg_store.specs.Names.{IsOfDirectory}
use Rattle.acfg_store.specs.Opening.{AreKept, entries_of}
use Rattle.acfg_store.specs.Stands.{Entry, entry_name, state_of}
use Rattle.acfg_store.proofs.OneChanged.{changed_at, kept_absent, kept_at}
use Rattle.acfg_store.proofs.OverridesCommitted.{new_between}
use Rattle.acfg_store.proofs.Unused.{entries_order}

abbrev pair_of : State → Reply → State × Reply
pair_of state reply = (state, reply)

-- ---- a container

goes_first : (why : Option Refusal) (boot : Option BootMap) (key : Key) → boot_refusal why boot key ≡ None → why ≡ None
goes_first None boot key e = refl
goes_first (Some why) None key e = cc
goes_first (Some why) (Some boot) key e = cc

goes_then : (why : Option Refusal) (boot : Option BootMap) (key : Key) → boot_refusal why boot key ≡ None → IsRenewable boot key
goes_then why None key e = tt
goes_then None (Some boot) key e = e
goes_then (Some why) (Some boot) key e = cc

-- a change that may be for now is no less one for the next boot
comes : (c : Container) (change : Change) → now_refusal c change ≡ None → with_change c change ≡ Ok (changed c change)
comes c change goes = ap (λ (why : Option Refusal). unless why (changed c change)) (goes_first (change_refusal c.release c.local change) c.boot (changed_key change) goes)

-- ---- the step of the machine

abbrev outcome_at : State → List ℕ → Change → Option Container → State × Reply
outcome_at state name change c = replaced state name (option_map (λ (c : Container). with_change_now c change) c)

module _ (ks : List Kept) (are : AreKept ks) (name : List ℕ) (change : Change) where
  abbrev state : State
  state = state_of (entries_of ks)

  -- no container has the name
  pub absent_now : (at : ℕ) → WouldStandAt name_cmp kept_name ks name at → change_step true state name change ≡ refused state UnknownContainer
  absent_now at gap = ap (outcome_at state name change) (kept_absent ks name at gap)

  module _ (at : ℕ) (stands : StandsAt name_cmp kept_name ks name at) (was : Kept) (was_is : was ≡ get_or ks at was) where
    refused_now_at : (why : Refusal) → now_refusal was.container change ≡ Some why → change_step true state name change ≡ refused state why
    refused_now_at why refuses =
        ap (outcome_at state name change) (kept_at ks are name at stands was was_is)
        ∙ ap (λ (why : Option Refusal). replaced state name (Some (unless why (renewed (changed was.container change) (changed_key change))))) refuses

    -- the change is refused, and then it is as it was
    pub refused_now : (why : Refusal) → now_refusal was.container change ≡ Some why → (one : Kept) → one ≡ was → (new : List Kept) → new ≡ set ks at one → IsRefusedNow name change ks new why
    refused_now why refuses one same new is = record {
      same = is ∙ ap (set ks at) (same ∙ was_is) ∙ set-get_or ks at was;
      step = refused_now_at why refuses;
    }

    -- the change is made
    pub changed_now : (one : Kept) → IsTurnedNow change was one → (new : List Kept) → new ≡ set ks at one → IsChangedNow name change ks new at
    changed_now one turned new is =
        let same_was : (d : Kept) → get_or ks at d ≡ was = λ d. get_or_default ks at d was stands.within ∙ sym was_is in
        let now_one : (d : Kept) → get_or new at d ≡ one = λ d. ap (λ (ks : List Kept). get_or ks at d) is ∙ get_or-set_same ks at one d stands.within in
        let was_named : was.name ≡ name = ap kept_name was_is ∙ name_exact _ _ (stands.same was) in
        record {
          changed_at = changed_at ks are name change at stands was was_is one (comes was.container change turned.goes ∙ ap (λ (c : Container). Ok c) (sym turned.made)) turned.valid turned.turned new is;
          named = λ d. ap (λ (k : Kept). k.name) (same_was d) ∙ was_named;
          there = λ d. kept_at ks are name at stands was was_is ∙ ap (λ (k : Kept). Some k.container) (sym (same_was d));
          goes = λ d. ap (λ (k : Kept). now_refusal k.container change) (same_was d) ∙ turned.goes;
          made = λ d. ap (λ (k : Kept). k.container) (now_one d) ∙ turned.made ∙ ap (λ (k : Kept). changed k.container change) (sym (same_was d));
        }

-- ---- where it is made

-- the state of containers where another one stands at a place
state_set_at : (entries : List Entry) (at : ℕ) (one : Entry) → at < length entries → (order : AreInOrder name_cmp entry_name entries) → entry_name (get_or entries at one) ≡ one.name → state_of (set entries at one) ≡ insert (state_of entries) one.name one.container
state_set_at entries at one within order keyed = map_of-set name_total entry_name name_exact entries order at one within keyed (λ (e : Entry). e.container)

keeps_boot : (c : Container) (change : Change) → (changed c change).boot ≡ c.boot
keeps_boot c (SetServer key value) = refl
keeps_boot c (SetLocal key value) = refl
keeps_boot c (UnsetLocal key) = refl

module _ (old mid : List Kept) (kept : AreKept old) (name : List ℕ) (change : Change) (at : ℕ) (now : IsChangedNow name change old mid at) where
  abbrev first_state : State
  first_state = state_of (entries_of old)

  abbrev was : Kept
  was = now.changed_at.was

  abbrev key : Key
  key = changed_key change

  same_was : (d : Kept) → get_or old at d ≡ was
  same_was d = get_or_default old at d was now.changed_at.within ∙ sym now.changed_at.was_is

  was_named : was.name ≡ name
  was_named = ap (λ (k : Kept). k.name) (sym (same_was was)) ∙ now.named was

  there : get first_state name ≡ Some was.container
  there = now.there was ∙ ap (λ (k : Kept). Some k.container) (same_was was)

  goes : now_refusal was.container change ≡ None
  goes = ap (λ (k : Kept). now_refusal k.container change) (sym (same_was was)) ∙ now.goes was

  abbrev one : Kept
  one = now.changed_at.one

  one_at : get_or mid at one ≡ one
  one_at = ap (λ (ks : List Kept). get_or ks at one) now.changed_at.are ∙ get_or-set_same old at one one now.changed_at.within

  made : one.container ≡ changed was.container change
  made = ap (λ (k : Kept). k.container) (sym one_at) ∙ now.made one ∙ ap (λ (k : Kept). changed k.container change) (same_was one)

  one_named : one.name ≡ name
  one_named = ap (λ (k : Kept). k.name) now.changed_at.turned ∙ was_named

  below : at < length (entries_of old)
  below = subst (λ (n : ℕ). at < n) (sym (length-map old entry_of)) now.changed_at.within

  entries_mid : entries_of mid ≡ set (entries_of old) at (entry_of one)
  entries_mid = ap entries_of now.changed_at.are ∙ map-set entry_of old at one

  abbrev late : Entry
  late = renewed_entry (entry_of one) key

  entries_late : (other : Entry) → renewed_at (entries_of mid) at key other ≡ set (entries_of old) at late
  entries_late other =
      ap (λ (es : List Entry). renewed_at es at key other) entries_mid
      ∙ ap (λ (e : Entry). set (set (entries_of old) at (entry_of one)) at (renewed_entry e key)) (get_or-set_same (entries_of old) at (entry_of one) other below)
      ∙ set-set (entries_of old) at (entry_of one) late

  abbrev after : Container
  after = renewed (changed was.container change) key

  entry_was : (d : Entry) → entry_name (get_or (entries_of old) at d) ≡ name
  entry_was d = ap entry_name (get_or-map_is d) ∙ was_named
    where
      get_or-map_is : (d : Entry) → get_or (entries_of old) at d ≡ entry_of was
      get_or-map_is d = get_or_default (entries_of old) at d (entry_of was) below ∙ get_or-map entry_of old at was (entry_of was) now.changed_at.within ∙ ap entry_of (same_was was)

  state_late : (other : Entry) → state_of (renewed_at (entries_of mid) at key other) ≡ insert first_state name after
  state_late other =
      ap state_of (entries_late other)
      ∙ state_set_at (entries_of old) at late below (entries_order (entries_of old) kept.listed.order) (entry_was late ∙ sym one_named)
      ∙ (λ i. insert first_state (one_named i) (renewed (made i) key))

  state_mid : state_of (entries_of mid) ≡ insert first_state name (changed was.container change)
  state_mid =
      ap state_of entries_mid
      ∙ state_set_at (entries_of old) at (entry_of one) below (entries_order (entries_of old) kept.listed.order) (entry_was (entry_of one) ∙ sym one_named)
      ∙ (λ i. insert first_state (one_named i) (made i))

  step_is : change_step true first_state name change ≡ pair_of (insert first_state name after) Fine
  step_is =
      ap (outcome_at first_state name change) there
      ∙ ap (λ (why : Option Refusal). replaced first_state name (Some (unless why after))) goes

  -- it is one step of the machine
  pub step_now : (other : Entry) → change_step true first_state name change ≡ pair_of (state_of (renewed_at (entries_of mid) at key other)) Fine
  step_now other = step_is ∙ ap (λ (s : State). pair_of s Fine) (sym (state_late other))

  abbrev last : State
  last = (change_step true first_state name change).0

  last_is : last ≡ insert first_state name after
  last_is = ap (λ (both : State × Reply). both.0) step_is

  -- the overrides are changed first
  mid_between : IsBetween first_state last (state_of (entries_of mid))
  mid_between = subst (λ (both : State × State). IsBetween first_state both.0 both.1) (λ i. (sym last_is i, sym state_mid i)) (inr mixed)
    where
      found : (c : Container) (q : List ℕ) → get (insert first_state name c) q ≡ cond (eq_by_cmp name_cmp q name) (Some c) (get first_state q)
      found c q = get-insert name_total first_state name c q

      here : (q : List ℕ) (b : Bool) → eq_by_cmp name_cmp q name ≡ b
          → IsMixedAt (get first_state q) (cond b (Some after) (get first_state q)) (cond b (Some (changed was.container change)) (get first_state q))
      here q true same = record {
        same = refl;
        boot = inl (keeps_boot was.container change ∙ ap boot_in (sym (ap (get first_state) (name_exact q name (Equal_of _ same)) ∙ there)));
      }
      here q false apart = record { same = refl; boot = inl refl }

      mixed : (q : List ℕ) → IsMixedAt (get first_state q) (get (insert first_state name after) q) (get (insert first_state name (changed was.container change)) q)
      mixed q = subst (λ (both : Option Container × Option Container). IsMixedAt (get first_state q) both.0 both.1)
          (λ i. (sym (found after q) i, sym (found (changed was.container change) q) i)) (here q (eq_by_cmp name_cmp q name) refl)

  -- what a cut of the first commit leaves
  pub first_leaves : (files : Files) (spoken dir : List ℕ) (left : Files) (said : List ℕ) → LeavesState files spoken dir (IsEitherState (entries_of old) (entries_of mid)) left said
      → LeavesState files spoken dir (IsBetween first_state last) left said
  first_leaves files spoken dir left said leaves =
      record { words = leaves.words; state = leaves.state; is_one = one_of leaves.is_one; stands = leaves.stands; others = leaves.others }
    where
      one_of : (leaves.state ≡ first_state) ⊎ (leaves.state ≡ state_of (entries_of mid)) → IsBetween first_state last leaves.state
      one_of (inl same) = inl same
      one_of (inr same) = subst (IsBetween first_state last) (sym same) mid_between

  -- and one of the second
  pub then_leaves : (files : Files) (spoken dir : List ℕ) (later : Files) (words : List ℕ) → SameBut (IsOfDirectory dir) files later → words ≡ spoken → (other : Entry) (left : Files) (said : List ℕ)
      → LeavesState later words dir (IsEitherState (entries_of mid) (renewed_at (entries_of mid) at key other)) left said → LeavesState files spoken dir (IsBetween first_state last) left said
  then_leaves files spoken dir later words same told other left said leaves = record {
    words = leaves.words ∙ told;
    state = leaves.state;
    is_one = one_of leaves.is_one;
    stands = leaves.stands;
    others = λ name foreign. leaves.others name foreign ∙ same name foreign;
  }
    where
      one_of : (leaves.state ≡ state_of (entries_of mid)) ⊎ (leaves.state ≡ state_of (renewed_at (entries_of mid) at key other)) → IsBetween first_state last leaves.state
      one_of (inl same) = subst (IsBetween first_state last) (sym same) mid_between
      one_of (inr same) = subst (IsBetween first_state last) (last_is ∙ sym (state_late other) ∙ sym same) (new_between first_state last)

  -- what the second one needs
  pub mid_renewable : (d : Kept) → IsRenewable (get_or mid at d).container.boot key
  mid_renewable d =
      let c : Container = (get_or old at d).container in
      subst (λ (boot : Option BootMap). IsRenewable boot key) (sym (ap (λ (c : Container). c.boot) (now.made d) ∙ keeps_boot c change))
      (goes_then (change_refusal c.release c.local change) c.boot key (now.goes d))

  pub mid_within : at < length mid
  mid_within = subst (λ (n : ℕ). at < n) (sym (ap length now.changed_at.are ∙ length-set old at one)) now.changed_at.within
