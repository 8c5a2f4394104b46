-- What a change of one container does to the state that the containers make.
use Rattle.std.proofs.Common.{◌≡◌, ℕ, ◌+◌, ◌<◌, ◌≤◌, Bool, true, false, cond, List, [], map, length, get_or, set, Option, Some, None, Result, Ok, Err, option_map, option_and_then, is_some, refl, sym, ap, subst, ◌∙◌, arith, bytes_eq, leb, le-leb}
use Rattle.std.specs.Ordering.{eq_by_cmp}
use Rattle.std.specs.Cmp.{IsTotalOrder}
use Rattle.std.specs.Cmp.Lexicographic.{nat_list_cmp_total}
use Rattle.std.specs.FinMap.{get, insert, len, IsAntisymmetric, same_map, get-insert, get-empty, len-insert, len-empty}
use Rattle.std.specs.List as lists
use Rattle.std.proofs.lemmas.List.{get_or_default, length-map}
use Rattle.std.proofs.lemmas.Bool.Decides.{nat_tests}
use Rattle.std.proofs.lemmas.Map.Lookups.{exact_bytes}
use Rattle.acfg_base.specs.Maps.{map_values}
use Rattle.acfg_base.specs.Places.{AreInOrder, StandsAt, WouldStandAt, row_at}
use Rattle.acfg_base.specs.Release.{Key, ReleaseMap}
use Rattle.acfg_base.specs.Names.{IsContainer}
use Rattle.acfg_base.proofs.Rows.{Equal_of, AreInOrder-map, AreInOrder-set, AreInOrder-insert, row_at-map, row_at-stands, row_at-gap, get-map_of, len-map_of, map_of-set, map_of-kept, map_of-insert}
use Rattle.acfg_base.proofs.Maps.{get-map_values}
use Rattle.acfg_model.specs.declared.machines.NamedContainer.{NamedContainer}
use Rattle.acfg_model.specs.declared.refusals.Refusal.{Refusal}
use Rattle.acfg_model.specs.declared.refusals.Refusal.TheVariants.{UnknownContainer, TooManyContainers}
use Rattle.acfg_model.specs.declared.requests.Reply.{Reply}
use Rattle.acfg_model.specs.declared.requests.Reply.TheVariants.{Fine, Updated, Unchanged, Refused}
use Rattle.acfg_model.specs.State.{Container, BootedFlag, BootMap, State, name_cmp, IsValid, IsValidContainer, most_containers}
use Rattle.acfg_model.specs.Refusals.{number_of}
use Rattle.acfg_model.specs.Step.{booted, with_release, fresh, release_step, replaced, refused, boot_value_in, booted_value}
use Rattle.acfg_model.specs.FlagStates.{IsOutcome}
use Rattle.acfg_model.specs.Machines.{kept_name, state_of, booted_named, reply_of, IsKept}
use Rattle.acfg_model.proofs.Valid.{IsValidContainer-booted}

pub name_total : IsTotalOrder name_cmp
name_total = nat_list_cmp_total

pub name_exact : IsAntisymmetric name_cmp
name_exact = exact_bytes

leb_no : {m n : ℕ} → n < m → leb m n ≡ false
leb_no {m} {n} h = grind (arith, nat_tests)

pub some_inside : {X : Type 0} {x y : X} → Some x ≡ Some y → x ≡ y
some_inside e = cc

none_is_some : {X : Type 0} {x : X} → None ≡ Some x → ⊥
none_is_some e = cc

-- a state and a reply
abbrev pub pair_of : State → Reply → State × Reply
pair_of state reply = (state, reply)

pub IsKept-empty : IsKept []
IsKept-empty = record {
  order = refl;
  valid = record { bound = omega (arith, len-empty name_cmp Container); names = λ name c e. absurd (none_is_some (sym (get-empty name_cmp name) ∙ e)); each = λ name c e. absurd (none_is_some (sym (get-empty name_cmp name) ∙ e)) };
}

-- one container more, or in the place of another one
inserted_each : (state : State) → IsValid state → (name : List ℕ) (c : Container) → IsValidContainer c → (q : List ℕ) (d : Container) → get (insert state name c) q ≡ Some d → IsValidContainer d
inserted_each state valid name c ok q d e =
    elim (eq_by_cmp name_cmp q name) as (λ b. cond b (Some c) (get state q) ≡ Some d → IsValidContainer d) [
      | true ↦ λ is. subst IsValidContainer (some_inside is) ok
      | false ↦ λ is. valid.each q d is
    ] (sym (get-insert name_total state name c q) ∙ e)

inserted_names : (state : State) → IsValid state → (name : List ℕ) (c : Container) → IsContainer name → (q : List ℕ) (d : Container) → get (insert state name c) q ≡ Some d → IsContainer q
inserted_names state valid name c lawful q d e =
    elim (eq_by_cmp name_cmp q name) as (λ b. eq_by_cmp name_cmp q name ≡ b → cond b (Some c) (get state q) ≡ Some d → IsContainer q) [
      | true ↦ λ t is. subst IsContainer (sym (name_exact q name (Equal_of _ t))) lawful
      | false ↦ λ t is. valid.names q d is
    ] refl (sym (get-insert name_total state name c q) ∙ e)

pub IsValid-replaced : (state : State) → IsValid state → (name : List ℕ) (was c : Container) → get state name ≡ Some was → IsValidContainer c → IsValid (insert state name c)
IsValid-replaced state valid name was c there ok = record {
  bound = subst (λ n. n ≤ most_containers) (sym (len-insert name_total state name c ∙ ap (λ o. cond (is_some o) (len state) (len state + 1)) there)) valid.bound;
  names = inserted_names state valid name c (valid.names name was there);
  each = inserted_each state valid name c ok;
}

pub IsValid-added : (state : State) → IsValid state → (name : List ℕ) (c : Container) → get state name ≡ None → len state < most_containers → IsContainer name → IsValidContainer c → IsValid (insert state name c)
IsValid-added state valid name c absent room lawful ok =
    let longer : len (insert state name c) ≡ len state + 1 = len-insert name_total state name c ∙ ap (λ o. cond (is_some o) (len state) (len state + 1)) absent in
    record { bound = omega (arith, longer, room); names = inserted_names state valid name c lawful; each = inserted_each state valid name c ok }

module _ (list : List NamedContainer) (kept : IsKept list) (name : List ℕ) (at : ℕ) (stands : StandsAt name_cmp kept_name list name at) (named : NamedContainer) (is : named ≡ get_or list at named) where
  same_name : kept_name named ≡ name
  same_name = ap kept_name is ∙ name_exact _ _ (stands.same named)

  pub state_at : get (state_of list) name ≡ Some named.container
  state_at = get-map_of name_total kept_name (λ n. n.container) list name ∙ ap (option_map (λ (n : NamedContainer). n.container)) (row_at-stands name_total kept_name list kept.order name at named stands ∙ ap Some (sym is))

  module _ (new : Container) where
    next : List NamedContainer
    next = set list at (record { name = named.name; container = new })

    keyed : kept_name (get_or list at (record { name = named.name; container = new })) ≡ named.name
    keyed = ap kept_name (get_or_default list at (record { name = named.name; container = new }) named stands.within ∙ sym is)

    state_replaced : state_of next ≡ insert (state_of list) name new
    unfolding next
    state_replaced = map_of-set name_total kept_name name_exact list kept.order at (record { name = named.name; container = new }) stands.within keyed (λ n. n.container) ∙ ap (λ k. insert (state_of list) k new) same_name

    pub state_set : state_of (set list at (record { name = named.name; container = new })) ≡ insert (state_of list) name new
    unfolding next
    state_set = state_replaced

    pub IsKept-set : IsValidContainer new → IsKept (set list at (record { name = named.name; container = new }))
    IsKept-set ok = record {
      order = AreInOrder-set name_total kept_name list kept.order at (record { name = named.name; container = new }) stands.within keyed;
      valid = subst IsValid (sym state_set) (IsValid-replaced (state_of list) kept.valid name named.container new state_at ok);
    }

    pub state_same : new ≡ named.container → state_of (set list at (record { name = named.name; container = new })) ≡ state_of list
    state_same same = map_of-kept name_total kept_name name_exact list kept.order at (record { name = named.name; container = new }) stands.within keyed (λ n. n.container)
        (same ∙ sym (ap (λ (n : NamedContainer). n.container) (get_or_default list at (record { name = named.name; container = new }) named stands.within ∙ sym is)))

    -- the outcome at the container is the machine's
    pub replaced-made : {A : Type 0} (f : Container → Result Container Refusal) (r : Result A Refusal) → IsOutcome (f named.container) r named.container new → (reply : Reply) → reply ≡ reply_of r
        → replaced (state_of list) name (option_map f (get (state_of list) name)) ≡ (state_of (set list at (record { name = named.name; container = new })), reply)
    replaced-made f r outcome reply replied = ap (λ c. replaced (state_of list) name (option_map f c)) state_at ∙ by_result r outcome ∙ ap (pair_of (state_of (set list at (record { name = named.name; container = new })))) (sym replied)
      where
        by_result : {A : Type 0} (r : Result A Refusal) → IsOutcome (f named.container) r named.container new → replaced (state_of list) name (Some (f named.container)) ≡ (state_of (set list at (record { name = named.name; container = new })), reply_of r)
        by_result (Ok done) e = ap (λ c. replaced (state_of list) name (Some c)) e ∙ ap (λ s. pair_of s Fine) (sym state_set)
        by_result (Err refusal) e = ap (λ c. replaced (state_of list) name (Some c)) e.0 ∙ ap (λ s. pair_of s (Refused (number_of refusal))) (sym (state_same e.1))

-- a name that no container has
pub state_absent : (list : List NamedContainer) (name : List ℕ) (at : ℕ) → WouldStandAt name_cmp kept_name list name at → get (state_of list) name ≡ None
state_absent list name at gap = get-map_of name_total kept_name (λ n. n.container) list name ∙ ap (option_map (λ (n : NamedContainer). n.container)) (row_at-gap name_total kept_name list name at gap)

pub replaced-absent : (list : List NamedContainer) (name : List ℕ) (at : ℕ) (f : Container → Result Container Refusal) → WouldStandAt name_cmp kept_name list name at → replaced (state_of list) name (option_map f (get (state_of list) name)) ≡ refused (state_of list) UnknownContainer
replaced-absent list name at f gap = ap (λ c. replaced (state_of list) name (option_map f c)) (state_absent list name at gap)

-- what an update comes to, by what is there and how its digest stands to the update's
module _ (state : State) (name digest : List ℕ) (release : ReleaseMap) (c : Container) (there : get state name ≡ Some c) where
  pub release_step-same : bytes_eq c.digest digest ≡ true → release_step state name digest release (get state name) ≡ (state, Unchanged)
  release_step-same same = ap (release_step state name digest release) there ∙ ap (λ b. cond b (pair_of state Unchanged) (pair_of (insert state name (with_release c digest release)) (Updated digest (len release)))) same

  pub release_step-with_release : bytes_eq c.digest digest ≡ false → release_step state name digest release (get state name) ≡ (insert state name (with_release c digest release), Updated digest (len release))
  release_step-with_release apart = ap (release_step state name digest release) there ∙ ap (λ b. cond b (pair_of state Unchanged) (pair_of (insert state name (with_release c digest release)) (Updated digest (len release)))) apart

module _ (state : State) (name digest : List ℕ) (release : ReleaseMap) (absent : get state name ≡ None) where
  pub release_step-full : most_containers ≤ len state → release_step state name digest release (get state name) ≡ refused state TooManyContainers
  release_step-full full = ap (release_step state name digest release) absent ∙ ap (λ b. cond b (refused state TooManyContainers) (pair_of (insert state name (fresh digest release)) (Updated digest (len release)))) (le-leb most_containers (len state) full)

  pub release_step-added : len state < most_containers → release_step state name digest release (get state name) ≡ (insert state name (fresh digest release), Updated digest (len release))
  release_step-added room = ap (release_step state name digest release) absent ∙ ap (λ b. cond b (refused state TooManyContainers) (pair_of (insert state name (fresh digest release)) (Updated digest (len release)))) (leb_no room)

-- the value in a boot copy, from the answer of its container
value_of : Option BootMap → Key → Option Bool
value_of boot key = option_and_then (λ (b : BootMap). option_map (λ (f : BootedFlag). f.value) (get b key)) boot

value_is : (boot : Option BootMap) (key : Key) (value : Option Bool) → boot_value_in boot key ≡ Ok value → value_of boot key ≡ value
unfolding value_of
value_is None key value e = cc
value_is (Some boot) key value e = cc

no_value : (boot : Option BootMap) (key : Key) (refusal : Refusal) → boot_value_in boot key ≡ Err refusal → value_of boot key ≡ None
unfolding value_of
no_value None key refusal e = refl
no_value (Some boot) key refusal e = cc

module _ (state : State) (name : List ℕ) (key : Key) (c : Container) (there : get state name ≡ Some c) where
  pub booted_value-is : (value : Option Bool) → boot_value_in c.boot key ≡ Ok value → booted_value state name key ≡ value
  unfolding value_of
  booted_value-is value e = ap (option_and_then (λ (d : Container). value_of d.boot key)) there ∙ value_is c.boot key value e

  pub booted_value-none : (refusal : Refusal) → boot_value_in c.boot key ≡ Err refusal → booted_value state name key ≡ None
  unfolding value_of
  booted_value-none refusal e = ap (option_and_then (λ (d : Container). value_of d.boot key)) there ∙ no_value c.boot key refusal e

pub booted_value-absent : (state : State) (name : List ℕ) (key : Key) → get state name ≡ None → booted_value state name key ≡ None
booted_value-absent state name key absent = ap (option_and_then (λ (d : Container). option_and_then (λ (b : BootMap). option_map (λ (f : BootedFlag). f.value) (get b key)) d.boot)) absent

module _ (list : List NamedContainer) (kept : IsKept list) where
  pub len-state_of : len (state_of list) ≡ length list
  len-state_of = len-map_of name_total kept_name name_exact (λ n. n.container) list kept.order

  module _ (named : NamedContainer) (at : ℕ) (gap : WouldStandAt name_cmp kept_name list named.name at) where
    pub state_insert : state_of (lists.insert list at named) ≡ insert (state_of list) named.name named.container
    state_insert = map_of-insert name_total kept_name name_exact (λ n. n.container) list at named gap

    pub IsKept-insert : length list < most_containers → IsContainer named.name → IsValidContainer named.container → IsKept (lists.insert list at named)
    IsKept-insert room lawful ok = record {
      order = AreInOrder-insert name_total kept_name list kept.order at named gap;
      valid = subst IsValid (sym state_insert) (IsValid-added (state_of list) kept.valid named.name named.container (state_absent list named.name at gap) (subst (λ n. n < most_containers) (sym len-state_of) room) lawful ok);
    }

  -- a boot of every container
  order_booted : AreInOrder name_cmp kept_name (map booted_named list)
  order_booted = AreInOrder-map name_total kept_name booted_named list kept.order

  pub state_booted : state_of (map booted_named list) ≡ map_values (λ name. booted) (state_of list)
  state_booted = same_map name_total name_exact _ _ (λ q.
      get-map_of name_total kept_name (λ n. n.container) (map booted_named list) q ∙ ap (option_map (λ (n : NamedContainer). n.container)) (row_at-map name_total kept_name booted_named list q)
      ∙ at (row_at name_cmp kept_name list q) ∙ ap (option_map booted) (sym (get-map_of name_total kept_name (λ n. n.container) list q)) ∙ sym (get-map_values name_total name_exact (λ name. booted) (state_of list) q))
    where
      at : (n : Option NamedContainer) → option_map (λ (n : NamedContainer). n.container) (option_map booted_named n) ≡ option_map booted (option_map (λ (n : NamedContainer). n.container) n)
      at None = refl
      at (Some n) = refl

  booted_each : (c : Option Container) → ((d : Container) → c ≡ Some d → IsValidContainer d) → (d : Container) → option_map booted c ≡ Some d → IsValidContainer d
  booted_each None each d e = absurd (none_is_some e)
  booted_each (Some c) each d e = subst IsValidContainer (some_inside e) (IsValidContainer-booted c (each c refl))

  booted_names : (name : List ℕ) (c : Option Container) → get (state_of list) name ≡ c → (d : Container) → option_map booted c ≡ Some d → IsContainer name
  booted_names name None there d e = absurd (none_is_some e)
  booted_names name (Some c) there d e = kept.valid.names name c there

  pub IsKept-booted : IsKept (map booted_named list)
  IsKept-booted = record {
    order = order_booted;
    valid = record {
      bound = subst (λ n. n ≤ most_containers) (len-state_of ∙ sym (length-map list booted_named) ∙ sym (len-map_of name_total kept_name name_exact (λ n. n.container) (map booted_named list) order_booted)) kept.valid.bound;
      names = λ name c e. booted_names name (get (state_of list) name) refl c (sym (get-map_values name_total name_exact (λ name. booted) (state_of list) name) ∙ ap (λ s. get s name) (sym state_booted) ∙ e);
      each = λ name c e. booted_each (get (state_of list) name) (kept.valid.each name) c (sym (get-map_values name_total name_exact (λ name. booted) (state_of list) name) ∙ ap (λ s. get s name) (sym state_booted) ∙ e);
    };
  }
