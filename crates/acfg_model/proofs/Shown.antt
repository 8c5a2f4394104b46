-- What is shown of rows and of containers is what they make.
use Rattle.std.proofs.Common.{◌≡◌, ℕ, zero, suc, ◌+◌, ◌<◌, Bool, List, [], ◌∷◌, ◌++◌, length, take, get_or, map, filter_map, Option, Some, None, option_map, refl, sym, ap, ◌∙◌, add-one, arith}
use Rattle.std.specs.FinMap.{from_entries}
use Rattle.std.specs.List.{cons_option}
use Rattle.acfg_base.specs.Places.{AreInOrder, map_where}
use Rattle.acfg_base.specs.Release.{key_cmp, key_of, facts_of, release_of}
use Rattle.acfg_base.proofs.Rows.{AreInOrder-map, AreInOrder-filter_map, AreInOrder-same_keys, map_of-map, map_of-filter_map}
use Rattle.acfg_base.proofs.Keys.{key_total}
use Rattle.acfg_model.specs.Bodies.{override_in, override_row, entry_in}
use Rattle.acfg_model.specs.declared.machines.NamedContainer.{NamedContainer}
use Rattle.acfg_model.specs.declared.views.Override.{Override}
use Rattle.acfg_model.specs.declared.containers.Setter.{Setter}
use Rattle.acfg_model.specs.declared.containers.FlagState.{FlagState}
use Rattle.acfg_model.specs.declared.views.ContainerState.{ContainerState}
use Rattle.acfg_model.specs.State.{Container, name_cmp}
use Rattle.acfg_model.specs.Machines.{kept_name, state_of}
use Rattle.acfg_model.specs.Views.{override_key, overrides_of}
use Rattle.acfg_model.specs.FlagStates.{row_key, release_in}
use Rattle.acfg_model.specs.Views.{name_of_state, container_of, state_from}
use Rattle.acfg_model.proofs.Kept.{name_total}

pub entries-in_order : (rows : List FlagState) → AreInOrder key_cmp row_key rows → AreInOrder key_cmp key_of (map entry_in rows)
entries-in_order = AreInOrder-map key_total key_of entry_in

pub release_of-entries : (rows : List FlagState) → release_of (map entry_in rows) ≡ release_in rows
release_of-entries = map_of-map key_total key_of entry_in facts_of

-- the overrides of one kind, as a list
abbrev pub listed : Setter → List FlagState → List Override
listed who = filter_map (λ row. option_map (override_row row) (override_in who row))

pub overrides-in_order : (who : Setter) (rows : List FlagState) → AreInOrder key_cmp row_key rows → AreInOrder key_cmp override_key (listed who rows)
overrides-in_order who = AreInOrder-filter_map key_total override_key row_key (override_in who) override_row (λ row value. refl)

pub overrides_of-listed : (who : Setter) (rows : List FlagState) → overrides_of (listed who rows) ≡ map_where key_cmp row_key rows (override_in who)
overrides_of-listed who = map_of-filter_map key_total override_key row_key (override_in who) override_row (λ row value. refl) (λ o. o.value) (λ row value. refl)

-- a name and its container
abbrev pub shown_pair : ContainerState → List ℕ × Container
shown_pair state = (name_of_state state, container_of state)

abbrev pub named_pair : NamedContainer → List ℕ × Container
named_pair named = (named.name, named.container)

module _ (states : List ContainerState) (containers : List NamedContainer) (same : map shown_pair states ≡ map named_pair containers) where
  names_of_states : (ss : List ContainerState) → map name_of_state ss ≡ map (λ (p : List ℕ × Container). p.0) (map shown_pair ss)
  names_of_states [] = refl
  names_of_states (s ∷ ss) = ap (λ rest. name_of_state s ∷ rest) (names_of_states ss)

  names_of_containers : (ns : List NamedContainer) → map (λ (p : List ℕ × Container). p.0) (map named_pair ns) ≡ map kept_name ns
  names_of_containers [] = refl
  names_of_containers (n ∷ ns) = ap (λ rest. kept_name n ∷ rest) (names_of_containers ns)

  pub states-in_order : AreInOrder name_cmp kept_name containers → AreInOrder name_cmp name_of_state states
  states-in_order h = AreInOrder-same_keys name_total name_of_state kept_name states containers (names_of_states states ∙ ap (map (λ (p : List ℕ × Container). p.0)) same ∙ names_of_containers containers) ∙ h

  pub state_from-shown : state_from states ≡ state_of containers
  state_from-shown = ap from_entries same

cons_option-append : {X : Type 0} (o : Option X) (xs ys : List X) → cons_option o (xs ++ ys) ≡ cons_option o xs ++ ys
cons_option-append None xs ys = refl
cons_option-append (Some x) xs ys = refl

-- one row more
listed-suc : (who : Setter) (rows : List FlagState) (i : ℕ) (d : FlagState) → i < length rows → listed who (take (suc i) rows) ≡ listed who (take i rows) ++ cons_option (option_map (override_row (get_or rows i d)) (override_in who (get_or rows i d))) []
listed-suc who [] i d within = absurd (omega arith)
listed-suc who (r ∷ rows) zero d within = refl
listed-suc who (r ∷ rows) (suc i) d within =
    ap (cons_option (option_map (override_row r) (override_in who r))) (listed-suc who rows i d (omega arith)) ∙ cons_option-append (option_map (override_row r) (override_in who r)) (listed who (take i rows)) _

pub listed-more : (who : Setter) (rows : List FlagState) (i : ℕ) (row : FlagState) → i < length rows → row ≡ get_or rows i row → (value : Option Bool) → value ≡ override_in who row
    → listed who (take (i + 1) rows) ≡ listed who (take i rows) ++ cons_option (option_map (override_row row) value) []
listed-more who rows i row within is value has =
    ap (λ n. listed who (take n rows)) (add-one i) ∙ listed-suc who rows i row within
    ∙ ap (λ r. listed who (take i rows) ++ cons_option (option_map (override_row r) (override_in who r)) []) (sym is)
    ∙ ap (λ v. listed who (take i rows) ++ cons_option (option_map (override_row row) v) []) (sym has)
