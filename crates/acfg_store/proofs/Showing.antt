-- What is shown of containers that are kept is the state that they make.
use Rattle.std.proofs.Common.{◌≡◌, ℕ, List, [], ◌∷◌, map, refl, ap, ◌∙◌}
use Rattle.std.specs.FinMap.{from_entries}
use Rattle.acfg_base.specs.Places.{AreInOrder}
use Rattle.acfg_base.proofs.Rows.{AreInOrder-same_keys}
use Rattle.acfg_model.specs.declared.views.ContainerState.{ContainerState}
use Rattle.acfg_model.specs.State.{Container, name_cmp}
use Rattle.acfg_model.specs.Views.{state_from, name_of_state}
use Rattle.acfg_model.proofs.Kept.{name_total}
use Rattle.acfg_model.proofs.Shown.{shown_pair}
use Rattle.acfg_store.specs.declared.containers.Kept.{Kept}
use Rattle.acfg_store.specs.Opening.{entries_of}
use Rattle.acfg_store.specs.Stands.{entry_name, state_of}

-- a name and its container
abbrev pub kept_pair : Kept → List ℕ × Container
kept_pair kept = (kept.name, kept.container)

abbrev pair_name : List ℕ × Container → List ℕ
pair_name pair = pair.0

module _ (states : List ContainerState) (kept : List Kept) (same : map shown_pair states ≡ map kept_pair kept) where
  names_of_states : (ss : List ContainerState) → map name_of_state ss ≡ map pair_name (map shown_pair ss)
  names_of_states [] = refl
  names_of_states (s ∷ ss) = ap (λ (rest : List (List ℕ)). name_of_state s ∷ rest) (names_of_states ss)

  names_of_kept : (ks : List Kept) → map pair_name (map kept_pair ks) ≡ map entry_name (entries_of ks)
  names_of_kept [] = refl
  names_of_kept (k ∷ ks) = ap (λ (rest : List (List ℕ)). k.name ∷ rest) (names_of_kept ks)

  pairs_of_kept : (ks : List Kept) → map kept_pair ks ≡ map (λ e. (e.name, e.container)) (entries_of ks)
  pairs_of_kept [] = refl
  pairs_of_kept (k ∷ ks) = ap (λ (rest : List (List ℕ × Container)). kept_pair k ∷ rest) (pairs_of_kept ks)

  pub states_in_order : AreInOrder name_cmp entry_name (entries_of kept) → AreInOrder name_cmp name_of_state states
  states_in_order order = AreInOrder-same_keys name_total name_of_state entry_name states (entries_of kept) (names_of_states states ∙ ap (map pair_name) same ∙ names_of_kept kept) ∙ order

  pub state_shown : state_from states ≡ state_of (entries_of kept)
  state_shown = ap (λ (pairs : List (List ℕ × Container)). from_entries {R = name_cmp} pairs) (same ∙ pairs_of_kept kept)
