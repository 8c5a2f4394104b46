-- The indexes of flags that were found are those that the set lists.
use Rattle.std.proofs.Common.{◌≡◌, ℕ, List, [], ◌∷◌, map, get_or, Option, Some, option_map, refl, sym, ap, ◌∙◌}
use Rattle.std.specs.Prelude.{All, Contains}
use Rattle.std.specs.Cmp.{tied_itself}
use Rattle.std.proofs.lemmas.List.{get_or_default}
use Rattle.std.proofs.lemmas.List.Elements.{All-head, All-tail}
use Rattle.acfg_base.specs.Release.{entries_of, facts_of, key_of, release_of}
use Rattle.acfg_base.proofs.Keys.{entries_of-release_of, key_total}
use Rattle.acfg_base.proofs.Rows.{AreInOrder-map, map_of-map, row_at-member}
use Rattle.acfg_images.specs.Set.{Listed, SetParts}
use Rattle.acfg_model.specs.declared.containers.FlagState.{FlagState}
use Rattle.acfg_model.specs.FlagStates.{release_in, row_key}
use Rattle.acfg_store.specs.declared.locals.LocalOverride.{LocalOverride}
use Rattle.acfg_store.specs.declared.placed.Placed.{Placed}
use Rattle.acfg_store.specs.Kept.{index_listed}
use Rattle.acfg_store.specs.Placed.{AreFlagsOf, as_listed, entry_at_row, index_of, placed_key, state_row}
use Rattle.acfg_views.specs.Reading.{OpenList}

module _ (parts : SetParts) (flags : List Placed) (are : AreFlagsOf parts flags) where
  -- a flag's index is that which is listed under its key
  listed_there : (x : Placed) → Contains flags x → Some x.found.index ≡ index_listed parts (entry_at_row x)
  listed_there x in_list =
      sym (ap (option_map (λ (row : Listed). row.index)) (are.found (placed_key x)
      ∙ ap (option_map as_listed) (row_at-member key_total placed_key flags are.order (placed_key x) x in_list (tied_itself key_total (placed_key x)))))

  all_listed_there : All (λ (x : Placed). Some x.found.index ≡ index_listed parts (entry_at_row x)) flags
  all_listed_there k d within = listed_there (get_or flags k d) (k, within, get_or_default flags k (get_or flags k d) d within)

  indexes_are : (xs : List Placed) → All (λ (x : Placed). Some x.found.index ≡ index_listed parts (entry_at_row x)) xs
      → map (λ (index : ℕ). Some index) (map index_of xs) ≡ map (index_listed parts) (map entry_at_row xs)
  indexes_are [] all = refl
  indexes_are (x ∷ xs) all =
      ap (λ (o : Option ℕ). o ∷ map (λ (index : ℕ). Some index) (map index_of xs)) (All-head (λ (x : Placed). Some x.found.index ≡ index_listed parts (entry_at_row x)) x xs all)
      ∙ ap (λ (rest : List (Option ℕ)). index_listed parts (entry_at_row x) ∷ rest) (indexes_are xs (All-tail (λ (x : Placed). Some x.found.index ≡ index_listed parts (entry_at_row x)) x xs all))

  module _ (values infos : OpenList) (locals : List LocalOverride) where
    -- the release of the rows has the flags, in order
    pub one_release : release_in (map (state_row values infos locals) flags) ≡ release_of (map entry_at_row flags)
    one_release =
        map_of-map key_total row_key (state_row values infos locals) (λ (row : FlagState). facts_of row.entry) flags
        ∙ sym (map_of-map key_total key_of entry_at_row facts_of flags)

    entries_there : entries_of (release_in (map (state_row values infos locals) flags)) ≡ map entry_at_row flags
    entries_there = ap entries_of one_release ∙ entries_of-release_of (map entry_at_row flags) (AreInOrder-map key_total key_of entry_at_row flags are.order)

    pub indexes_listed : (rows : List FlagState) → rows ≡ map (state_row values infos locals) flags → (indexes : List ℕ) → indexes ≡ map index_of flags
        → map (λ (index : ℕ). Some index) indexes ≡ map (index_listed parts) (entries_of (release_in rows))
    indexes_listed rows rows_are indexes same =
        ap (map (λ (index : ℕ). Some index)) same ∙ indexes_are flags all_listed_there
        ∙ ap (map (index_listed parts)) (sym (ap (λ (rows : List FlagState). entries_of (release_in rows)) rows_are ∙ entries_there))
