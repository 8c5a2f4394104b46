-- The files of a container's slots, put one behind another, are its parts, and hold its release and its overrides.
use Rattle.std.proofs.Common.{◌≡◌, ℕ, List, [], ◌∷◌, ◌++◌, map, length, Some, sym, ap, ◌∙◌, subst}
use Rattle.acfg_base.specs.Places.{AreInOrder}
use Rattle.acfg_base.specs.Release.{ReleaseMap, entries_of, key_cmp}
use Rattle.acfg_commit.specs.declared.several.NewFile.{NewFile}
use Rattle.acfg_images.specs.Files as four
use Rattle.acfg_images.specs.Set.{SetParts, listing}
use Rattle.acfg_model.specs.declared.containers.FlagState.{FlagState}
use Rattle.acfg_model.specs.FlagStates.{local_in, release_in, row_key, server_in}
use Rattle.acfg_model.specs.State.{OverrideMap}
use Rattle.acfg_store.specs.declared.containers.Kept.{Kept}
use Rattle.acfg_store.specs.declared.names.OverrideFile.TheVariants as override
use Rattle.acfg_store.specs.declared.names.Part.TheVariants.{Override}
use Rattle.acfg_store.specs.declared.names.Slot.{Slot}
use Rattle.acfg_store.specs.Kept.{entry_of, index_listed}
use Rattle.acfg_store.specs.Names.{path}
use Rattle.acfg_store.specs.Stamped.{AreFlagsIn}
use Rattle.acfg_store.specs.Stands.{AreBytesOf, AreLocalsOf, server_info, server_value}
use Rattle.acfg_store.specs.Updated.{AreSlotFiles, IsReleaseOf, named, pair_of, release_parts, slot_parts}
use Rattle.acfg_views.specs.Layout.{flag_info_type, flag_val_type}

pub files_put : (dir name text : List ℕ) → text ≡ name → (release overrides : Slot) (set : four.Files) (values infos locals : List ℕ) (a b c d : List NewFile)
    → map pair_of a ≡ map (named dir name) (release_parts release set)
    → map pair_of b ≡ map pair_of a ++ (path dir text (Override overrides override.FlagVal), values) ∷ []
    → map pair_of c ≡ map pair_of b ++ (path dir text (Override overrides override.FlagInfo), infos) ∷ []
    → map pair_of d ≡ map pair_of c ++ (path dir text (Override overrides override.Local), locals) ∷ []
    → map pair_of d ≡ map (named dir name) (slot_parts release overrides set values infos locals)
files_put dir name text same release overrides set values infos locals a b c d first second third last =
    let Pairs : Type 0 = List (List ℕ × List ℕ) in
    last
    ∙ ap (λ (t : Pairs). t ++ (path dir text (Override overrides override.Local), locals) ∷ []) (third
    ∙ ap (λ (t : Pairs). t ++ (path dir text (Override overrides override.FlagInfo), infos) ∷ []) (second
    ∙ ap (λ (t : Pairs). t ++ (path dir text (Override overrides override.FlagVal), values) ∷ []) first))
    ∙ ap (λ (n : List ℕ). map (named dir name) (release_parts release set)
    ++ ((path dir n (Override overrides override.FlagVal), values) ∷ (path dir n (Override overrides override.FlagInfo), infos) ∷ (path dir n (Override overrides override.Local), locals) ∷ [])) same

module _ (kept : Kept) (is : IsReleaseOf kept) (rows : List FlagState) (order : AreInOrder key_cmp row_key rows) (release : kept.container.release ≡ release_in rows) (indexes : List ℕ)
    (indexes_is : indexes ≡ kept.indexes.items) where
  pub flags_are : AreFlagsIn kept.release is.parts rows indexes
  flags_are = record {
    is_set = is.is_set;
    order = order;
    release_is = is.release_is ∙ release;
    indexes_are = ap (map (λ (index : ℕ). Some index)) indexes_is ∙ is.indexes_are ∙ ap (λ (r : ReleaseMap). map (index_listed is.parts) (entries_of r)) release;
  }

  module _ (server : kept.container.server ≡ server_in rows) (local : kept.container.local ≡ local_in rows) (values infos locals : List ℕ)
      (values_are : (parts : SetParts) → AreFlagsIn kept.release parts rows indexes → kept.count ≡ length (listing parts)
      → AreBytesOf flag_val_type values parts.package_map.container (server_value (server_in rows)) (listing parts))
      (infos_are : (parts : SetParts) → AreFlagsIn kept.release parts rows indexes → kept.count ≡ length (listing parts)
      → AreBytesOf flag_info_type infos parts.package_map.container (server_info (server_in rows)) (listing parts))
      (locals_are : (set : four.Files) (parts : SetParts) → AreFlagsIn set parts rows indexes → kept.count ≡ length (listing parts) → AreLocalsOf locals (local_in rows) (listing parts))
      (dir : List ℕ) (files : List NewFile) (put : map pair_of files ≡ map (named dir kept.name) (slot_parts kept.release_slot kept.override_slot kept.release values infos locals)) where
    pub slots_made : AreSlotFiles dir (entry_of kept) kept.release is.parts files
    slots_made = record {
      values = values;
      infos = infos;
      locals = locals;
      are = put;
      values_are = subst (λ (both : List ℕ × OverrideMap). AreBytesOf flag_val_type values both.0 (server_value both.1) (listing is.parts)) (λ i. (is.container_is i, sym server i)) (values_are is.parts flags_are is.count_is);
      infos_are = subst (λ (both : List ℕ × OverrideMap). AreBytesOf flag_info_type infos both.0 (server_info both.1) (listing is.parts)) (λ i. (is.container_is i, sym server i)) (infos_are is.parts flags_are is.count_is);
      locals_are = subst (λ (map : OverrideMap). AreLocalsOf locals map (listing is.parts)) (sym local) (locals_are kept.release is.parts flags_are is.count_is);
    }
