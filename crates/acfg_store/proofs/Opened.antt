-- A list of containers, each of which lies in the directory, stands for a state; else the first one at fault tells the first file at fault.
use Rattle.std.proofs.Common.{◌≡◌, ℕ, List, [], ◌∷◌, ◌++◌, map, Option, Some, None, option_map, inl, inr, refl, sym, ap, ◌∙◌, subst, arith}
use Rattle.std.specs.Prelude.{All, Contains}
use Rattle.std.specs.FinMap.{get}
use Rattle.std.proofs.lemmas.List.{get_or-map, length-map}
use Rattle.std.proofs.lemmas.List.Elements.{All-contains, All-head, All-tail}
use Rattle.std.proofs.lemmas.Simd.{map-map}
use Rattle.acfg_base.specs.Names.{IsContainer}
use Rattle.acfg_base.specs.Places.{AreInOrder, row_at}
use Rattle.acfg_base.proofs.Rows.{AreInOrder-same_keys, get-map_of, len-map_of, row_at-found}
use Rattle.acfg_device.specs.Panel.{Files}
use Rattle.acfg_model.specs.State.{Container, IsValid, IsValidContainer, name_cmp}
use Rattle.acfg_model.proofs.Kept.{name_exact, name_total}
use Rattle.acfg_store.specs.declared.names.Part.TheVariants.{Records}
use Rattle.acfg_store.specs.declared.records.Recorded.{Recorded}
use Rattle.acfg_store.specs.Commits.{IsLayout}
use Rattle.acfg_store.specs.Damage.{IsDamaged, IsFirst, IsSound, IsWhole, parts_of}
use Rattle.acfg_store.specs.Keys.{recorded_name}
use Rattle.acfg_store.specs.Names.{path}
use Rattle.acfg_store.specs.Opening.{IsPartOfRow, IsPartOfRows}
use Rattle.acfg_store.specs.Records.{AreRecords, IsRecorded, SpellsRecords, records_bytes}
use Rattle.acfg_store.specs.Stands.{Entry, Holds, Stands, entry_name, recorded, state_of}
use Rattle.acfg_store.proofs.Damaging.{all_whole, none_first}

-- ---- the state of containers

abbrev Valid : Entry → Type 0
Valid entry = IsValidContainer entry.container

module _ (es : List Entry) (are : AreRecords (map recorded es)) (valid : All Valid es) where
  pub entries_in_order : AreInOrder name_cmp entry_name es
  entries_in_order = sym (AreInOrder-same_keys name_total recorded_name entry_name (map recorded es) es (map-map recorded_name recorded es)) ∙ are.order

  lawful : All (λ (e : Entry). IsRecorded (recorded e)) es
  lawful k d within =
      let len = length-map es recorded in
      subst IsRecorded (get_or-map recorded es k d (recorded d) within) (are.each k (recorded d) (omega (arith, len, within)))

  found : (name : List ℕ) (container : Container) → get (state_of es) name ≡ Some container → (e : Entry) × Contains es e × (e.name ≡ name) × (e.container ≡ container)
  found name container got = go (row_at name_cmp entry_name es name) refl (sym (get-map_of name_total entry_name (λ (entry : Entry). entry.container) es name) ∙ got)
    where
      some_is : (a b : Container) → Some a ≡ Some b → a ≡ b
      some_is a b e = cc

      go : (r : Option Entry) → row_at name_cmp entry_name es name ≡ r → option_map (λ (entry : Entry). entry.container) r ≡ Some container
          → (e : Entry) × Contains es e × (e.name ≡ name) × (e.container ≡ container)
      go None is e = absurd cc
      go (Some x) is e =
          let at = row_at-found name_total entry_name es name x is in
          (x, at.0, name_exact x.name name at.1, some_is x.container container e)

  pub layout_valid : IsValid (state_of es)
  layout_valid = record {
    bound =
        let count = len-map_of name_total entry_name name_exact (λ (entry : Entry). entry.container) es entries_in_order in
        let rows = length-map es recorded in
        omega (arith, count, rows, are.bound);
    names = λ name container got.
        let e = found name container got in
        subst IsContainer e.2 (All-contains (λ (e : Entry). IsRecorded (recorded e)) es e.0 lawful e.1).name;
    each = λ name container got.
        let e = found name container got in
        subst IsValidContainer e.3 (All-contains Valid es e.0 valid e.1);
  }

pub layout_stands : (files : Files) (dir : List ℕ) (es : List Entry) → IsLayout files dir es → Stands files dir (state_of es)
layout_stands files dir es layout = record { entries = es; state_is = refl; valid = layout.valid; lies = layout.lies }

-- what is listed lies in the directory
pub listed_layout : (files : Files) (dir : List ℕ) (es : List Entry) (rows : List Recorded) (bytes : List ℕ) → files (path dir [] Records) ≡ Some bytes → SpellsRecords bytes rows
    → map recorded es ≡ rows → All Valid es → All (Holds files dir) es → IsLayout files dir es
listed_layout files dir es rows bytes there spells same valid held =
    let are : AreRecords (map recorded es) = subst AreRecords (sym same) spells.lawful in
    record {
      lies = record {
        listed = inl (there ∙ ap (λ (b : List ℕ). Some b) (spells.spelled ∙ ap records_bytes (sym same)));
        lawful = are;
        each = held;
      };
      valid = layout_valid es are valid;
    }

-- ---- the first container at fault

first_there : {X : Type 0} (P : X → Type 0) (before behind : List X) (x : X) → All P before → (P x → ⊥) → IsFirst P (before ++ x ∷ behind) x
first_there P [] behind x all not = inl (refl, not)
first_there P (z ∷ before) behind x all not = inr (All-head P z before all, first_there P before behind x (All-tail P z before all) not)

-- behind containers that lie in the directory
pub first_row : (files : Files) (dir : List ℕ) (es : List Entry) (behind : List Recorded) (row : Recorded) (name : List ℕ) → All Valid es → All (Holds files dir) es → IsPartOfRow files dir row name
    → IsPartOfRows files dir (map recorded es ++ row ∷ behind) name
first_row files dir es behind row name valid held at = record {
  row = row;
  first = first_there (IsWhole files dir) (map recorded es) behind row (all_whole files dir es valid held) (λ whole. none_first (IsSound files dir row) (parts_of row) at.part whole at.first);
  at = at;
}

pub no_list : (files : Files) (dir bytes name : List ℕ) → files (path dir [] Records) ≡ Some bytes → ((rows : List Recorded) → SpellsRecords bytes rows → ⊥) → name ≡ path dir [] Records → IsDamaged files dir name
no_list files dir bytes name there none is = inl (record { bytes = bytes; there = there; none = none; name_is = is })
