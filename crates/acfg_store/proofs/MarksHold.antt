-- The overrides that a table of marks lists are those of the flags that a release's set lists.
use Rattle.std.proofs.Common.{◌≡◌, ℕ, ◌+◌, ◌<◌, ◌^◌, Bool, true, false, List, map, length, get_or, Option, Some, None, refl, sym, ap, ◌∙◌, arith}
use Rattle.std.specs.Prelude.{All, Contains, option_and_then}
use Rattle.std.specs.FinMap.{get}
use Rattle.std.proofs.lemmas.List.{get_or_default}
use Rattle.std.proofs.lemmas.List.Elements.{All-contains, All-weaker}
use Rattle.acfg_base.specs.Places.{row_at}
use Rattle.acfg_base.specs.Release.{key_cmp}
use Rattle.acfg_base.proofs.Keys.{key_total}
use Rattle.acfg_base.proofs.Rows.{get-map_where}
use Rattle.acfg_images.specs.declared.purpose.Use.TheVariants as purpose
use Rattle.acfg_images.specs.Files as four
use Rattle.acfg_images.specs.Set.{Listed, SetParts, listed_key, listing}
use Rattle.acfg_model.specs.declared.containers.FlagState.{FlagState}
use Rattle.acfg_model.specs.FlagStates.{local_in, row_key}
use Rattle.acfg_store.specs.declared.locals.LocalOverride.{LocalOverride}
use Rattle.acfg_store.specs.Marked.{local_mark, mark_for, mark_value, marked_from}
use Rattle.acfg_store.specs.Records.{AreLocals, IsLocal, locals_bytes}
use Rattle.acfg_store.specs.Stamped.{AreFlagsIn, ArePut}
use Rattle.acfg_store.specs.Stands.{AreLocalsOf}
use Rattle.acfg_store.proofs.Marks.{marked_at, marked_count, marked_rise, marked_within}
use Rattle.acfg_store.proofs.Placing.{indexes_below}
use Rattle.acfg_store.proofs.Written.{byte_put}

-- a mark tells its override
mark_told : (value : Option Bool) → mark_value (mark_for value) ≡ value
mark_told None = refl
mark_told (Some true) = refl
mark_told (Some false) = refl

pub marked_small : (table : List ℕ) (count : ℕ) → length table ≡ count → count < 2 ^ 32 → length (marked_from 0 table) < 2 ^ 32
marked_small table count size small = let fewer = marked_count 0 table in omega (arith, fewer, size, small)

module _ (set : four.Files) (parts : SetParts) (rows : List FlagState) (indexes : List ℕ) (are : AreFlagsIn set parts rows indexes) (count : ℕ) (count_is : count ≡ length (listing parts)) (small : count < 2 ^ 32) where
  -- the local override of a flag that is listed
  local_there : (r : Listed) (row : FlagState) → row_at key_cmp row_key rows (listed_key r) ≡ Some row → get (local_in rows) (listed_key r) ≡ row.local
  local_there r row at = get-map_where key_total row_key (λ (row : FlagState). row.local) rows are.order (listed_key r) ∙ ap (option_and_then (λ (row : FlagState). row.local)) at

  module _ (marks table : List ℕ) (marks_are : marks ≡ map local_mark rows) (puts : ArePut indexes marks (length indexes) table) (size : length table ≡ count) where
    within_all : All (λ (row : LocalOverride). row.index < length (listing parts)) (marked_from 0 table)
    within_all =
        All-weaker (λ (row : LocalOverride). row.index < 0 + length table) (λ (row : LocalOverride). row.index < length (listing parts))
        (λ row within. omega (arith, within, size, count_is)) (marked_from 0 table) (marked_within 0 table)

    lawful : AreLocals (marked_from 0 table)
    lawful = record {
      bound = marked_small table count size small;
      each =
          All-weaker (λ (row : LocalOverride). row.index < length (listing parts)) IsLocal (λ row within. omega (arith, within, count_is, small)) (marked_from 0 table) within_all;
      order = marked_rise 0 table;
    }

    pub locals_hold : (bytes : List ℕ) → bytes ≡ locals_bytes (marked_from 0 table) → AreLocalsOf bytes (local_in rows) (listing parts)
    locals_hold bytes bytes_are = record {
      overrides = marked_from 0 table;
      spells = record { spelled = bytes_are; lawful = lawful };
      indexes = within_all;
      each = λ k d within.
          let r = get_or (listing parts) k d in
          let in_list : Contains (listing parts) r = (k, within, get_or_default (listing parts) k r d within) in
          let put = byte_put set parts rows indexes are local_mark marks table marks_are puts r in_list in
          let below : r.index < length (listing parts) = All-contains (λ (row : Listed). row.index < length (listing parts)) (listing parts) r (indexes_below purpose.Release set parts are.is_set) in_list in
          marked_at 0 r.index r.index table (omega arith) (omega (arith, below, size, count_is)) ∙ ap mark_value put.3 ∙ mark_told put.0.local ∙ sym (local_there r put.0 put.1);
    }
