-- The files of an override slot over flags as code holds them, and over the flags that the release lists.
use Rattle.std.proofs.Common.{◌≡◌, ℕ, ◌<◌, List, length, get_or, slice_index, Option, refl, sym, ap, ◌∙◌, subst, arith}
use Rattle.std.proofs.lemmas.List.{get_or-drop, length-drop}
use Rattle.std.specs.Prelude.{All, IsSome, IsTrue}
use Rattle.acfg_base.specs.Release.{is_read_write}
use Rattle.acfg_images.specs.Set.{Listed, SetParts, listing}
use Rattle.acfg_images.proofs.Law.{has_count}
use Rattle.acfg_store.specs.declared.locals.LocalOverride.{LocalOverride}
use Rattle.acfg_store.specs.declared.placed.Placed.{Placed}
use Rattle.acfg_store.specs.Damage.{AreBytesBy, AreLocalsBy, IsInfoOver}
use Rattle.acfg_store.specs.Over.{HasList}
use Rattle.acfg_store.specs.Placed.{AreFlagsOf, AreLocalsOver, IsInfoAt, IsListOver, as_listed}
use Rattle.acfg_store.specs.Stands.{local_at}
use Rattle.acfg_store.proofs.OneState.{one_file}
use Rattle.acfg_store.proofs.Placing.{all_held, all_listed}
use Rattle.acfg_views.specs.Fields.{IsBytes}
use Rattle.acfg_views.specs.Layout.{ListParts}
use Rattle.acfg_views.specs.Parts.{list_parts_of, open_list_parts}
use Rattle.acfg_views.specs.Reading.{OpenList, byte_in, opened_list}
use Rattle.acfg_views.proofs.Exact.{ok_is}
use Rattle.acfg_views.proofs.Parts.{list_parts_open, open_list_has_parts}

-- a list's bytes by index, as code reads them
pub byte_at : (list : OpenList) (i : ℕ) → slice_index (list_parts_of list).bytes i ≡ byte_in list i
byte_at list i = get_or-drop list.first_byte list.file i 0

module _ (parts : SetParts) (flags : List Placed) (are : AreFlagsOf parts flags) (container : List ℕ) (count : ℕ) (count_is : count ≡ length (listing parts)) where
  module _ (file_type : ℕ) (small : file_type < 256) (IsListed : Listed → ℕ → Type 0) (IsPlaced : Placed → ℕ → Type 0) (bytes : List ℕ) where
    -- over the flags that code holds, and so over those that are listed
    pub over_listed : ((x : Placed) (b : ℕ) → IsPlaced x b → IsListed (as_listed x) b) → IsBytes bytes → (list : OpenList) → IsListOver file_type bytes container count IsPlaced flags list
        → (by : AreBytesBy file_type bytes container IsListed (listing parts)) × (by.parts ≡ list_parts_of list)
    over_listed goes fits list is = (
      record {
        parts = list_parts_of list;
        are = open_list_has_parts file_type bytes list fits is.opened;
        container_is = is.container_is;
        count = let ends = has_count file_type bytes list is.opened in omega (arith, ends, length-drop list.first_byte list.file, is.count_is, count_is);
        each = all_listed parts flags are (λ (row : Listed). IsListed row (slice_index (list_parts_of list).bytes row.index))
            (λ k d within.
            let x = get_or flags k d in
            subst (IsListed (as_listed x)) (sym (byte_at list x.found.index)) (goes x _ (is.each k d within)));
      },
      refl,
    )

    -- and the other way
    pub over_placed : ((x : Placed) (b : ℕ) → IsListed (as_listed x) b → IsPlaced x b) → (by : AreBytesBy file_type bytes container IsListed (listing parts))
        → IsListOver file_type bytes container count IsPlaced flags (open_list_parts bytes by.parts)
    over_placed goes by =
        let list = open_list_parts bytes by.parts in
        let opens = list_parts_open file_type small bytes by.parts by.are in
        let held = all_held parts flags are (λ (row : Listed). IsListed row (slice_index by.parts.bytes row.index)) by.each in
        record {
          opened = opens.0;
          container_is = by.container_is;
          count_is = by.count ∙ sym count_is;
          each = λ k d within.
              let x = get_or flags k d in
              let at : slice_index by.parts.bytes x.found.index ≡ byte_in list x.found.index = ap (λ (p : ListParts). slice_index p.bytes x.found.index) (sym opens.1) ∙ byte_at list x.found.index in
              goes x _ (subst (IsListed (as_listed x)) at (held k d within));
        }

  pub locals_listed : (bytes : List ℕ) (locals : List LocalOverride) → AreLocalsOver bytes count flags locals → AreLocalsBy bytes (listing parts)
  locals_listed bytes locals is = record {
    overrides = locals;
    spells = is.spells;
    indexes = subst (λ (n : ℕ). All (λ (row : LocalOverride). row.index < n) locals) count_is is.indexes;
    writable = all_listed parts flags are (λ (row : Listed). IsSome (local_at locals row.index) → IsTrue (is_read_write row.kind)) is.writable;
  }

  pub locals_placed : (bytes : List ℕ) (by : AreLocalsBy bytes (listing parts)) → AreLocalsOver bytes count flags by.overrides
  locals_placed bytes by = record {
    spells = by.spells;
    indexes = subst (λ (n : ℕ). All (λ (row : LocalOverride). row.index < n) by.overrides) (sym count_is) by.indexes;
    writable = all_held parts flags are (λ (row : Listed). IsSome (local_at by.overrides row.index) → IsTrue (is_read_write row.kind)) by.writable;
  }

-- what an info byte may be, by the values as code reads them and as they are listed
pub info_listed : (values : OpenList) (bytes : List ℕ) → ((i : ℕ) → byte_in values i ≡ slice_index bytes i) → (x : Placed) (b : ℕ) → IsInfoAt values x b → IsInfoOver bytes (as_listed x) b
info_listed values bytes same x b is = record { lawful = is.lawful; value = λ other. sym (same x.found.index) ∙ is.value_is other }

pub info_placed : (values : OpenList) (bytes : List ℕ) → ((i : ℕ) → byte_in values i ≡ slice_index bytes i) → (x : Placed) (b : ℕ) → IsInfoOver bytes (as_listed x) b → IsInfoAt values x b
info_placed values bytes same x b is = record { lawful = is.lawful; value_is = λ other. same x.found.index ∙ is.value other }

-- the list that a file is, is one
pub one_over : (container : List ℕ) (count : ℕ) (flags : List Placed) (held : Option (List ℕ)) (file_type : ℕ) (P Q : Placed → ℕ → Type 0) (v w : OpenList)
    → HasList container count flags held file_type P v → HasList container count flags held file_type Q w → v ≡ w
one_over container count flags held file_type P Q v w p q =
    let bytes = one_file held p.bytes q.bytes p.there q.there in
    ok_is v w (sym p.is.opened ∙ ap (opened_list file_type) bytes ∙ q.is.opened)
