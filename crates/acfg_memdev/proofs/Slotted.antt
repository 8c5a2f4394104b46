-- The names after one slot was filled or emptied.
use Rattle.std.proofs.Common.{◌≡◌, ℕ, List, Option, Some, None, IsSome, String, Bool, is_some, cond, refl, sym, ◌∙◌, ap, subst, true, false}
use Rattle.std.proofs.lemmas.Map.Text.{btree_map_updates_text}
use Rattle.std.specs.BTreeMap.{BTreeMap, UpdatesBy, get_by_text}
use Rattle.std.specs.Cmp.Lexicographic.{slice_cmp}
use Rattle.std.specs.Map.{update}
use Rattle.std.specs.Option.{option_map}
use Rattle.std.specs.Ordering.{nat_cmp}
use Rattle.std.specs.Str.{bytes_eq}
use Rattle.std.specs.String.{string_bytes, string_cmp}
use Rattle.std.specs.declared.alloc.Global.{Global}
use Rattle.acfg_device.proofs.Naming.{functions, update_same}
use Rattle.acfg_memdev.specs.Held.{file_of}
use Rattle.acfg_memdev.specs.Slots.{names_of, slot_of}
use Rattle.acfg_memdev.specs.declared.file.File.{File}

module _ (name : List ℕ) (old new : BTreeMap (String Global) (Option File)) (slot : Option File)
    (updates : UpdatesBy string_cmp (λ key. slice_cmp nat_cmp name (string_bytes key)) old new (Some slot)) where
  at : (other : List ℕ) → get_by_text new other ≡ update bytes_eq (get_by_text old) name (Some slot) other
  at = btree_map_updates_text name old new (Some slot) updates

  pub names_put : names_of new ≡ update bytes_eq (names_of old) name (option_map file_of slot)
  names_put = functions (names_of new) (update bytes_eq (names_of old) name (option_map file_of slot)) each
    where
      by_test : (same : Bool) (other : List ℕ) → slot_of (cond same (Some slot) (get_by_text old other)) ≡ cond same (option_map file_of slot) (names_of old other)
      by_test true other = refl
      by_test false other = refl

      each : (other : List ℕ) → names_of new other ≡ update bytes_eq (names_of old) name (option_map file_of slot) other
      each other = ap slot_of (at other) ∙ by_test (bytes_eq name other) other

  pub slots_stay : (other : List ℕ) → IsSome (get_by_text old other) → IsSome (get_by_text new other)
  slots_stay other there = subst IsSome (sym (at other)) (by_test (bytes_eq name other))
    where
      by_test : (same : Bool) → IsSome (cond same (Some slot) (get_by_text old other))
      by_test true = refl
      by_test false = there

-- an empty slot under a new name changes no name
pub names_stay : (name key : List ℕ) (old new : BTreeMap (String Global) (Option File)) → UpdatesBy string_cmp (λ other. slice_cmp nat_cmp key (string_bytes other)) old new (Some None)
    → key ≡ name → is_some (get_by_text old name) ≡ false → names_of new ≡ names_of old
names_stay name key old new updates named absent =
    names_put key old new None updates
    ∙ update_same (names_of old) key None (ap (names_of old) named ∙ by_slot (get_by_text old name) absent)
  where
    by_slot : (slot : Option (Option File)) → is_some slot ≡ false → slot_of slot ≡ None
    by_slot None none = refl
    by_slot (Some slot) none = cc
