-- The rows of the directory's lists: what stands at the front of bytes is one row.
use Rattle.std.proofs.Common.{◌≡◌, ℕ, ◌^◌, ◌<◌, Bool, List, ◌++◌, Option, Some, None, sym, ap, ◌∙◌, subst, append_assoc, lit<, codes}
use Rattle.std.proofs.lemmas.List.{append_cancel_left}
use Rattle.std.specs.Prelude.{⊤}
use Rattle.acfg_base.specs.Names.{IsContainer}
use Rattle.acfg_model.specs.State.{IsDigest}
use Rattle.acfg_views.specs.Fields.{number, string}
use Rattle.acfg_store.specs.declared.locals.LocalOverride.{LocalOverride}
use Rattle.acfg_store.specs.declared.names.Slot.{Slot}
use Rattle.acfg_store.specs.declared.records.Recorded.{Recorded}
use Rattle.acfg_store.specs.Names.{slot_number}
use Rattle.acfg_store.specs.Records.{recorded_tail, recorded_bytes, IsRecorded, records_header, local_bytes, IsLocal, bit}
use Rattle.acfg_store.specs.Taken.{Takes, IsPrefix}
use Rattle.acfg_store.proofs.Fronts.{same_front, number_prefix, name_prefix, slot_prefix, bit_prefix}

-- ---- containers

tail_parts : (row : Recorded) (rest : List ℕ) → recorded_tail row ++ rest ≡ number 1 (slot_number row.release) ++ (number 1 (slot_number row.overrides) ++ (row.digest ++ rest))
unfolding recorded_tail
tail_parts row rest = simp append_assoc

row_parts : (row : Recorded) (rest : List ℕ) → recorded_bytes row ++ rest ≡ string row.name ++ (recorded_tail row ++ rest)
unfolding recorded_bytes
row_parts row rest = append_assoc (string row.name) (recorded_tail row) rest

same_row : (a b : Recorded) → a.name ≡ b.name → a.release ≡ b.release → a.overrides ≡ b.overrides → a.digest ≡ b.digest → a ≡ b
same_row a b n r o d = λ i. record { name = n i; release = r i; overrides = o i; digest = d i }

pub recorded_prefix : IsPrefix recorded_bytes IsRecorded
recorded_prefix = record {
  one = λ x y a b x-is y-is same.
      let n = name_prefix.one x.name y.name (recorded_tail x ++ a) (recorded_tail y ++ b) x-is.name y-is.name (sym (row_parts x a) ∙ same ∙ row_parts y b) in
      let r = slot_prefix.one x.release y.release _ _ tt tt (sym (tail_parts x a) ∙ n.1 ∙ tail_parts y b) in
      let o = slot_prefix.one x.overrides y.overrides (x.digest ++ a) (y.digest ++ b) tt tt r.1 in
      let d = same_front x.digest y.digest a b (x-is.digest.size ∙ sym y-is.digest.size) o.1 in
      (same_row x y n.0 r.0 o.0 d.0, d.1);
}

module _ (name bytes : List ℕ) where
  abbrev IsOf : Recorded → Type 0
  IsOf row = (row.name ≡ name) × IsDigest row.digest

  pub no_release : ((slot : Slot) (rest : List ℕ) → ⊤ → bytes ≡ number 1 (slot_number slot) ++ rest → ⊥)
      → (row : Recorded) (rest : List ℕ) → IsOf row → bytes ≡ recorded_tail row ++ rest → ⊥
  no_release none row rest of same = none row.release (number 1 (slot_number row.overrides) ++ (row.digest ++ rest)) tt (same ∙ tail_parts row rest)

  module _ (release : Slot) (behind : List ℕ) (first : bytes ≡ number 1 (slot_number release) ++ behind) where
    behind_release : (row : Recorded) (rest : List ℕ) → bytes ≡ recorded_tail row ++ rest → (release ≡ row.release) × (behind ≡ number 1 (slot_number row.overrides) ++ (row.digest ++ rest))
    behind_release row rest same =
        slot_prefix.one release row.release behind (number 1 (slot_number row.overrides) ++ (row.digest ++ rest)) tt tt (sym first ∙ same ∙ tail_parts row rest)

    pub no_overrides : ((slot : Slot) (rest : List ℕ) → ⊤ → behind ≡ number 1 (slot_number slot) ++ rest → ⊥)
        → (row : Recorded) (rest : List ℕ) → IsOf row → bytes ≡ recorded_tail row ++ rest → ⊥
    no_overrides none row rest of same = none row.overrides (row.digest ++ rest) tt (behind_release row rest same).1

    module _ (overrides : Slot) (last : List ℕ) (second : behind ≡ number 1 (slot_number overrides) ++ last) where
      pub no_digest : ((digest rest : List ℕ) → IsDigest digest → last ≡ digest ++ rest → ⊥)
          → (row : Recorded) (rest : List ℕ) → IsOf row → bytes ≡ recorded_tail row ++ rest → ⊥
      no_digest none row rest of same =
          let o = slot_prefix.one overrides row.overrides last (row.digest ++ rest) tt tt (sym second ∙ (behind_release row rest same).1) in
          none row.digest rest of.1 o.1

      pub tail_taken : (row : Recorded) (rest : List ℕ) → row.release ≡ release → row.overrides ≡ overrides → last ≡ row.digest ++ rest → bytes ≡ recorded_tail row ++ rest
      tail_taken row rest r o third =
          first ∙ ap (λ (t : List ℕ). number 1 (slot_number release) ++ t) (second ∙ ap (λ (t : List ℕ). number 1 (slot_number overrides) ++ t) third)
          ∙ sym (subst (λ (s : Slot). recorded_tail row ++ rest ≡ number 1 (slot_number s) ++ (number 1 (slot_number overrides) ++ (row.digest ++ rest))) r
          (subst (λ (s : Slot). recorded_tail row ++ rest ≡ number 1 (slot_number row.release) ++ (number 1 (slot_number s) ++ (row.digest ++ rest))) o (tail_parts row rest)))

-- where no name stands, no row does
pub no_name : (bytes : List ℕ) → ((text rest : List ℕ) → IsContainer text → bytes ≡ string text ++ rest → ⊥)
    → (row : Recorded) (rest : List ℕ) → IsRecorded row → bytes ≡ recorded_bytes row ++ rest → ⊥
no_name bytes none row rest lawful same = none row.name (recorded_tail row ++ rest) lawful.name (same ∙ row_parts row rest)

-- a row whose name was read
pub recorded_taken : (bytes name behind : List ℕ) → IsContainer name → bytes ≡ string name ++ behind → (taken : Option (Recorded × List ℕ))
    → Takes recorded_tail (λ (row : Recorded). (row.name ≡ name) × IsDigest row.digest) behind taken → Takes recorded_bytes IsRecorded bytes taken
recorded_taken bytes name behind lawful is None none = λ row rest row-is same.
    let n = name_prefix.one name row.name behind (recorded_tail row ++ rest) lawful row-is.name (sym is ∙ same ∙ row_parts row rest) in
    none row rest (sym n.0, row-is.digest) n.1
recorded_taken bytes name behind lawful is (Some t) found = (
  record { name = subst IsContainer (sym found.0.0) lawful; digest = found.0.1 },
  is ∙ ap (λ (b : List ℕ). string name ++ b) found.1 ∙ ap (λ (n : List ℕ). string n ++ (recorded_tail t.0 ++ t.1)) (sym found.0.0) ∙ sym (row_parts t.0 t.1),
)

-- ---- the header of the list of containers

pub header_parts : (count : ℕ) (rest : List ℕ) → records_header count ++ rest ≡ codes "ACRF" ++ (number 4 1 ++ (number 4 count ++ rest))
unfolding records_header
header_parts count rest = append_assoc (codes "ACRF") (number 4 1 ++ number 4 count) rest ∙ ap (λ (t : List ℕ). codes "ACRF" ++ t) (append_assoc (number 4 1) (number 4 count) rest)

module _ (bytes : List ℕ) where
  pub no_mark : ((rest : List ℕ) → bytes ≡ codes "ACRF" ++ rest → ⊥) → (count : ℕ) (rest : List ℕ) → count < 2 ^ 32 → bytes ≡ records_header count ++ rest → ⊥
  no_mark none count rest small same = none (number 4 1 ++ (number 4 count ++ rest)) (same ∙ header_parts count rest)

  module _ (behind : List ℕ) (first : bytes ≡ codes "ACRF" ++ behind) where
    behind_mark : (count : ℕ) (rest : List ℕ) → bytes ≡ records_header count ++ rest → behind ≡ number 4 1 ++ (number 4 count ++ rest)
    behind_mark count rest same = append_cancel_left (codes "ACRF") behind (number 4 1 ++ (number 4 count ++ rest)) (sym first ∙ same ∙ header_parts count rest)

    pub no_version : ((n : ℕ) (rest : List ℕ) → n < 2 ^ 32 → behind ≡ number 4 n ++ rest → ⊥) → (count : ℕ) (rest : List ℕ) → count < 2 ^ 32 → bytes ≡ records_header count ++ rest → ⊥
    no_version none count rest small same = none 1 (number 4 count ++ rest) (lit< tt) (behind_mark count rest same)

    module _ (version : ℕ) (last : List ℕ) (fits : version < 2 ^ 32) (second : behind ≡ number 4 version ++ last) where
      behind_version : (count : ℕ) (rest : List ℕ) → bytes ≡ records_header count ++ rest → (version ≡ 1) × (last ≡ number 4 count ++ rest)
      behind_version count rest same = (number_prefix 4).one version 1 last (number 4 count ++ rest) fits (lit< tt) (sym second ∙ behind_mark count rest same)

      pub other_version : (version ≡ 1 → ⊥) → (count : ℕ) (rest : List ℕ) → count < 2 ^ 32 → bytes ≡ records_header count ++ rest → ⊥
      other_version other count rest small same = other (behind_version count rest same).0

      pub header_taken : version ≡ 1 → (taken : Option (ℕ × List ℕ)) → Takes (number 4) (λ (n : ℕ). n < 2 ^ 32) last taken → Takes records_header (λ (n : ℕ). n < 2 ^ 32) bytes taken
      header_taken one None none = λ count rest small same. none count rest small (behind_version count rest same).1
      header_taken one (Some t) found = (
        found.0,
        first ∙ ap (λ (b : List ℕ). codes "ACRF" ++ b) (second ∙ ap (λ (b : List ℕ). number 4 version ++ b) found.1
            ∙ ap (λ (n : ℕ). number 4 n ++ (number 4 t.0 ++ t.1)) one) ∙ sym (header_parts t.0 t.1),
      )

-- ---- local overrides

local_parts : (row : LocalOverride) (rest : List ℕ) → local_bytes row ++ rest ≡ number 4 row.index ++ (number 1 (bit row.value) ++ rest)
unfolding local_bytes
local_parts row rest = append_assoc (number 4 row.index) (number 1 (bit row.value)) rest

same_local : (a b : LocalOverride) → a.index ≡ b.index → a.value ≡ b.value → a ≡ b
same_local a b n v = λ i. record { index = n i; value = v i }

pub local_prefix : IsPrefix local_bytes IsLocal
local_prefix = record {
  one = λ x y a b x-is y-is same.
      let n = (number_prefix 4).one x.index y.index (number 1 (bit x.value) ++ a) (number 1 (bit y.value) ++ b) x-is y-is (sym (local_parts x a) ∙ same ∙ local_parts y b) in
      let v = bit_prefix.one x.value y.value a b tt tt n.1 in
      (same_local x y n.0 v.0, v.1);
}

module _ (bytes : List ℕ) where
  pub no_index : ((n : ℕ) (rest : List ℕ) → n < 2 ^ 32 → bytes ≡ number 4 n ++ rest → ⊥)
      → (row : LocalOverride) (rest : List ℕ) → IsLocal row → bytes ≡ local_bytes row ++ rest → ⊥
  no_index none row rest lawful same = none row.index (number 1 (bit row.value) ++ rest) lawful (same ∙ local_parts row rest)

  module _ (index : ℕ) (behind : List ℕ) (small : index < 2 ^ 32) (first : bytes ≡ number 4 index ++ behind) where
    pub no_value : ((value : Bool) (rest : List ℕ) → ⊤ → behind ≡ number 1 (bit value) ++ rest → ⊥)
        → (row : LocalOverride) (rest : List ℕ) → IsLocal row → bytes ≡ local_bytes row ++ rest → ⊥
    no_value none row rest lawful same =
        none row.value rest tt ((number_prefix 4).one index row.index behind (number 1 (bit row.value) ++ rest) small lawful (sym first ∙ same ∙ local_parts row rest)).1

    pub local_taken : (row : LocalOverride) (rest : List ℕ) → row.index ≡ index → behind ≡ number 1 (bit row.value) ++ rest → bytes ≡ local_bytes row ++ rest
    local_taken row rest n second =
        first ∙ ap (λ (t : List ℕ). number 4 index ++ t) second ∙ ap (λ (k : ℕ). number 4 k ++ (number 1 (bit row.value) ++ rest)) (sym n) ∙ sym (local_parts row rest)
