-- Containers in order with one of them changed, or with one more: they are lawfully listed and valid, and what state they make.
use Rattle.std.proofs.Common.{◌≡◌, ℕ, zero, suc, ◌<◌, List, [], ◌∷◌, map, get_or, set, length, Some, None, option_map, Equal, refl, sym, ap, ◌∙◌, subst, arith}
use Rattle.std.specs.Prelude.{All, Contains}
use Rattle.std.specs.List as lists
use Rattle.std.specs.FinMap.{get, insert, len}
use Rattle.std.specs.Cmp.{tied_itself}
use Rattle.std.proofs.lemmas.List.{get_or-map, get_or-set_same, get_or_default, length-map, length-set}
use Rattle.std.proofs.lemmas.List.Edits.{get_or-insert_at, length-insert}
use Rattle.std.proofs.lemmas.List.Elements.{All-cons, All-head, All-map, All-set, All-tail}
use Rattle.std.proofs.lemmas.Simd.{map-map}
use Rattle.acfg_base.specs.Names.{IsContainer}
use Rattle.acfg_base.specs.Places.{AreInOrder, StandsAt, WouldStandAt}
use Rattle.acfg_base.proofs.Rows.{AreInOrder-insert, AreInOrder-same_keys, AreInOrder-set, get-map_of, len-map_of, map_of-insert, map_of-set, row_at-gap, row_at-member, row_at-stands}
use Rattle.acfg_model.specs.State.{IsValidContainer, most_containers, name_cmp}
use Rattle.acfg_model.proofs.Kept.{name_exact, name_total}
use Rattle.acfg_store.specs.Keys.{recorded_name}
use Rattle.acfg_store.specs.Records.{AreRecords, IsRecorded}
use Rattle.acfg_store.specs.Stands.{Entry, entry_name, recorded, state_of}
use Rattle.acfg_store.proofs.Opened.{entries_in_order}

abbrev pub Valid : Entry → Type 0
Valid entry = IsValidContainer entry.container

abbrev pub Lawful : Entry → Type 0
Lawful entry = IsRecorded (recorded entry)

-- one more element
pub All-insert : {X : Type 0} (P : X → Type 0) (xs : List X) (i : ℕ) (x : X) → P x → All P xs → All P (lists.insert xs i x)
All-insert P [] zero x here all = All-cons P x [] here all
All-insert P [] (suc i) x here all = All-cons P x [] here all
All-insert P (y ∷ xs) zero x here all = All-cons P x (y ∷ xs) here all
All-insert P (y ∷ xs) (suc i) x here all = All-cons P y (lists.insert xs i x) (All-head P y xs all) (All-insert P xs i x here (All-tail P y xs all))

pub map-insert : {X Y : Type 0} (f : X → Y) (xs : List X) (i : ℕ) (x : X) → map f (lists.insert xs i x) ≡ lists.insert (map f xs) i (f x)
map-insert f [] zero x = refl
map-insert f [] (suc i) x = refl
map-insert f (y ∷ xs) zero x = refl
map-insert f (y ∷ xs) (suc i) x = ap (λ rest. f y ∷ rest) (map-insert f xs i x)

listed_order : (entries : List Entry) → AreInOrder name_cmp entry_name entries → AreInOrder name_cmp recorded_name (map recorded entries)
listed_order entries order = AreInOrder-same_keys name_total recorded_name entry_name (map recorded entries) entries (map-map recorded_name recorded entries) ∙ order

some_none : {X : Type 0} (x : X) → None ≡ Some x → ⊥
some_none x e = cc

module _ (entries : List Entry) (are : AreRecords (map recorded entries)) (valid : All Valid entries) where
  order : AreInOrder name_cmp entry_name entries
  order = entries_in_order entries are valid

  pub each_lawful : All Lawful entries
  each_lawful k d within = subst IsRecorded (get_or-map recorded entries k d (recorded d) within) (are.each k (recorded d) (omega (arith, length-map entries recorded, within)))

  among_them : All (Contains entries) entries
  among_them k d within = (k, within, get_or_default entries k (get_or entries k d) d within)

  pub count_is : len (state_of entries) ≡ length entries
  count_is = len-map_of name_total entry_name name_exact (λ entry. entry.container) entries order

  -- ---- one is changed

  module _ (name : List ℕ) (at : ℕ) (stands : StandsAt name_cmp entry_name entries name at) where
    pub named_so : (d : Entry) → (get_or entries at d).name ≡ name
    named_so d = name_exact _ _ (stands.same d)

    pub state_at : (d : Entry) → get (state_of entries) name ≡ Some (get_or entries at d).container
    state_at d = get-map_of name_total entry_name (λ entry. entry.container) entries name
        ∙ ap (λ o. option_map (λ (entry : Entry). entry.container) o) (row_at-stands name_total entry_name entries order name at d stands)

    module _ (entry : Entry) (same : entry.name ≡ name) (ok : Valid entry) where
      keyed : entry_name (get_or entries at entry) ≡ entry_name entry
      keyed = named_so entry ∙ sym same

      pub set_lawful : Lawful entry
      set_lawful = record { name = subst IsContainer keyed (each_lawful at entry stands.within).name; digest = ok.digest }

      pub set_valid : All Valid (set entries at entry)
      set_valid = All-set Valid entries at entry ok valid

      pub set_listed : AreRecords (map recorded (set entries at entry))
      set_listed = record {
        bound = omega (arith, are.bound, length-map entries recorded, length-map (set entries at entry) recorded, length-set entries at entry);
        each = All-map IsRecorded recorded (set entries at entry) (All-set Lawful entries at entry set_lawful each_lawful);
        order = listed_order (set entries at entry) (AreInOrder-set name_total entry_name entries order at entry stands.within keyed);
      }

      pub set_there : Contains (set entries at entry) entry
      set_there = (at, subst (λ (n : ℕ). at < n) (sym (length-set entries at entry)) stands.within, get_or-set_same entries at entry entry stands.within)

      pub set_rest : All (λ (other : Entry). (other.name ≡ entry.name → ⊥) → Contains entries other) (set entries at entry)
      set_rest = All-set (λ (other : Entry). (other.name ≡ entry.name → ⊥) → Contains entries other) entries at entry (λ apart. absurd (apart refl)) (λ k d within apart. among_them k d within)

      pub state_set : state_of (set entries at entry) ≡ insert (state_of entries) name entry.container
      state_set = map_of-set name_total entry_name name_exact entries order at entry stands.within keyed (λ e. e.container) ∙ ap (λ k. insert (state_of entries) k entry.container) same

  -- ---- one more

  module _ (name : List ℕ) (at : ℕ) (gap : WouldStandAt name_cmp entry_name entries name at) where
    pub state_absent : get (state_of entries) name ≡ None
    state_absent = get-map_of name_total entry_name (λ entry. entry.container) entries name
        ∙ ap (λ o. option_map (λ (entry : Entry). entry.container) o) (row_at-gap name_total entry_name entries name at gap)

    pub none_named : (entry : Entry) → Contains entries entry → entry.name ≡ name → ⊥
    none_named entry in_list same = some_none entry (sym (row_at-gap name_total entry_name entries name at gap)
        ∙ row_at-member name_total entry_name entries order name entry in_list (subst (λ (n : List ℕ). name_cmp entry.name n ≡ Equal) same (tied_itself name_total entry.name)))

    module _ (entry : Entry) (same : entry.name ≡ name) (ok : Valid entry) (lawful : IsContainer name) (room : length entries < most_containers) where
      here : WouldStandAt name_cmp entry_name entries entry.name at
      here = subst (λ (n : List ℕ). WouldStandAt name_cmp entry_name entries n at) (sym same) gap

      added_lawful : Lawful entry
      added_lawful = record { name = subst IsContainer (sym same) lawful; digest = ok.digest }

      pub added_valid : All Valid (lists.insert entries at entry)
      added_valid = All-insert Valid entries at entry ok valid

      pub added_listed : AreRecords (map recorded (lists.insert entries at entry))
      added_listed = record {
        bound = omega (arith, room, length-map (lists.insert entries at entry) recorded, length-insert entries at entry gap.within);
        each = All-map IsRecorded recorded (lists.insert entries at entry) (All-insert Lawful entries at entry added_lawful each_lawful);
        order = listed_order (lists.insert entries at entry) (AreInOrder-insert name_total entry_name entries order at entry here);
      }

      pub added_there : Contains (lists.insert entries at entry) entry
      added_there = (at, omega (arith, gap.within, length-insert entries at entry gap.within), get_or-insert_at entries at entry entry gap.within)

      pub added_rest : All (λ (other : Entry). (other.name ≡ entry.name → ⊥) → Contains entries other) (lists.insert entries at entry)
      added_rest = All-insert (λ (other : Entry). (other.name ≡ entry.name → ⊥) → Contains entries other) entries at entry (λ apart. absurd (apart refl)) (λ k d within apart. among_them k d within)

      pub state_added : state_of (lists.insert entries at entry) ≡ insert (state_of entries) name entry.container
      state_added = map_of-insert name_total entry_name name_exact (λ e. e.container) entries at entry here ∙ ap (λ k. insert (state_of entries) k entry.container) same
