-- What a change of one container makes of those that are kept, and of the state.
use Rattle.std.proofs.Common.{◌≡◌, ℕ, false, ◌<◌, List, map, length, get_or, set, Option, Some, None, Result, Ok, Err, option_map, refl, sym, ap, subst, ◌∙◌, arith}
use Rattle.std.specs.Prelude.{All}
use Rattle.std.specs.FinMap.{get, insert}
use Rattle.std.proofs.lemmas.List.{get_or-map, get_or_default, length-map, length-set, map-set, set-get_or}
use Rattle.std.proofs.lemmas.List.Elements.{All-get_or, All-set}
use Rattle.std.proofs.lemmas.Simd.{map-map}
use Rattle.acfg_base.specs.Places.{AreInOrder, StandsAt, WouldStandAt, map_of}
use Rattle.acfg_base.proofs.Rows.{AreInOrder-same_keys, AreInOrder-set, get-map_of, map_of-map, map_of-set, row_at-gap, row_at-stands}
use Rattle.acfg_base.specs.Release.{ReleaseMap}
use Rattle.acfg_model.specs.declared.changes.Change.{Change}
use Rattle.acfg_model.specs.declared.changes.Change.TheVariants.{SetServer, SetLocal, UnsetLocal}
use Rattle.acfg_model.specs.declared.refusals.Refusal.{Refusal}
use Rattle.acfg_model.specs.declared.refusals.Refusal.TheVariants.{UnknownContainer}
use Rattle.acfg_model.specs.declared.requests.Reply.{Reply}
use Rattle.acfg_model.specs.declared.requests.Reply.TheVariants.{Fine}
use Rattle.acfg_model.specs.State.{Container, IsValidContainer, State, name_cmp}
use Rattle.acfg_model.specs.Step.{change_refusal, change_step, changed, refused, replaced, unless, with_change}
use Rattle.acfg_model.proofs.Kept.{name_exact, name_total}
use Rattle.acfg_store.specs.declared.containers.Kept.{Kept}
use Rattle.acfg_store.specs.declared.records.Recorded.{Recorded}
use Rattle.acfg_store.specs.Keys.{recorded_name}
use Rattle.acfg_store.specs.Kept.{AreIndexesOf, HasCopy, IsCopied, IsIndexed, entry_of, kept_name, sets_of}
use Rattle.acfg_store.specs.Opening.{AreKept, all_sets_of, entries_of}
use Rattle.acfg_store.specs.Planned.{IsChangedAt, IsRefusedFor}
use Rattle.acfg_store.specs.Records.{AreRecords, IsRecorded}
use Rattle.acfg_store.specs.Stands.{Entry, entry_name, recorded, state_of}
use Rattle.acfg_store.specs.Turned.{other_slot}
use Rattle.acfg_store.proofs.Opened.{entries_in_order}

-- ---- what a change keeps of a container

ok_inside : {A : Type 0} {x y : A} → ◌≡◌ {A = Result A Refusal} (Ok x) (Ok y) → x ≡ y
ok_inside e = cc

err_apart : {A : Type 0} {x : A} {why : Refusal} → ◌≡◌ {A = Result A Refusal} (Err why) (Ok x) → ⊥
err_apart e = cc

unless_ok : (why : Option Refusal) (c d : Container) → unless why c ≡ Ok d → c ≡ d
unless_ok None c d e = ok_inside e
unless_ok (Some why) c d e = absurd (err_apart e)

keeps_release : (c : Container) (change : Change) → (changed c change).release ≡ c.release
keeps_release c (SetServer key value) = refl
keeps_release c (SetLocal key value) = refl
keeps_release c (UnsetLocal key) = refl

keeps_digest : (c : Container) (change : Change) → (changed c change).digest ≡ c.digest
keeps_digest c (SetServer key value) = refl
keeps_digest c (SetLocal key value) = refl
keeps_digest c (UnsetLocal key) = refl

keeps_boot : (c : Container) (change : Change) → (changed c change).boot ≡ c.boot
keeps_boot c (SetServer key value) = refl
keeps_boot c (SetLocal key value) = refl
keeps_boot c (UnsetLocal key) = refl

module _ (c d : Container) (change : Change) (made : with_change c change ≡ Ok d) where
  is_changed : changed c change ≡ d
  is_changed = unless_ok (change_refusal c.release c.local change) (changed c change) d made

  pub same_release : d.release ≡ c.release
  same_release = ap (λ (c : Container). c.release) (sym is_changed) ∙ keeps_release c change

  pub same_digest : d.digest ≡ c.digest
  same_digest = ap (λ (c : Container). c.digest) (sym is_changed) ∙ keeps_digest c change

  pub same_boot : d.boot ≡ c.boot
  same_boot = ap (λ (c : Container). c.boot) (sym is_changed) ∙ keeps_boot c change

-- ---- the state of containers that are kept

pub state_kept : (ks : List Kept) → state_of (entries_of ks) ≡ map_of name_cmp kept_name ks (λ k. k.container)
state_kept ks = map_of-map name_total entry_name entry_of (λ (e : Entry). e.container) ks

pub kept_order : (ks : List Kept) → AreKept ks → AreInOrder name_cmp kept_name ks
kept_order ks are =
    sym (AreInOrder-same_keys name_total entry_name kept_name (entries_of ks) ks (map-map entry_name entry_of ks)) ∙ entries_in_order (entries_of ks) are.listed are.valid

-- what the state has where a container stands, and where none does
pub kept_at : (ks : List Kept) → AreKept ks → (name : List ℕ) (at : ℕ) → StandsAt name_cmp kept_name ks name at → (was : Kept) → was ≡ get_or ks at was → get (state_of (entries_of ks)) name ≡ Some was.container
kept_at ks are name at stands was was_is =
    ap (λ (s : State). get s name) (state_kept ks) ∙ get-map_of name_total kept_name (λ (k : Kept). k.container) ks name
    ∙ ap (option_map (λ (k : Kept). k.container)) (row_at-stands name_total kept_name ks (kept_order ks are) name at was stands ∙ ap Some (sym was_is))

pub kept_absent : (ks : List Kept) (name : List ℕ) (at : ℕ) → WouldStandAt name_cmp kept_name ks name at → get (state_of (entries_of ks)) name ≡ None
kept_absent ks name at gap =
    ap (λ (s : State). get s name) (state_kept ks) ∙ get-map_of name_total kept_name (λ (k : Kept). k.container) ks name
    ∙ ap (option_map (λ (k : Kept). k.container)) (row_at-gap name_total kept_name ks name at gap)

abbrev pair_of : State → Reply → State × Reply
pair_of state reply = (state, reply)

module _ (ks : List Kept) (are : AreKept ks) (name : List ℕ) (change : Change) where
  abbrev state : State
  state = state_of (entries_of ks)

  -- no container has the name
  pub absent : (at : ℕ) → WouldStandAt name_cmp kept_name ks name at → change_step false state name change ≡ refused state UnknownContainer
  absent at gap =
      ap (λ (c : Option Container). replaced state name (option_map (λ (c : Container). with_change c change) c))
      (kept_absent ks name at gap)

  module _ (at : ℕ) (stands : StandsAt name_cmp kept_name ks name at) (was : Kept) (was_is : was ≡ get_or ks at was) where
    same_name : was.name ≡ name
    same_name = ap kept_name was_is ∙ name_exact _ _ (stands.same was)

    state_at : get state name ≡ Some was.container
    state_at = kept_at ks are name at stands was was_is

    step_at : (r : Result Container Refusal) → with_change was.container change ≡ r → change_step false state name change ≡ replaced state name (Some r)
    step_at r made =
        ap (λ (c : Option Container). replaced state name (option_map (λ (c : Container). with_change c change) c)) state_at
        ∙ ap (λ (r : Result Container Refusal). replaced state name (Some r)) made

    -- the change is refused
    pub refused_at : (why : Refusal) → with_change was.container change ≡ Err why → change_step false state name change ≡ refused state why
    refused_at why made = step_at (Err why) made

    -- the change is made
    module _ (one : Kept) (made : with_change was.container change ≡ Ok one.container) (valid : IsValidContainer one.container)
        (turned : one ≡ record was { container = one.container; override_slot = other_slot was.override_slot }) where
      one_name : one.name ≡ was.name
      one_name = ap (λ (k : Kept). k.name) turned

      keyed : kept_name (get_or ks at one) ≡ kept_name one
      keyed = ap kept_name (get_or_default ks at one was stands.within ∙ sym was_is) ∙ sym one_name

      state_set : state_of (entries_of (set ks at one)) ≡ insert state name one.container
      state_set =
          state_kept (set ks at one) ∙ map_of-set name_total kept_name name_exact ks (kept_order ks are) at one stands.within keyed (λ (k : Kept). k.container)
          ∙ (λ i. insert (sym (state_kept ks) i) ((one_name ∙ same_name) i) one.container)

      entries_set : entries_of (set ks at one) ≡ set (entries_of ks) at (entry_of one)
      entries_set = map-set entry_of ks at one

      rows_set : map recorded (entries_of (set ks at one)) ≡ set (map recorded (entries_of ks)) at (recorded (entry_of one))
      rows_set = ap (map recorded) entries_set ∙ map-set recorded (entries_of ks) at (entry_of one)

      row_is : (d : Recorded) → get_or (map recorded (entries_of ks)) at d ≡ recorded (entry_of was)
      row_is d =
          get_or-map recorded (entries_of ks) at (entry_of was) d (subst (λ (n : ℕ). at < n) (sym (length-map ks entry_of)) stands.within)
          ∙ ap recorded (get_or-map entry_of ks at was (entry_of was) stands.within ∙ ap entry_of (sym was_is))

      rows_within : at < length (map recorded (entries_of ks))
      rows_within = let inner = length-map ks entry_of in let outer = length-map (entries_of ks) recorded in omega (arith, inner, outer, stands.within)

      was_recorded : IsRecorded (recorded (entry_of was))
      was_recorded = subst IsRecorded (row_is (recorded (entry_of was))) (All-get_or IsRecorded (map recorded (entries_of ks)) at (recorded (entry_of was)) rows_within are.listed.each)

      one_recorded : IsRecorded (recorded (entry_of one))
      one_recorded = subst IsRecorded (λ i. record { name = sym one_name i; release = sym (ap (λ (k : Kept). k.release_slot) turned) i; overrides = one.override_slot; digest = sym (same_digest was.container one.container change made) i })
          (record { name = was_recorded.name; digest = was_recorded.digest })

      listed : AreRecords (set (map recorded (entries_of ks)) at (recorded (entry_of one)))
      listed = record {
        bound = let len = length-set (map recorded (entries_of ks)) at (recorded (entry_of one)) in omega (arith, len, are.listed.bound);
        each = All-set IsRecorded (map recorded (entries_of ks)) at (recorded (entry_of one)) one_recorded are.listed.each;
        order = AreInOrder-set name_total recorded_name (map recorded (entries_of ks)) are.listed.order at (recorded (entry_of one)) rows_within (ap recorded_name (row_is (recorded (entry_of one))) ∙ sym one_name);
      }

      one_indexed : IsIndexed one
      one_indexed =
          let before : IsIndexed was = subst IsIndexed (sym was_is) (All-get_or IsIndexed ks at was stands.within are.indexed) in
          subst IsIndexed (sym turned)
          (subst (λ (release : ReleaseMap). AreIndexesOf was.release release was.indexes.items was.count) (sym (same_release was.container one.container change made)) before)

      one_copied : IsCopied one
      one_copied =
          let before : IsCopied was = subst IsCopied (sym was_is) (All-get_or IsCopied ks at was stands.within are.copied) in
          subst IsCopied (sym turned) (subst (HasCopy (sets_of was).boot) (sym (same_boot was.container one.container change made)) before)

      sets_set : all_sets_of (set ks at one) ≡ all_sets_of ks
      sets_set =
          map-set sets_of ks at one ∙ ap (set (all_sets_of ks) at) (ap sets_of turned ∙ ap sets_of was_is ∙ sym (get_or-map sets_of ks at was (sets_of one) stands.within))
          ∙ set-get_or (all_sets_of ks) at (sets_of one)

      pub changed_at : (new : List Kept) → new ≡ set ks at one → IsChangedAt name change ks new at
      changed_at new is = record {
        within = stands.within;
        was = was;
        one = one;
        was_is = was_is;
        are = is;
        turned = turned;
        same_release = same_release was.container one.container change made;
        same_digest = same_digest was.container one.container change made;
        same_boot = same_boot was.container one.container change made;
        kept = subst AreKept (sym is) (record {
          listed = subst AreRecords (sym rows_set) listed;
          valid = subst (All (λ (e : Entry). IsValidContainer e.container)) (sym entries_set) (All-set (λ (e : Entry). IsValidContainer e.container) (entries_of ks) at (entry_of one) valid are.valid);
          indexed = All-set IsIndexed ks at one one_indexed are.indexed;
          copied = All-set IsCopied ks at one one_copied are.copied;
        });
        sets = ap all_sets_of is ∙ sets_set;
        step = step_at (Ok one.container) made ∙ ap (λ (s : State). pair_of s Fine) (sym state_set) ∙ ap (λ (ks : List Kept). pair_of (state_of (entries_of ks)) Fine) (sym is);
      }

    -- and then it is as it was
    pub refused_for : (why : Refusal) → with_change was.container change ≡ Err why → (one : Kept) → one ≡ was → (new : List Kept) → new ≡ set ks at one → IsRefusedFor name change ks new why
    refused_for why made one same new is = record {
      same = is ∙ ap (set ks at) (same ∙ was_is) ∙ set-get_or ks at was;
      step = refused_at why made;
    }
