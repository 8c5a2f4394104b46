-- The containers that a store keeps, with one of them changed or one more, whose slots are written before the list that names them: the new
-- files are those of the new store, and a cut leaves the old state or the new one.
use Rattle.std.proofs.Common.{◌≡◌, ◌⊎◌, ℕ, List, map, get_or, Some, inl, inr, refl, sym, ap, ◌∙◌, subst, arith}
use Rattle.std.specs.Prelude.{All, Contains}
use Rattle.std.specs.Cmp.{tied_itself}
use Rattle.std.proofs.lemmas.List.{get_or-map, get_or_default, length-map}
use Rattle.std.proofs.lemmas.List.Elements.{All-contains, All-map}
use Rattle.acfg_base.specs.Names.{IsContainer}
use Rattle.acfg_base.specs.Places.{row_at}
use Rattle.acfg_base.proofs.Rows.{row_at-member}
use Rattle.acfg_device.specs.Panel.{Files}
use Rattle.acfg_device.proofs.Naming.{same_name}
use Rattle.acfg_commit.specs.declared.several.NewFile.{NewFile}
use Rattle.acfg_images.specs.declared.purpose.Use.TheVariants as purpose
use Rattle.acfg_images.specs.Set.{IsSet, notes_in}
use Rattle.acfg_model.specs.State.{name_cmp}
use Rattle.acfg_model.proofs.Kept.{name_total, some_inside}
use Rattle.acfg_store.specs.declared.containers.Kept.{Kept}
use Rattle.acfg_store.specs.declared.names.Part.{Part}
use Rattle.acfg_store.specs.Applied.{IsOpen}
use Rattle.acfg_store.specs.Commits.{IsCommit, IsLayout}
use Rattle.acfg_store.specs.Kept.{entry_of, kept_name, sets_of}
use Rattle.acfg_store.specs.Names.{path}
use Rattle.acfg_store.specs.Opening.{AreKept, KeepsFiles, all_sets_of, entries_of}
use Rattle.acfg_store.specs.Sets.{AreSetsOf, AreSetsOfAll, IsBootSet, Sets}
use Rattle.acfg_store.specs.Stands.{Booted, Entry, IsUsed}
use Rattle.acfg_store.specs.Updated.{AreSlotFiles, IsReleaseOf, IsSlotPart, view_of}
use Rattle.acfg_store.proofs.Entering.{Lawful, each_lawful}
use Rattle.acfg_store.proofs.OneChanged.{kept_order}
use Rattle.acfg_store.proofs.SlotsWritten as slots
use Rattle.acfg_store.proofs.Stored.{all_kept}

pub contains_map : {X Y : Type 0} (f : X → Y) (xs : List X) (x : X) → Contains xs x → Contains (map f xs) (f x)
contains_map f xs x at =
    (at.0, omega (arith, at.1, length-map xs f), get_or-map f xs at.0 x (f x) at.1 ∙ ap f at.2)

one_kept : (kept : List Kept) → AreKept kept → (x y : Kept) → Contains kept x → Contains kept y → kept_name x ≡ kept_name y → x ≡ y
one_kept kept are x y x-in y-in same =
    let at : (z : Kept) → Contains kept z → row_at name_cmp kept_name kept (kept_name z) ≡ Some z =
    λ z in_list. row_at-member name_total kept_name kept (kept_order kept are) (kept_name z) z in_list (tied_itself name_total (kept_name z)) in
    some_inside (sym (at x x-in) ∙ ap (row_at name_cmp kept_name kept) same ∙ at y y-in)

pub keeps_each : (files : Files) (dir : List ℕ) (kept : List Kept) → AreSetsOfAll files dir (entries_of kept) (all_sets_of kept) → All (KeepsFiles files dir) kept
keeps_each files dir kept are k d within =
    subst (λ (both : Entry × Sets). AreSetsOf files dir both.0 both.1)
    (λ i. (get_or-map entry_of kept k d (entry_of d) within i, get_or-map sets_of kept k d (sets_of d) within i))
    (are.each k (entry_of d) (sets_of d) (omega (arith, within, length-map kept entry_of)))

abbrev pub release_set : (one : Kept) (of : IsReleaseOf one) → IsSet one.release purpose.Release (kept_name one) one.container.release (notes_in of.parts)
release_set one of = record { parts = of.parts; files_are = of.is_set; container_is = of.container_is; release_is = of.release_is; notes_are = refl }

module _ (dir : List ℕ) (kept later : List Kept) (one : Kept) (first : Files) (was_open : IsOpen first (view_of dir kept)) (are : AreKept later) (there : Contains later one)
    (rest : All (λ (other : Kept). (kept_name other ≡ kept_name one → ⊥) → Contains kept other) later) (of : IsReleaseOf one)
    (files : List NewFile) (written : AreSlotFiles dir (entry_of one) one.release of.parts files)
    (booted : Booted first dir (kept_name one) (entry_of one).boot_slot one.container.boot) (boot_set : IsBootSet first dir (kept_name one) (entry_of one).boot_slot (sets_of one).boot)
    (unused : (part : Part) → IsSlotPart (entry_of one) part → IsUsed dir (entries_of kept) (path dir (kept_name one) part) → ⊥) where
  abbrev pub New : Files
  New = slots.New dir (entries_of kept) (entries_of later) (entry_of one) first one.release (notes_in of.parts) (release_set one of) files written

  abbrev pub Spare : List ℕ → Type 0
  Spare = slots.Spare dir (entries_of kept) (entries_of later) (entry_of one) first one.release (notes_in of.parts) (release_set one of) files written

  abbrev Rest : Entry → Type 0
  Rest other = (other.name ≡ kept_name one → ⊥) → Contains (entries_of kept) other

  entries_rest : All Rest (entries_of later)
  entries_rest = All-map Rest entry_of later (λ k d within apart. contains_map entry_of kept (get_or later k d) (rest k d within apart))

  entry_there : Contains (entries_of later) (entry_of one)
  entry_there = contains_map entry_of later one there

  name_lawful : IsContainer (kept_name one)
  name_lawful = (All-contains Lawful (entries_of later) (entry_of one) (each_lawful (entries_of later) are.listed are.valid) entry_there).name

  laid : IsLayout New dir (entries_of later)
  laid = slots.laid dir (entries_of kept) (entries_of later) (entry_of one) first one.release (notes_in of.parts) (release_set one of) files written of.digest_is booted was_open.layout are.listed are.valid entry_there
      entries_rest

  pub committed : IsCommit dir (entries_of kept) (entries_of later) Spare first New
  committed = slots.committed dir (entries_of kept) (entries_of later) (entry_of one) first one.release (notes_in of.parts) (release_set one of) files written of.digest_is booted was_open.layout are.listed are.valid entry_there
      entries_rest unused name_lawful

  own_sets : KeepsFiles New dir one
  own_sets = slots.own_sets dir (entries_of kept) (entries_of later) (entry_of one) first one.release (notes_in of.parts) (release_set one of) files written (sets_of one).boot boot_set

  sets_kept : All (KeepsFiles New dir) later
  sets_kept k d within = by_name (same_name (kept_name one) (kept_name (get_or later k d)))
    where
      other : Kept
      other = get_or later k d

      in_later : Contains later (get_or later k d)
      in_later = (k, within, get_or_default later k (get_or later k d) d within)

      by_name : (kept_name (get_or later k d) ≡ kept_name one) ⊎ (kept_name (get_or later k d) ≡ kept_name one → ⊥) → KeepsFiles New dir (get_or later k d)
      by_name (inl same) = subst (KeepsFiles New dir) (sym (one_kept later are (get_or later k d) one in_later there same)) own_sets
      by_name (inr apart) =
          let x : Kept = get_or later k d in
          slots.sets_frame first New dir (entry_of x) (sets_of x)
          (slots.kept_other dir (entries_of kept) (entries_of later) (entry_of one) first one.release (notes_in of.parts) (release_set one of) files written (entry_of x) apart)
          (All-contains (KeepsFiles first dir) kept x (keeps_each first dir kept was_open.kept) (rest k d within apart))

  pub opened : IsOpen New (view_of dir later)
  opened = record { layout = laid; kept = all_kept New dir later sets_kept }
