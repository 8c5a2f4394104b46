-- What is told of a directory that is opened as a store.
use Rattle.std.proofs.Common.{◌≡◌, ℕ, zero, suc, ◌+◌, ◌<◌, List, [], ◌∷◌, ◌++◌, map, length, get_or, take, drop, add-one, None, inr, refl, sym, ap, ◌∙◌, subst, arith, drop-cons}
use Rattle.std.specs.Prelude.{All}
use Rattle.std.proofs.lemmas.List.{length-map, map-append, take-append-drop, take_more}
use Rattle.std.proofs.lemmas.List.Elements.{All-append, All-cons, All-head, All-nil, All-tail}
use Rattle.std.specs.Prelude.{string_bytes}
use Rattle.acfg_device.specs.Account.{Account}
use Rattle.acfg_device.specs.Disk.{MayLeave}
use Rattle.acfg_device.specs.Left.{LeavesSince}
use Rattle.acfg_device.specs.Panel.{Files}
use Rattle.acfg_device.proofs.Moments.{started, stays}
use Rattle.acfg_model.specs.State.{IsValidContainer}
use Rattle.acfg_store.specs.declared.containers.Kept.{Kept}
use Rattle.acfg_store.specs.declared.faults.Fault.{Fault}
use Rattle.acfg_store.specs.declared.names.Part.{Part}
use Rattle.acfg_store.specs.declared.names.Part.TheVariants.{Records}
use Rattle.acfg_store.specs.declared.records.Recorded.{Recorded}
use Rattle.acfg_store.specs.declared.store_fault.StoreFault.{StoreFault}
use Rattle.acfg_store.specs.declared.store_fault.StoreFault.TheVariants.{Damaged, Device, OutOfMemory}
use Rattle.acfg_store.specs.Commits.{IsLayout}
use Rattle.acfg_store.specs.Judged.{Blames}
use Rattle.acfg_store.specs.Kept.{IsCopied, IsFaultWhere, IsIndexed, entry_of, sets_of}
use Rattle.acfg_store.specs.Names.{path}
use Rattle.acfg_store.specs.Opening.{AreOfRows, IsPartOfRows, KeepsFiles, TellsOfRow, TellsOfRows, all_sets_of, entries_of}
use Rattle.acfg_store.specs.Records.{AreRecords}
use Rattle.acfg_store.specs.Sets.{AreSetsOf, AreSetsOfAll, Sets}
use Rattle.acfg_store.specs.Stands.{Entry, Holds, recorded}
use Rattle.acfg_store.specs.StoreFaults.{NamesPart}
use Rattle.acfg_store.proofs.Opened.{first_row, layout_valid}

none_recorded : AreRecords (map recorded [])
none_recorded = record { bound = omega arith; each = λ k d within. absurd (omega arith); order = refl }

-- a directory without a list has no containers
pub none_lie : (files : Files) (dir : List ℕ) → files (path dir [] Records) ≡ None → IsLayout files dir []
none_lie files dir none = record {
  lies = record { listed = inr (refl, none); lawful = none_recorded; each = All-nil (Holds files dir) };
  valid = layout_valid [] none_recorded (All-nil (λ (e : Entry). IsValidContainer e.container));
}

-- what a container's fault tells
pub row_told : (files : Files) (dir : List ℕ) (row : Recorded) (Given : Files → List ℕ → Type 0) → Given files dir → (fault : Fault Part) → Blames (IsFaultWhere row Given) fault
    → (made : StoreFault) → NamesPart dir row.name fault made → TellsOfRow files dir row made
row_told files dir row Given given fault blamed (Damaged name) names = record {
  part = names.part;
  first = (subst (Blames (IsFaultWhere row Given)) names.is blamed) files dir given;
  name_is = names.named;
}
row_told files dir row Given given fault blamed Device names = absurd names
row_told files dir row Given given fault blamed OutOfMemory names = tt

-- a call that only reads leaves what could be left before
pub reads_leave : (before after : Account) → after ≡ before → LeavesSince before after (MayLeave before.now)
reads_leave before after same = stays (MayLeave before.now) before before after (started (MayLeave before.now) before (λ files said leaves. leaves)) same

-- ---- container by container

-- the files of one container more
pub kept_more : (kept : List Kept) (one : Kept) (items : List Kept) → items ≡ kept ++ one ∷ [] → (files : Files) (dir : List ℕ) → All (KeepsFiles files dir) kept → KeepsFiles files dir one
    → All (KeepsFiles files dir) items
kept_more kept one items are files dir all here =
    subst (All (KeepsFiles files dir)) (sym are) (All-append (KeepsFiles files dir) kept (one ∷ []) all (All-cons (KeepsFiles files dir) one [] here (All-nil (KeepsFiles files dir))))

-- all of them, in order
pub all_kept : (files : Files) (dir : List ℕ) (kept : List Kept) → All (KeepsFiles files dir) kept → AreSetsOfAll files dir (entries_of kept) (all_sets_of kept)
all_kept files dir kept all = record {
  count = length-map kept sets_of ∙ sym (length-map kept entry_of);
  each = λ k entry of within.
      let below : k < length kept = subst (λ (n : ℕ). k < n) (length-map kept entry_of) within in
      each_kept kept all k entry of below;
}
  where
    each_kept : (kept : List Kept) → All (KeepsFiles files dir) kept → (k : ℕ) (entry : Entry) (of : Sets) → k < length kept → AreSetsOf files dir (get_or (entries_of kept) k entry) (get_or (all_sets_of kept) k of)
    each_kept [] all k entry of below = absurd (omega arith)
    each_kept (one ∷ rest) all zero entry of below = All-head (KeepsFiles files dir) one rest all
    each_kept (one ∷ rest) all (suc k) entry of below = each_kept rest (All-tail (KeepsFiles files dir) one rest all) k entry of (omega (arith, below))

pub none_kept_of : (files : Files) (dir : List ℕ) → AreSetsOfAll files dir [] []
none_kept_of files dir = record { count = refl; each = λ k entry of within. absurd (omega (arith, within)) }

abbrev Valid : Entry → Type 0
Valid entry = IsValidContainer entry.container

module _ (rows : List Recorded) (kept : List Kept) (i : ℕ) (row : Recorded) (within : i < length rows) (is : row ≡ get_or rows i row) where
  -- the first container at fault, behind those that lie in the directory
  pub fault_behind : (files : Files) (dir : List ℕ) → AreOfRows (take i rows) kept → All (Holds files dir) (entries_of kept) → (fault : StoreFault) → TellsOfRow files dir row fault
      → TellsOfRows files dir rows fault
  fault_behind files dir of held (Damaged name) told =
      subst (λ (all : List Recorded). IsPartOfRows files dir all (string_bytes name)) split (first_row files dir (entries_of kept) (drop (i + 1) rows) row (string_bytes name) of.valid held told)
    where
      split : map recorded (entries_of kept) ++ row ∷ drop (i + 1) rows ≡ rows
      split =
          ap (λ (t : List Recorded). t ++ row ∷ drop (i + 1) rows) of.listed ∙ ap (λ (r : Recorded). take i rows ++ r ∷ drop (i + 1) rows) is
          ∙ ap (λ (n : ℕ). take i rows ++ get_or rows i row ∷ drop n rows) (add-one i) ∙ ap (λ (t : List Recorded). take i rows ++ t) (sym (drop-cons rows i row within)) ∙ take-append-drop i rows
  fault_behind files dir of held Device told = tt
  fault_behind files dir of held OutOfMemory told = tt

  module _ (one : Kept) (items : List Kept) (are : items ≡ kept ++ one ∷ []) where
    entries_are : entries_of items ≡ entries_of kept ++ entry_of one ∷ []
    entries_are = ap entries_of are ∙ map-append entry_of kept (one ∷ [])

    one_of : (P : Entry → Type 0) → P (entry_of one) → All P (entry_of one ∷ [])
    one_of P here = All-cons P (entry_of one) [] here (All-nil P)

    -- one container more
    pub of_more : AreOfRows (take i rows) kept → recorded (entry_of one) ≡ row → IsValidContainer one.container → IsIndexed one → IsCopied one → AreOfRows (take (i + 1) rows) items
    of_more of listed valid indexed copied = record {
      listed =
          ap (map recorded) entries_are ∙ map-append recorded (entries_of kept) (entry_of one ∷ []) ∙ ap (λ (t : List Recorded). t ++ recorded (entry_of one) ∷ []) of.listed
          ∙ ap (λ (r : Recorded). take i rows ++ r ∷ []) (listed ∙ is) ∙ sym (take_more rows i row within);
      valid = subst (All Valid) (sym entries_are) (All-append Valid (entries_of kept) (entry_of one ∷ []) of.valid (one_of Valid valid));
      indexed = subst (All IsIndexed) (sym are) (All-append IsIndexed kept (one ∷ []) of.indexed (All-cons IsIndexed one [] indexed (All-nil IsIndexed)));
      copied = subst (All IsCopied) (sym are) (All-append IsCopied kept (one ∷ []) of.copied (All-cons IsCopied one [] copied (All-nil IsCopied)));
    }

    pub held_more : (files : Files) (dir : List ℕ) → All (Holds files dir) (entries_of kept) → Holds files dir (entry_of one) → All (Holds files dir) (entries_of items)
    held_more files dir held here = subst (All (Holds files dir)) (sym entries_are) (All-append (Holds files dir) (entries_of kept) (entry_of one ∷ []) held (one_of (Holds files dir) here))
