-- What a cut may leave after each call, by what it might have left before. Use these where a function's clause
-- has a shape of its own, so that the steps of `Carried` don't serve: what a cut leaves right after a rename is
--     rename_leaves disk from to files said apart leaves
-- the names with the rename, or a cut of the disk before it.
use Rattle.std.proofs.Common.{◌≡◌, ◌≢◌, ◌⊎◌, inl, inr, ℕ, List, [], ◌∷◌, Option, Some, None, is_some, IfSome, refl, sym, ◌∙◌, ap, subst, cond}
use Rattle.std.specs.Map.{update}
use Rattle.std.specs.Option.{option_map}
use Rattle.std.specs.Str.{bytes_eq}
use Rattle.acfg_device.specs.Calls.{after_write, after_write_at, after_sync, after_rename, after_remove, without, new_file, overwritten, synced}
use Rattle.acfg_device.specs.Disk.{Within, File, Names, Change, Made, Moved, Disk, told, undone, MayHold, MayStand, KeepsNames, KeepsSome, MayLeave, IsSynced, IsSettled}
use Rattle.acfg_device.specs.Left.{SameBut, LeftBut, NotMovedTo, ChangesAlone}
use Rattle.acfg_device.specs.Panel.{Files}
use Rattle.acfg_device.proofs.Cuts.{SameButOne, Tighter, own_bytes, synced_bytes, keeps_all, keeps_tighter, keeps_names_but, keeps_some_but, settled_leaves}
use Rattle.acfg_device.proofs.Naming.{same_name, functions, update_here, update_apart, update_back, update_same}

-- ---- a file under one name

module _ (disk : Disk) (name : List ℕ) (files : Files) (said : List ℕ) where
  -- the names with another file there
  abbrev with_file : Option File → Names
  with_file file = update bytes_eq disk.names name file

  but_one : (file : Option File) → SameButOne name disk.names (with_file file)
  but_one file other apart = update_apart disk.names name file other apart

  one_left : (pending : List Change) (file : Option File) → pending ≡ disk.pending → NotMovedTo disk.pending name → KeepsSome pending (with_file file) files → said ≡ disk.said → LeftBut disk (λ other. other ≡ name) files said
  one_left pending file is free keeps words =
      let some = keeps_some_but name disk.pending disk.names (with_file file) files free (but_one file) (subst (λ (changes : List Change). KeepsSome changes (with_file file) files) is keeps) in
      record { before = some.0; may = record { under = some.1; words = words }; same = some.2 }

  same_left : (names : Names) → names ≡ disk.names → KeepsSome disk.pending names files → said ≡ disk.said → LeftBut disk (λ other. other ≡ name) files said
  same_left names is keeps words = record {
    before = files;
    may = record { under = subst (λ (n : Names). KeepsSome disk.pending n files) is keeps; words = words };
    same = λ other apart. refl;
  }

  -- a write changes the cuts in its own name
  pub write_leaves : (bytes : List ℕ) → ChangesAlone disk name → MayLeave (after_write disk name bytes) files said → LeftBut disk (λ other. other ≡ name) files said
  write_leaves bytes lone leaves = by_file (disk.names name) refl lone leaves.under
    where
      fresh : disk.names name ≡ None → KeepsSome (Made name ∷ disk.pending) (with_file (Some (new_file bytes))) files → LeftBut disk (λ other. other ≡ name) files said
      fresh none keeps = elim keeps [
        | inl kept ↦
            let some = keeps_names_but name disk.names (with_file (Some (new_file bytes))) files (but_one (Some (new_file bytes))) kept in
            record { before = some.0; may = record { under = keeps_all disk.pending disk.names some.0 some.1; words = leaves.words }; same = some.2 }
        | inr undo ↦ same_left (update bytes_eq (with_file (Some (new_file bytes))) name None) (update_back disk.names name (Some (new_file bytes)) None none) undo leaves.words
      ]

      by_file : (was : Option File) → disk.names name ≡ was → (was ≡ None) ⊎ NotMovedTo disk.pending name
          → KeepsSome (cond (is_some was) disk.pending (Made name ∷ disk.pending)) (with_file (Some (new_file bytes))) files → LeftBut disk (λ other. other ≡ name) files said
      by_file None is lone keeps = fresh is keeps
      by_file (Some old) is (inl none) keeps = cc
      by_file (Some old) is (inr free) keeps = one_left disk.pending (Some (new_file bytes)) refl free keeps leaves.words

  -- so does a write of some of its bytes
  pub write_at_leaves : (at : ℕ) (bytes : List ℕ) → ChangesAlone disk name → MayLeave (after_write_at disk name at bytes) files said → LeftBut disk (λ other. other ≡ name) files said
  write_at_leaves at bytes (inl none) leaves =
      let same : option_map (overwritten at bytes) (disk.names name) ≡ None = ap (option_map (overwritten at bytes)) none in
      same_left (after_write_at disk name at bytes).names (update_same disk.names name (option_map (overwritten at bytes) (disk.names name)) (none ∙ sym same)) leaves.under leaves.words
  write_at_leaves at bytes (inr free) leaves = one_left disk.pending (option_map (overwritten at bytes) (disk.names name)) refl free leaves.under leaves.words

  -- a removal takes the one name, or it is undone
  pub remove_leaves : MayLeave (after_remove disk name) files said → LeftBut disk (λ other. other ≡ name) files said
  remove_leaves leaves = by_file (disk.names name) refl leaves
    where
      by_file : (was : Option File) → disk.names name ≡ was → MayLeave (without disk name was) files said → LeftBut disk (λ other. other ≡ name) files said
      by_file None is gone = same_left disk.names refl gone.under gone.words
      by_file (Some file) is gone = elim gone.under [
        | inl kept ↦
            let some = keeps_names_but name disk.names (with_file None) files (but_one None) kept in
            record { before = some.0; may = record { under = keeps_all disk.pending disk.names some.0 some.1; words = gone.words }; same = some.2 }
        | inr undo ↦ same_left (update bytes_eq (with_file None) name (Some file)) (update_back disk.names name None (Some file) is) undo gone.words
      ]

  -- a sync only takes cuts away
  synced_tighter : Tighter (after_sync disk name).names disk.names
  synced_tighter other left stands = elim (same_name name other) [
    | inl here ↦
        let at : MayStand (option_map synced (disk.names name)) left = subst (λ (file : Option File). MayStand file left) (ap (after_sync disk name).names here ∙ update_here disk.names name (option_map synced (disk.names name))) stands in
        subst (λ (n : List ℕ). MayStand (disk.names n) left) (sym here) (wider (disk.names name) left at)
    | inr apart ↦ subst (λ (file : Option File). MayStand file left) (update_apart disk.names name (option_map synced (disk.names name)) other apart) stands
  ]
    where
      wider : (file : Option File) (left : Option (List ℕ)) → MayStand (option_map synced file) left → MayStand file left
      wider None left stands = stands
      wider (Some file) None stands = absurd stands
      wider (Some file) (Some left) stands = subst (MayHold file.loose file.bytes) (sym (synced_bytes (Within []) file.bytes left (λ place. refl) stands)) (own_bytes file.loose file.bytes)

  pub sync_leaves : MayLeave (after_sync disk name) files said → MayLeave disk files said
  sync_leaves leaves = record { under = keeps_tighter disk.pending (after_sync disk name).names disk.names files synced_tighter leaves.under; words = leaves.words }

-- ---- two names

-- either of two names
abbrev pub Either : List ℕ → List ℕ → List ℕ → Type 0
Either first second name = (name ≡ first) ⊎ (name ≡ second)

module _ (disk : Disk) (from to : List ℕ) (files : Files) (said : List ℕ) where
  moved_back : from ≢ to → undone (Moved from to (disk.names to)) (after_rename disk from to).names ≡ disk.names
  moved_back apart = functions (undone (Moved from to (disk.names to)) (after_rename disk from to).names) disk.names each
    where
      moved : Names
      moved = update bytes_eq (update bytes_eq disk.names from None) to (disk.names from)

      each : (name : List ℕ) → undone (Moved from to (disk.names to)) (after_rename disk from to).names name ≡ disk.names name
      each name = elim (same_name to name) [
        | inl there ↦ ap (undone (Moved from to (disk.names to)) (after_rename disk from to).names) there
            ∙ update_here (update bytes_eq (after_rename disk from to).names from ((after_rename disk from to).names to)) to (disk.names to) ∙ ap disk.names (sym there)
        | inr not_to ↦
            update_apart (update bytes_eq (after_rename disk from to).names from ((after_rename disk from to).names to)) to (disk.names to) name not_to
            ∙ elim (same_name from name) as (λ _. update bytes_eq (after_rename disk from to).names from ((after_rename disk from to).names to) name ≡ disk.names name) [
              | inl here ↦ ap (update bytes_eq (after_rename disk from to).names from ((after_rename disk from to).names to)) here
                  ∙ update_here (after_rename disk from to).names from ((after_rename disk from to).names to)
                  ∙ update_here (update bytes_eq disk.names from None) to (disk.names from) ∙ ap disk.names (sym here)
              | inr not_from ↦ update_apart (after_rename disk from to).names from ((after_rename disk from to).names to) name not_from
                  ∙ update_apart (update bytes_eq disk.names from None) to (disk.names from) name not_to
                  ∙ update_apart disk.names from None name not_from
            ]
      ]

  -- a cut keeps the rename and all the name changes before it, or it undoes the rename
  pub rename_leaves : from ≢ to → MayLeave (after_rename disk from to) files said → KeepsNames (after_rename disk from to).names files ⊎ MayLeave disk files said
  rename_leaves apart leaves = elim leaves.under [
    | inl kept ↦ inl kept
    | inr undo ↦ inr (record { under = subst (λ (names : Names). KeepsSome disk.pending names files) (moved_back apart) undo; words = leaves.words })
  ]

  -- where it is kept, all other files are those of a cut before it
  pub rename_keeps : KeepsNames (after_rename disk from to).names files → said ≡ disk.said → LeftBut disk (Either from to) files said
  rename_keeps keeps words =
      let one = keeps_names_but to (update bytes_eq disk.names from None) (after_rename disk from to).names files (λ other apart. update_apart (update bytes_eq disk.names from None) to (disk.names from) other apart) keeps in
      let two = keeps_names_but from disk.names (update bytes_eq disk.names from None) one.0 (λ other apart. update_apart disk.names from None other apart) one.1 in
      record {
        before = two.0;
        may = record { under = keeps_all disk.pending disk.names two.0 two.1; words = words };
        same = λ name apart. one.2 name (λ there. apart (inr there)) ∙ two.2 name (λ here. apart (inl here));
      }

-- ---- one step behind another

pub same_but_join : (first second changed : List ℕ → Type 0) (before middle after : Files) → ((name : List ℕ) → first name → changed name) → ((name : List ℕ) → second name → changed name)
    → SameBut first before middle → SameBut second middle after → SameBut changed before after
same_but_join first second changed before middle after in_first in_second same then = λ name apart. then name (λ was. apart (in_second name was)) ∙ same name (λ was. apart (in_first name was))

-- what is left of a later disk is left of the earlier one
pub left_join : (start disk : Disk) (first second changed : List ℕ → Type 0) → ((name : List ℕ) → first name → changed name) → ((name : List ℕ) → second name → changed name)
    → ((files : Files) (said : List ℕ) → MayLeave disk files said → LeftBut start first files said) → (files : Files) (said : List ℕ) → LeftBut disk second files said → LeftBut start changed files said
left_join start disk first second changed in_first in_second so_far files said left =
    let was = so_far left.before said left.may in
    record { before = was.before; may = was.may; same = same_but_join first second changed was.before left.before files in_first in_second was.same left.same }

pub left_weaker : (start : Disk) (first changed : List ℕ → Type 0) → ((name : List ℕ) → first name → changed name) → (files : Files) (said : List ℕ) → LeftBut start first files said → LeftBut start changed files said
left_weaker start first changed in_first files said left = record { before = left.before; may = left.may; same = λ name apart. left.same name (λ was. apart (in_first name was)) }

-- before any call
pub left_start : (disk : Disk) (changed : List ℕ → Type 0) (files : Files) (said : List ℕ) → MayLeave disk files said → LeftBut disk changed files said
left_start disk changed files said may = record { before = files; may = may; same = λ name apart. refl }

-- a settled start leaves the files that it tells, but for the names that changed
pub settled_but : (disk : Disk) (changed : List ℕ → Type 0) (files : Files) (said : List ℕ) → IsSettled disk → LeftBut disk changed files said → SameBut changed (told disk) files × (said ≡ disk.said)
settled_but disk changed files said settled left =
    let is = settled_leaves disk left.before said settled left.may in
    ((λ name apart. left.same name apart ∙ ap (λ (all : Files). all name) is.0), is.1)

-- ---- where files were moved to

module _ (disk : Disk) (name other : List ℕ) (free : NotMovedTo disk.pending other) where
  pub free_write : (bytes : List ℕ) → NotMovedTo (after_write disk name bytes).pending other
  free_write bytes = by_file (disk.names name)
    where
      by_file : (was : Option File) → NotMovedTo (cond (is_some was) disk.pending (Made name ∷ disk.pending)) other
      by_file None = free
      by_file (Some file) = free

-- ---- synced files

-- each file is synced
abbrev pub AllSynced : Names → Type 0
AllSynced names = (name : List ℕ) → IfSome (names name) (λ (file : File). IsSynced file.loose)

pub all_synced_update : (names : Names) (name : List ℕ) (file : Option File) → AllSynced names → IfSome file (λ (f : File). IsSynced f.loose) → AllSynced (update bytes_eq names name file)
all_synced_update names name file all here other = elim (same_name name other) [
  | inl same ↦ subst (λ (f : Option File). IfSome f (λ (g : File). IsSynced g.loose)) (sym (ap (update bytes_eq names name file) same ∙ update_here names name file)) here
  | inr apart ↦ subst (λ (f : Option File). IfSome f (λ (g : File). IsSynced g.loose)) (sym (update_apart names name file other apart)) (all other)
]
