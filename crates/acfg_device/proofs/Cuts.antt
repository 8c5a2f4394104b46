-- What a cut may leave of a disk: which files, as the names, the bytes and the pending name changes are. Use
-- `settled_leaves` and `told_now` for a device's laws and for what a settled one leaves, and the rest for a
-- lemma on a call that has none yet. Of a settled disk a cut leaves what is told:
--     (settled_leaves disk files said settled leaves).0 : files ≡ told disk
use Rattle.std.proofs.Common.{◌≡◌, ◌≢◌, inl, inr, ⊎_elim, ℕ, List, [], ◌∷◌, Option, Some, None, IfSome, refl, sym, ◌∙◌, ap, subst}
use Rattle.std.proofs.lemmas.List.{ext_get_or}
use Rattle.std.specs.Map.{update}
use Rattle.std.specs.Option.{option_map}
use Rattle.std.specs.Str.{bytes_eq}
use Rattle.acfg_device.specs.Panel.{Files}
use Rattle.acfg_device.specs.Disk.{Loose, Within, Replaced, File, Names, Change, Made, Moved, Removed, Disk, told, undone, MayHold, MayStand, KeepsNames, KeepsSome, MayLeave, IsSynced, IsSettled}
use Rattle.acfg_device.specs.Left.{NotMovedTo}
use Rattle.acfg_device.proofs.Naming.{same_name, functions, update_here, update_apart}

-- ---- the bytes of one file

-- a cut may leave the bytes that a file has
pub own_bytes : (loose : Loose) (bytes : List ℕ) → MayHold loose bytes bytes
own_bytes (Within ranges) bytes = record { length = refl; outside = λ place out. refl }
own_bytes Replaced bytes = tt

-- of a synced file nothing else
pub synced_bytes : (loose : Loose) (bytes left : List ℕ) → IsSynced loose → MayHold loose bytes left → left ≡ bytes
synced_bytes (Within ranges) bytes left synced holds = ext_get_or 0 left bytes holds.length (λ place low. holds.outside place (synced place))
synced_bytes Replaced bytes left synced holds = absurd synced

pub own_file : (file : Option File) → MayStand file (option_map (λ (f : File). f.bytes) file)
own_file None = refl
own_file (Some file) = own_bytes file.loose file.bytes

pub synced_file : (file : Option File) (left : Option (List ℕ)) → IfSome file (λ (f : File). IsSynced f.loose) → MayStand file left → left ≡ option_map (λ (f : File). f.bytes) file
synced_file None left synced stands = stands
synced_file (Some file) None synced stands = absurd stands
synced_file (Some file) (Some left) synced stands = ap Some (synced_bytes file.loose file.bytes left synced stands)

-- ---- the whole disk

pub keeps_all : (pending : List Change) (names : Names) (files : Files) → KeepsNames names files → KeepsSome pending names files
keeps_all [] names files keeps = keeps
keeps_all (newest ∷ older) names files keeps = inl keeps

-- what a device tells now, a cut now may leave
pub told_now : (disk : Disk) → MayLeave disk (told disk) disk.said
told_now disk = record {
  under = keeps_all disk.pending disk.names (told disk) (λ name. own_file (disk.names name));
  words = refl;
}

-- a settled device leaves what it tells, and nothing else
pub settled_leaves : (disk : Disk) (files : Files) (said : List ℕ) → IsSettled disk → MayLeave disk files said → (files ≡ told disk) × (said ≡ disk.said)
settled_leaves disk files said settled leaves =
    let keeps : KeepsNames disk.names files = subst (λ (pending : List Change). KeepsSome pending disk.names files) settled.kept leaves.under in
    (functions files (told disk) (λ name. synced_file (disk.names name) (files name) (settled.synced name) (keeps name)), leaves.words)

-- ---- tighter files, of which a cut leaves less

abbrev pub Tighter : Names → Names → Type 0
Tighter tight wide = (name : List ℕ) (left : Option (List ℕ)) → MayStand (tight name) left → MayStand (wide name) left

tighter_update : (tight wide : Names) (name : List ℕ) (a b : Option File) → Tighter tight wide → ((left : Option (List ℕ)) → MayStand a left → MayStand b left)
    → Tighter (update bytes_eq tight name a) (update bytes_eq wide name b)
tighter_update tight wide name a b tighter here other left stands = elim (same_name name other) [
  | inl same ↦
      let at : MayStand a left = subst (λ (f : Option File). MayStand f left) (ap (update bytes_eq tight name a) same ∙ update_here tight name a) stands in
      subst (λ (f : Option File). MayStand f left) (sym (ap (update bytes_eq wide name b) same ∙ update_here wide name b)) (here left at)
  | inr apart ↦
      let at : MayStand (tight other) left = subst (λ (f : Option File). MayStand f left) (update_apart tight name a other apart) stands in
      subst (λ (f : Option File). MayStand f left) (sym (update_apart wide name b other apart)) (tighter other left at)
]

tighter_undone : (change : Change) (tight wide : Names) → Tighter tight wide → Tighter (undone change tight) (undone change wide)
tighter_undone (Made name) tight wide tighter = tighter_update tight wide name None None tighter (λ left stands. stands)
tighter_undone (Moved from to lost) tight wide tighter =
    tighter_update (update bytes_eq tight from (tight to)) (update bytes_eq wide from (wide to)) to lost lost (tighter_update tight wide from (tight to) (wide to) tighter (tighter to)) (λ left stands. stands)
tighter_undone (Removed name file) tight wide tighter = tighter_update tight wide name (Some file) (Some file) tighter (λ left stands. stands)

pub keeps_tighter : (pending : List Change) (tight wide : Names) (files : Files) → Tighter tight wide → KeepsSome pending tight files → KeepsSome pending wide files
keeps_tighter [] tight wide files tighter keeps = λ name. tighter name (files name) (keeps name)
keeps_tighter (newest ∷ older) tight wide files tighter keeps =
    ⊎_elim (λ now. inl (λ (name : List ℕ). tighter name (files name) (now name))) (λ then. inr (keeps_tighter older (undone newest tight) (undone newest wide) files (tighter_undone newest tight wide tighter) then)) keeps

-- ---- another file under one name

-- the same but for one name
abbrev pub SameButOne : {X : Type 0} → List ℕ → (List ℕ → Option X) → (List ℕ → Option X) → Type 0
SameButOne name before after = (other : List ℕ) → other ≢ name → after other ≡ before other

but_update : {X : Type 0} (name at : List ℕ) (before after : List ℕ → Option X) (value : Option X) → SameButOne name before after → SameButOne name (update bytes_eq before at value) (update bytes_eq after at value)
but_update name at before after value same other apart = elim (same_name at other) [
  | inl here ↦ ap (update bytes_eq after at value) here ∙ update_here after at value ∙ sym (ap (update bytes_eq before at value) here ∙ update_here before at value)
  | inr there ↦ update_apart after at value other there ∙ same other apart ∙ sym (update_apart before at value other there)
]

but_undone : (name : List ℕ) (change : Change) (older : List Change) (before after : Names) → NotMovedTo (change ∷ older) name → SameButOne name before after → SameButOne name (undone change before) (undone change after)
but_undone name (Made made) older before after free same = but_update name made before after None same
but_undone name (Moved from to lost) older before after free same =
    let moved : SameButOne name (update bytes_eq before from (before to)) (update bytes_eq after from (before to)) = but_update name from before after (before to) same in
    let same_file : after to ≡ before to = same to free.0 in
    but_update name to (update bytes_eq before from (before to)) (update bytes_eq after from (after to)) lost (subst (λ (file : Option File). SameButOne name (update bytes_eq before from (before to)) (update bytes_eq after from file)) (sym same_file) moved)
but_undone name (Removed removed file) older before after free same = but_update name removed before after (Some file) same

free_older : (name : List ℕ) (change : Change) (older : List Change) → NotMovedTo (change ∷ older) name → NotMovedTo older name
free_older name (Made made) older free = free
free_older name (Moved from to lost) older free = free.1
free_older name (Removed removed file) older free = free

-- What a cut keeps of the names is files that it might have kept before, but for the one name.
pub keeps_names_but : (name : List ℕ) (before after : Names) (files : Files) → SameButOne name before after → KeepsNames after files
    → (others : Files) × KeepsNames before others × SameButOne name others files
keeps_names_but name before after files same keeps = (update bytes_eq files name own, each, λ other apart. sym (update_apart files name own other apart))
  where
    own : Option (List ℕ)
    own = option_map (λ (f : File). f.bytes) (before name)

    each : KeepsNames before (update bytes_eq files name own)
    each other = elim (same_name name other) [
      | inl here ↦
          let at : MayStand (before name) (update bytes_eq files name own name) = subst (λ (left : Option (List ℕ)). MayStand (before name) left) (sym (update_here files name own)) (own_file (before name)) in
          subst (λ (n : List ℕ). MayStand (before n) (update bytes_eq files name own n)) (sym here) at
      | inr there ↦
          let at : MayStand (before other) (files other) = subst (λ (file : Option File). MayStand file (files other)) (same other there) (keeps other) in
          subst (λ (left : Option (List ℕ)). MayStand (before other) left) (sym (update_apart files name own other there)) at
    ]

pub keeps_some_but : (name : List ℕ) (pending : List Change) (before after : Names) (files : Files) → NotMovedTo pending name → SameButOne name before after → KeepsSome pending after files
    → (others : Files) × KeepsSome pending before others × SameButOne name others files
keeps_some_but name [] before after files free same keeps = keeps_names_but name before after files same keeps
keeps_some_but name (newest ∷ older) before after files free same keeps = elim keeps [
  | inl now ↦ let some = keeps_names_but name before after files same now in (some.0, inl some.1, some.2)
  | inr then ↦
      let some = keeps_some_but name older (undone newest before) (undone newest after) files (free_older name newest older free) (but_undone name newest older before after free same) then in
      (some.0, inr some.1, some.2)
]
