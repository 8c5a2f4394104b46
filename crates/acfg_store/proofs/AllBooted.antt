-- Containers that are booted one after another: what is told and what a cut leaves on the way.
use Rattle.std.proofs.Common.{◌≡◌, ◌⊎◌, ℕ, zero, suc, ◌+◌, ◌<◌, ◌≤◌, Bool, true, false, List, [], ◌∷◌, map, length, cond, Option, Some, None, Result, Err, option_map, inl, inr, refl, sym, ap, subst, ◌∙◌, arith}
use Rattle.std.specs.FinMap.{get, same_map}
use Rattle.std.specs.Ordering.{eq_by_cmp}
use Rattle.acfg_base.specs.Maps.{map_values}
use Rattle.acfg_base.specs.Places.{row_at}
use Rattle.acfg_base.proofs.Maps.{get-map_values}
use Rattle.acfg_base.proofs.Rows.{get-map_of, row_at-map}
use Rattle.acfg_device.specs.Left.{SameBut}
use Rattle.acfg_device.specs.Only.{OnlyChanges}
use Rattle.acfg_device.specs.Panel.{Files}
use Rattle.acfg_device.specs.declared.panel.Panel.{Ghosts}
use Rattle.acfg_model.specs.declared.requests.Reply.TheVariants.{Fine}
use Rattle.acfg_model.specs.State.{Container, State, name_cmp}
use Rattle.acfg_model.specs.Step.{booted}
use Rattle.acfg_model.proofs.Kept.{name_exact, name_total}
use Rattle.acfg_store.specs.Applied.{IsBetween, IsMade, IsMixedAt, IsOpen, LeavesBetween, persistent, state_in}
use Rattle.acfg_store.specs.BootPlans.{LeavesBooted, booted_at, booted_entry}
use Rattle.acfg_store.specs.Names.{IsOfDirectory}
use Rattle.acfg_store.specs.Stands.{Entry, Stands, entry_name, state_of}
use Rattle.acfg_store.specs.Store.{StoreView}
use Rattle.acfg_store.proofs.Opened.{layout_stands}

-- the containers where so many of the first ones are booted
abbrev pub booted_to : ℕ → List Entry → List Entry
booted_to zero entries = entries
booted_to (suc count) [] = []
booted_to (suc count) (entry ∷ entries) = booted_entry entry ∷ booted_to count entries

abbrev pub all_booted : State → State
all_booted = map_values (λ name. booted)

abbrev container_in : Entry → Container
container_in entry = entry.container

pub length_to : (count : ℕ) (entries : List Entry) → length (booted_to count entries) ≡ length entries
length_to zero entries = refl
length_to (suc count) [] = refl
length_to (suc count) (entry ∷ entries) = ap suc (length_to count entries)

pub one_more : (at : ℕ) (entries : List Entry) → at < length entries → (other : Entry) → booted_at (booted_to at entries) at other ≡ booted_to (suc at) entries
one_more at [] within other = absurd (omega (arith, within))
one_more zero (entry ∷ entries) within other = refl
one_more (suc at) (entry ∷ entries) within other = ap (λ (rest : List Entry). booted_entry entry ∷ rest) (one_more at entries (omega (arith, within)) other)

to_all : (entries : List Entry) → booted_to (length entries) entries ≡ map booted_entry entries
to_all [] = refl
to_all (entry ∷ entries) = ap (λ (rest : List Entry). booted_entry entry ∷ rest) (to_all entries)

-- ---- the states on the way

-- a row behind one more, which is the one that is found or isn't
more_rows : (entry : Entry) (was now : Option Entry) → (found : Bool) → (now ≡ was) ⊎ (now ≡ option_map booted_entry was)
    → (cond found (Some (booted_entry entry)) now ≡ cond found (Some entry) was) ⊎ (cond found (Some (booted_entry entry)) now ≡ option_map booted_entry (cond found (Some entry) was))
more_rows entry was now true rest = inr refl
more_rows entry was now false rest = rest

mixed_row : (count : ℕ) (entries : List Entry) (name : List ℕ)
    → (row_at name_cmp entry_name (booted_to count entries) name ≡ row_at name_cmp entry_name entries name)
    ⊎ (row_at name_cmp entry_name (booted_to count entries) name ≡ option_map booted_entry (row_at name_cmp entry_name entries name))
mixed_row zero entries name = inl refl
mixed_row (suc count) [] name = inl refl
mixed_row (suc count) (entry ∷ entries) name =
    more_rows entry (row_at name_cmp entry_name entries name) (row_at name_cmp entry_name (booted_to count entries) name) (eq_by_cmp name_cmp name entry.name) (mixed_row count entries name)

-- of a container, booted or not
mixed_container : (was now : Option Entry) → (now ≡ was) ⊎ (now ≡ option_map booted_entry was)
    → IsMixedAt (option_map container_in was) (option_map booted (option_map container_in was)) (option_map container_in now)
mixed_container was now (inl same) = subst (λ (now : Option Entry). IsMixedAt (option_map container_in was) (option_map booted (option_map container_in was)) (option_map container_in now)) (sym same)
    (record { same = kept was; boot = inl refl })
  where
    kept : (was : Option Entry) → option_map persistent (option_map container_in was) ≡ option_map persistent (option_map booted (option_map container_in was))
    kept None = refl
    kept (Some entry) = refl
mixed_container None now (inr same) = subst (λ (now : Option Entry). IsMixedAt None None (option_map container_in now)) (sym same) (record { same = refl; boot = inl refl })
mixed_container (Some entry) now (inr same) = subst (λ (now : Option Entry). IsMixedAt (Some entry.container) (Some (booted entry.container)) (option_map container_in now)) (sym same)
    (record { same = refl; boot = inr refl })

mixed_to : (count : ℕ) (entries : List Entry) (name : List ℕ) → IsMixedAt (get (state_of entries) name) (get (all_booted (state_of entries)) name) (get (state_of (booted_to count entries)) name)
mixed_to count entries name =
    let found : (rows : List Entry) → get (state_of rows) name ≡ option_map container_in (row_at name_cmp entry_name rows name) = λ rows. get-map_of name_total entry_name container_in rows name in
    let new : get (all_booted (state_of entries)) name ≡ option_map booted (option_map container_in (row_at name_cmp entry_name entries name)) =
    get-map_values name_total name_exact (λ name. booted) (state_of entries) name ∙ ap (option_map booted) (found entries) in
    subst (λ (t : Option Container × (Option Container × Option Container)). IsMixedAt t.0 t.1.0 t.1.1)
    (λ i. (sym (found entries) i, (sym new i, sym (found (booted_to count entries)) i)))
    (mixed_container (row_at name_cmp entry_name entries name) (row_at name_cmp entry_name (booted_to count entries) name) (mixed_row count entries name))

pub between_to : (count : ℕ) (entries : List Entry) → IsBetween (state_of entries) (all_booted (state_of entries)) (state_of (booted_to count entries))
between_to count entries = inr (mixed_to count entries)

state_all : (entries : List Entry) → state_of (map booted_entry entries) ≡ all_booted (state_of entries)
state_all entries = same_map name_total name_exact _ _ (λ name.
    get-map_of name_total entry_name container_in (map booted_entry entries) name ∙ ap (option_map container_in) (row_at-map name_total entry_name booted_entry entries name)
    ∙ at (row_at name_cmp entry_name entries name)
    ∙ ap (option_map booted) (sym (get-map_of name_total entry_name container_in entries name)) ∙ sym (get-map_values name_total name_exact (λ name. booted) (state_of entries) name))
  where
    at : (row : Option Entry) → option_map container_in (option_map booted_entry row) ≡ option_map booted (option_map container_in row)
    at None = refl
    at (Some entry) = refl

state_booted : (entries : List Entry) → state_of (booted_to (length entries) entries) ≡ all_booted (state_of entries)
state_booted entries = ap state_of (to_all entries) ∙ state_all entries

-- ---- the directory on the way

-- a store so far, over the files and the words at the start
pub record IsBootedTo (first : Files) (spoken : List ℕ) (store : StoreView) (count : ℕ) (now : StoreView) (files : Files) (said : List ℕ) : Type 0 where
  pub dir : now.dir ≡ store.dir
  pub entries : now.entries ≡ booted_to count store.entries
  pub others : SameBut (IsOfDirectory store.dir) first files
  pub words : said ≡ spoken

some_entry : (entries : List Entry) (at : ℕ) → at < length entries → Entry
some_entry [] at within = absurd (omega (arith, within))
some_entry (entry ∷ entries) at within = entry

-- the files of a store so far stand for a state between
pub between_so_far : (first : Files) (spoken : List ℕ) (store : StoreView) (count : ℕ) (now : StoreView) (files : Files) (said : List ℕ) → IsBootedTo first spoken store count now files said → IsOpen files now
    → LeavesBetween first spoken store (all_booted (state_in store)) files said
between_so_far first spoken store count now files said is opened = record {
  words = is.words;
  state = state_of now.entries;
  is_one = subst (λ (entries : List Entry). IsBetween (state_in store) (all_booted (state_in store)) (state_of entries)) (sym is.entries) (between_to count store.entries);
  stands = subst (λ (dir : List ℕ). Stands files dir (state_of now.entries)) is.dir (layout_stands files now.dir now.entries opened.layout);
  others = is.others;
}

-- and so does what a cut leaves of the next boot
pub between_next : (first : Files) (spoken : List ℕ) (store : StoreView) (at : ℕ) → at < length store.entries → (now : StoreView) (files : Files) (said : List ℕ) → IsBootedTo first spoken store at now files said
    → (left : Files) (words : List ℕ) → LeavesBooted files said now at left words → LeavesBetween first spoken store (all_booted (state_in store)) left words
between_next first spoken store at within now files said is left words leaves =
    let other : Entry = some_entry store.entries at within in
    let booting = leaves other in
    record {
      words = booting.words ∙ is.words;
      state = booting.state;
      is_one = one other booting.state booting.is_one;
      stands = subst (λ (dir : List ℕ). Stands left dir booting.state) is.dir booting.stands;
      others = λ name foreign. booting.others name (λ own. foreign (subst (λ (dir : List ℕ). IsOfDirectory dir name) is.dir own)) ∙ is.others name foreign;
    }
  where
    one : (other : Entry) (state : State) → (state ≡ state_of now.entries) ⊎ (state ≡ state_of (booted_at now.entries at other)) → IsBetween (state_in store) (all_booted (state_in store)) state
    one other state (inl same) = subst (IsBetween (state_in store) (all_booted (state_in store))) (sym (same ∙ ap state_of is.entries)) (between_to at store.entries)
    one other state (inr same) = subst (IsBetween (state_in store) (all_booted (state_in store)))
        (sym (same ∙ ap (λ (entries : List Entry). state_of (booted_at entries at other)) is.entries ∙ ap state_of (one_more at store.entries within other))) (between_to (suc at) store.entries)

-- the next one is booted
pub booted_next : (first : Files) (spoken : List ℕ) (store : StoreView) (at : ℕ) → at < length store.entries → (now : StoreView) (files : Files) (said : List ℕ) → IsBootedTo first spoken store at now files said
    → (made : StoreView) (later : Files) (words : List ℕ) → made.dir ≡ now.dir → ((other : Entry) → made.entries ≡ booted_at now.entries at other) → SameBut (IsOfDirectory now.dir) files later → words ≡ said
    → IsBootedTo first spoken store (at + 1) made later words
booted_next first spoken store at within now files said is made later words dir entries others same =
    let other : Entry = some_entry store.entries at within in
    let more : suc at ≡ at + 1 = omega arith in
    record {
      dir = dir ∙ is.dir;
      entries = entries other ∙ ap (λ (es : List Entry). booted_at es at other) is.entries ∙ one_more at store.entries within other ∙ ap (λ (count : ℕ). booted_to count store.entries) more;
      others = λ name foreign. others name (λ own. foreign (subst (λ (dir : List ℕ). IsOfDirectory dir name) is.dir own)) ∙ is.others name foreign;
      words = same ∙ is.words;
    }

-- all are booted
pub booted_all : (first : Files) (spoken : List ℕ) (store : StoreView) (at count : ℕ) (now : StoreView) (files : Files) (said : List ℕ) → IsBootedTo first spoken store at now files said
    → at ≤ count → count ≤ at → count ≡ length store.entries → IsMade store (all_booted (state_in store), Fine) now Fine
booted_all first spoken store at count now files said is low last all =
    let end : at ≡ length store.entries = omega (arith, low, last, all) in
    record {
      dir = is.dir;
      is = ap (λ (state : State). (state, Fine)) (sym (ap state_of (is.entries ∙ ap (λ (count : ℕ). booted_to count store.entries) end) ∙ state_booted store.entries));
    }

-- what changed is of the directory, by either of two names for it
pub changes_in : {P : Type 0} {panel : Ghosts P} {first second : P} {fails : Type 0} (dir other : List ℕ) → dir ≡ other → OnlyChanges panel (IsOfDirectory dir) first second fails
    → OnlyChanges panel (IsOfDirectory other) first second fails
changes_in {P} {panel} {first} {second} {fails} dir other same changes = subst (λ (d : List ℕ). OnlyChanges panel (IsOfDirectory d) first second fails) same changes

-- a place of the list is one of the list so far
pub place_so_far : (entries : List Entry) (count : ℕ) (now : List Entry) (at : ℕ) → now ≡ booted_to count entries → at < length entries → at < length now
place_so_far entries count now at is within = let len = ap length is ∙ length_to count entries in omega (arith, len, within)

-- a fault of one call is that of another
pub same_fault : {A B E : Type 0} (x y : E) → ◌≡◌ {A = Result A E} (Err x) (Err y) → ◌≡◌ {A = Result B E} (Err x) (Err y)
same_fault {A} {B} {E} x y same = let is : x ≡ y = cc in ap (λ (e : E). Err e) is
