-- Names that a directory doesn't use: the second names, the slots that aren't named, and whatever has another name.
use Rattle.std.proofs.Common.{◌≡◌, ℕ, List, [], map, Some, inl, inr, sym, ap, ◌∙◌, subst}
use Rattle.std.specs.Prelude.{Contains}
use Rattle.acfg_base.specs.Places.{AreInOrder, row_at}
use Rattle.acfg_base.proofs.Rows.{AreInOrder-same_keys, row_at-member}
use Rattle.std.proofs.lemmas.Simd.{map-map}
use Rattle.std.specs.Cmp.{tied_itself}
use Rattle.acfg_model.specs.State.{name_cmp}
use Rattle.acfg_model.proofs.Kept.{name_total}
use Rattle.acfg_store.specs.declared.names.Part.{Part}
use Rattle.acfg_store.specs.declared.names.Part.TheVariants.{Records}
use Rattle.acfg_store.specs.Keys.{recorded_name}
use Rattle.acfg_store.specs.Names.{path}
use Rattle.acfg_store.specs.Stands.{Entry, IsUsed, Uses, entry_name, recorded}
use Rattle.acfg_store.proofs.Apart.{path_part, path_container}

-- entries are in order of their names where the list is
pub entries_order : (entries : List Entry) → AreInOrder name_cmp recorded_name (map recorded entries) → AreInOrder name_cmp entry_name entries
entries_order entries order = sym (AreInOrder-same_keys name_total recorded_name entry_name (map recorded entries) entries (map-map recorded_name recorded entries)) ∙ order

some_is : {A : Type 0} (x y : A) → Some x ≡ Some y → x ≡ y
some_is x y e = cc

-- no two entries have one name
pub one_entry : (entries : List Entry) → AreInOrder name_cmp entry_name entries → (e f : Entry) → Contains entries e → Contains entries f → e.name ≡ f.name → e ≡ f
one_entry entries order e f e-in f-in same =
    let at : (x : Entry) → Contains entries x → row_at name_cmp entry_name entries x.name ≡ Some x =
    λ x in_list. row_at-member name_total entry_name entries order x.name x in_list (tied_itself name_total x.name) in
    some_is e f (sym (at e e-in) ∙ ap (row_at name_cmp entry_name entries) same ∙ at f f-in)

-- a part of a container that it doesn't use has a name that the directory doesn't use
pub not_used : (dir : List ℕ) (entries : List Entry) → AreInOrder name_cmp entry_name entries → (entry : Entry) → Contains entries entry → (part : Part)
    → (part ≡ Records → ⊥) → (Uses entry part → ⊥) → IsUsed dir entries (path dir entry.name part) → ⊥
not_used dir entries order entry in_list part not_list free (inl same) = not_list (path_part dir dir entry.name [] part Records same)
not_used dir entries order entry in_list part not_list free (inr other) =
    let parts : part ≡ other.part = path_part dir dir entry.name other.entry.name part other.part other.spelled in
    let names : entry.name ≡ other.entry.name =
    path_container dir entry.name other.entry.name part (other.spelled ∙ ap (path dir other.entry.name) (sym parts)) in
    let entries-same = one_entry entries order entry other.entry in_list other.among names in
    free (subst (λ (e : Entry). Uses e part) (sym entries-same) (subst (Uses other.entry) (sym parts) other.uses))

-- a name of a container that isn't there isn't used
pub new_not_used : (dir : List ℕ) (entries : List Entry) (name : List ℕ) → ((entry : Entry) → Contains entries entry → entry.name ≡ name → ⊥) → (part : Part)
    → (part ≡ Records → ⊥) → IsUsed dir entries (path dir name part) → ⊥
new_not_used dir entries name absent part not_list (inl same) = not_list (path_part dir dir name [] part Records same)
new_not_used dir entries name absent part not_list (inr other) =
    let parts : part ≡ other.part = path_part dir dir name other.entry.name part other.part other.spelled in
    absent other.entry other.among (sym (path_container dir name other.entry.name part (other.spelled ∙ ap (path dir other.entry.name) (sym parts))))
