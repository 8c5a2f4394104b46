-- Slots are filled with files, one after another; a name that has a file already is passed over.
use Rattle.std.proofs.Common.{◌≡◌, ◌≢◌, inl, inr, ℕ, ◌+◌, ◌<◌, length, get_or, String, Vec, string_bytes, List, [], ◌∷◌, Option, Some, None, is_some, true, false, map, drop, refl, sym, ◌∙◌, ap}
use Rattle.std.proofs.lemmas.Bool.{cases_Bool}
use Rattle.std.proofs.lemmas.List.{drop_more}
use Rattle.std.proofs.lemmas.Slice.Eq.{bytes_eq-Decides}
use Rattle.std.specs.declared.alloc.Global.{Global}
use Rattle.std.specs.Map.{update}
use Rattle.std.specs.Option.{option_map, option_or}
use Rattle.std.specs.Str.{bytes_eq}
use Rattle.acfg_device.specs.Disk as disk
use Rattle.acfg_device.proofs.Naming.{same_name, update_apart, update_here}
use Rattle.acfg_memdev.specs.History.{given, settled_file}
use Rattle.acfg_memdev.specs.Kept.{entry_of}

-- the files that are to be there
abbrev pub wanted : List (List ℕ × List ℕ) → disk.Names
wanted entries name = option_map settled_file (given entries name)

wanted_here : (entry : List ℕ × List ℕ) (rest : List (List ℕ × List ℕ)) → wanted (entry ∷ rest) entry.0 ≡ Some (settled_file entry.1)
wanted_here entry rest = rw ((bytes_eq-Decides entry.0 entry.0).1 refl) refl

wanted_apart : (entry : List ℕ × List ℕ) (rest : List (List ℕ × List ℕ)) (name : List ℕ) → name ≢ entry.0 → wanted (entry ∷ rest) name ≡ wanted rest name
wanted_apart entry rest name apart = elim (cases_Bool (bytes_eq name entry.0)) [
  | inl same ↦ absurd (apart ((bytes_eq-Decides name entry.0).0 same))
  | inr differs ↦ rw differs refl
]

-- what is there, and else what is still to come
abbrev pub so_far : disk.Names → List (List ℕ × List ℕ) → disk.Names
so_far names rest name = option_or (names name) (wanted rest name)

pub passed_over : (names : disk.Names) (entry : List ℕ × List ℕ) (rest : List (List ℕ × List ℕ)) → is_some (names entry.0) ≡ true → (name : List ℕ) → so_far names (entry ∷ rest) name ≡ so_far names rest name
passed_over names entry rest there name = by_file (names name) refl
  where
    by_file : (file : Option disk.File) → names name ≡ file → option_or file (wanted (entry ∷ rest) name) ≡ option_or file (wanted rest name)
    by_file (Some file) is = refl
    by_file None is = wanted_apart entry rest name (λ same. let none : is_some (names entry.0) ≡ false = ap (λ (n : List ℕ). is_some (names n)) (sym same) ∙ ap is_some is in cc)

pub put_in : (names after : disk.Names) (entry : List ℕ × List ℕ) (rest : List (List ℕ × List ℕ)) → is_some (names entry.0) ≡ false → after ≡ update bytes_eq names entry.0 (Some (settled_file entry.1)) → (name : List ℕ)
    → so_far names (entry ∷ rest) name ≡ so_far after rest name
put_in names after entry rest absent is name = elim (same_name entry.0 name) [
  | inl same ↦ ap (so_far names (entry ∷ rest)) same ∙ here (names entry.0) absent ∙ sym (ap (so_far after rest) same ∙ ap (λ (file : Option disk.File). option_or file (wanted rest entry.0)) (ap (λ (n : disk.Names). n entry.0) is ∙ update_here names entry.0 (Some (settled_file entry.1))))
  | inr apart ↦ ap (option_or (names name)) (wanted_apart entry rest name apart) ∙ sym (ap (λ (file : Option disk.File). option_or file (wanted rest name)) (ap (λ (n : disk.Names). n name) is ∙ update_apart names entry.0 (Some (settled_file entry.1)) name apart))
]
  where
    here : (file : Option disk.File) → is_some file ≡ false → option_or file (wanted (entry ∷ rest) entry.0) ≡ Some (settled_file entry.1)
    here None none = wanted_here entry rest
    here (Some file) none = cc

pub turn : (files : List (String Global × Vec ℕ Global)) (index : ℕ) (item : String Global × Vec ℕ Global) (names after : disk.Names) (called bytes : List ℕ)
    → index < length files → item ≡ get_or files index item → called ≡ string_bytes item.0 → bytes ≡ item.1.items
    → (is_some (names called) ≡ true → after ≡ names) → (is_some (names called) ≡ false → after ≡ update bytes_eq names called (Some (settled_file bytes)))
    → (name : List ℕ) → so_far names (map entry_of (drop index files)) name ≡ so_far after (map entry_of (drop (index + 1) files)) name
turn files index item names after called bytes low is named held there absent name =
    ap (λ (rest : List (List ℕ × List ℕ)). so_far names rest name) split ∙ elim (cases_Bool (is_some (names called))) [
      | inl has ↦ passed_over names (called, bytes) rest has name ∙ ap (λ (n : disk.Names). so_far n rest name) (sym (there has))
      | inr lacks ↦ put_in names after (called, bytes) rest lacks (absent lacks) name
    ]
  where
    rest : List (List ℕ × List ℕ)
    rest = map entry_of (drop (index + 1) files)

    split : map entry_of (drop index files) ≡ (called, bytes) ∷ map entry_of (drop (index + 1) files)
    split = ap (map entry_of) (drop_more files index item low) ∙ ap (λ (entry : String Global × Vec ℕ Global). entry_of entry ∷ map entry_of (drop (index + 1) files)) (sym is)
        ∙ (λ i. (sym named i, sym held i) ∷ map entry_of (drop (index + 1) files))
