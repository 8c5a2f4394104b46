-- The files of the slots, listed by name.
use Rattle.std.proofs.Common.{◌≡◌, ◌||◌, ℕ, ◌+◌, ◌<◌, List, [], ◌∷◌, ◌++◌, Option, Some, None, Bool, true, false, String, length, get_or, drop, string_bytes, cond, refl, sym, ◌∙◌, ap, append_assoc}
use Rattle.std.proofs.lemmas.List.{drop_more}
use Rattle.std.proofs.lemmas.Map.Text.{is_eq-slice_cmp}
use Rattle.std.proofs.lemmas.Slice.Eq.{bytes_eq-Decides}
use Rattle.std.specs.BTreeMap.{BTreeMap, is_at, keys}
use Rattle.std.specs.Cmp.Lexicographic.{slice_cmp}
use Rattle.std.specs.Map.{keys_of, lookup}
use Rattle.std.specs.Ordering.{nat_cmp}
use Rattle.std.specs.declared.alloc.Global.{Global}
use Rattle.std.specs.List.{list_any}
use Rattle.std.specs.Option.{option_or}
use Rattle.std.specs.Str.{bytes_eq}
use Rattle.acfg_device.specs.Panel.{Files}
use Rattle.acfg_memdev.specs.Cut.{filled_from}
use Rattle.acfg_device.specs.Disk.{in_ranges}
use Rattle.acfg_device.specs.Disk as disk
use Rattle.acfg_memdev.specs.History.{given}
use Rattle.acfg_memdev.specs.Slots.{names_of, slot_of}
use Rattle.acfg_memdev.specs.declared.file.File.{File}

-- ---- bytes

pub filled_more : (ranges : List (ℕ × ℕ)) (fill : ℕ) (bytes left more all : List ℕ) (place : ℕ) (byte : ℕ) → place < length bytes
    → byte ≡ cond (in_ranges ranges place) fill (get_or bytes place 0) → more ≡ left ++ byte ∷ []
    → left ++ filled_from ranges fill place (drop place bytes) ≡ all → more ++ filled_from ranges fill (place + 1) (drop (place + 1) bytes) ≡ all
filled_more ranges fill bytes left more all place byte low is pushed so_far =
    ap (λ (list : List ℕ). list ++ filled_from ranges fill (place + 1) (drop (place + 1) bytes)) pushed
    ∙ append_assoc left (byte ∷ []) (filled_from ranges fill (place + 1) (drop (place + 1) bytes))
    ∙ ap (λ (b : ℕ). left ++ b ∷ filled_from ranges fill (place + 1) (drop (place + 1) bytes)) is
    ∙ sym (ap (λ (rest : List ℕ). left ++ filled_from ranges fill place rest) (drop_more bytes place 0 low))
    ∙ so_far

-- ---- files

-- one of the names that are still to come
abbrev pub among : List (String Global) → List ℕ → Bool
among names name = list_any (λ (key : String Global). bytes_eq name (string_bytes key)) names

-- what is listed so far, and else what is to come
abbrev pub listed_so_far : Files → List (List ℕ × List ℕ) → List (String Global) → Files
listed_so_far all listed rest name = option_or (given listed name) (cond (among rest name) (all name) None)

given-push : (listed : List (List ℕ × List ℕ)) (entry : List ℕ × List ℕ) (name : List ℕ) → given (listed ++ entry ∷ []) name ≡ option_or (given listed name) (cond (bytes_eq name entry.0) (Some entry.1) None)
given-push [] entry name = refl
given-push (first ∷ listed) entry name = by_test (bytes_eq name first.0) (given-push listed entry name)
  where
    by_test : (same : Bool) → given (listed ++ entry ∷ []) name ≡ option_or (given listed name) (cond (bytes_eq name entry.0) (Some entry.1) None)
        → cond same (Some first.1) (given (listed ++ entry ∷ []) name) ≡ option_or (cond same (Some first.1) (given listed name)) (cond (bytes_eq name entry.0) (Some entry.1) None)
    by_test true later = refl
    by_test false later = later

-- a file was listed
pub more_listed : (all : Files) (listed more : List (List ℕ × List ℕ)) (key : List ℕ) (head : String Global) (bytes : List ℕ) (names rest : List (String Global))
    → names ≡ head ∷ rest → key ≡ string_bytes head → Some bytes ≡ all key → more ≡ listed ++ (key, bytes) ∷ []
    → (name : List ℕ) → listed_so_far all listed names name ≡ listed_so_far all more rest name
more_listed all listed more key head bytes names rest split named there pushed name =
    ap (λ (list : List (String Global)). listed_so_far all listed list name) split
    ∙ ap (λ (k : List ℕ). option_or (given listed name) (cond (bytes_eq name k || among rest name) (all name) None)) (sym named)
    ∙ by_listed (given listed name)
    ∙ sym (ap (λ (o : Option (List ℕ)). option_or o (cond (among rest name) (all name) None)) (ap (λ (l : List (List ℕ × List ℕ)). given l name) pushed ∙ given-push listed (key, bytes) name))
  where
    here : (same : Bool) → bytes_eq name key ≡ same → cond (same || among rest name) (all name) None ≡ option_or (cond same (Some bytes) None) (cond (among rest name) (all name) None)
    here true is = ap all ((bytes_eq-Decides name key).0 is) ∙ sym there
    here false is = refl

    by_listed : (found : Option (List ℕ)) → option_or found (cond (bytes_eq name key || among rest name) (all name) None) ≡ option_or (option_or found (cond (bytes_eq name key) (Some bytes) None)) (cond (among rest name) (all name) None)
    by_listed (Some x) = refl
    by_listed None = here (bytes_eq name key) refl

-- before the first
pub none_listed : (slots : BTreeMap (String Global) (Option File)) (show : Option disk.File → Option (List ℕ)) (names : List (String Global)) (listed : List (List ℕ × List ℕ)) → show None ≡ None → names ≡ keys slots → listed ≡ []
    → (name : List ℕ) → show (names_of slots name) ≡ listed_so_far (λ other. show (names_of slots other)) listed names name
none_listed slots show names listed nothing is empty name =
    by_test (among names name) refl ∙ sym (ap (λ (l : List (List ℕ × List ℕ)). listed_so_far (λ other. show (names_of slots other)) l names name) empty)
  where
    absent : (entries : List (String Global × Option File)) → among (keys_of entries) name ≡ false → lookup (is_at (λ (key : String Global). slice_cmp nat_cmp name (string_bytes key))) entries ≡ None
    absent [] none = refl
    absent (entry ∷ entries) none =
        let apart : bytes_eq name (string_bytes entry.0) ≡ false = or_left (bytes_eq name (string_bytes entry.0)) (among (keys_of entries) name) none in
        let later : among (keys_of entries) name ≡ false = or_right (bytes_eq name (string_bytes entry.0)) (among (keys_of entries) name) none in
        ap (λ (same : Bool). cond same (Some entry.1) (lookup (is_at (λ (key : String Global). slice_cmp nat_cmp name (string_bytes key))) entries)) (is_eq-slice_cmp name (string_bytes entry.0) ∙ apart) ∙ absent entries later
      where
        or_left : (a b : Bool) → (a || b) ≡ false → a ≡ false
        or_left true b none = none
        or_left false b none = refl

        or_right : (a b : Bool) → (a || b) ≡ false → b ≡ false
        or_right true b none = cc
        or_right false b none = none

    by_test : (has : Bool) → among names name ≡ has → show (names_of slots name) ≡ cond has (show (names_of slots name)) None
    by_test true has = refl
    by_test false has = ap (λ (slot : Option (Option File)). show (slot_of slot)) (absent slots.entries (ap (λ (list : List (String Global)). among list name) (sym is) ∙ has)) ∙ nothing
