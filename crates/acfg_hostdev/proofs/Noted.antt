-- A folder that is found among those that were noted, and those that stay where one more is noted.
use Rattle.std.proofs.Common.{◌≡◌, ◌<◌, ◌++◌, ℕ, List, [], ◌∷◌, String, Contains, true, length, get_or, map, string_bytes, sym, ◌∙◌, ap, subst}
use Rattle.std.proofs.lemmas.List.{get_or-map, length-map, map-append}
use Rattle.std.proofs.lemmas.List.Elements.{Contains-append_left}
use Rattle.std.proofs.lemmas.Slice.Eq.{bytes_eq-Decides}
use Rattle.std.specs.Str.{bytes_eq}
use Rattle.acfg_hostdev.specs.Folder.{AllStay}
use Rattle.std.specs.declared.alloc.Global.{Global}

pub found : (names : List (String Global)) (index : ℕ) (item : String Global) (text name : List ℕ) → index < length names → item ≡ get_or names index item → text ≡ string_bytes item
    → bytes_eq text name ≡ true → Contains (map string_bytes names) name
found names index item text name low is named same = (
  index,
  subst (λ (n : ℕ). index < n) (sym (length-map names string_bytes)) low,
  get_or-map string_bytes names index item name low ∙ ap string_bytes (sym is) ∙ sym named ∙ (bytes_eq-Decides text name).0 same,
)

pub kept_pushed : (before after : List (String Global)) (item : String Global) → after ≡ before ++ item ∷ [] → AllStay (map string_bytes before) (map string_bytes after)
kept_pushed before after item is name has = subst (λ (names : List (List ℕ)). Contains names name) (sym (ap (map string_bytes) is ∙ map-append string_bytes before (item ∷ [])))
    (Contains-append_left (map string_bytes before) (string_bytes item ∷ []) name has)
