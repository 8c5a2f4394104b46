-- Files of a container's parts, written one after another: what each part has then, and that all other names stay.
use Rattle.std.proofs.Common.{◌≡◌, ◌⊎◌, ℕ, List, [], ◌∷◌, map, get_or, Some, string_bytes, inl, inr, refl, sym, ap, ◌∙◌, subst, arith}
use Rattle.std.specs.Prelude.{All, ⊤}
use Rattle.std.specs.Map.{update}
use Rattle.std.specs.Str.{bytes_eq}
use Rattle.std.proofs.lemmas.List.{get_or-map, length-map}
use Rattle.std.proofs.lemmas.List.Elements.{All-cons, All-contains, All-map, All-nil}
use Rattle.acfg_device.specs.Panel.{Files}
use Rattle.acfg_device.proofs.Naming.{update_apart, update_here}
use Rattle.acfg_commit.specs.Written.{IsNameAmong, written}
use Rattle.acfg_commit.specs.declared.several.NewFile.{NewFile}
use Rattle.acfg_store.specs.declared.names.Part.{Part}
use Rattle.acfg_store.specs.Names.{path}
use Rattle.acfg_store.specs.Updated.{AreParts, named, pair_of}
use Rattle.acfg_store.proofs.Apart.{path_part}

-- files written by their names
abbrev pub written_pairs : List (List ℕ × List ℕ) → Files → Files
written_pairs [] first = first
written_pairs (pair ∷ pairs) first = written_pairs pairs (update bytes_eq first pair.0 (Some pair.1))

pub pairs_written : (files : List NewFile) (first : Files) → written files first ≡ written_pairs (map pair_of files) first
pairs_written [] first = refl
pairs_written (file ∷ files) first = pairs_written files (update bytes_eq first (string_bytes file.name) (Some file.bytes.items))

-- none of the parts is this one
abbrev pub Avoids : Part → List (Part × List ℕ) → Type 0
Avoids part [] = ⊤
Avoids part (one ∷ rest) = (part ≡ one.0 → ⊥) × Avoids part rest

-- a part with bytes is among them, and no later one is the same part
abbrev pub IsLast : Part → List ℕ → List (Part × List ℕ) → Type 0
IsLast part bytes [] = ⊥
IsLast part bytes (one ∷ rest) = ((part ≡ one.0) × (bytes ≡ one.1) × Avoids part rest) ⊎ IsLast part bytes rest

-- what is so of each part
abbrev pub IsEach : (Part → Type 0) → List (Part × List ℕ) → Type 0
IsEach Is [] = ⊤
IsEach Is (one ∷ rest) = Is one.0 × IsEach Is rest

pub each_all : (Is : Part → Type 0) (parts : List (Part × List ℕ)) → IsEach Is parts → All (λ (one : Part × List ℕ). Is one.0) parts
each_all Is [] each = All-nil (λ (one : Part × List ℕ). Is one.0)
each_all Is (one ∷ rest) each = All-cons (λ (one : Part × List ℕ). Is one.0) one rest each.0 (each_all Is rest each.1)

module _ (dir name : List ℕ) where
  pub avoided : (part : Part) (parts : List (Part × List ℕ)) (first : Files) → Avoids part parts → written_pairs (map (named dir name) parts) first (path dir name part) ≡ first (path dir name part)
  avoided part [] first apart = refl
  avoided part (one ∷ rest) first apart =
      avoided part rest (update bytes_eq first (path dir name one.0) (Some one.1)) apart.1
      ∙ update_apart first (path dir name one.0) (Some one.1) (path dir name part) (λ same. apart.0 (path_part dir dir name name part one.0 same))

  -- the last of a part's files counts
  pub last_written : (part : Part) (bytes : List ℕ) (parts : List (Part × List ℕ)) (first : Files) → IsLast part bytes parts → written_pairs (map (named dir name) parts) first (path dir name part) ≡ Some bytes
  last_written part bytes [] first last = absurd last
  last_written part bytes (one ∷ rest) first (inl here) =
      avoided part rest (update bytes_eq first (path dir name one.0) (Some one.1)) here.2
      ∙ ap (λ (p : Part). update bytes_eq first (path dir name one.0) (Some one.1) (path dir name p)) here.0
      ∙ update_here first (path dir name one.0) (Some one.1) ∙ ap (λ (b : List ℕ). Some b) (sym here.1)
  last_written part bytes (one ∷ rest) first (inr later) = last_written part bytes rest (update bytes_eq first (path dir name one.0) (Some one.1)) later

  -- a name is that of one of the parts
  abbrev pub IsPartName : (Part → Type 0) → List ℕ → Type 0
  IsPartName Is other = (part : Part) × Is part × (other ≡ path dir name part)

  pub part_among : (Is : Part → Type 0) (parts : List (Part × List ℕ)) → All (λ (one : Part × List ℕ). Is one.0) parts → (files : List NewFile) → AreParts dir name parts files
      → (other : List ℕ) → IsNameAmong files other → IsPartName Is other
  part_among Is parts all files are other among =
      subst (IsPartName Is) (sym among.2) (All-contains (λ (file : NewFile). IsPartName Is (string_bytes file.name)) files among.0 each among.1)
    where
      pairs : All (λ (pair : List ℕ × List ℕ). IsPartName Is pair.0) (map (named dir name) parts)
      pairs = All-map (λ (pair : List ℕ × List ℕ). IsPartName Is pair.0) (named dir name) parts (λ k d within. ((get_or parts k d).0, all k d within, refl))

      each : All (λ (file : NewFile). IsPartName Is (string_bytes file.name)) files
      each k d within =
          subst (λ (pair : List ℕ × List ℕ). IsPartName Is pair.0) (get_or-map pair_of files k d (pair_of d) within)
          ((subst (All (λ (pair : List ℕ × List ℕ). IsPartName Is pair.0)) (sym are) pairs) k (pair_of d) (omega (arith, within, length-map files pair_of)))
