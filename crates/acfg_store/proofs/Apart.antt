-- The names of a directory's files are apart: of two of them that are one, the parts and the containers are one too.
--
-- Read backwards no ending begins another one, so a name's end tells its part, whatever stands before it.
use Rattle.std.proofs.Common.{◌≡◌, ℕ, zero, suc, ◌<◌, Bool, true, false, not, ◌||◌, ◌&&◌, eqb, List, [], ◌∷◌, ◌++◌, length, map, get_or, refl, sym, ap, ◌∙◌, subst, append_assoc, arith, lit<, inl, inr}
use Rattle.std.proofs.lemmas.Bool.{cases_lt}
use Rattle.std.proofs.lemmas.Bool.Decides.{nat_tests}
use Rattle.std.proofs.lemmas.List.{get_or-map, append_cancel_left, append_cancel_right}
use Rattle.acfg_images.specs.declared.fault.FileType.{FileType}
use Rattle.acfg_images.specs.declared.fault.FileType.TheVariants as image
use Rattle.acfg_store.specs.declared.names.OverrideFile.TheVariants as override
use Rattle.acfg_store.specs.declared.names.Part.{Part}
use Rattle.acfg_store.specs.declared.names.Part.TheVariants.{Records, NewRecords, Release, Override, Pointer, NewPointer, Boot}
use Rattle.acfg_store.specs.declared.names.Slot.TheVariants.{Zero, One}
use Rattle.acfg_store.specs.Names.{ending, path, slash, source_path, image_name}

-- ---- texts that differ where both have a byte

abbrev parted : List ℕ → List ℕ → Bool
parted [] ys = false
parted (x ∷ xs) [] = false
parted (x ∷ xs) (y ∷ ys) = not (eqb x y) || parted xs ys

parted_apart : (p q a b : List ℕ) → parted p q ≡ true → p ++ a ≡ q ++ b → ⊥
parted_apart [] q a b e same = cc
parted_apart (x ∷ xs) [] a b e same = cc
parted_apart (x ∷ xs) (y ∷ ys) a b e same =
    parted_apart xs ys a b (subst (λ (t : Bool). not t || parted xs ys ≡ true) (equal x y cc) e) cc
  where
    equal : (x y : ℕ) → x ≡ y → eqb x y ≡ true
    equal x y same = grind (arith, nat_tests)

-- a text is parted from each of these
abbrev all_parted_from : List ℕ → List (List ℕ) → Bool
all_parted_from p [] = true
all_parted_from p (q ∷ qs) = parted p q && all_parted_from p qs

-- each two of these texts are parted
abbrev all_parted : List (List ℕ) → Bool
all_parted [] = true
all_parted (p ∷ ps) = all_parted_from p ps && all_parted ps

both : (a b : Bool) → a && b ≡ true → (a ≡ true) × (b ≡ true)
both true b e = (refl, e)
both false b e = absurd cc

parted_from : (p : List ℕ) (qs : List (List ℕ)) → all_parted_from p qs ≡ true → (k : ℕ) → k < length qs → parted p (get_or qs k []) ≡ true
parted_from p [] e k lt = absurd (omega arith)
parted_from p (q ∷ qs) e zero lt = (both (parted p q) (all_parted_from p qs) e).0
parted_from p (q ∷ qs) e (suc k) lt = parted_from p qs (both (parted p q) (all_parted_from p qs) e).1 k (omega arith)

parted_at : (ps : List (List ℕ)) → all_parted ps ≡ true → (i j : ℕ) → i < j → j < length ps → parted (get_or ps i []) (get_or ps j []) ≡ true
parted_at [] e i j lt within = absurd (omega arith)
parted_at (p ∷ ps) e i zero lt within = absurd (omega arith)
parted_at (p ∷ ps) e zero (suc j) lt within = parted_from p ps (both (all_parted_from p ps) (all_parted ps) e).0 j (omega arith)
parted_at (p ∷ ps) e (suc i) (suc j) lt within = parted_at ps (both (all_parted_from p ps) (all_parted ps) e).1 i j (omega arith) (omega arith)

-- ---- texts backwards

-- a text backwards, and another one behind it
abbrev turned : List ℕ → List ℕ → List ℕ
turned [] behind = behind
turned (x ∷ xs) behind = turned xs (x ∷ behind)

turned-append : (xs ys behind : List ℕ) → turned (xs ++ ys) behind ≡ turned ys (turned xs behind)
turned-append [] ys behind = refl
turned-append (x ∷ xs) ys behind = turned-append xs ys (x ∷ behind)

turned_onto : (xs front behind : List ℕ) → turned xs (front ++ behind) ≡ turned xs front ++ behind
turned_onto [] front behind = refl
turned_onto (x ∷ xs) front behind = turned_onto xs (x ∷ front) behind

-- a text's end, backwards, begins the text backwards
ends_first : (before end : List ℕ) → (rest : List ℕ) × (turned (before ++ end) [] ≡ turned end [] ++ rest)
ends_first before end = (turned before [], turned-append before end [] ∙ turned_onto end [] (turned before []))

-- texts whose ends are parted backwards differ
ends_apart : (a b p q : List ℕ) → parted (turned p []) (turned q []) ≡ true → a ++ p ≡ b ++ q → ⊥
ends_apart a b p q apart same =
    let f = ends_first a p in
    let g = ends_first b q in
    parted_apart (turned p []) (turned q []) f.0 g.0 apart (sym f.1 ∙ ap (λ (t : List ℕ). turned t []) same ∙ g.1)

-- ---- the parts, by number

abbrev all_parts : List Part
all_parts =
    Records ∷
    NewRecords ∷
    Pointer ∷
    NewPointer ∷
    Release Zero image.PackageMap ∷
    Release Zero image.FlagMap ∷
    Release Zero image.FlagVal ∷
    Release Zero image.FlagInfo ∷
    Release One image.PackageMap ∷
    Release One image.FlagMap ∷
    Release One image.FlagVal ∷
    Release One image.FlagInfo ∷
    Override Zero override.FlagVal ∷
    Override Zero override.FlagInfo ∷
    Override Zero override.Local ∷
    Override Zero override.Log ∷
    Override One override.FlagVal ∷
    Override One override.FlagInfo ∷
    Override One override.Local ∷
    Override One override.Log ∷
    Boot Zero image.PackageMap ∷
    Boot Zero image.FlagMap ∷
    Boot Zero image.FlagVal ∷
    Boot Zero image.FlagInfo ∷
    Boot One image.PackageMap ∷
    Boot One image.FlagMap ∷
    Boot One image.FlagVal ∷
    Boot One image.FlagInfo ∷ []

abbrev back : Part → List ℕ
back part = turned (ending part) []

parts_are_parted : all_parted (map back all_parts) ≡ true
parts_are_parted = refl

abbrev number : Part → ℕ
number Records = 0
number NewRecords = 1
number Pointer = 2
number NewPointer = 3
number (Release Zero image.PackageMap) = 4
number (Release Zero image.FlagMap) = 5
number (Release Zero image.FlagVal) = 6
number (Release Zero image.FlagInfo) = 7
number (Release One image.PackageMap) = 8
number (Release One image.FlagMap) = 9
number (Release One image.FlagVal) = 10
number (Release One image.FlagInfo) = 11
number (Override Zero override.FlagVal) = 12
number (Override Zero override.FlagInfo) = 13
number (Override Zero override.Local) = 14
number (Override Zero override.Log) = 15
number (Override One override.FlagVal) = 16
number (Override One override.FlagInfo) = 17
number (Override One override.Local) = 18
number (Override One override.Log) = 19
number (Boot Zero image.PackageMap) = 20
number (Boot Zero image.FlagMap) = 21
number (Boot Zero image.FlagVal) = 22
number (Boot Zero image.FlagInfo) = 23
number (Boot One image.PackageMap) = 24
number (Boot One image.FlagMap) = 25
number (Boot One image.FlagVal) = 26
number (Boot One image.FlagInfo) = 27

numbered : (part : Part) → (number part < 28) × (get_or all_parts (number part) Records ≡ part)
numbered Records = (lit< tt, refl)
numbered NewRecords = (lit< tt, refl)
numbered Pointer = (lit< tt, refl)
numbered NewPointer = (lit< tt, refl)
numbered (Release Zero image.PackageMap) = (lit< tt, refl)
numbered (Release Zero image.FlagMap) = (lit< tt, refl)
numbered (Release Zero image.FlagVal) = (lit< tt, refl)
numbered (Release Zero image.FlagInfo) = (lit< tt, refl)
numbered (Release One image.PackageMap) = (lit< tt, refl)
numbered (Release One image.FlagMap) = (lit< tt, refl)
numbered (Release One image.FlagVal) = (lit< tt, refl)
numbered (Release One image.FlagInfo) = (lit< tt, refl)
numbered (Override Zero override.FlagVal) = (lit< tt, refl)
numbered (Override Zero override.FlagInfo) = (lit< tt, refl)
numbered (Override Zero override.Local) = (lit< tt, refl)
numbered (Override Zero override.Log) = (lit< tt, refl)
numbered (Override One override.FlagVal) = (lit< tt, refl)
numbered (Override One override.FlagInfo) = (lit< tt, refl)
numbered (Override One override.Local) = (lit< tt, refl)
numbered (Override One override.Log) = (lit< tt, refl)
numbered (Boot Zero image.PackageMap) = (lit< tt, refl)
numbered (Boot Zero image.FlagMap) = (lit< tt, refl)
numbered (Boot Zero image.FlagVal) = (lit< tt, refl)
numbered (Boot Zero image.FlagInfo) = (lit< tt, refl)
numbered (Boot One image.PackageMap) = (lit< tt, refl)
numbered (Boot One image.FlagMap) = (lit< tt, refl)
numbered (Boot One image.FlagVal) = (lit< tt, refl)
numbered (Boot One image.FlagInfo) = (lit< tt, refl)

-- ---- names

-- the number of a name's part
back_at : (part : Part) → get_or (map back all_parts) (number part) [] ≡ back part
back_at part =
    let n = numbered part in
    get_or-map back all_parts (number part) Records [] n.0 ∙ ap back n.1

parts_apart : (a b : List ℕ) (k l : Part) → number k < number l → a ++ ending k ≡ b ++ ending l → ⊥
parts_apart a b k l lt same =
    ends_apart a b (ending k) (ending l) (subst (λ (p : List ℕ). parted p (back l) ≡ true) (back_at k)
    (subst (λ (p : List ℕ). parted (get_or (map back all_parts) (number k) []) p ≡ true) (back_at l)
    (parted_at (map back all_parts) parts_are_parted (number k) (number l) lt (numbered l).0))) same

-- names with other ends are other names
pub ends_tell : (a b : List ℕ) (k l : Part) → a ++ ending k ≡ b ++ ending l → k ≡ l
ends_tell a b k l same =
    elim (cases_lt (number k) (number l)) [
      | inl lt ↦ absurd (parts_apart a b k l lt same)
      | inr le ↦ elim (cases_lt (number l) (number k)) [
        | inl lt ↦ absurd (parts_apart b a l k lt (sym same))
        | inr ge ↦
            let n : number k ≡ number l = omega arith in
            sym (numbered k).1 ∙ ap (λ (i : ℕ). get_or all_parts i Records) n ∙ (numbered l).1
      ]
    ]

pub path-is : (dir container : List ℕ) (part : Part) → path dir container part ≡ (dir ++ slash ∷ container) ++ ending part
unfolding path
path-is dir container part = sym (append_assoc dir (slash ∷ container) (ending part))

-- of two names that are one the parts are one, whatever the directories and the containers
pub path_part : (dir other container another : List ℕ) (k l : Part) → path dir container k ≡ path other another l → k ≡ l
path_part dir other container another k l same =
    ends_tell (dir ++ slash ∷ container) (other ++ slash ∷ another) k l (sym (path-is dir container k) ∙ same ∙ path-is other another l)

-- within a directory, of two names of one part that are one the containers are one
pub path_container : (dir container another : List ℕ) (part : Part) → path dir container part ≡ path dir another part → container ≡ another
path_container dir container another part same =
    let e = sym (path-is dir container part) ∙ same ∙ path-is dir another part in
    let f = append_cancel_left dir (slash ∷ container) (slash ∷ another) (append_cancel_right (dir ++ slash ∷ container) (dir ++ slash ∷ another) (ending part) e) in
    cc

source_parted : (file : FileType) → all_parted_from (turned (slash ∷ image_name file) []) (map back all_parts) ≡ true
source_parted image.PackageMap = refl
source_parted image.FlagMap = refl
source_parted image.FlagVal = refl
source_parted image.FlagInfo = refl

-- no name of a directory is that of a storage file in any folder
pub source_apart : (folder dir container : List ℕ) (file : FileType) (part : Part) → source_path folder file ≡ path dir container part → ⊥
unfolding source_path
source_apart folder dir container file part same =
    ends_apart folder (dir ++ slash ∷ container) (slash ∷ image_name file) (ending part)
    (subst (λ (p : List ℕ). parted (turned (slash ∷ image_name file) []) p ≡ true) (back_at part)
    (parted_from (turned (slash ∷ image_name file) []) (map back all_parts) (source_parted file) (number part) (numbered part).0))
    (same ∙ path-is dir container part)
