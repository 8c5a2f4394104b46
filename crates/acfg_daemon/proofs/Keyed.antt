-- The words of a request on a flag, once its key was read.
use Rattle.std.proofs.Common.{◌≡◌, ℕ, List, [], ◌∷◌, length, map, get_or, Option, None, Some, ap, subst, arith, Bor}
use Rattle.std.specs.Option.{SomeIff}
use Rattle.acfg_base.specs.Names.{IsContainer, IsPackage, IsName}
use Rattle.acfg_daemon.specs.declared.requests.Key.{Key}

abbrev none : Bor (List ℕ)
none = record { ref_ptr = (0, 0); now = [] }

abbrev word_at : List (Bor (List ℕ)) → ℕ → List ℕ
word_at words i = (get_or words i none).now

abbrev bytes : List (Bor (List ℕ)) → List (List ℕ)
bytes = map (λ word. word.now)

abbrev pub AreLawful : Key → Type 0
AreLawful key = IsContainer key.container × IsPackage key.package × IsName key.flag

-- the first three words are those of the key, which is lawful
pub record IsRead (words : List (Bor (List ℕ))) (key : Key) : Type 0 where
  pub lawful : AreLawful key
  pub container : word_at words 0 ≡ key.container
  pub «package» : word_at words 1 ≡ key.package
  pub flag : word_at words 2 ≡ key.flag

pub key_read : (words : List (Bor (List ℕ))) (found : Option Key) (key : Key) → found ≡ Some key
    → SomeIff found (IsContainer (word_at words 0) × IsPackage (word_at words 1) × IsName (word_at words 2)) (record { container = word_at words 0; «package» = word_at words 1; flag = word_at words 2 })
    → IsRead words key
key_read words None key e is = cc
key_read words (Some read) key e is =
    let made : Key = record { container = word_at words 0; «package» = word_at words 1; flag = word_at words 2 } in
    let same : made ≡ key = cc in
    record {
      lawful = subst AreLawful same is.0;
      container = ap (λ (k : Key). k.container) same;
      «package» = ap (λ (k : Key). k.package) same;
      flag = ap (λ (k : Key). k.flag) same;
    }

pub three_words : (words : List (Bor (List ℕ))) (key : Key) → length words ≡ 3 → IsRead words key → bytes words ≡ key.container ∷ key.package ∷ key.flag ∷ []
three_words [] key count is = absurd (omega arith)
three_words (a ∷ []) key count is = absurd (omega arith)
three_words (a ∷ b ∷ []) key count is = absurd (omega arith)
three_words (a ∷ b ∷ c ∷ []) key count is = λ j. is.container j ∷ is.package j ∷ is.flag j ∷ []
three_words (a ∷ b ∷ c ∷ d ∷ words) key count is = absurd (omega arith)

pub four_words : (words : List (Bor (List ℕ))) (key : Key) (last : List ℕ) → length words ≡ 4 → IsRead words key → word_at words 3 ≡ last → bytes words ≡ key.container ∷ key.package ∷ key.flag ∷ last ∷ []
four_words [] key last count is end = absurd (omega arith)
four_words (a ∷ []) key last count is end = absurd (omega arith)
four_words (a ∷ b ∷ []) key last count is end = absurd (omega arith)
four_words (a ∷ b ∷ c ∷ []) key last count is end = absurd (omega arith)
four_words (a ∷ b ∷ c ∷ d ∷ []) key last count is end = λ j. is.container j ∷ is.package j ∷ is.flag j ∷ end j ∷ []
four_words (a ∷ b ∷ c ∷ d ∷ e ∷ words) key last count is end = absurd (omega arith)
