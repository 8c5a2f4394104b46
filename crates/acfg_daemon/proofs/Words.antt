-- The words of a request, cut apart and joined.
use Rattle.std.proofs.Common.{◌≡◌, ◌≢◌, ℕ, ◌+◌, ◌<◌, Bool, true, false, List, [], ◌∷◌, length, get_or, codes, refl, sym, ◌∙◌, ap, subst, inl, inr, arith, lit<, All, not, ◌⊎◌, Option, None, Some}
use Rattle.std.specs.List.{join_with_byte, slice_split, AllByRecursion, list_all, position_or_len, after_first}
use Rattle.std.specs.Str.{IsUtf8}
use Rattle.std.proofs.lemmas.List.Splits.{slice_split_none, slice_split_at, join_with_byte-slice_split}
use Rattle.std.proofs.lemmas.Str.{IsUtf8-nil, IsUtf8-append, IsUtf8-from_ascii, IsUtf8-drop, IsCharBoundary-after_ascii}
use Rattle.std.proofs.lemmas.Str.Ascii.{IsAscii-from_reads, IsAscii-from_all, IsAscii-cons, IsAscii-nil}
use Rattle.std.proofs.lemmas.List.{get_or_default}
use Rattle.std.proofs.lemmas.List.Sums.{AllPass-from_list_all, fails_before_first, passes_at_first}
use Rattle.std.proofs.lemmas.Bool.{ne_eqb, eqb-true}
use borrow.Author.Tests.{ltb-true}
use lib.Dec.{eqb, ltb}
use Rattle.acfg_base.specs.Found.{Finds}
use Rattle.acfg_base.specs.Names.{AreNames, IsNameByte, dot}
use Rattle.acfg_model.specs.declared.requests.Request.{Request}
use Rattle.acfg_model.specs.declared.requests.Request.TheVariants.{Update, Server, Local, Unset, Boot, Get}
use Rattle.acfg_daemon.specs.declared.requests.Verb.{Verb}
use Rattle.acfg_daemon.specs.declared.requests.Verb.TheVariants as verb
use Rattle.acfg_base.specs.Bytes.{space}
use Rattle.acfg_base.specs.Paths.{IsPathInLine}
use Rattle.acfg_base.specs.Words.{bool_word}
use Rattle.acfg_daemon.specs.Requests.{local_word, unset_word, words_of, spelling, IsLawful, AreWords, Spells}
use Rattle.acfg_daemon.specs.Bodies.{verb_word}

-- the first word is a verb's
first_is_verb : (first : List ℕ) (rest : List (List ℕ)) (request : Request) → AreWords (first ∷ rest) request → (verb : Verb) × (first ≡ verb_word verb)
first_is_verb first rest (Update name dir) asked = (verb.Update, cc asked.same)
first_is_verb first rest (Server name «package» flag value) asked = (verb.Server, cc asked.same)
first_is_verb first rest (Local name «package» flag value now) asked = (verb.Local now, cc asked.same)
first_is_verb first rest (Unset name «package» flag now) asked = (verb.Unset now, cc asked.same)
first_is_verb first rest Boot asked = (verb.Boot, cc asked.same)
first_is_verb first rest (Get name «package» flag) asked = (verb.Get, cc asked.same)

pub first_verb : (words : List (List ℕ)) → 0 < length words → (request : Request) → AreWords words request → (verb : Verb) × (get_or words 0 [] ≡ verb_word verb)
first_verb [] some request asked = absurd (omega arith)
first_verb (first ∷ rest) some request asked = first_is_verb first rest request asked

-- a word holds no space, and is text
pub record IsWord (word : List ℕ) : Type 0 where
  pub whole : All (λ byte. eqb byte space ≡ false) word
  pub text : IsUtf8 word

not_true : (b : Bool) → not b ≡ true → b ≡ false
not_true true h = cc
not_true false h = refl

-- a word of the code's own
own_word : (word : List ℕ) → list_all (λ byte. not (eqb byte space)) word ≡ true → list_all (λ byte. ltb byte 128) word ≡ true → IsWord word
own_word word whole text = record {
  whole = λ k d within. not_true _ (AllPass-from_list_all (λ byte. not (eqb byte space)) word whole k d within);
  text = IsUtf8-from_ascii word (IsAscii-from_all word (λ k d within. ltb-true _ _ (AllPass-from_list_all (λ byte. ltb byte 128) word text k d within)));
}

name_byte : (byte : ℕ) → (IsNameByte byte ⊎ (byte ≡ dot)) → (byte ≢ space) × (byte < 128)
name_byte byte is = elim is [
  | inl named ↦ elim named [
    | inl letter ↦ (λ e. absurd (omega arith), omega arith)
    | inr more ↦ elim more [ inl digit ↦ (λ e. absurd (omega arith), omega arith) | inr line ↦ (λ e. absurd (omega arith), omega arith) ]
  ]
  | inr point ↦ (λ e. absurd (omega arith), omega arith)
]

pub names_word : (text : List ℕ) → AreNames text → IsWord text
names_word text names = record {
  whole = λ k d within. ne_eqb _ _ (λ e. (name_byte _ (names.bytes k within)).0 (get_or_default text k 0 d within ∙ e));
  text = IsUtf8-from_ascii text (IsAscii-from_reads text (length text) (omega arith) (λ k below. (name_byte _ (names.bytes k below)).1));
}

directory_word : (path : List ℕ) → IsPathInLine path → IsWord path
directory_word path is = record { whole = λ k d within. ne_eqb _ _ (λ e. is.whole (k, within, get_or_default path k space d within ∙ e)); text = is.path.utf8 }

value_is_word : (value : Bool) → IsWord (bool_word value)
value_is_word true = own_word (codes "true") refl refl
value_is_word false = own_word (codes "false") refl refl

local_is_word : (now : Bool) → IsWord (local_word now)
local_is_word true = own_word (codes "local-now") refl refl
local_is_word false = own_word (codes "local") refl refl

unset_is_word : (now : Bool) → IsWord (unset_word now)
unset_is_word true = own_word (codes "unset-now") refl refl
unset_is_word false = own_word (codes "unset") refl refl

-- the words of a lawful request are words
pub words_are_words : (request : Request) → IsLawful request → AllByRecursion IsWord (words_of request)
words_are_words (Update name dir) lawful = (own_word (codes "update") refl refl, (names_word name lawful.0.names, (directory_word dir lawful.1, tt)))
words_are_words (Server name «package» flag value) lawful = (own_word (codes "server") refl refl, (names_word name lawful.0.names, (names_word «package» lawful.1.names, (names_word flag lawful.2.names, (value_is_word value, tt)))))
words_are_words (Local name «package» flag value now) lawful = (local_is_word now, (names_word name lawful.0.names, (names_word «package» lawful.1.names, (names_word flag lawful.2.names, (value_is_word value, tt)))))
words_are_words (Unset name «package» flag now) lawful = (unset_is_word now, (names_word name lawful.0.names, (names_word «package» lawful.1.names, (names_word flag lawful.2.names, tt))))
words_are_words Boot lawful = (own_word (codes "boot") refl refl, tt)
words_are_words (Get name «package» flag) lawful = (own_word (codes "get") refl refl, (names_word name lawful.0.names, (names_word «package» lawful.1.names, (names_word flag lawful.2.names, tt))))

-- words joined and cut apart again
pub split_join : (first : List ℕ) (rest : List (List ℕ)) → AllByRecursion IsWord (first ∷ rest) → slice_split (λ byte. eqb byte space) (join_with_byte space (first ∷ rest)) ≡ first ∷ rest
split_join first [] words = slice_split_none (λ byte. eqb byte space) first words.0.whole
split_join first (second ∷ rest) words =
    slice_split_at (λ byte. eqb byte space) first space (join_with_byte space (second ∷ rest)) words.0.whole refl
    ∙ ap (λ parts. first ∷ parts) (split_join second rest words.1)

-- joined words are text
pub joined_text : (words : List (List ℕ)) → AllByRecursion IsWord words → IsUtf8 (join_with_byte space words)
joined_text [] words = IsUtf8-nil
joined_text (first ∷ []) words = words.0.text
joined_text (first ∷ second ∷ rest) words = IsUtf8-append first (space ∷ join_with_byte space (second ∷ rest)) words.0.text (IsUtf8-append (space ∷ []) _ (IsUtf8-from_ascii (space ∷ []) (IsAscii-cons space [] (lit< tt) IsAscii-nil)) (joined_text (second ∷ rest) words.1))

-- the words of a lawful request, joined and cut apart again
pub split_spelling : (request : Request) → IsLawful request → slice_split (λ byte. eqb byte space) (spelling request) ≡ words_of request
split_spelling (Update name dir) lawful = split_join _ _ (words_are_words (Update name dir) lawful)
split_spelling (Server name «package» flag value) lawful = split_join _ _ (words_are_words (Server name «package» flag value) lawful)
split_spelling (Local name «package» flag value now) lawful = split_join _ _ (words_are_words (Local name «package» flag value now) lawful)
split_spelling (Unset name «package» flag now) lawful = split_join _ _ (words_are_words (Unset name «package» flag now) lawful)
split_spelling Boot lawful = split_join _ _ (words_are_words Boot lawful)
split_spelling (Get name «package» flag) lawful = split_join _ _ (words_are_words (Get name «package» flag) lawful)

-- what spells a request is text
pub spelled_text : (text : List ℕ) (request : Request) → Spells text request → IsUtf8 text
spelled_text text request spells = subst IsUtf8 (sym spells.spelled) (joined_text (words_of request) (words_are_words request spells.lawful))

-- a text spells a request exactly where its words are that request's
pub words_from_spelled : (text : List ℕ) (request : Request) → Spells text request → AreWords (slice_split (λ byte. eqb byte space) text) request
words_from_spelled text request spells = record { lawful = spells.lawful; same = ap (slice_split (λ byte. eqb byte space)) spells.spelled ∙ split_spelling request spells.lawful }

pub spelled_from_words : (text : List ℕ) (request : Request) → AreWords (slice_split (λ byte. eqb byte space) text) request → Spells text request
spelled_from_words text request words = record { lawful = words.lawful; spelled = sym (join_with_byte-slice_split space text) ∙ ap (join_with_byte space) words.same }

-- what is found for one fact is found for another one that holds of the same values
pub Finds-weaker : {A : Type 0} (P Q : A → Type 0) → ((x : A) → P x → Q x) → ((x : A) → Q x → P x) → (found : Option A) → Finds P found → Finds Q found
Finds-weaker P Q to from None none = λ x holds. none x (from x holds)
Finds-weaker P Q to from (Some x) holds = to x holds

-- ---- cut at the first space

-- where there is none, the text is one word
pub last_word : (text : List ℕ) → position_or_len (λ byte. eqb byte space) text ≡ length text → slice_split (λ byte. eqb byte space) text ≡ text ∷ []
last_word text none = slice_split_none (λ byte. eqb byte space) text (λ k d within. fails_before_first (λ byte. eqb byte space) text k d (subst (λ n. k < n) (sym none) within))

-- what stands behind it is text
pub text_behind : (text : List ℕ) → IsUtf8 text → position_or_len (λ byte. eqb byte space) text < length text → IsUtf8 (after_first (λ byte. eqb byte space) text)
text_behind text is some =
    let place : ℕ = position_or_len (λ byte. eqb byte space) text in
    let found : get_or text place 0 ≡ space = eqb-true (get_or text place 0) space (passes_at_first (λ byte. eqb byte space) text 0 some) in
    IsUtf8-drop text (place + 1) is (IsCharBoundary-after_ascii text place is some (subst (λ byte. byte < 128) (sym found) (lit< tt)))
