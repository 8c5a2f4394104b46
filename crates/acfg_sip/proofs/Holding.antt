-- How a hasher follows a message as it grows.
use Rattle.std.proofs.Common.{◌≡◌, ℕ, zero, suc, ◌+◌, ◌-◌, ◌*◌, ◌/◌, ◌%◌, ◌^◌, ◌<◌, ◌≤◌, List, [], ◌∷◌, ◌++◌, length, take, drop, get_or, refl, sym, ap, subst, ◌∙◌, arith, length-append, lit≤, lit<}
use Rattle.std.proofs.lemmas.List.{take-append-drop, length-take-le, length-drop, get_or-append-add}
use Rattle.std.proofs.lemmas.Grind.{fold-append}
use Rattle.std.proofs.Math.Nat.{pow-le-pow_right}
use Rattle.std.specs.Int.{w64, from_le_bytes}
use Rattle.acfg_sip.specs.SipHash.{State, compressed, partial_group, whole_words}
use Rattle.acfg_sip.specs.Hasher.{Holds}
use Rattle.acfg_sip.specs.Word.{IsWordOf}
use Rattle.acfg_sip.specs.declared.hasher.Hasher.{Hasher}
use Rattle.acfg_sip.proofs.Words.{length-partial_group, whole_words-short_more, partial_group-short_more, whole_words-fill, partial_group-fill, whole_words-short, partial_group-short}
use Rattle.acfg_sip.proofs.Numbers.{number, read_number, number_joined, number_below, shifted_whole, shifted_front, shifted_back}

-- the length in the highest byte, beside seven bytes at most
pub length_fits : (p n : ℕ) → p < 2 ^ (n % 8 * 8) → n < 256 → p + (n * 2 ^ 56) % 2 ^ 64 < 2 ^ 64
length_fits p n below small =
    let last : n % 8 * 8 ≤ 56 = omega arith in
    let most : 2 ^ (n % 8 * 8) ≤ 2 ^ 56 = pow-le-pow_right (lit≤ tt) last in
    omega arith

-- a few bytes read behind others
read_joined : (front back : List ℕ) → length front + length back ≤ 8
    → from_le_bytes w64 (front ++ back) ≡ from_le_bytes w64 front + from_le_bytes w64 back * 2 ^ (length front * 8)
read_joined front back few =
    read_number (front ++ back) (rw length-append few) ∙ number_joined front back
    ∙ ap (λ n. n + number back * 2 ^ (length front * 8)) (sym (read_number front (omega arith)))
    ∙ ap (λ n. from_le_bytes w64 front + n * 2 ^ (length front * 8)) (sym (read_number back (omega arith)))

-- bytes that leave the hasher short of a word
pub Holds_short : {c d : ℕ} (start : State) (old new : Hasher c d) (m bytes : List ℕ) (count word : ℕ) → IsWordOf bytes count word → Holds start old m
    → word < 2 ^ (count * 8) → old.count % 8 + count < 8
    → new.state ≡ old.state → new.partial ≡ old.partial + (word * 2 ^ (old.count % 8 * 8)) % 2 ^ 64 → new.count ≡ (old.count + count) % 256
    → Holds start new (m ++ bytes)
Holds_short start old new m bytes count word is held below short state partial long =
    let n : length m % 256 ≡ old.count = sym held.count in
    let k : length (partial_group m) ≡ old.count % 8 = length-partial_group m ∙ omega arith in
    let room : length (partial_group m) + length bytes < 8 = omega (arith, is.long) in
    record {
      state = rw (whole_words-short_more m bytes room) (state ∙ held.state);
      partial = rw (partial_group-short_more m bytes room, read_joined (partial_group m) bytes (omega arith), k, ← held.partial, ← is.value, ← shifted_whole (old.count % 8) count word below (omega arith)) partial;
      count = rw (length-append, is.long) (omega arith);
    }

bounded_one : (byte : ℕ) → byte < 256 → (place : ℕ) → get_or (byte ∷ []) place 0 < 256
bounded_one byte small zero = small
bounded_one byte small (suc place) = lit< tt

-- the front and the back of bytes
pub bounded_front : (k : ℕ) (bytes : List ℕ) → ((place : ℕ) → get_or bytes place 0 < 256) → (place : ℕ) → get_or (take k bytes) place 0 < 256
bounded_front zero bytes bounded place = lit< tt
bounded_front (suc k) [] bounded place = lit< tt
bounded_front (suc k) (byte ∷ bytes) bounded zero = bounded 0
bounded_front (suc k) (byte ∷ bytes) bounded (suc place) = bounded_front k bytes (λ place. bounded (suc place)) place

pub bounded_back : (front back bytes : List ℕ) → front ++ back ≡ bytes → ((place : ℕ) → get_or bytes place 0 < 256) → (place : ℕ) → get_or back place 0 < 256
bounded_back front back bytes joined bounded place =
    subst (λ n. n < 256) (sym (ap (λ bytes. get_or bytes (length front + place) 0) joined) ∙ get_or-append-add front back place 0) (bounded (length front + place))

one_number : (byte : ℕ) → from_le_bytes w64 (byte ∷ []) ≡ byte
one_number byte = omega arith

-- a byte as a word
pub one_byte : (byte word : ℕ) → byte < 256 → word ≡ byte → IsWordOf (byte ∷ []) 1 word
one_byte byte word small is = record { long = refl; bounded = bounded_one byte small; value = is ∙ sym (one_number byte) }

-- the bytes of a word are less than the next one is worth
pub word_below : (bytes : List ℕ) (count word : ℕ) → count ≤ 8 → IsWordOf bytes count word → word < 2 ^ (count * 8)
word_below bytes count word few is =
    subst (λ n. word < 2 ^ (n * 8)) is.long (subst (λ n. n < 2 ^ (length bytes * 8)) (sym (is.value ∙ read_number bytes (omega (arith, is.long)))) (number_below bytes is.bounded))

-- what a word of bytes becomes behind `held` others: its front joins them, and its back is left
record Parts (held word : ℕ) (front back : List ℕ) : Type 0 where
  fills : (word * 2 ^ (held * 8)) % 2 ^ 64 ≡ from_le_bytes w64 front * 2 ^ (held * 8)
  left : word / 2 ^ ((8 - held) * 8) ≡ from_le_bytes w64 back

parts_of : (held word : ℕ) (front back : List ℕ) → held ≤ 8 → length front ≡ 8 - held → length back ≤ 8 → ((place : ℕ) → get_or front place 0 < 256)
    → word ≡ number (front ++ back) → Parts held word front back
parts_of held word front back few long short bounded is =
    let low : number front < 2 ^ ((8 - held) * 8) = subst (λ n. number front < 2 ^ (n * 8)) long (number_below front bounded) in
    let cut : word ≡ number front + number back * 2 ^ ((8 - held) * 8) =
    is ∙ number_joined front back ∙ ap (λ n. number front + number back * 2 ^ (n * 8)) long in
    record {
      fills = ap (λ n. (n * 2 ^ (held * 8)) % 2 ^ 64) cut ∙ shifted_front held (number front) (number back) few low
          ∙ ap (λ n. n * 2 ^ (held * 8)) (sym (read_number front (omega arith)));
      left = ap (λ n. n / 2 ^ ((8 - held) * 8)) cut ∙ shifted_back held (number front) (number back) low ∙ sym (read_number back short);
    }

-- bytes whose front fills a word: it is compressed, and their back is held
filled : {c d : ℕ} (start : State) (old new : Hasher c d) (m front back : List ℕ) (word : ℕ) → Parts (old.count % 8) word front back → Holds start old m
    → length front ≡ 8 - old.count % 8 → length back < 8
    → new.state ≡ compressed c old.state (old.partial + (word * 2 ^ (old.count % 8 * 8)) % 2 ^ 64)
    → new.partial ≡ word / 2 ^ ((8 - old.count % 8) * 8) → new.count ≡ (old.count + (length front + length back)) % 256
    → Holds start new (m ++ (front ++ back))
filled {c} start old new m front back word parts held long short state partial count =
    let n : length m % 256 ≡ old.count = sym held.count in
    let k : length (partial_group m) ≡ old.count % 8 = length-partial_group m ∙ omega arith in
    let full : length (partial_group m) + length front ≡ 8 = omega arith in
    let joined : from_le_bytes w64 (partial_group m ++ front) ≡ old.partial + (word * 2 ^ (old.count % 8 * 8)) % 2 ^ 64 =
    rw (read_joined (partial_group m) front (omega arith), k, ← held.partial, parts.fills) refl in
    record {
      state = rw (whole_words-fill m front back full, whole_words-short back short, fold-append (compressed c) start (whole_words m) (from_le_bytes w64 (partial_group m ++ front) ∷ []), joined, ← held.state) state;
      partial = rw (partial_group-fill m front back full, partial_group-short back short) (partial ∙ parts.left);
      count = simp length-append (omega arith);
    }

pub Holds_full : {c d : ℕ} (start : State) (old new : Hasher c d) (m bytes : List ℕ) (count word : ℕ) → IsWordOf bytes count word → Holds start old m
    → count ≤ 8 → 8 ≤ old.count % 8 + count
    → new.state ≡ compressed c old.state (old.partial + (word * 2 ^ (old.count % 8 * 8)) % 2 ^ 64)
    → new.partial ≡ word / 2 ^ ((8 - old.count % 8) * 8) → new.count ≡ (old.count + count) % 256
    → Holds start new (m ++ bytes)
Holds_full start old new m bytes count word is held few many state partial long =
    let room : ℕ = 8 - old.count % 8 in
    let front : length (take room bytes) ≡ room = length-take-le room bytes (omega (arith, is.long)) in
    let back : length (drop room bytes) < 8 = omega (arith, is.long, length-drop room bytes) in
    let joined : take room bytes ++ drop room bytes ≡ bytes = take-append-drop room bytes in
    let counted : length (take room bytes) + length (drop room bytes) ≡ count = omega (arith, is.long, length-drop room bytes) in
    let number : word ≡ number (take room bytes ++ drop room bytes) = is.value ∙ read_number bytes (omega (arith, is.long)) ∙ ap number (sym joined) in
    let parts = parts_of (old.count % 8) word (take room bytes) (drop room bytes) (omega arith) front (omega arith) (bounded_front room bytes is.bounded) number in
    subst (λ bytes. Holds start new (m ++ bytes)) joined
    (filled start old new m (take room bytes) (drop room bytes) word parts held front back state partial (long ∙ ap (λ n. (old.count + n) % 256) (sym counted)))
