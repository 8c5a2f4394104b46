-- SipHash-C-D as a function on lists of bytes. The steps and their names are those of the paper:
-- Aumasson and Bernstein, "SipHash: a fast short-input PRF" (2012), section 2.
-- A word is a number below 2 ^ 64, and a list of bytes reads as a word with its first byte lowest.
use Rattle.std.specs.Prelude.{ℕ, zero, suc, ◌+◌, ◌*◌, ◌%◌, ◌^◌, List, [], ◌∷◌, ◌++◌, length, fold, bit_xor}
use Rattle.std.specs.Int.{w64, rotate_left, from_le_bytes}

-- the internal state: four words
pub record State : Type 0 where
  pub v0 : ℕ
  pub v1 : ℕ
  pub v2 : ℕ
  pub v3 : ℕ

-- ---- the message as words

-- the whole groups of eight bytes, each as a word
unfoldable pub whole_words : List ℕ → List ℕ
whole_words (b0 ∷ b1 ∷ b2 ∷ b3 ∷ b4 ∷ b5 ∷ b6 ∷ b7 ∷ bytes) =
    from_le_bytes w64 (b0 ∷ b1 ∷ b2 ∷ b3 ∷ b4 ∷ b5 ∷ b6 ∷ b7 ∷ []) ∷ whole_words bytes
whole_words _ = []

-- the bytes behind the last whole group: seven at most
unfoldable pub partial_group : List ℕ → List ℕ
partial_group (b0 ∷ b1 ∷ b2 ∷ b3 ∷ b4 ∷ b5 ∷ b6 ∷ b7 ∷ bytes) = partial_group bytes
partial_group bytes = bytes

-- the last word: these bytes from the low end (`from_le_bytes` takes a byte that isn't there as 0),
-- and in the highest byte the length modulo 256
abbrev pub last_word : List ℕ → ℕ
last_word bytes = from_le_bytes w64 (partial_group bytes) + length bytes % 256 * 2 ^ 56

-- the words of a message: one for each whole group, and the last
abbrev pub words_of : List ℕ → List ℕ
words_of bytes = whole_words bytes ++ last_word bytes ∷ []

-- ---- the round

-- the sum of two words, modulo 2 ^ 64
abbrev pub word_sum : ℕ → ℕ → ℕ
word_sum x y = (x + y) % 2 ^ 64

-- x rotated to the left by so many bits
abbrev pub rotated : ℕ → ℕ → ℕ
rotated x count = rotate_left w64 x count

-- SipRound: two half rounds, each an addition, a rotation and an exclusive or on each pair of words
unfoldable pub sip_round : State → State
sip_round s =
    let a0 = word_sum s.v0 s.v1 in
    let a1 = bit_xor (rotated s.v1 13) a0 in
    let a2 = word_sum s.v2 s.v3 in
    let a3 = bit_xor (rotated s.v3 16) a2 in
    let b0 = word_sum (rotated a0 32) a3 in
    let b3 = bit_xor (rotated a3 21) b0 in
    let b2 = word_sum a2 a1 in
    let b1 = bit_xor (rotated a1 17) b2 in
    record { v0 = b0; v1 = b1; v2 = rotated b2 32; v3 = b3 }

-- so many rounds, one after another
unfoldable pub sip_rounds : ℕ → State → State
sip_rounds zero s = s
sip_rounds (suc n) s = sip_round (sip_rounds n s)

-- ---- the hash

-- initialization: the keys, each exclusive or'd with the paper's constants
unfoldable pub initialized : ℕ → ℕ → State
initialized key0 key1 = record {
  v0 = bit_xor key0 0x736f6d6570736575;
  v1 = bit_xor key1 0x646f72616e646f6d;
  v2 = bit_xor key0 0x6c7967656e657261;
  v3 = bit_xor key1 0x7465646279746573;
}

-- compression of one word: into v3, then c rounds, then into v0
unfoldable pub compressed : ℕ → State → ℕ → State
compressed c s word =
    let t = sip_rounds c (record s { v3 = bit_xor s.v3 word }) in
    record t { v0 = bit_xor t.v0 word }

-- finalization: 0xff into v2, then d rounds, and the exclusive or of the four words
unfoldable pub finalized : ℕ → State → ℕ
finalized d s =
    let t = sip_rounds d (record s { v2 = bit_xor s.v2 0xff }) in
    bit_xor (bit_xor (bit_xor t.v0 t.v1) t.v2) t.v3

-- SipHash-C-D: the words of the message are compressed one after another
unfoldable pub siphash : ℕ → ℕ → ℕ → ℕ → List ℕ → ℕ
siphash c d key0 key1 bytes =
    finalized d (fold (compressed c) (initialized key0 key1) (words_of bytes))
