-- Bytes as numbers, the first byte lowest, joined and parted.
use Rattle.std.proofs.Common.{◌≡◌, ℕ, suc, ◌+◌, ◌*◌, ◌%◌, ◌/◌, ◌-◌, ◌^◌, ◌<◌, ◌≤◌, List, [], ◌∷◌, ◌++◌, length, get_or, refl, sym, ap, subst, ◌∙◌, arith, lit<}
use Rattle.std.proofs.lemmas.Nat.{mul-le, shl_whole, pow-add, pow_pos, div-add-mod'}
use Rattle.std.proofs.Math.Arith.{digits_div, digits_mod}
use Rattle.std.proofs.Math.Nat.{mul_assoc, mul-lt-mul_of_pos_right, mod-lt, add_comm, div-lt_iff_lt-mul}
use Rattle.std.specs.Int.{w64, from_le_bytes}

-- the number of bytes, however many they are
abbrev pub number : List ℕ → ℕ
number [] = 0
number (byte ∷ bytes) = byte + number bytes * 256

-- it is what eight bytes at most read as
pub read_number : (bytes : List ℕ) → length bytes ≤ 8 → from_le_bytes w64 bytes ≡ number bytes
read_number [] few = refl
read_number (b0 ∷ []) few = omega arith
read_number (b0 ∷ b1 ∷ []) few = omega arith
read_number (b0 ∷ b1 ∷ b2 ∷ []) few = omega arith
read_number (b0 ∷ b1 ∷ b2 ∷ b3 ∷ []) few = omega arith
read_number (b0 ∷ b1 ∷ b2 ∷ b3 ∷ b4 ∷ []) few = omega arith
read_number (b0 ∷ b1 ∷ b2 ∷ b3 ∷ b4 ∷ b5 ∷ []) few = omega arith
read_number (b0 ∷ b1 ∷ b2 ∷ b3 ∷ b4 ∷ b5 ∷ b6 ∷ []) few = omega arith
read_number (b0 ∷ b1 ∷ b2 ∷ b3 ∷ b4 ∷ b5 ∷ b6 ∷ b7 ∷ []) few = omega arith
read_number (b0 ∷ b1 ∷ b2 ∷ b3 ∷ b4 ∷ b5 ∷ b6 ∷ b7 ∷ b8 ∷ bytes) few = absurd (omega arith)

next_worth : (n : ℕ) → 2 ^ (suc n * 8) ≡ 2 ^ (n * 8) * 256
next_worth n = let e : suc n * 8 ≡ n * 8 + 8 = omega arith in ap (λ e. 2 ^ e) e ∙ pow-add 2 (n * 8) 8

-- bytes behind others
joined_on : (byte front back worth next all : ℕ) → all ≡ front + back * worth → next ≡ worth * 256 → byte + all * 256 ≡ byte + front * 256 + back * next
joined_on byte front back worth next all parts is =
    let moved : back * worth * 256 ≡ back * (worth * 256) = mul_assoc back worth 256 in
    let whole : back * next ≡ back * (worth * 256) = ap (λ n. back * n) is in
    omega arith

pub number_joined : (front back : List ℕ) → number (front ++ back) ≡ number front + number back * 2 ^ (length front * 8)
number_joined [] back = omega arith
number_joined (byte ∷ front) back =
    joined_on byte (number front) (number back) (2 ^ (length front * 8)) (2 ^ (suc (length front) * 8)) (number (front ++ back)) (number_joined front back) (next_worth (length front))

-- bytes are less than the next byte is worth
below_on : (byte bytes worth next : ℕ) → byte < 256 → bytes < worth → next ≡ worth * 256 → byte + bytes * 256 < next
below_on byte bytes worth next small below is = omega arith

pub number_below : (bytes : List ℕ) → ((place : ℕ) → get_or bytes place 0 < 256) → number bytes < 2 ^ (length bytes * 8)
number_below [] bounded = lit< tt
number_below (byte ∷ bytes) bounded =
    below_on byte (number bytes) (2 ^ (length bytes * 8)) (2 ^ (suc (length bytes) * 8)) (bounded 0) (number_below bytes (λ place. bounded (suc place))) (next_worth (length bytes))

-- ---- a word behind `held` bytes

-- a word that has room beside them loses no bit
pub shifted_whole : (held count word : ℕ) → word < 2 ^ (count * 8) → held + count ≤ 8 → (word * 2 ^ (held * 8)) % 2 ^ 64 ≡ word * 2 ^ (held * 8)
shifted_whole held count word below room = shl_whole word (count * 8) (held * 8) 64 below (omega arith)

-- of another one the front stays, which fills them to a word
front_stays : (front back room held : ℕ) → room * held ≡ 2 ^ 64 → 0 < held → front < room → ((front + back * room) * held) % 2 ^ 64 ≡ front * held
front_stays front back room held word some below =
    let fits : front * held < room * held = mul-lt-mul_of_pos_right below some in
    let moved : back * room * held ≡ back * (room * held) = mul_assoc back room held in
    let whole : back * (room * held) ≡ back * 2 ^ 64 = ap (λ n. back * n) word in
    let parts : (front + back * room) * held ≡ back * 2 ^ 64 + front * held = omega arith in
    ap (λ n. n % 2 ^ 64) parts ∙ digits_mod back (omega arith)

worth_joined : (held : ℕ) → held ≤ 8 → 2 ^ ((8 - held) * 8) * 2 ^ (held * 8) ≡ 2 ^ 64
worth_joined held few = let e : (8 - held) * 8 + held * 8 ≡ 64 = omega arith in sym (pow-add 2 ((8 - held) * 8) (held * 8)) ∙ ap (λ e. 2 ^ e) e

pub shifted_front : (held front back : ℕ) → held ≤ 8 → front < 2 ^ ((8 - held) * 8)
    → ((front + back * 2 ^ ((8 - held) * 8)) * 2 ^ (held * 8)) % 2 ^ 64 ≡ front * 2 ^ (held * 8)
shifted_front held front back few below =
    front_stays front back (2 ^ ((8 - held) * 8)) (2 ^ (held * 8)) (worth_joined held few) (pow_pos (held * 8)) below

-- and its back is left
pub shifted_back : (held front back : ℕ) → front < 2 ^ ((8 - held) * 8) → (front + back * 2 ^ ((8 - held) * 8)) / 2 ^ ((8 - held) * 8) ≡ back
shifted_back held front back below =
    let turned : front + back * 2 ^ ((8 - held) * 8) ≡ back * 2 ^ ((8 - held) * 8) + front = omega arith in
    ap (λ n. n / 2 ^ ((8 - held) * 8)) turned ∙ digits_div back below

word_fits : (part worth front room shifted : ℕ) → shifted ≡ front * worth → part < worth → front < room → room * worth ≡ 2 ^ 64 → part + shifted < 2 ^ 64
word_fits part worth front room shifted stays below fits word =
    let most : (front + 1) * worth ≤ room * worth = mul-le (front + 1) worth room worth (omega arith) (omega arith) in
    omega arith

-- what is held and a word behind it fit a word
pub joined_fits : (held part word : ℕ) → held ≤ 8 → part < 2 ^ (held * 8) → part + (word * 2 ^ (held * 8)) % 2 ^ 64 < 2 ^ 64
joined_fits held part word few below =
    let room : ℕ = 2 ^ ((8 - held) * 8) in
    let worth : ℕ = 2 ^ (held * 8) in
    let front : ℕ = word % room in
    let parts : word ≡ front + word / room * room = sym (div-add-mod' word room) ∙ add_comm (word / room * room) front in
    let stays : (word * worth) % 2 ^ 64 ≡ front * worth =
    ap (λ n. (n * worth) % 2 ^ 64) parts ∙ shifted_front held front (word / room) few (mod-lt word (pow_pos ((8 - held) * 8))) in
    word_fits part worth front room (word * worth % 2 ^ 64) stays below (mod-lt word (pow_pos ((8 - held) * 8))) (worth_joined held few)

-- the same, where they are short of a word
pub short_fits : (held count part word : ℕ) → part < 2 ^ (held * 8) → word < 2 ^ (count * 8) → held + count < 8
    → part + (word * 2 ^ (held * 8)) % 2 ^ 64 < 2 ^ ((held + count) * 8)
short_fits held count part word below fits short =
    let most : (word + 1) * 2 ^ (held * 8) ≤ 2 ^ (count * 8) * 2 ^ (held * 8) = mul-le (word + 1) (2 ^ (held * 8)) (2 ^ (count * 8)) (2 ^ (held * 8)) (omega arith) (omega arith) in
    let e : (held + count) * 8 ≡ count * 8 + held * 8 = omega arith in
    let worth : 2 ^ ((held + count) * 8) ≡ 2 ^ (count * 8) * 2 ^ (held * 8) = ap (λ e. 2 ^ e) e ∙ pow-add 2 (count * 8) (held * 8) in
    let whole : (word * 2 ^ (held * 8)) % 2 ^ 64 ≡ word * 2 ^ (held * 8) = shifted_whole held count word fits (omega arith) in
    omega arith

-- what is left of a word behind them
pub left_fits : (held count word : ℕ) → held ≤ 8 → word < 2 ^ (count * 8) → 8 ≤ held + count → word / 2 ^ ((8 - held) * 8) < 2 ^ ((held + count - 8) * 8)
left_fits held count word few below many =
    let e : count * 8 ≡ (held + count - 8) * 8 + (8 - held) * 8 = omega arith in
    let worth : 2 ^ (count * 8) ≡ 2 ^ ((held + count - 8) * 8) * 2 ^ ((8 - held) * 8) = ap (λ e. 2 ^ e) e ∙ pow-add 2 ((held + count - 8) * 8) ((8 - held) * 8) in
    (div-lt_iff_lt-mul (pow_pos ((8 - held) * 8))).1 (subst (λ n. word < n) worth below)
