-- The words of a message, read from the front, and as bytes are added to it.
use Rattle.std.proofs.Common.{◌≡◌, ℕ, ◌+◌, ◌%◌, ◌<◌, ◌≤◌, List, [], ◌∷◌, ◌++◌, length, take, drop, refl, sym, ap, subst, ◌∙◌, arith, append_assoc, length-append}
use Rattle.std.proofs.Math.Seq.{take-append_seam, drop-append_seam}
use Rattle.std.specs.Int.{w64, from_le_bytes}
use Rattle.acfg_sip.specs.SipHash.{partial_group, whole_words}

-- what is behind the last whole group is the remainder by eight
pub length-partial_group : (m : List ℕ) → length (partial_group m) ≡ length m % 8
unfolding partial_group
length-partial_group (b0 ∷ b1 ∷ b2 ∷ b3 ∷ b4 ∷ b5 ∷ b6 ∷ b7 ∷ m) =
    let e : length (partial_group m) ≡ length m % 8 = length-partial_group m in omega arith
length-partial_group m = refl

-- ---- from the front

pub whole_words-group : (bytes : List ℕ) → 8 ≤ length bytes → whole_words bytes ≡ from_le_bytes w64 (take 8 bytes) ∷ whole_words (drop 8 bytes)
unfolding whole_words
whole_words-group (b0 ∷ b1 ∷ b2 ∷ b3 ∷ b4 ∷ b5 ∷ b6 ∷ b7 ∷ bytes) h = refl
whole_words-group bytes h = absurd (omega arith)

pub partial_group-group : (bytes : List ℕ) → 8 ≤ length bytes → partial_group bytes ≡ partial_group (drop 8 bytes)
unfolding partial_group
partial_group-group (b0 ∷ b1 ∷ b2 ∷ b3 ∷ b4 ∷ b5 ∷ b6 ∷ b7 ∷ bytes) h = refl
partial_group-group bytes h = absurd (omega arith)

pub whole_words-short : (bytes : List ℕ) → length bytes < 8 → whole_words bytes ≡ []
unfolding whole_words
whole_words-short (b0 ∷ b1 ∷ b2 ∷ b3 ∷ b4 ∷ b5 ∷ b6 ∷ b7 ∷ bytes) h = absurd (omega arith)
whole_words-short bytes h = refl

pub partial_group-short : (bytes : List ℕ) → length bytes < 8 → partial_group bytes ≡ bytes
unfolding partial_group
partial_group-short (b0 ∷ b1 ∷ b2 ∷ b3 ∷ b4 ∷ b5 ∷ b6 ∷ b7 ∷ bytes) h = absurd (omega arith)
partial_group-short bytes h = refl

-- ---- bytes behind a message

-- with fewer than eight of them behind the last whole group there is no other word
pub whole_words-short_more : (m bytes : List ℕ) → length (partial_group m) + length bytes < 8 → whole_words (m ++ bytes) ≡ whole_words m
unfolding whole_words partial_group
whole_words-short_more (b0 ∷ b1 ∷ b2 ∷ b3 ∷ b4 ∷ b5 ∷ b6 ∷ b7 ∷ m) bytes short =
    ap (λ ws. from_le_bytes w64 (b0 ∷ b1 ∷ b2 ∷ b3 ∷ b4 ∷ b5 ∷ b6 ∷ b7 ∷ []) ∷ ws) (whole_words-short_more m bytes short)
whole_words-short_more m bytes short = whole_words-short (m ++ bytes) (simp length-append (omega arith))

pub partial_group-short_more : (m bytes : List ℕ) → length (partial_group m) + length bytes < 8 → partial_group (m ++ bytes) ≡ partial_group m ++ bytes
unfolding partial_group
partial_group-short_more (b0 ∷ b1 ∷ b2 ∷ b3 ∷ b4 ∷ b5 ∷ b6 ∷ b7 ∷ m) bytes short = partial_group-short_more m bytes short
partial_group-short_more m bytes short = partial_group-short (m ++ bytes) (simp length-append (omega arith))

-- a group's bytes, and others behind them
whole_group : (group behind : List ℕ) → length group ≡ 8 → whole_words (group ++ behind) ≡ from_le_bytes w64 group ∷ whole_words behind
whole_group group behind eight =
    let front : take 8 (group ++ behind) ≡ group = subst (λ n. take n (group ++ behind) ≡ group) eight (take-append_seam group behind) in
    let back : drop 8 (group ++ behind) ≡ behind = subst (λ n. drop n (group ++ behind) ≡ behind) eight (drop-append_seam group behind) in
    let long : 8 ≤ length (group ++ behind) = rw length-append (omega arith) in
    whole_words-group (group ++ behind) long ∙ ap (λ bytes. from_le_bytes w64 bytes ∷ whole_words (drop 8 (group ++ behind))) front
    ∙ ap (λ bytes. from_le_bytes w64 group ∷ whole_words bytes) back

partial_behind : (group behind : List ℕ) → length group ≡ 8 → partial_group (group ++ behind) ≡ partial_group behind
partial_behind group behind eight =
    let back : drop 8 (group ++ behind) ≡ behind = subst (λ n. drop n (group ++ behind) ≡ behind) eight (drop-append_seam group behind) in
    let long : 8 ≤ length (group ++ behind) = rw length-append (omega arith) in
    partial_group-group (group ++ behind) long ∙ ap partial_group back

-- where bytes fill the last group, it is a word
pub whole_words-fill : (m front back : List ℕ) → length (partial_group m) + length front ≡ 8
    → whole_words (m ++ (front ++ back)) ≡ whole_words m ++ from_le_bytes w64 (partial_group m ++ front) ∷ whole_words back
unfolding whole_words partial_group
whole_words-fill (b0 ∷ b1 ∷ b2 ∷ b3 ∷ b4 ∷ b5 ∷ b6 ∷ b7 ∷ m) front back full =
    ap (λ ws. from_le_bytes w64 (b0 ∷ b1 ∷ b2 ∷ b3 ∷ b4 ∷ b5 ∷ b6 ∷ b7 ∷ []) ∷ ws) (whole_words-fill m front back full)
whole_words-fill m front back full = ap whole_words (sym (append_assoc m front back)) ∙ whole_group (m ++ front) back (length-append m front ∙ full)

pub partial_group-fill : (m front back : List ℕ) → length (partial_group m) + length front ≡ 8 → partial_group (m ++ (front ++ back)) ≡ partial_group back
unfolding partial_group
partial_group-fill (b0 ∷ b1 ∷ b2 ∷ b3 ∷ b4 ∷ b5 ∷ b6 ∷ b7 ∷ m) front back full = partial_group-fill m front back full
partial_group-fill m front back full = ap partial_group (sym (append_assoc m front back)) ∙ partial_behind (m ++ front) back (length-append m front ∙ full)
