-- Digits of escapes, read one by one.
use Rattle.std.proofs.Common.{◌≡◌, ℕ, zero, suc, ◌+◌, ◌-◌, ◌*◌, ◌^◌, ◌<◌, Bool, true, false, List, [], ◌∷◌, ◌++◌, length, take, drop, get_or, refl, sym, ap, ◌∙◌, arith, append_assoc, append-nil, add-one, drop-cons}
use Rattle.std.specs.Prelude.{◌≤◌}
use Rattle.std.proofs.lemmas.Bool.Decides.{nat_tests}
use Rattle.std.proofs.lemmas.List.{take_more, length-take}
use Rattle.std.proofs.Math.ListN.{drop_of_length-le}
use Rattle.std.proofs.lemmas.List.Sums.{fold-append}
use Rattle.std.proofs.Math.Nat.{pow-suc}
use Rattle.acfg_text.specs.declared.quoted.Base.{Base}
use Rattle.acfg_text.specs.declared.quoted.Base.TheVariants.{Octal, Hexadecimal}
use Rattle.acfg_text.specs.Escapes.{is_octal, is_hexadecimal, digit_value, digits, number}
use Rattle.acfg_text.specs.Meanings.{digit_test, base_of}

-- what has been read of the digits at a front
pub record ReadSoFar (base : Base) (start most : ℕ) (text : List ℕ) (count value : ℕ) : Type 0 where
  pub few : count ≤ most
  pub inside : count ≤ length text
  pub same : digits (digit_test base) most text ≡ take count text ++ digits (digit_test base) (most - count) (drop count text)
  pub is : value ≡ number (base_of base) start (take count text)
  pub small : value < (start + 1) * 16 ^ count

pub digit_small : (base : Base) (b : ℕ) → digit_test base b ≡ true → digit_value b < 16
unfolding is_octal is_hexadecimal digit_value
digit_small Octal b e = grind (arith, nat_tests)
digit_small Hexadecimal b e = grind (arith, nat_tests)

regroup : (a b : ℕ) → a * (b * 16) ≡ 16 * (a * b)
regroup a b = grind arith

next_power : (start count : ℕ) → (start + 1) * 16 ^ (count + 1) ≡ 16 * ((start + 1) * 16 ^ count)
next_power start count = ap (λ p. (start + 1) * p) (ap (λ n. 16 ^ n) (add-one count) ∙ pow-suc 16 count) ∙ regroup (start + 1) (16 ^ count)

step_by : (base : Base) (m n value d : ℕ) → n ≡ 16 * m → value < m → d < 16 → value * base_of base + d < n
step_by Octal m n value d e below small = omega arith
step_by Hexadecimal m n value d e below small = omega arith

step_small : (base : Base) (start count value d : ℕ) → value < (start + 1) * 16 ^ count → d < 16 → value * base_of base + d < (start + 1) * 16 ^ (count + 1)
step_small base start count value d below small = step_by base ((start + 1) * 16 ^ count) ((start + 1) * 16 ^ (count + 1)) value d (next_power start count) below small

pub room : (start count : ℕ) → start < 256 → count < 8 → (start + 1) * 16 ^ (count + 1) < 2 ^ 48
room start zero s c = omega arith
room start (suc zero) s c = omega arith
room start (suc (suc zero)) s c = omega arith
room start (suc (suc (suc zero))) s c = omega arith
room start (suc (suc (suc (suc zero)))) s c = omega arith
room start (suc (suc (suc (suc (suc zero))))) s c = omega arith
room start (suc (suc (suc (suc (suc (suc zero)))))) s c = omega arith
room start (suc (suc (suc (suc (suc (suc (suc zero))))))) s c = omega arith
room start (suc (suc (suc (suc (suc (suc (suc (suc n)))))))) s c = absurd (omega arith)

module _ (base : Base) (start most : ℕ) (text : List ℕ) (count value : ℕ) (read : ReadSoFar base start most text count value) where
  abbrev byte : ℕ
  byte = get_or text count 0

  pub fits_next : (radix d : ℕ) → start < 256 → most ≤ 8 → count < most → radix ≡ base_of base → d < 16 → value * radix + d < 2 ^ 48
  fits_next radix d s m c is small =
      let next : value * base_of base + d < (start + 1) * 16 ^ (count + 1) = step_small base start count value d read.small small in
      let bound : (start + 1) * 16 ^ (count + 1) < 2 ^ 48 = room start count s (omega arith) in
      rw is (omega arith)

  pub read_next : count < most → count < length text → digit_test base byte ≡ true → ReadSoFar base start most text (count + 1) (value * base_of base + digit_value byte)
  read_next some more digit =
      let front : take (count + 1) text ≡ take count text ++ byte ∷ [] = take_more text count 0 more in
      let rest : drop count text ≡ byte ∷ drop (count + 1) text = drop-cons text count 0 more ∙ ap (λ n. byte ∷ drop n text) (sym (add-one count)) in
      let due : most - count ≡ suc (most - (count + 1)) = omega arith in
      let next : digits (digit_test base) (most - count) (drop count text) ≡ byte ∷ digits (digit_test base) (most - (count + 1)) (drop (count + 1) text)
      = ap (λ n. digits (digit_test base) n (drop count text)) due ∙ ap (digits (digit_test base) (suc (most - (count + 1)))) rest ∙ (rw digit refl) in
      record {
        few = omega arith;
        inside = omega arith;
        same = read.same ∙ ap (λ l. take count text ++ l) next ∙ sym (append_assoc (take count text) (byte ∷ []) (digits (digit_test base) (most - (count + 1)) (drop (count + 1) text))) ∙ ap (λ l. l ++ digits (digit_test base) (most - (count + 1)) (drop (count + 1) text)) (sym front);
        is = ap (λ n. n * base_of base + digit_value byte) read.is ∙ sym (fold-append (λ n b. n * base_of base + digit_value b) start (take count text) (byte ∷ [])) ∙ ap (number (base_of base) start) (sym front);
        small = step_small base start count value (digit_value byte) read.small (digit_small base byte digit);
      }

  pub record IsRead : Type 0 where
    pub counted : count ≡ length (digits (digit_test base) most text)
    pub valued : value ≡ number (base_of base) start (digits (digit_test base) most text)

  read_done : digits (digit_test base) (most - count) (drop count text) ≡ [] → IsRead
  read_done none =
      let all : digits (digit_test base) most text ≡ take count text = read.same ∙ ap (λ l. take count text ++ l) none ∙ append-nil (take count text) in
      let len : length (take count text) ≡ count = omega (arith, length-take count text, read.inside) in
      record { counted = sym len ∙ ap length (sym all); valued = read.is ∙ ap (number (base_of base) start) (sym all) }

  none_left : (p : ℕ → Bool) (n : ℕ) → digits p n [] ≡ []
  none_left p zero = refl
  none_left p (suc n) = refl

  no_digit : (p : ℕ → Bool) (n b : ℕ) (rest : List ℕ) → p b ≡ false → digits p n (b ∷ rest) ≡ []
  no_digit p zero b rest e = refl
  no_digit p (suc n) b rest e = rw e refl

  pub done_short : length text ≤ count → IsRead
  done_short over = read_done (ap (digits (digit_test base) (most - count)) (drop_of_length-le text over) ∙ none_left (digit_test base) (most - count))

  pub done_digit : count < length text → digit_test base byte ≡ false → IsRead
  done_digit more stop = read_done (ap (digits (digit_test base) (most - count)) (drop-cons text count 0 more) ∙ no_digit (digit_test base) (most - count) byte (drop (suc count) text) stop)
