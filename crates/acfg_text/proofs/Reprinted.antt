-- A text that is printed in quotes is a quoted token that stands for the same bytes.
use Rattle.std.proofs.Common.{◌≡◌, ℕ, zero, suc, ◌+◌, ◌*◌, ◌<◌, ◌/◌, ◌%◌, Bool, true, false, List, [], ◌∷◌, ◌++◌, Some, refl, sym, subst, ap, ◌∙◌, arith, cond, append_assoc}
use Rattle.std.specs.Prelude.{◌≤◌, ◌&&◌, nat_le, nat_eq, codes}
use Rattle.std.specs.List.{flat_map}
use Rattle.std.proofs.lemmas.Bool.Decides.{nat_tests}
use Rattle.acfg_text.specs.declared.token.TokenKind.TheVariants.{Quoted}
use Rattle.acfg_text.specs.declared.bytes.Lead.TheVariants.{Token}
use Rattle.acfg_text.specs.declared.quoted.Within.TheVariants.{Close, Backslash, Plain}
use Rattle.acfg_text.specs.declared.quoted.Escape.TheVariants.{Octal}
use Rattle.acfg_text.specs.Escapes.{is_octal, digit_value, digits, number, escape_by, escape_as, octal, escape, within, value_behind, spelled}
use Rattle.acfg_text.specs.Lexes.{is_white, is_letter, is_digit, is_quote, lead, Closes, closed, plain_byte, escaped, IsToken}
use Rattle.acfg_text.specs.Printed.{printed_byte, quoted}
use Rattle.acfg_text.proofs.Utf8Bytes.{AreBytes}

-- a byte as it is printed
record ByteAgain (b : ℕ) (text printed : List ℕ) : Type 0 where
  closes : (rest : List ℕ) → Closes 34 text rest → Closes 34 (printed ++ text) rest
  value : value_behind 34 0 (printed ++ text) ≡ b ∷ value_behind 34 0 text

quote_closes : within 34 34 ≡ Close
unfolding within
quote_closes = refl

backslash_in : within 34 92 ≡ Backslash
unfolding within
backslash_in = refl

plain_in : (b : ℕ) → (nat_eq b 92) ≡ false → (nat_eq b 34) ≡ false → (nat_le 32 b && nat_le b 126) ≡ true → within 34 b ≡ Plain
unfolding within
plain_in b x y z = let line : (nat_eq b 10) ≡ false = grind (arith, nat_tests) in rw (y, line, x) refl

escape_backslash : (text : List ℕ) → escape (92 ∷ text) ≡ Some (1, 92 ∷ [])
unfolding escape escape_by
escape_backslash text = refl

escape_quote : (text : List ℕ) → escape (34 ∷ text) ≡ Some (1, 34 ∷ [])
unfolding escape escape_by
escape_quote text = refl

octal_by : (k : ℕ) → k ≤ 3 → escape_by (48 + k) ≡ Octal k
unfolding escape_by is_octal
octal_by zero h = refl
octal_by (suc zero) h = refl
octal_by (suc (suc zero)) h = refl
octal_by (suc (suc (suc zero))) h = refl
octal_by (suc (suc (suc (suc k)))) h = absurd (omega arith)

octal_digit : (m : ℕ) → m < 8 → is_octal (48 + m) ≡ true
unfolding is_octal
octal_digit m h = grind (arith, nat_tests)

octal_value : (m : ℕ) → m < 8 → digit_value (48 + m) ≡ m
unfolding digit_value
octal_value m h = grind (arith, nat_tests)

two_digits : (p : ℕ → Bool) (x y : ℕ) (text : List ℕ) → p x ≡ true → p y ≡ true → digits p 2 (x ∷ y ∷ text) ≡ x ∷ y ∷ []
two_digits p x y text a b = rw (a, b) refl

octal_small : (first x y b : ℕ) → number 8 first (x ∷ y ∷ []) ≡ b → b < 256 → octal first (x ∷ y ∷ []) ≡ Some (3, b ∷ [])
octal_small first x y b is small = let low : (nat_le b 255) ≡ true = grind (arith, nat_tests) in rw (is, low) refl

escape_octal : (k m n b : ℕ) (text : List ℕ) → k ≤ 3 → m < 8 → n < 8 → (k * 8 + m) * 8 + n ≡ b → b < 256 → escape ((48 + k) ∷ (48 + m) ∷ (48 + n) ∷ text) ≡ Some (3, b ∷ [])
unfolding escape
escape_octal k m n b text hk hm hn is small =
    ap (λ e. escape_as e (48 + k) ((48 + m) ∷ (48 + n) ∷ text)) (octal_by k hk)
    ∙ ap (octal k) (two_digits is_octal (48 + m) (48 + n) text (octal_digit m hm) (octal_digit n hn))
    ∙ octal_small k (48 + m) (48 + n) b (ap (λ d. (k * 8 + d) * 8 + digit_value (48 + n)) (octal_value m hm) ∙ ap (λ d. (k * 8 + m) * 8 + d) (octal_value n hn) ∙ is) small

octal_parts : (b : ℕ) → b < 256 → (b / 64 ≤ 3) × ((b / 64 * 8 + b / 8 % 8) * 8 + b % 8 ≡ b)
octal_parts b small = (omega arith, omega arith)

byte_again : (b : ℕ) (text : List ℕ) → b < 256 → ByteAgain b text (printed_byte b)
unfolding printed_byte
byte_again b text small = go (nat_eq b 92) refl (nat_eq b 34) refl (nat_le 32 b && nat_le b 126) refl
  where
    go : (x : Bool) → nat_eq b 92 ≡ x → (y : Bool) → nat_eq b 34 ≡ y → (z : Bool) → (nat_le 32 b && nat_le b 126) ≡ z
        → ByteAgain b text (cond x (codes "\\\\") (cond y (codes "\\\"") (cond z (b ∷ []) (92 ∷ (48 + b / 64) ∷ (48 + b / 8 % 8) ∷ (48 + b % 8) ∷ []))))
    go true x y f z g = let is : b ≡ 92 = grind (arith, nat_tests) in
        record { closes = λ rest c. escaped backslash_in (escape_backslash text) c; value = rw (backslash_in, escape_backslash text) (ap (λ n. n ∷ value_behind 34 0 text) (sym is)) }
    go false x true y z g = let is : b ≡ 34 = grind (arith, nat_tests) in
        record { closes = λ rest c. escaped backslash_in (escape_quote text) c; value = rw (backslash_in, escape_quote text) (ap (λ n. n ∷ value_behind 34 0 text) (sym is)) }
    go false x false y true g = record { closes = λ rest c. plain_byte (plain_in b x y g) c; value = rw (plain_in b x y g) refl }
    go false x false y false g =
        let parts : (b / 64 ≤ 3) × ((b / 64 * 8 + b / 8 % 8) * 8 + b % 8 ≡ b) = octal_parts b small in
        let e : escape ((48 + b / 64) ∷ (48 + b / 8 % 8) ∷ (48 + b % 8) ∷ text) ≡ Some (3, b ∷ []) = escape_octal (b / 64) (b / 8 % 8) (b % 8) b text parts.0 (omega arith) (omega arith) parts.1 small in
        record { closes = λ rest c. escaped backslash_in e c; value = rw (backslash_in, e) refl }

quoted_closes : (bytes rest : List ℕ) → AreBytes bytes → Closes 34 (flat_map printed_byte bytes ++ 34 ∷ rest) rest
quoted_closes [] rest small = closed quote_closes
quoted_closes (b ∷ bytes) rest small =
    let again : ByteAgain b (flat_map printed_byte bytes ++ 34 ∷ rest) (printed_byte b) = byte_again b (flat_map printed_byte bytes ++ 34 ∷ rest) small.0 in
    subst (λ l. Closes 34 l rest) (sym (append_assoc (printed_byte b) (flat_map printed_byte bytes) (34 ∷ rest))) (again.closes rest (quoted_closes bytes rest small.1))

quoted_value : (bytes rest : List ℕ) → AreBytes bytes → value_behind 34 0 (flat_map printed_byte bytes ++ 34 ∷ rest) ≡ bytes
quoted_value [] rest small = rw quote_closes refl
quoted_value (b ∷ bytes) rest small =
    let again : ByteAgain b (flat_map printed_byte bytes ++ 34 ∷ rest) (printed_byte b) = byte_again b (flat_map printed_byte bytes ++ 34 ∷ rest) small.0 in
    ap (λ l. value_behind 34 0 l) (append_assoc (printed_byte b) (flat_map printed_byte bytes) (34 ∷ rest)) ∙ again.value ∙ ap (λ l. b ∷ l) (quoted_value bytes rest small.1)

pub quote_leads : lead 34 ≡ Token Quoted
unfolding lead is_white is_letter is_digit is_quote
quote_leads = refl

pub quoted_token : (bytes : List ℕ) → AreBytes bytes → IsToken Quoted (quoted bytes)
quoted_token bytes small = (quote_leads, quoted_closes bytes [] small)

pub quoted_spelled : (bytes : List ℕ) → AreBytes bytes → spelled (quoted bytes) ≡ bytes
unfolding spelled
quoted_spelled bytes small = quoted_value bytes [] small
