-- The tokens of a text are its slices, and their places rise.
use Rattle.std.proofs.Common.{◌≡◌, ℕ, suc, ◌+◌, ◌<◌, List, [], ◌∷◌, ◌++◌, length, take, drop, map, refl, sym, ap, ◌∙◌, arith}
use Rattle.std.specs.Prelude.{◌≤◌}
use Rattle.std.proofs.lemmas.List.{drop-drop}
use Rattle.std.proofs.Math.Seq.{drop-append_seam, take-append_seam}
use Rattle.acfg_text.specs.declared.token.TokenKind.{TokenKind}
use Rattle.acfg_text.specs.Terminals.{Lexeme, terminal_of}
use Rattle.acfg_text.specs.TextFaults.{Rising}
use Rattle.acfg_text.specs.Lexes.{IsToken, Lexed, here, blank, comment, token, Lexes, AreSlices}

pub lexed_le : {at : ℕ} {text : List ℕ} {found : List Lexeme} {end : ℕ} {rest : List ℕ} → Lexed at text found end rest → at ≤ end
lexed_le here = omega arith
lexed_le (blank {at = at} {end = end} leads lexed) = let later : at + 1 ≤ end = lexed_le lexed in omega arith
lexed_le (comment {at = at} {end = end} body text leads ends lexed) = let later : at + 1 + length body ≤ end = lexed_le lexed in omega arith
lexed_le (token {at = at} {end = end} bytes text is longest lexed) = let later : at + length bytes ≤ end = lexed_le lexed in omega arith

weaken : (from to : ℕ) (found : List Lexeme) (end : ℕ) → from ≤ to → Rising to (map terminal_of found) end → Rising from (map terminal_of found) end
weaken from to [] end le rising = omega arith
weaken from to (l ∷ found) end le rising = (omega (arith, rising.0), rising.1, rising.2)

some_bytes : (kind : TokenKind) (bytes : List ℕ) → IsToken kind bytes → 0 < length bytes
some_bytes kind [] is = absurd is
some_bytes kind (b ∷ bytes) is = omega arith

pub lexed_rising : {at : ℕ} {text : List ℕ} {found : List Lexeme} {end : ℕ} {rest : List ℕ} → Lexed at text found end rest → Rising at (map terminal_of found) end
lexed_rising here = omega arith
lexed_rising (blank {at = at} {end = end} {found = found} leads lexed) = weaken at (at + 1) found end (omega arith) (lexed_rising lexed)
lexed_rising (comment {at = at} {end = end} body text {found = found} leads ends lexed) = weaken at (at + 1 + length body) found end (omega arith) (lexed_rising lexed)
lexed_rising (token {at = at} {end = end} {kind = kind} bytes text {found = found} is longest lexed) =
    let later : at + length bytes ≤ end = lexed_le lexed in
    let some : 0 < length bytes = some_bytes kind bytes is in
    (omega arith, omega arith, weaken (at + 1) (at + length bytes) found end (omega arith) (lexed_rising lexed))

moved : (n at : ℕ) (source front text : List ℕ) → length front ≡ n → drop at source ≡ front ++ text → drop (at + n) source ≡ text
moved n at source front text len is = sym (drop-drop n at source) ∙ ap (drop n) is ∙ ap (λ m. drop m (front ++ text)) (sym len) ∙ drop-append_seam front text

lexed_slices : {at : ℕ} {text : List ℕ} {found : List Lexeme} {end : ℕ} {rest : List ℕ} (source : List ℕ) → Lexed at text found end rest → drop at source ≡ text → AreSlices source found
lexed_slices source here is = tt
lexed_slices source (blank {at = at} {b = b} {text = text} leads lexed) is = lexed_slices source lexed (moved 1 at source (b ∷ []) text refl is)
lexed_slices source (comment {at = at} {b = b} body text leads ends lexed) is =
    lexed_slices source lexed (ap (λ n. drop n source) (omega arith) ∙ moved (suc (length body)) at source (b ∷ body) text refl is)
lexed_slices source (token {at = at} bytes text is longest lexed) from =
    (ap (λ n. take n (drop at source)) (omega arith) ∙ ap (take (length bytes)) from ∙ take-append_seam bytes text, lexed_slices source lexed (moved (length bytes) at source bytes text refl from))

pub lexes_slices : (text : List ℕ) (found : List Lexeme) → Lexes text found → AreSlices text found
lexes_slices text found lexes = lexed_slices text lexes refl

pub lexes_rising : (text : List ℕ) (found : List Lexeme) → Lexes text found → Rising 0 (map terminal_of found) (length text)
lexes_rising text found lexes = lexed_rising lexes
