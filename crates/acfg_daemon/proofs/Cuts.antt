-- Texts cut at the first place of a byte: lines of a script, and the words of a line.
use Rattle.std.proofs.Common.{◌≡◌, ◌≢◌, ℕ, zero, suc, ◌+◌, ◌<◌, List, [], ◌∷◌, ◌++◌, length, get_or, take, drop, refl, sym, ◌∙◌, ap, arith, None, Some, drop-cons, add-one, eq-eqb}
use Rattle.std.specs.List.{onto_first}
use Rattle.std.proofs.lemmas.Bool.{ne_eqb, eqb-true}
use Rattle.std.proofs.lemmas.List.{take-append-drop, length-take, get_or-take}
use Rattle.memchr.specs.Find.{IsFirstByte, is_byte}
use Rattle.acfg_base.specs.Bytes.{line_feed}
use Rattle.acfg_daemon.specs.Lines.{lines}

-- the byte stands nowhere in the text
pub record Lacks (text : List ℕ) (byte : ℕ) : Type 0 where
  pub nowhere : (k : ℕ) → k < length text → get_or text k 0 ≢ byte

rest_lacks : (x : ℕ) (xs : List ℕ) (byte : ℕ) → Lacks (x ∷ xs) byte → Lacks xs byte
rest_lacks x xs byte lacks = record { nowhere = λ k below. lacks.nowhere (suc k) (omega arith) }

-- two texts cut at the first place of a byte are cut alike
pub same_cut : (byte : ℕ) (a b p q : List ℕ) → Lacks a byte → Lacks b byte → a ++ byte ∷ p ≡ b ++ byte ∷ q → (a ≡ b) × (p ≡ q)
same_cut byte [] [] p q none other same = (refl, cc)
same_cut byte [] (y ∷ b) p q none other same = absurd (other.nowhere 0 (omega arith) (cc))
same_cut byte (x ∷ a) [] p q none other same = absurd (none.nowhere 0 (omega arith) (cc))
same_cut byte (x ∷ a) (y ∷ b) p q none other same =
    let head : x ≡ y = cc in
    let rest : a ++ byte ∷ p ≡ b ++ byte ∷ q = cc in
    let cut = same_cut byte a b p q (rest_lacks x a byte none) (rest_lacks y b byte other) rest in
    (λ j. head j ∷ cut.0 j, cut.1)

-- a byte that stands in the text
pub lacks_not : (byte : ℕ) (a p : List ℕ) → Lacks (a ++ byte ∷ p) byte → ⊥
lacks_not byte [] p lacks = lacks.nowhere 0 (omega arith) refl
lacks_not byte (x ∷ a) p lacks = lacks_not byte a p (rest_lacks x (a ++ byte ∷ p) byte lacks)

-- a first place cuts a text
pub record Cut (byte : ℕ) (text : List ℕ) (i : ℕ) : Type 0 where
  pub before : Lacks (take i text) byte
  pub whole : text ≡ take i text ++ byte ∷ drop (i + 1) text

pub first_cut : (byte : ℕ) (text : List ℕ) (i : ℕ) → IsFirstByte (is_byte byte) text (Some i) → Cut byte text i
first_cut byte text i first = record {
  before = record {
    nowhere = λ k below is.
        let here : k < i = omega (arith, length-take i text) in
        first.0.before k (omega arith) here (eq-eqb _ _ (sym (get_or-take i text k 0 here) ∙ is));
  };
  whole =
      let here : i < length text = first.0.high in
      let byte_is = eqb-true (get_or text i 0) byte first.1 in
      sym (take-append-drop i text) ∙ ap (λ rest. take i text ++ rest) (drop-cons text i 0 here ∙ (λ j. byte_is j ∷ drop (sym (add-one i) j) text));
}

pub nowhere : (byte : ℕ) (text : List ℕ) → IsFirstByte (is_byte byte) text None → Lacks text byte
nowhere byte text none = record { nowhere = λ k below is. none k (omega arith) below (eq-eqb _ _ is) }

-- the first line up to a line feed
lines_at : (line rest : List ℕ) → Lacks line line_feed → lines (line ++ line_feed ∷ rest) ≡ line ∷ lines rest
lines_at [] rest lacks = refl
lines_at (x ∷ line) rest lacks =
    let apart = ne_eqb x line_feed (lacks.nowhere 0 (omega arith)) in
    rw apart (ap (onto_first x) (lines_at line rest (rest_lacks x line line_feed lacks)))

-- a last line without a line feed
lines_last : (x : ℕ) (line : List ℕ) → Lacks (x ∷ line) line_feed → lines (x ∷ line) ≡ (x ∷ line) ∷ []
lines_last x [] lacks = let apart = ne_eqb x line_feed (lacks.nowhere 0 (omega arith)) in rw apart refl
lines_last x (y ∷ line) lacks =
    let apart = ne_eqb x line_feed (lacks.nowhere 0 (omega arith)) in
    rw apart (ap (onto_first x) (lines_last y line (rest_lacks x (y ∷ line) line_feed lacks)))

pub lines_cut : (script : List ℕ) (end : ℕ) → IsFirstByte (is_byte line_feed) script (Some end) → lines script ≡ take end script ∷ lines (drop (end + 1) script)
lines_cut script end first = let cut = first_cut line_feed script end first in ap lines cut.whole ∙ lines_at (take end script) (drop (end + 1) script) cut.before

pub lines_whole : (script : List ℕ) → 0 < length script → IsFirstByte (is_byte line_feed) script None → lines script ≡ script ∷ []
lines_whole [] some none = absurd (omega arith)
lines_whole (x ∷ line) some none = lines_last x line (nowhere line_feed (x ∷ line) none)

pub take_nothing : (k : ℕ) (xs : List ℕ) → k ≡ 0 → [] ≡ take k xs
take_nothing zero xs none = refl
take_nothing (suc k) xs none = absurd (omega arith)
