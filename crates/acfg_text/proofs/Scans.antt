-- One byte of a quoted text at a time: what the scan and the value behind it are.
use Rattle.std.proofs.Common.{◌≡◌, ℕ, zero, suc, ◌+◌, ◌-◌, ◌<◌, List, [], ◌∷◌, ◌++◌, length, take, drop, get_or, Some, None, refl, sym, ap, ◌∙◌, arith, add-one, drop-cons, length-drop}
use Rattle.std.specs.Prelude.{◌≤◌}
use Rattle.std.proofs.lemmas.List.{drop-drop}
use Rattle.std.proofs.Math.ListN.{drop_of_length-le}
use Rattle.std.proofs.Math.Seq.{take-length}
use Rattle.acfg_text.specs.declared.quoted.Within.TheVariants.{Close, Line, Backslash, Plain}
use Rattle.acfg_text.specs.declared.quoted.Scan.TheVariants.{Closed, Open}
use Rattle.acfg_text.specs.declared.quoted.Meaning.{Meaning}
use Rattle.acfg_text.specs.Escapes.{Escaped, escape, within, value_behind}
use Rattle.acfg_text.specs.Meanings.{bytes_of, meaning_of}
use Rattle.acfg_text.specs.Scanning.{is_cut, unknown_escape, scan_by, scan}
use Rattle.acfg_text.proofs.Quotes.{scan_skip, Fits, escape_fits}

pub escape_inside : (text : List ℕ) (m : Meaning) → escape text ≡ Some (meaning_of m) → m.length ≤ length text
escape_inside text m e = let fits : Fits m.length text = escape_fits text m.length (bytes_of m.sign) e in fits.inside

module _ (quote at : ℕ) (text : List ℕ) (inside : at < length text) where
  abbrev byte : ℕ
  byte = get_or text at 0

  abbrev rest : List ℕ
  rest = drop (at + 1) text

  here : drop at text ≡ byte ∷ rest
  here = drop-cons text at 0 inside ∙ ap (λ n. byte ∷ drop n text) (sym (add-one at))

  scan_here : scan quote 0 at (drop at text) ≡ scan_by (within quote byte) (escape rest) at rest (λ n. scan quote n (at + 1) rest)
  unfolding scan
  scan_here = ap (λ l. scan quote 0 at l) here

  pub scan_close : within quote byte ≡ Close → scan quote 0 at (drop at text) ≡ Closed (at + 1)
  scan_close e = scan_here ∙ rw e refl

  pub scan_line : within quote byte ≡ Line → scan quote 0 at (drop at text) ≡ Open
  scan_line e = scan_here ∙ rw e refl

  pub scan_plain : within quote byte ≡ Plain → scan quote 0 at (drop at text) ≡ scan quote 0 (at + 1) (drop (at + 1) text)
  scan_plain e = scan_here ∙ rw e refl

  pub scan_escape : (m : Meaning) → within quote byte ≡ Backslash → escape rest ≡ Some (meaning_of m) → scan quote 0 at (drop at text) ≡ scan quote 0 (at + (m.length + 1)) (drop (at + (m.length + 1)) text)
  scan_escape m e is =
      scan_here ∙ (rw (e, is) (scan_skip quote m.length (at + 1) rest (escape_inside rest m is) ∙ ap (λ l. scan quote 0 (at + 1 + m.length) l) (drop-drop m.length (at + 1) text)
      ∙ ap (λ n. scan quote 0 n (drop n text)) (omega arith)))

  pub scan_unknown : within quote byte ≡ Backslash → escape rest ≡ None → scan quote 0 at (drop at text) ≡ unknown_escape (is_cut rest) at
  scan_unknown e is = scan_here ∙ rw (e, is) refl

  value_here : value_behind quote 0 (drop at text) ≡ value_behind quote 0 (byte ∷ rest)
  value_here = ap (λ l. value_behind quote 0 l) here

  pub value_skip : (k : ℕ) (l : List ℕ) → k ≤ length l → value_behind quote k l ≡ value_behind quote 0 (drop k l)
  value_skip zero l h = refl
  value_skip (suc k) [] h = absurd (omega arith)
  value_skip (suc k) (b ∷ l) h = value_skip k l (omega arith)

  pub value_escape : (m : Meaning) → within quote byte ≡ Backslash → escape rest ≡ Some (meaning_of m) → value_behind quote 0 (drop at text) ≡ bytes_of m.sign ++ value_behind quote 0 (drop (at + (m.length + 1)) text)
  value_escape m e is =
      value_here ∙ (rw (e, is) (ap (λ l. bytes_of m.sign ++ l) (value_skip m.length rest (escape_inside rest m is) ∙ ap (λ l. value_behind quote 0 l) (drop-drop m.length (at + 1) text) ∙ ap (λ n. value_behind quote 0 (drop n text)) (omega arith))))

  pub room_behind : (m : Meaning) → escape rest ≡ Some (meaning_of m) → at + (m.length + 1) ≤ length text
  room_behind m is = omega (arith, escape_inside rest m is, length-drop (at + 1) text)

pub scan_end : (quote at : ℕ) (text : List ℕ) → length text ≤ at → scan quote 0 at (drop at text) ≡ Open
unfolding scan
scan_end quote at text over = ap (λ l. scan quote 0 at l) (drop_of_length-le text over)

-- the slice of all bytes from a place on
pub tail_is : (n : ℕ) (text : List ℕ) → take (length text - n) (drop n text) ≡ drop n text
tail_is n text = ap (λ m. take m (drop n text)) (sym (length-drop n text)) ∙ take-length (drop n text)

pub escape_tail : (at : ℕ) (text : List ℕ) (e : Escaped) → e ≡ escape (take (length text - (at + 1)) (drop (at + 1) text)) → escape (drop (at + 1) text) ≡ e
escape_tail at text e is = ap escape (sym (tail_is (at + 1) text)) ∙ sym is
