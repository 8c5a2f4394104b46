-- Quoted tokens: the scan of a text finds exactly the end or the fault that the definitions have.
use Rattle.std.proofs.Common.{◌≡◌, ℕ, zero, suc, ◌+◌, ◌-◌, ◌<◌, Bool, true, false, List, [], ◌∷◌, ◌++◌, length, take, drop, Some, None, refl, sym, ap, ◌∙◌, subst, arith, append_assoc, cond, length-drop, length-append}
use Rattle.std.proofs.lemmas.List.{drop-drop, take-append-drop, length-take, drop-append-le}
use Rattle.std.proofs.Math.Seq.{drop-append_seam}
use Rattle.std.specs.Prelude.{◌≤◌, ◌&&◌, ◌==◌, nat_le, encode_utf8}
use Rattle.std.proofs.lemmas.Bool.Decides.{nat_tests}
use Rattle.acfg_text.specs.declared.quoted.Within.{Within}
use Rattle.acfg_text.specs.declared.quoted.Within.TheVariants.{Close, Line, Backslash, Plain}
use Rattle.acfg_text.specs.declared.quoted.Scan.{Scan}
use Rattle.acfg_text.specs.declared.quoted.Scan.TheVariants.{Closed, Bad, Open}
use Rattle.acfg_text.specs.declared.quoted.Escape.{Escape}
use Rattle.acfg_text.specs.declared.quoted.Escape.TheVariants.{Byte, Octal, Hexadecimal, Scalar, Unknown}
use Rattle.acfg_text.specs.Escapes.{digits, number, is_octal, is_hexadecimal, is_scalar, Escaped, octal, hexadecimal, unicode, escape_as, escape_by, escape, within}
use Rattle.acfg_text.specs.Lexes.{is_line_feed, Closes, closed, plain_byte, escaped, IsCut, NeverCloses, text_ends, line_ends, cut_off, plain_then, escape_then, BadAt, bad_here, plain_before, escape_before}
use Rattle.acfg_text.specs.Scanning.{is_cut, unknown_escape, scan_by, scan}

-- digits at a front
cond_len : (q : Bool) (b : ℕ) (l : List ℕ) (n : ℕ) → length l ≤ n → length (cond q (b ∷ l) []) ≤ suc n
cond_len true b l n h = omega arith
cond_len false b l n h = omega arith

pub digits_len : (p : ℕ → Bool) (m : ℕ) (text : List ℕ) → length (digits p m text) ≤ length text
digits_len p zero text = omega arith
digits_len p (suc m) [] = omega arith
digits_len p (suc m) (b ∷ text) = cond_len (p b) b (digits p m text) (length text) (digits_len p m text)

cond_local : (q : Bool) (d : ℕ) (l r : List ℕ) (n : ℕ) → (length l ≤ n → r ≡ l) → length (cond q (d ∷ l) []) ≤ suc n → cond q (d ∷ r) [] ≡ cond q (d ∷ l) []
cond_local true d l r n same e = ap (λ z. d ∷ z) (same (omega arith))
cond_local false d l r n same e = refl

cond_short : (q : Bool) (b : ℕ) (l r : List ℕ) → length (cond q (b ∷ l) []) ≤ 0 → cond q (b ∷ r) [] ≡ cond q (b ∷ l) []
cond_short true b l r e = absurd (omega arith)
cond_short false b l r e = refl

digits_local : (p : ℕ → Bool) (m : ℕ) (a : List ℕ) (b : ℕ) (x y : List ℕ) → length (digits p m (a ++ b ∷ x)) ≤ length a → digits p m (a ++ b ∷ y) ≡ digits p m (a ++ b ∷ x)
digits_local p zero a b x y e = refl
digits_local p (suc m) [] b x y e = cond_short (p b) b (digits p m x) (digits p m y) e
digits_local p (suc m) (d ∷ a) b x y e = cond_local (p d) d (digits p m (a ++ b ∷ x)) (digits p m (a ++ b ∷ y)) (length a) (λ h. digits_local p m a b x y h) e

cond_some : {A : Type 0} (q : Bool) (a b : A) → cond q (Some a) None ≡ Some b → a ≡ b
cond_some true a b e = cc
cond_some false a b e = absurd cc

cond_none : {A : Type 0} (q : Bool) (a b : A) → cond q None (Some a) ≡ Some b → a ≡ b
cond_none true a b e = absurd cc
cond_none false a b e = cc

abbrev pair : ℕ → List ℕ → ℕ × List ℕ
pair n v = (n, v)

count_of : {m n : ℕ} {x y : List ℕ} → pair m x ≡ pair n y → m ≡ n
count_of e = ap (λ (z : ℕ × List ℕ). z.0) e

-- an escape is in the text, and has a byte at least
pub record Fits (n : ℕ) (text : List ℕ) : Type 0 where
  pub some : 0 < n
  pub inside : n ≤ length text

octal_count : (first : ℕ) (found : List ℕ) (n : ℕ) (v : List ℕ) → octal first found ≡ Some (n, v) → length found + 1 ≡ n
octal_count first found n v e = count_of (cond_some (nat_le (number 8 first found) 255) (pair (length found + 1) (number 8 first found ∷ [])) (pair n v) e)

hexadecimal_count : (found : List ℕ) (n : ℕ) (v : List ℕ) → hexadecimal found ≡ Some (n, v) → length found + 1 ≡ n
hexadecimal_count found n v e = count_of (cond_none (length found == 0) (pair (length found + 1) (number 16 0 found ∷ [])) (pair n v) e)

unicode_count : (m : ℕ) (found : List ℕ) (n : ℕ) (v : List ℕ) → unicode m found ≡ Some (n, v) → (m + 1 ≡ n) × (length found ≡ m)
unicode_count m found n v e = go (length found == m) (is_scalar (number 16 0 found)) refl e
  where
    go : (q r : Bool) → (length found == m) ≡ q → cond (q && r) (Some (pair (m + 1) (encode_utf8 (number 16 0 found)))) None ≡ Some (pair n v) → (m + 1 ≡ n) × (length found ≡ m)
    go false r is e = absurd cc
    go true r is e = (count_of (cond_some r (pair (m + 1) (encode_utf8 (number 16 0 found))) (pair n v) e), grind (arith, nat_tests))

fits_as : (k : Escape) (b : ℕ) (text : List ℕ) (n : ℕ) (v : List ℕ) → escape_as k b text ≡ Some (n, v) → Fits n (b ∷ text)
fits_as (Byte value) b text n v e = let is : 1 ≡ n = count_of (some_same (pair 1 (value ∷ [])) (pair n v) e) in record { some = omega arith; inside = omega arith }
  where
    some_same : {A : Type 0} (x y : A) → Some x ≡ Some y → x ≡ y
    some_same x y e = cc
fits_as (Octal first) b text n v e =
    let is : length (digits is_octal 2 text) + 1 ≡ n = octal_count first (digits is_octal 2 text) n v e in
    record { some = omega arith; inside = omega (arith, digits_len is_octal 2 text) }
fits_as Hexadecimal b text n v e =
    let is : length (digits is_hexadecimal 2 text) + 1 ≡ n = hexadecimal_count (digits is_hexadecimal 2 text) n v e in
    record { some = omega arith; inside = omega (arith, digits_len is_hexadecimal 2 text) }
fits_as (Scalar m) b text n v e =
    let is : (m + 1 ≡ n) × (length (digits is_hexadecimal m text) ≡ m) = unicode_count m (digits is_hexadecimal m text) n v e in
    record { some = omega (arith, is.0); inside = omega (arith, is.0, is.1, digits_len is_hexadecimal m text) }
fits_as Unknown b text n v e = absurd cc

pub escape_fits : (text : List ℕ) (n : ℕ) (v : List ℕ) → escape text ≡ Some (n, v) → Fits n text
unfolding escape
escape_fits [] n v e = absurd cc
escape_fits (b ∷ text) n v e = fits_as (escape_by b) b text n v e

local_as : (k : Escape) (d : ℕ) (a : List ℕ) (b : ℕ) (x y v : List ℕ) → escape_as k d (a ++ b ∷ x) ≡ Some (suc (length a), v) → escape_as k d (a ++ b ∷ y) ≡ Some (suc (length a), v)
local_as (Byte value) d a b x y v e = e
local_as (Octal first) d a b x y v e =
    let count : length (digits is_octal 2 (a ++ b ∷ x)) + 1 ≡ suc (length a) = octal_count first (digits is_octal 2 (a ++ b ∷ x)) (suc (length a)) v e in
    ap (octal first) (digits_local is_octal 2 a b x y (omega arith)) ∙ e
local_as Hexadecimal d a b x y v e =
    let count : length (digits is_hexadecimal 2 (a ++ b ∷ x)) + 1 ≡ suc (length a) = hexadecimal_count (digits is_hexadecimal 2 (a ++ b ∷ x)) (suc (length a)) v e in
    ap hexadecimal (digits_local is_hexadecimal 2 a b x y (omega arith)) ∙ e
local_as (Scalar m) d a b x y v e =
    let count : (m + 1 ≡ suc (length a)) × (length (digits is_hexadecimal m (a ++ b ∷ x)) ≡ m) = unicode_count m (digits is_hexadecimal m (a ++ b ∷ x)) (suc (length a)) v e in
    ap (unicode m) (digits_local is_hexadecimal m a b x y (omega (arith, count.0, count.1))) ∙ e
local_as Unknown d a b x y v e = absurd cc

-- an escape is known by its own bytes and by the one behind them
escape_local : (a : List ℕ) (b : ℕ) (x y v : List ℕ) → escape (a ++ b ∷ x) ≡ Some (length a, v) → escape (a ++ b ∷ y) ≡ Some (length a, v)
unfolding escape
escape_local [] b x y v e = let fits : Fits 0 (b ∷ x) = escape_fits (b ∷ x) 0 v e in absurd (omega (arith, fits.some))
escape_local (d ∷ a) b x y v e = local_as (escape_by d) d a b x y v e

-- the text behind an opening quote is passed over so far
pub scan_skip : (quote k at : ℕ) (text : List ℕ) → k ≤ length text → scan quote k at text ≡ scan quote 0 (at + k) (drop k text)
unfolding scan
scan_skip quote zero at text h = ap (λ n. scan quote 0 n text) (omega arith)
scan_skip quote (suc k) at [] h = absurd (omega arith)
scan_skip quote (suc k) at (b ∷ text) h = scan_skip quote k (at + 1) text (omega arith) ∙ ap (λ n. scan quote 0 n (drop k text)) (omega arith)

record ClosesAt (quote : ℕ) (text rest : List ℕ) : Type 0 where
  count : ℕ
  inside : count ≤ length text
  behind : drop count text ≡ rest
  scans : (at : ℕ) → scan quote 0 at text ≡ Closed (at + count)

skip_drop : (n m : ℕ) (text rest : List ℕ) → drop m (drop n text) ≡ rest → drop (n + m) text ≡ rest
skip_drop n m text rest e = sym (drop-drop m n text) ∙ e

closes_at : (quote : ℕ) {text rest : List ℕ} → Closes quote text rest → ClosesAt quote text rest
unfolding scan
closes_at quote (closed e) = record { count = 1; inside = omega arith; behind = refl; scans = λ at. rw e refl }
closes_at quote (plain_byte {text = text} {rest = rest} e closes) = let r : ClosesAt quote text rest = closes_at quote closes in
    record { count = suc r.count; inside = omega (arith, r.inside); behind = r.behind; scans = λ at. rw e (r.scans (at + 1) ∙ ap Closed (omega arith)) }
closes_at quote (escaped {n = n} {bytes = bytes} {text = text} {rest = rest} e is closes) =
    let r : ClosesAt quote (drop n text) rest = closes_at quote closes in
    let fits : Fits n text = escape_fits text n bytes is in
    record {
      count = suc (n + r.count);
      inside = omega (arith, r.inside, fits.inside, length-drop n text);
      behind = skip_drop n r.count text rest r.behind;
      scans = λ at. rw (e, is) (scan_skip quote n (at + 1) text fits.inside ∙ r.scans (at + 1 + n) ∙ ap Closed (omega arith));
    }

-- two ends of one quoted text are one
pub one_close : (quote : ℕ) (text rest other : List ℕ) → Closes quote text rest → Closes quote text other → rest ≡ other
one_close quote text rest other closes again =
    let a : ClosesAt quote text rest = closes_at quote closes in
    let b : ClosesAt quote text other = closes_at quote again in
    let same : Closed (0 + a.count) ≡ Closed (0 + b.count) = sym (a.scans 0) ∙ b.scans 0 in
    let counts : 0 + a.count ≡ 0 + b.count = cc in
    let equal : a.count ≡ b.count = omega arith in
    sym a.behind ∙ ap (λ n. drop n text) equal ∙ b.behind

pub closes_scan : (quote : ℕ) (body rest : List ℕ) → Closes quote (body ++ rest) rest → scan quote 0 0 (body ++ rest) ≡ Closed (length body)
closes_scan quote body rest closes =
    let a : ClosesAt quote (body ++ rest) rest = closes_at quote closes in
    let lens : length rest ≡ length (body ++ rest) - a.count = ap length (sym a.behind) ∙ length-drop a.count (body ++ rest) in
    a.scans 0 ∙ ap Closed (omega (arith, a.inside, lens, length-append body rest))

cut_true : (text : List ℕ) → IsCut text → is_cut text ≡ true
cut_true [] cut = refl
cut_true (b ∷ text) cut = cut

cut_from : (text : List ℕ) → is_cut text ≡ true → IsCut text
cut_from [] e = tt
cut_from (b ∷ text) e = e

cut_none : (text : List ℕ) → IsCut text → escape text ≡ None
unfolding escape is_line_feed escape_by is_octal
cut_none [] cut = refl
cut_none (b ∷ text) cut = let is : b ≡ 10 = grind (arith, nat_tests) in rw is refl

pub never_scan : (quote : ℕ) {text : List ℕ} (at : ℕ) → NeverCloses quote text → scan quote 0 at text ≡ Open
unfolding scan
never_scan quote at text_ends = refl
never_scan quote at (line_ends e) = rw e refl
never_scan quote at (cut_off {text = text} e cut) = rw (e, cut_none text cut, cut_true text cut) refl
never_scan quote at (plain_then e never) = rw e (never_scan quote (at + 1) never)
never_scan quote at (escape_then {n = n} {bytes = bytes} {text = text} e is never) =
    let fits : Fits n text = escape_fits text n bytes is in
    rw (e, is) (scan_skip quote n (at + 1) text fits.inside ∙ never_scan quote (at + 1 + n) never)

pub bad_scan : (quote : ℕ) {n : ℕ} {text : List ℕ} (at : ℕ) → BadAt quote n text → scan quote 0 at text ≡ Bad (at + n)
unfolding scan
bad_scan quote at (bad_here {text = text} e none more) = rw (e, none) (told (is_cut text) refl)
  where
    told : (q : Bool) → is_cut text ≡ q → unknown_escape q at ≡ Bad (at + 0)
    told true is = absurd (more (cut_from text is))
    told false is = ap Bad (omega arith)
bad_scan quote at (plain_before {n = n} e bad) = rw e (bad_scan quote (at + 1) bad ∙ ap Bad (omega arith))
bad_scan quote at (escape_before {m = m} {n = n} {bytes = bytes} {text = text} e is bad) =
    let fits : Fits m text = escape_fits text m bytes is in
    rw (e, is) (scan_skip quote m (at + 1) text fits.inside ∙ bad_scan quote (at + 1 + m) bad ∙ ap Bad (omega arith))

-- what a scan says of the text
abbrev pub Scanned : ℕ → ℕ → List ℕ → Scan → Type 0
Scanned quote start text (Closed e) = (n : ℕ) × (e ≡ start + n) × (n ≤ length text) × Closes quote text (drop n text)
Scanned quote start text (Bad e) = (n : ℕ) × (e ≡ start + n) × BadAt quote n text
Scanned quote start text Open = NeverCloses quote text

scanned_plain : (quote start b : ℕ) (text : List ℕ) (s : Scan) → within quote b ≡ Plain → Scanned quote (start + 1) text s → Scanned quote start (b ∷ text) s
scanned_plain quote start b text (Closed e) is (n, at, inside, closes) = (suc n, omega arith, omega arith, plain_byte is closes)
scanned_plain quote start b text (Bad e) is (n, at, bad) = (n + 1, omega arith, plain_before is bad)
scanned_plain quote start b text Open is never = plain_then is never

scanned_escape : (quote start b m : ℕ) (bytes text : List ℕ) (s : Scan) → within quote b ≡ Backslash → escape text ≡ Some (m, bytes) → m ≤ length text → Scanned quote (start + 1 + m) (drop m text) s → Scanned quote start (b ∷ text) s
scanned_escape quote start b m bytes text (Closed e) is some fits (n, at, inside, closes) =
    (suc (m + n), omega arith, omega (arith, length-drop m text), escaped is some (subst (Closes quote (drop m text)) (drop-drop n m text) closes))
scanned_escape quote start b m bytes text (Bad e) is some fits (n, at, bad) = (n + m + 1, omega arith, escape_before is some bad)
scanned_escape quote start b m bytes text Open is some fits never = escape_then is some never

pub scan_is : (quote k at start : ℕ) (text : List ℕ) → k ≤ length text → start ≡ at + k → Scanned quote start (drop k text) (scan quote k at text)
unfolding scan
scan_is quote zero at start [] h is = text_ends
scan_is quote (suc k) at start [] h is = absurd (omega arith)
scan_is quote (suc k) at start (b ∷ text) h is = scan_is quote k (at + 1) start text (omega arith) (omega arith)
scan_is quote zero at start (b ∷ text) h is = by_byte (within quote b) refl
    (λ n inside. scan_is quote n (at + 1) (start + 1 + n) text inside (omega arith))
  where
    unknown : (q : Bool) → is_cut text ≡ q → within quote b ≡ Backslash → escape text ≡ None → Scanned quote start (b ∷ text) (unknown_escape q at)
    unknown true cut w none = cut_off w (cut_from text cut)
    unknown false cut w none = (0, omega arith, bad_here w none (λ is_cut_off. let known : is_cut text ≡ true = cut_true text is_cut_off in cc))

    by_escape : (e : Escaped) → within quote b ≡ Backslash → escape text ≡ e → ((n : ℕ) → n ≤ length text → Scanned quote (start + 1 + n) (drop n text) (scan quote n (at + 1) text))
        → Scanned quote start (b ∷ text) (scan_by Backslash e at text (λ n. scan quote n (at + 1) text))
    by_escape (Some (n, bytes)) w some more =
        let fits : Fits n text = escape_fits text n bytes some in
        scanned_escape quote start b n bytes text (scan quote n (at + 1) text) w some fits.inside (more n fits.inside)
    by_escape None w none more = unknown (is_cut text) refl w none

    by_byte : (w : Within) → within quote b ≡ w → ((n : ℕ) → n ≤ length text → Scanned quote (start + 1 + n) (drop n text) (scan quote n (at + 1) text))
        → Scanned quote start (b ∷ text) (scan_by w (escape text) at text (λ n. scan quote n (at + 1) text))
    by_byte Close w more = (1, omega arith, omega arith, closed w)
    by_byte Line w more = line_ends w
    by_byte Plain w more = scanned_plain quote start b text (scan quote 0 (at + 1) text) w (subst (λ n. Scanned quote n text (scan quote 0 (at + 1) text)) (omega arith) (more 0 (omega arith)))
    by_byte Backslash w more = by_escape (escape text) w refl more

-- a quoted text stands for itself, whatever follows its end
record Begun (text : List ℕ) : Type 0 where
  first : ℕ
  others : List ℕ
  is : text ≡ first ∷ others

begun : (quote : ℕ) {text rest : List ℕ} → Closes quote text rest → Begun text
begun quote (closed {b = b} {rest = rest} e) = record { first = b; others = rest; is = refl }
begun quote (plain_byte {b = b} {text = text} e closes) = record { first = b; others = text; is = refl }
begun quote (escaped {b = b} {text = text} e is closes) = record { first = b; others = text; is = refl }

escape_with : (n : ℕ) (v text : List ℕ) (b : ℕ) (x y : List ℕ) → escape text ≡ Some (pair n v) → n ≤ length text → drop n text ≡ b ∷ x → escape (take n text ++ b ∷ y) ≡ Some (pair n v)
escape_with n v text b x y e inside is =
    let front : length (take n text) ≡ n = omega (arith, length-take n text) in
    let whole : text ≡ take n text ++ b ∷ x = sym (take-append-drop n text) ∙ ap (λ l. take n text ++ l) is in
    let here : escape (take n text ++ b ∷ x) ≡ Some (pair (length (take n text)) v) = ap escape (sym whole) ∙ e ∙ ap (λ m. Some (pair m v)) (sym front) in
    escape_local (take n text) b x y v here ∙ ap (λ m. Some (pair m v)) front

pub closes_more : (quote : ℕ) {text rest : List ℕ} (more : List ℕ) → Closes quote text rest → Closes quote (text ++ more) (rest ++ more)
closes_more quote more (closed e) = closed e
closes_more quote more (plain_byte e closes) = plain_byte e (closes_more quote more closes)
closes_more quote more (escaped {n = n} {bytes = bytes} {text = text} {rest = rest} e is closes) =
    let g : Begun (drop n text) = begun quote closes in
    let fits : Fits n text = escape_fits text n bytes is in
    let whole : take n text ++ (g.first ∷ (g.others ++ more)) ≡ text ++ more = ap (λ l. take n text ++ (l ++ more)) (sym g.is) ∙ sym (append_assoc (take n text) (drop n text) more) ∙ ap (λ l. l ++ more) (take-append-drop n text) in
    let some : escape (text ++ more) ≡ Some (pair n bytes) = ap escape (sym whole) ∙ escape_with n bytes text g.first g.others (g.others ++ more) is fits.inside g.is in
    let behind : drop n (text ++ more) ≡ drop n text ++ more = drop-append-le n text more fits.inside in
    escaped e some (subst (λ l. Closes quote l (rest ++ more)) (sym behind) (closes_more quote more closes))

pub record Split (quote : ℕ) (text rest : List ℕ) : Type 0 where
  pub body : List ℕ
  pub is : text ≡ body ++ rest
  pub closes : Closes quote body []

pub closes_split : (quote : ℕ) {text rest : List ℕ} → Closes quote text rest → Split quote text rest
closes_split quote (closed {b = b} e) = record { body = b ∷ []; is = refl; closes = closed e }
closes_split quote (plain_byte {b = b} {text = text} {rest = rest} e closes) =
    let s : Split quote text rest = closes_split quote closes in record { body = b ∷ s.body; is = ap (λ l. b ∷ l) s.is; closes = plain_byte e s.closes }
closes_split quote (escaped {b = b} {n = n} {bytes = bytes} {text = text} {rest = rest} e is closes) =
    let s : Split quote (drop n text) rest = closes_split quote closes in
    let g : Begun s.body = begun quote s.closes in
    let fits : Fits n text = escape_fits text n bytes is in
    let behind : drop n text ≡ g.first ∷ (g.others ++ rest) = s.is ∙ ap (λ l. l ++ rest) g.is in
    let some : escape (take n text ++ s.body) ≡ Some (pair n bytes) = ap (λ l. escape (take n text ++ l)) g.is ∙ escape_with n bytes text g.first (g.others ++ rest) g.others is fits.inside behind in
    let front : length (take n text) ≡ n = omega (arith, length-take n text) in
    let left_over : drop n (take n text ++ s.body) ≡ s.body = ap (λ m. drop m (take n text ++ s.body)) (sym front) ∙ drop-append_seam (take n text) s.body in
    record {
      body = b ∷ (take n text ++ s.body);
      is = ap (λ l. b ∷ l) (sym (take-append-drop n text) ∙ ap (λ l. take n text ++ l) s.is ∙ sym (append_assoc (take n text) s.body rest));
      closes = escaped e some (subst (λ l. Closes quote l []) (sym left_over) s.closes);
    }
