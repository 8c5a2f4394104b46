-- Readers of one field that take just what is spelled.
use Rattle.std.proofs.Common.{◌≡◌, ℕ, ◌+◌, ◌*◌, ◌%◌, ◌^◌, ◌<◌, ◌≤◌, Bool, true, false, cond, ltb, List, [], ◌∷◌, ◌++◌, length, take, drop, Result, Ok, Err, refl, sym, ap, subst, ◌∙◌, append_assoc, arith, inl, inr, lit<}
use Rattle.std.proofs.lemmas.Nat.{le_bytes_2, le_bytes_4}
use Rattle.std.proofs.lemmas.Bool.Decides.{nat_tests}
use Rattle.std.proofs.lemmas.Bool.{cases_lt, ltb-false, le-ltb}
use Rattle.std.proofs.lemmas.List.{take_at, drop_at, take-append-drop, length-append, length-take, get_or-drop, get_or-take, get_or_past}
use Rattle.byteorder.specs.Endian.{little_number}
use Rattle.byteorder.specs.Numbers.{length-bytes_low_first, little_from-append, little_from-lt, little_number-reads_back}
use Rattle.acfg_base.specs.Release.{kind_number}
use Rattle.acfg_base.specs.declared.releases.Kind.{Kind}
use Rattle.acfg_base.specs.declared.releases.Kind.TheVariants.{ReadWrite, ReadOnly, Fixed}
use Rattle.acfg_views.specs.declared.fault.ViewFault.{ViewFault}
use Rattle.acfg_views.specs.declared.fault.ViewFault.TheVariants.{Short}
use Rattle.acfg_views.specs.Fields.{IsBytes, number, number_of, string}
use Rattle.acfg_views.specs.Reading.{◌>>=◌, number_at, string_at, tested, kind_at, kind_of}

pub IsBytes-drop : (n : ℕ) (bytes : List ℕ) → IsBytes bytes → IsBytes (drop n bytes)
IsBytes-drop n bytes h i = rw get_or-drop (h (n + i))

pub IsBytes-take : (n : ℕ) (bytes : List ℕ) → IsBytes bytes → IsBytes (take n bytes)
IsBytes-take n bytes h i =
    elim (cases_lt i n) [
      | inl lt ↦ rw (get_or-take n bytes i 0 lt) (h i)
      | inr le ↦ rw (get_or_past (take n bytes) i 0 (omega (arith, length-take n bytes))) (omega arith)
    ]

-- the value of a step that did not fail
pub bind_ok : {A B : Type 0} (r : Result A ViewFault) (f : A → Result B ViewFault) (y : B) → (r >>= f) ≡ Ok y → (x : A) × (r ≡ Ok x) × (f x ≡ Ok y)
bind_ok (Ok x) f y e = (x, refl, e)
bind_ok (Err d) f y e = absurd cc

-- a test that stopped at true, or went on
pub guard_ok : {A : Type 0} (b : Bool) (d : ViewFault) (x y : A) → cond b (Err d) (Ok x) ≡ Ok y → (b ≡ false) × (x ≡ y)
guard_ok true d x y e = absurd cc
guard_ok false d x y e = (refl, cc)

pub passed : {A : Type 0} (b : Bool) (d : ViewFault) (x y : A) → cond b (Ok x) (Err d) ≡ Ok y → (b ≡ true) × (x ≡ y)
passed true d x y e = (refl, cc)
passed false d x y e = absurd cc

abbrev done : {A : Type 0} → A → Result A ViewFault
done x = Ok x

pub ok_is : {A : Type 0} (x y : A) → done x ≡ done y → x ≡ y
ok_is x y e = cc

-- what a reader took from the front
pub record Takes (bytes text rest : List ℕ) : Type 0 where
  pub parts : bytes ≡ text ++ rest
  pub rest_fits : IsBytes rest

pub Takes-then : (a x b y c : List ℕ) → Takes a x b → Takes b y c → Takes a (x ++ y) c
Takes-then a x b y c p q = record { parts = p.parts ∙ ap (λ (t : List ℕ). x ++ t) q.parts ∙ sym (append_assoc x y c); rest_fits = q.rest_fits }

pub Takes-none : (a : List ℕ) → IsBytes a → Takes a [] a
Takes-none a fits = record { parts = refl; rest_fits = fits }

-- a reader that takes just what is spelled, and reads it again
pub record IsExact {X : Type 0} (read : List ℕ → Result (X × List ℕ) ViewFault) (spelled : X → List ℕ) (IsLawful : X → Type 0) : Type 0 where
  pub found : (bytes : List ℕ) (x : X) (rest : List ℕ) → IsBytes bytes → read bytes ≡ Ok (x, rest) → Takes bytes (spelled x) rest × IsLawful x
  pub again : (x : X) (rest : List ℕ) → IsLawful x → read (spelled x ++ rest) ≡ Ok (x, rest)

-- ---- numbers

pub length-number : (width n : ℕ) → length (number width n) ≡ width
unfolding number
length-number width n = length-bytes_low_first 0 width n

-- bytes spell the number that they read as
abbrev pub IsWidth : ℕ → Type 0
IsWidth width = (bytes : List ℕ) → length bytes ≡ width → IsBytes bytes → number width (number_of width bytes) ≡ bytes

pub one_byte : IsWidth 1
unfolding number number_of
one_byte [] len fits = absurd (omega arith)
one_byte (a ∷ []) len fits = let h = fits 0 in let e : (a + 256 * 0) % 256 ≡ a = omega arith in ap (λ (x : ℕ). x ∷ []) e
one_byte (a ∷ b ∷ bytes) len fits = absurd (omega arith)

pub two_bytes : IsWidth 2
unfolding number number_of
two_bytes bytes len fits = le_bytes_2 bytes (little_number 2 bytes) len fits (omega arith)

pub four_bytes : IsWidth 4
unfolding number number_of
four_bytes bytes len fits = le_bytes_4 bytes (little_number 4 bytes) len fits (omega arith)

pub number_of-lt : (width : ℕ) (bytes : List ℕ) → IsBytes bytes → number_of width bytes < 256 ^ width
unfolding number_of
number_of-lt width bytes fits = little_from-lt 0 width bytes fits

pub number_of-number : (width n : ℕ) (rest : List ℕ) → n < 256 ^ width → number_of width (number width n ++ rest) ≡ n
unfolding number number_of
number_of-number width n rest lt = little_number-reads_back width n rest lt

pub number_of-take : (width : ℕ) (bytes : List ℕ) → width ≤ length bytes → number_of width (take width bytes) ≡ number_of width bytes
unfolding number_of
number_of-take width bytes le =
    let front : width ≤ length (take width bytes) = omega (arith, length-take width bytes) in
    sym (little_from-append width (take width bytes) (drop width bytes) front) ∙ ap (little_number width) (take-append-drop width bytes)

pub number_exact : (width : ℕ) → IsWidth width → IsExact (number_at width) (number width) (λ n. n < 256 ^ width)
number_exact width back = record {
  found = λ bytes n rest fits e.
      let g = guard_ok (ltb (length bytes) width) Short (number_of width bytes, drop width bytes) (n, rest) e in
      let long : width ≤ length bytes = ltb-false _ _ g.0 in
      let n-is : number_of width bytes ≡ n = ap (λ (p : ℕ × List ℕ). p.0) g.1 in
      let rest-is : drop width bytes ≡ rest = ap (λ (p : ℕ × List ℕ). p.1) g.1 in
      let front : number width n ≡ take width bytes =
      ap (number width) (sym n-is ∙ sym (number_of-take width bytes long)) ∙ back (take width bytes) (omega (arith, length-take width bytes)) (IsBytes-take width bytes fits) in (
        record { parts = rw (front, ← rest-is) (sym (take-append-drop width bytes)); rest_fits = rw (← rest-is) (IsBytes-drop width bytes fits) },
        rw (← n-is) (number_of-lt width bytes fits),
      );
  again = λ n rest lt.
      let len = length-number width n in
      let long : ltb (length (number width n ++ rest)) width ≡ false = le-ltb _ _ (omega (arith, length-append (number width n) rest)) in
      rw (long, number_of-number width n rest lt, drop_at (number width n) rest width len) refl;
}

-- ---- strings

abbrev pub IsStringText : List ℕ → Type 0
IsStringText text = length text < 256 ^ 4

pub string_exact : IsExact string_at string IsStringText
unfolding string_at string
string_exact = record {
  found = λ bytes text rest fits e.
      let b = bind_ok (number_at 4 bytes) (λ n. cond (ltb (length n.1) n.0) (Err Short) (Ok (take n.0 n.1, drop n.0 n.1))) (text, rest) e in
      let n = b.0 in
      let t = (number_exact 4 four_bytes).found bytes n.0 n.1 fits b.1 in
      let g = guard_ok (ltb (length n.1) n.0) Short (take n.0 n.1, drop n.0 n.1) (text, rest) b.2 in
      let long : n.0 ≤ length n.1 = ltb-false _ _ g.0 in
      let len : length (take n.0 n.1) ≡ n.0 = omega (arith, length-take n.0 n.1) in
      let second : Takes n.1 (take n.0 n.1) (drop n.0 n.1) = record { parts = sym (take-append-drop n.0 n.1); rest_fits = IsBytes-drop n.0 n.1 t.0.rest_fits } in
      let both = Takes-then bytes (number 4 n.0) n.1 (take n.0 n.1) (drop n.0 n.1) t.0 second in
      let whole : Takes bytes (number 4 (length (take n.0 n.1)) ++ take n.0 n.1) (drop n.0 n.1) = subst (λ (k : ℕ). Takes bytes (number 4 k ++ take n.0 n.1) (drop n.0 n.1)) (sym len) both in
      subst (λ (p : List ℕ × List ℕ). Takes bytes (number 4 (length p.0) ++ p.0) p.1 × (length p.0 < 256 ^ 4)) g.1 (whole, rw len t.1);
  again = λ text rest lt.
      let long : ltb (length (text ++ rest)) (length text) ≡ false = le-ltb _ _ (omega (arith, length-append text rest)) in
      let regrouped : (number 4 (length text) ++ text) ++ rest ≡ number 4 (length text) ++ (text ++ rest) = append_assoc (number 4 (length text)) text rest in
      ap (λ (b : List ℕ). number_at 4 b >>= λ n. cond (ltb (length n.1) n.0) (Err Short) (Ok (take n.0 n.1, drop n.0 n.1))) regrouped
      ∙ rw ((number_exact 4 four_bytes).again (length text) (text ++ rest) lt, long, take_at text rest (length text) refl, drop_at text rest (length text) refl) refl;
}

-- ---- a field that a test lets through

pub tested_exact : {X : Type 0} (read : List ℕ → Result (X × List ℕ) ViewFault) (spelled : X → List ℕ) (IsLawful : X → Type 0) (test : X → Bool) (fault : X → ViewFault)
    → IsExact read spelled IsLawful → IsExact (λ bytes. tested test fault (read bytes)) spelled (λ x. IsLawful x × (test x ≡ true))
tested_exact {X} read spelled IsLawful test fault exact = record {
  found = λ bytes x rest fits e.
      let b = bind_ok (read bytes) (λ field. cond (test field.0) (Ok field) (Err (fault field.0))) (x, rest) e in
      let p = passed (test b.0.0) (fault b.0.0) b.0 (x, rest) b.2 in
      let f = exact.found bytes b.0.0 b.0.1 fits b.1 in
      subst (λ (y : X × List ℕ). Takes bytes (spelled y.0) y.1 × (IsLawful y.0 × (test y.0 ≡ true))) p.1 (f.0, (f.1, p.0));
  again = λ x rest lawful. rw (exact.again x rest lawful.0, lawful.1) refl;
}

-- ---- a flag's type

abbrev with_rest : List ℕ → Kind → Result (Kind × List ℕ) ViewFault
with_rest rest kind = Ok (kind, rest)

pub kind_exact : IsExact kind_at (λ kind. number 2 (kind_number kind)) (λ _. Unit {0})
unfolding kind_at
kind_exact = record {
  found = λ bytes kind rest fits e.
      let b = bind_ok (number_at 2 bytes) (λ n. kind_of n.0 >>= with_rest n.1) (kind, rest) e in
      let c = bind_ok (kind_of b.0.0) (with_rest b.0.1) (kind, rest) b.2 in
      let f = (number_exact 2 two_bytes).found bytes b.0.0 b.0.1 fits b.1 in
      let same : kind_number c.0 ≡ b.0.0 = kind_back b.0.0 c.0 c.1 in
      subst (λ (y : Kind × List ℕ). Takes bytes (number 2 (kind_number y.0)) y.1 × Unit {0}) (ok_is (c.0, b.0.1) (kind, rest) c.2)
      (subst (λ (n : ℕ). Takes bytes (number 2 n) b.0.1) (sym same) f.0, tt);
  again = λ kind rest _. rw ((number_exact 2 two_bytes).again (kind_number kind) rest (kind_small kind)) (kind_again kind rest);
}
  where
    kind_back : (n : ℕ) (kind : Kind) → kind_of n ≡ Ok kind → kind_number kind ≡ n
    kind_back n ReadWrite e = grind (arith, nat_tests)
    kind_back n ReadOnly e = grind (arith, nat_tests)
    kind_back n Fixed e = grind (arith, nat_tests)

    kind_small : (kind : Kind) → kind_number kind < 256 ^ 2
    kind_small ReadWrite = lit< tt
    kind_small ReadOnly = lit< tt
    kind_small Fixed = lit< tt

    kind_again : (kind : Kind) (rest : List ℕ) → (kind_of (kind_number kind) >>= with_rest rest) ≡ Ok (kind, rest)
    kind_again ReadWrite rest = refl
    kind_again ReadOnly rest = refl
    kind_again Fixed rest = refl
