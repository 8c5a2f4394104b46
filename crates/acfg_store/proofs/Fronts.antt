-- What stands at the front of bytes: of one width, or of a length that is told before it, there is one reading.
use Rattle.std.proofs.Common.{◌≡◌, ℕ, ◌^◌, ◌<◌, ◌≤◌, List, [], ◌∷◌, ◌++◌, length, take, drop, refl, sym, ap, ◌∙◌, append_assoc, arith, ◌%◌, get_or, lit<, Bool, true, false, Option, Some, None}
use Rattle.std.proofs.lemmas.List.{length-append, length-take, take-append-drop}
use Rattle.std.specs.Prelude.{⊤}
use Rattle.acfg_base.specs.Names.{IsContainer}
use Rattle.acfg_store.specs.Names.{slot_number}
use Rattle.acfg_store.specs.Records.{bit}
use Rattle.acfg_store.specs.Taken.{Takes, IsPrefix}
use Rattle.acfg_store.specs.declared.names.Slot.{Slot}
use Rattle.acfg_store.specs.declared.names.Slot.TheVariants.{Zero, One}
use Rattle.acfg_views.specs.Fields.{IsBytes, number, number_of, string}
use Rattle.acfg_views.proofs.Exact.{IsWidth, IsBytes-take, length-number, number_of-number}

-- texts of one length in front cancel
pub same_front : (a b x y : List ℕ) → length a ≡ length b → a ++ x ≡ b ++ y → (a ≡ b) × (x ≡ y)
same_front [] [] x y len same = (refl, same)
same_front [] (d ∷ b) x y len same = absurd (omega arith)
same_front (c ∷ a) [] x y len same = absurd (omega arith)
same_front (c ∷ a) (d ∷ b) x y len same =
    let rest : a ++ x ≡ b ++ y = cc in
    let first : c ≡ d = cc in
    let r = same_front a b x y (omega arith) rest in
    let whole : c ∷ a ≡ d ∷ b = cc (first, r.0) in
    (whole, r.1)

-- ---- numbers

pub number_front : (width : ℕ) → IsWidth width → (bytes : List ℕ) → IsBytes bytes → width ≤ length bytes
    → bytes ≡ number width (number_of width (take width bytes)) ++ drop width bytes
number_front width back bytes fits long =
    let len : length (take width bytes) ≡ width = omega (arith, length-take width bytes) in
    sym (take-append-drop width bytes) ∙ ap (λ (t : List ℕ). t ++ drop width bytes) (sym (back (take width bytes) len (IsBytes-take width bytes fits)))

pub byte_front : (bytes front back : List ℕ) → IsBytes bytes → 1 ≤ length bytes → front ≡ take 1 bytes → back ≡ drop 1 bytes
    → (get_or front 0 0 < 256) × (bytes ≡ number 1 (get_or front 0 0) ++ back)
unfolding number
byte_front [] front back fits some front-is back-is = absurd (omega arith)
byte_front (b ∷ rest) front back fits some front-is back-is =
    let small : b < 256 = fits 0 in
    let e : b ≡ b % 256 = omega arith in
    rw (front-is, back-is) (small, ap (λ (x : ℕ). x ∷ rest) e)

pub number_none : (width : ℕ) (bytes : List ℕ) → length bytes < width → (n : ℕ) (rest : List ℕ) → bytes ≡ number width n ++ rest → ⊥
number_none width bytes short n rest same =
    omega (arith, short, ap length same ∙ length-append (number width n) rest, length-number width n)

pub number_prefix : (width : ℕ) → IsPrefix (number width) (λ (n : ℕ). n < 256 ^ width)
number_prefix width = record {
  one = λ n m a b n-lt m-lt same.
      let front = same_front (number width n) (number width m) a b (length-number width n ∙ sym (length-number width m)) same in
      (sym (number_of-number width n a n-lt) ∙ ap (number_of width) same ∙ number_of-number width m b m-lt, front.1);
}

pub one_number : (n : ℕ) → n < 256 → number 1 n ≡ n ∷ []
unfolding number
one_number n small = let e : n % 256 ≡ n = omega arith in ap (λ (x : ℕ). x ∷ []) e

-- ---- texts put behind another one

pub behind_two : (out a b one two : List ℕ) → one ≡ out ++ a → two ≡ one ++ b → two ≡ out ++ (a ++ b)
behind_two out a b one two first second = second ∙ ap (λ (t : List ℕ). t ++ b) first ∙ append_assoc out a b

pub behind_four : (out a b c d one two three four : List ℕ) → one ≡ out ++ a → two ≡ one ++ b → three ≡ two ++ c → four ≡ three ++ d → four ≡ out ++ (a ++ (b ++ (c ++ d)))
behind_four out a b c d one two three four e f g h =
    let ab = behind_two out a b one two e f in
    let abc = behind_two out (a ++ b) c two three ab g in
    behind_two out ((a ++ b) ++ c) d three four abc h ∙ ap (λ (t : List ℕ). out ++ t) (append_assoc (a ++ b) c d ∙ append_assoc a b (c ++ d))

-- ---- strings

pub string_prefix : IsPrefix string (λ (text : List ℕ). length text < 256 ^ 4)
unfolding string
string_prefix = record {
  one = λ s t a b s-lt t-lt same.
      let regrouped : number 4 (length s) ++ (s ++ a) ≡ number 4 (length t) ++ (t ++ b) =
      sym (append_assoc (number 4 (length s)) s a) ∙ same ∙ append_assoc (number 4 (length t)) t b in
      let n = (number_prefix 4).one (length s) (length t) (s ++ a) (t ++ b) s-lt t-lt regrouped in
      same_front s t a b n.0 n.1;
}

-- a container's name has a length that four bytes hold
pub name_fits : (text : List ℕ) → IsContainer text → length text < 256 ^ 4
name_fits text lawful = omega (arith, lawful.bound)

pub name_prefix : IsPrefix string IsContainer
name_prefix = record { one = λ s t a b s-is t-is same. string_prefix.one s t a b (name_fits s s-is) (name_fits t t-is) same }

module _ (bytes : List ℕ) where
  -- where no length stands, no name does
  pub no_length : ((n : ℕ) (rest : List ℕ) → n < 2 ^ 32 → bytes ≡ number 4 n ++ rest → ⊥) → (x rest : List ℕ) → IsContainer x → bytes ≡ string x ++ rest → ⊥
  unfolding string
  no_length none x rest lawful same = none (length x) (x ++ rest) (omega (arith, lawful.bound)) (same ∙ append_assoc (number 4 (length x)) x rest)

  -- where a length stands, a name that stands there has it
  pub name_at : (n : ℕ) (behind : List ℕ) → n < 2 ^ 32 → bytes ≡ number 4 n ++ behind → (x rest : List ℕ) → IsContainer x → bytes ≡ string x ++ rest
      → (n ≡ length x) × (behind ≡ x ++ rest)
  unfolding string
  name_at n behind small parts x rest lawful same =
      (number_prefix 4).one n (length x) behind (x ++ rest) small (omega (arith, lawful.bound)) (sym parts ∙ same ∙ append_assoc (number 4 (length x)) x rest)

  -- so what is read behind the length is the name
  pub taken_behind : (n : ℕ) (behind : List ℕ) → n < 2 ^ 32 → bytes ≡ number 4 n ++ behind → (taken : Option (List ℕ × List ℕ))
      → Takes (λ (text : List ℕ). text) (λ (text : List ℕ). IsContainer text × (length text ≡ n)) behind taken → Takes string IsContainer bytes taken
  unfolding string
  taken_behind n behind small parts None none = λ x rest lawful same.
      let at = name_at n behind small parts x rest lawful same in
      none x rest (lawful, sym at.0) at.1
  taken_behind n behind small parts (Some t) found = (found.0.0, spelled t.0 t.1 found.0.1 found.1)
    where
      spelled : (text rest : List ℕ) → length text ≡ n → behind ≡ text ++ rest → bytes ≡ string text ++ rest
      spelled text rest len is =
          parts ∙ ap (λ (t : List ℕ). number 4 n ++ t) is ∙ sym (append_assoc (number 4 n) text rest) ∙ ap (λ (k : ℕ). (number 4 k ++ text) ++ rest) (sym len)

-- ---- bits and slots

bit_small : (value : Bool) → bit value < 256 ^ 1
bit_small false = lit< tt
bit_small true = lit< tt

bit_tells : (v w : Bool) → bit v ≡ bit w → v ≡ w
bit_tells false false e = refl
bit_tells false true e = absurd (omega arith)
bit_tells true false e = absurd (omega arith)
bit_tells true true e = refl

pub bit_prefix : IsPrefix (λ (value : Bool). number 1 (bit value)) (λ (_ : Bool). ⊤)
bit_prefix = record {
  one = λ v w a b v-is w-is same.
      let n = (number_prefix 1).one (bit v) (bit w) a b (bit_small v) (bit_small w) same in
      (bit_tells v w n.0, n.1);
}

-- a byte that is no bit
pub no_bit : (bytes : List ℕ) (n : ℕ) (behind : List ℕ) → n < 2 ^ 8 → bytes ≡ number 1 n ++ behind → (n ≡ 0 → ⊥) → (n ≡ 1 → ⊥) → (value : Bool) (rest : List ℕ) → bytes ≡ number 1 (bit value) ++ rest → ⊥
no_bit bytes n behind small parts not_zero not_one false rest same =
    not_zero ((number_prefix 1).one n 0 behind rest small (lit< tt) (sym parts ∙ same)).0
no_bit bytes n behind small parts not_zero not_one true rest same =
    not_one ((number_prefix 1).one n 1 behind rest small (lit< tt) (sym parts ∙ same)).0

-- where no bit stands, no slot does
pub no_slot : (bytes : List ℕ) → ((value : Bool) (rest : List ℕ) → ⊤ → bytes ≡ number 1 (bit value) ++ rest → ⊥)
    → (slot : Slot) (rest : List ℕ) → ⊤ → bytes ≡ number 1 (slot_number slot) ++ rest → ⊥
no_slot bytes none Zero rest lawful same = none false rest tt same
no_slot bytes none One rest lawful same = none true rest tt same

slot_tells : (s t : Slot) → slot_number s ≡ slot_number t → s ≡ t
slot_tells Zero Zero e = refl
slot_tells Zero One e = absurd (omega arith)
slot_tells One Zero e = absurd (omega arith)
slot_tells One One e = refl

slot_small : (s : Slot) → slot_number s < 256 ^ 1
slot_small Zero = lit< tt
slot_small One = lit< tt

pub slot_prefix : IsPrefix (λ (slot : Slot). number 1 (slot_number slot)) (λ (_ : Slot). ⊤)
slot_prefix = record {
  one = λ s t a b s-is t-is same.
      let n = (number_prefix 1).one (slot_number s) (slot_number t) a b (slot_small s) (slot_small t) same in
      (slot_tells s t n.0, n.1);
}
