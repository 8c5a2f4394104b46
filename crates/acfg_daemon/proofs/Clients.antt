-- The numbers of clients: decimal texts without a sign or leading zeros.
use Rattle.std.proofs.Common.{◌≡◌, ℕ, zero, suc, ◌+◌, ◌<◌, List, length, get_or, take, drop, sym, ◌∙◌, ap, subst, arith, lit<, Result, Ok, Err}
use Rattle.std.specs.Result.{result_ok}
use Rattle.std.specs.Fmt.{decimal}
use Rattle.std.specs.Int.{IsInRange}
use Rattle.std.specs.Str.Parse.{ParsesUnsigned, digits_value}
use Rattle.std.proofs.lemmas.Fmt.{decimal_digit, decimal_nonempty, first_decimal, digits_decimal, decimal-digits_value, parse-decimal, IsAscii-decimal, decimal_injective}
use Rattle.std.proofs.lemmas.Str.Parse.{IsNumeralModel, numerals_by_value, tells_by_index, parse_plain}
use Rattle.std.proofs.lemmas.Str.{IsUtf8-from_ascii}
use Rattle.std.specs.Str.{IsUtf8}
use Rattle.acfg_base.specs.Bytes.{space}
use Rattle.acfg_base.specs.Found.{Finds}
use Rattle.acfg_daemon.specs.Bodies.{BeginsPlainly}
use Rattle.acfg_daemon.specs.Lines.{IsGood}
use Rattle.acfg_daemon.proofs.Cuts.{Lacks, Cut, same_cut, lacks_not}

abbrev AllDigit : List ℕ → Type 0
AllDigit ds = (i : ℕ) → i < length ds → IsInRange 48 57 (get_or ds i 0)

own : IsNumeralModel AllDigit (digits_value 10)
own = numerals_by_value AllDigit tells_by_index

pub decimal_lacks : (n : ℕ) → n < 256 → Lacks (decimal n) space
decimal_lacks n small = record { nowhere = λ k below is. let digit = digits_decimal own n (omega arith) k below in absurd (omega (arith, digit)) }

decimal_short : (n : ℕ) → n < 256 → get_or (decimal n) 0 0 ≡ 48 → length (decimal n) ≡ 1
decimal_short zero small is = ap length (decimal_digit zero (lit< tt))
decimal_short (suc n) small is = let above = first_decimal (suc n) (omega arith) (omega arith) in absurd (omega (arith, above))

pub decimal_plain : (n : ℕ) → n < 256 → BeginsPlainly (decimal n)
decimal_plain n small = record {
  unsigned = λ is. let digit = digits_decimal own n (omega arith) 0 (decimal_nonempty n (omega arith)) in absurd (omega (arith, digit));
  short = decimal_short n small;
}

pub decimal_text : (n : ℕ) → n < 256 → IsUtf8 (decimal n)
decimal_text n small = IsUtf8-from_ascii (decimal n) (IsAscii-decimal n (omega arith))

pub parsed_finds : {E : Type 0} (word : List ℕ) (r : Result ℕ E) → BeginsPlainly word → ParsesUnsigned 8 10 word r → Finds (λ client. (client < 256) × (word ≡ decimal client)) (result_ok r)
parsed_finds {E} word (Ok x) plain parsed =
    let number = parse_plain own {E = E} 8 word (Ok x) parsed plain.unsigned in
    (omega (arith, number.0.2, number.1), sym (decimal-digits_value own word number.0.0 number.0.1 plain.short (omega (arith, number.0.2))) ∙ ap decimal (sym number.1))
parsed_finds {E} word (Err e) plain parsed = λ client is. let read = parse-decimal 8 client word (Err e) is.0 (omega (arith, is.0)) is.1 parsed in absurd (cc read)

-- a good line is good in one way
pub good_unique : (line : List ℕ) (a b : ℕ) (p q : List ℕ) → IsGood line a p → IsGood line b q → (a ≡ b) × (p ≡ q)
good_unique line a b p q one other =
    let cut = same_cut space (decimal a) (decimal b) p q (decimal_lacks a one.bound) (decimal_lacks b other.bound) (sym one.spelled ∙ other.spelled) in
    (decimal_injective a b (omega (arith, one.bound)) (omega (arith, other.bound)) cut.0, cut.1)

-- a line without a space is no good line
pub no_space : (line : List ℕ) (client : ℕ) (piece : List ℕ) → Lacks line space → IsGood line client piece → ⊥
no_space line client piece lacks good = lacks_not space (decimal client) piece (subst (λ text. Lacks text space) good.spelled lacks)

-- a good line is cut at its first space
pub good_parts : (line : List ℕ) (i : ℕ) (client : ℕ) (piece : List ℕ) → Cut space line i → IsGood line client piece → (take i line ≡ decimal client) × (drop (i + 1) line ≡ piece)
good_parts line i client piece cut good = same_cut space (take i line) (decimal client) (drop (i + 1) line) piece cut.before (decimal_lacks client good.bound) (sym cut.whole ∙ good.spelled)
