use Rattle.std.proofs.Common.{◌≡◌, ◌<◌, ℕ, List, length, lit<, sym, subst, Bor, Option, None, Some, MatchOption}
use Rattle.std.specs.List.{position_or_len, before_first, after_first}
use Rattle.std.proofs.lemmas.Str.Pattern.{split_once_first}
use lib.Dec.{eqb}
use Rattle.acfg_base.specs.Bytes.{colon}
use Rattle.acfg_dump.specs.Bodies.{IsCutAt, IsWithout}
use Rattle.acfg_dump.proofs.Firsts.{cut_at_first, uncut}
use Rattle.acfg_dump.proofs.conditions.split_key.Goals as goal

key_cut : (text : List ℕ) (r : Option (Bor (List ℕ) × Bor (List ℕ)))
    → MatchOption r (position_or_len (λ b. eqb b colon) text ≡ length text)
    (λ x. (position_or_len (λ b. eqb b colon) text < length text) × (x.0.now ≡ before_first (λ b. eqb b colon) text) × (x.1.now ≡ after_first (λ b. eqb b colon) text))
    → MatchOption r (IsWithout colon text) (λ cut. IsCutAt colon text cut.0.now cut.1.now)
key_cut text None all = uncut colon text all
key_cut text (Some x) found =
    subst (λ (both : List ℕ × List ℕ). IsCutAt colon text both.0 both.1) (λ j. (sym found.1 j, sym found.2 j)) (cut_at_first colon text found.0)

pub returns : goal.returns
returns c = key_cut c.args.text.now c.split_once.result (split_once_first colon c.args.text.now c.split_once.result c.split_once.ensures.cases (lit< tt))
