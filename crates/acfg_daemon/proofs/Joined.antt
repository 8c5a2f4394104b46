-- The lines of a script, joined again.
use Rattle.std.proofs.Common.{◌≡◌, ◌≢◌, ℕ, zero, suc, ◌<◌, true, false, cond, List, [], ◌∷◌, ◌++◌, length, Contains, refl, sym, ◌∙◌, ap, arith, true≢false}
use Rattle.std.specs.List.{onto_first, AllByRecursion}
use Rattle.std.proofs.lemmas.Bool.{eqb-true}
use lib.Dec.{eqb}
use Rattle.acfg_base.specs.Bytes.{line_feed}
use Rattle.acfg_daemon.specs.Lines.{lines, joined, EndsIn}

-- what the last line of a script lacks of its end
end_of : List ℕ → List ℕ
end_of [] = []
end_of (byte ∷ []) = cond (eqb byte line_feed) [] (line_feed ∷ [])
end_of (byte ∷ next ∷ bytes) = end_of (next ∷ bytes)

some_onto : (byte : ℕ) (ls : List (List ℕ)) → 0 < length (onto_first byte ls)
some_onto byte [] = omega arith
some_onto byte (l ∷ ls) = omega arith

some_line : (byte : ℕ) (bytes : List ℕ) → 0 < length (lines (byte ∷ bytes))
some_line byte bytes = elim (eqb byte line_feed) as (λ t. 0 < length (cond t ([] ∷ lines bytes) (onto_first byte (lines bytes)))) [ true ↦ omega arith | false ↦ some_onto byte (lines bytes) ]

joined_onto : (byte : ℕ) (ls : List (List ℕ)) → 0 < length ls → joined (onto_first byte ls) ≡ byte ∷ joined ls
joined_onto byte [] some = absurd (omega arith)
joined_onto byte (l ∷ ls) some = refl

joined_lines : (script : List ℕ) → joined (lines script) ≡ script ++ end_of script
unfolding end_of
joined_lines [] = refl
joined_lines (byte ∷ []) =
    elim (eqb byte line_feed) as (λ t. eqb byte line_feed ≡ t → joined (cond t ([] ∷ []) ((byte ∷ []) ∷ [])) ≡ byte ∷ cond t [] (line_feed ∷ [])) [
      | true ↦ λ is. (λ j. sym (eqb-true byte line_feed is) j ∷ [])
      | false ↦ λ is. refl
    ] refl
joined_lines (byte ∷ next ∷ bytes) =
    elim (eqb byte line_feed) as (λ t. eqb byte line_feed ≡ t → joined (cond t ([] ∷ lines (next ∷ bytes)) (onto_first byte (lines (next ∷ bytes)))) ≡ byte ∷ ((next ∷ bytes) ++ end_of (next ∷ bytes))) [
      | true ↦ λ is. (λ j. sym (eqb-true byte line_feed is) j ∷ joined_lines (next ∷ bytes) j)
      | false ↦ λ is. joined_onto byte (lines (next ∷ bytes)) (some_line next bytes) ∙ ap (λ rest. byte ∷ rest) (joined_lines (next ∷ bytes))
    ] refl

end_of-ended : (front : List ℕ) → end_of (front ++ line_feed ∷ []) ≡ []
unfolding end_of
end_of-ended [] = refl
end_of-ended (byte ∷ []) = refl
end_of-ended (byte ∷ next ∷ front) = end_of-ended (next ∷ front)

end_of-open : (script : List ℕ) → 0 < length script → ¬ EndsIn script line_feed → end_of script ≡ line_feed ∷ []
unfolding end_of
end_of-open [] some lacks = absurd (omega arith)
end_of-open (byte ∷ []) some lacks =
    elim (eqb byte line_feed) as (λ t. eqb byte line_feed ≡ t → cond t [] (line_feed ∷ []) ≡ line_feed ∷ []) [
      | true ↦ λ is. absurd (lacks ([], λ j. eqb-true byte line_feed is j ∷ []))
      | false ↦ λ is. refl
    ] refl
end_of-open (byte ∷ next ∷ bytes) some lacks = end_of-open (next ∷ bytes) (omega arith) (λ ends. lacks (byte ∷ ends.0, ap (λ rest. byte ∷ rest) ends.1))

append-none : (script : List ℕ) → script ++ [] ≡ script
append-none [] = refl
append-none (byte ∷ bytes) = ap (λ rest. byte ∷ rest) (append-none bytes)

pub lines_whole_again : (script : List ℕ) → EndsIn script line_feed → joined (lines script) ≡ script
lines_whole_again script ends = joined_lines script ∙ ap (λ end. script ++ end) (ap end_of ends.1 ∙ end_of-ended ends.0) ∙ append-none script

pub lines_unended : (script : List ℕ) → 0 < length script → ¬ EndsIn script line_feed → joined (lines script) ≡ script ++ line_feed ∷ []
lines_unended script some lacks = joined_lines script ∙ ap (λ end. script ++ end) (end_of-open script some lacks)

-- a line without a line feed
abbrev IsBare : List ℕ → Type 0
IsBare line = ¬ Contains line line_feed

bare_more : (byte : ℕ) (line : List ℕ) → byte ≢ line_feed → IsBare line → IsBare (byte ∷ line)
bare_more byte line apart bare (zero, within, is) = apart is
bare_more byte line apart bare (suc k, within, is) = bare (k, omega arith, is)

bare_none : IsBare []
bare_none has = absurd (omega (arith, has.1))

bare_onto : (byte : ℕ) (ls : List (List ℕ)) → byte ≢ line_feed → AllByRecursion IsBare ls → AllByRecursion IsBare (onto_first byte ls)
bare_onto byte [] apart bare = (bare_more byte [] apart bare_none, tt)
bare_onto byte (l ∷ ls) apart bare = (bare_more byte l apart bare.0, bare.1)

pub lines_bare : (script : List ℕ) → AllByRecursion IsBare (lines script)
lines_bare [] = tt
lines_bare (byte ∷ bytes) =
    elim (eqb byte line_feed) as (λ t. eqb byte line_feed ≡ t → AllByRecursion IsBare (cond t ([] ∷ lines bytes) (onto_first byte (lines bytes)))) [
      | true ↦ λ is. (bare_none, lines_bare bytes)
      | false ↦ λ is. bare_onto byte (lines bytes) (λ e. true≢false (sym (ap (λ b. eqb b line_feed) e) ∙ is)) (lines_bare bytes)
    ] refl
