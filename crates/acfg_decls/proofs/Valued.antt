-- What one value more makes of the flags.
use Rattle.std.proofs.Common.{◌≡◌, ◌≢◌, ℕ, zero, suc, ◌<◌, Bool, true, false, cond, List, [], ◌∷◌, ◌++◌, length, map, filter, get_or, set, refl, ap, ◌∙◌, arith}
use Rattle.std.proofs.lemmas.List.{map-append, append-nil}
use Rattle.std.proofs.lemmas.List.Elements.{filter-append}
use Rattle.acfg_decls.specs.declared.flags.Flag.{Flag}
use Rattle.acfg_decls.specs.declared.flags.Point.{Point}
use Rattle.acfg_decls.specs.declared.declared.FlagValue.{FlagValue}
use Rattle.acfg_decls.specs.declared.declared.DeclaredFlag.{DeclaredFlag}
use Rattle.acfg_decls.specs.Compile.{flag_of, flag_with, is_of, last_of, point_of, points, start}
use Rattle.acfg_decls.specs.Places.{with_point}

last-append : (first : Point) (points : List Point) (point : Point) → last_of first (points ++ point ∷ []) ≡ point
last-append first [] point = refl
last-append first (next ∷ points) point = last-append next points point

filter-push : {X : Type 0} (p : X → Bool) (xs : List X) (x : X) → p x ≡ true → filter p (xs ++ x ∷ []) ≡ filter p xs ++ x ∷ []
filter-push p xs x passes = filter-append p xs (x ∷ []) ∙ ap (λ b. filter p xs ++ cond b (x ∷ []) []) passes

filter-skip : {X : Type 0} (p : X → Bool) (xs : List X) (x : X) → p x ≡ false → filter p (xs ++ x ∷ []) ≡ filter p xs
filter-skip p xs x fails = filter-append p xs (x ∷ []) ∙ ap (λ b. filter p xs ++ cond b (x ∷ []) []) fails ∙ append-nil (filter p xs)

module _ («package» container : List ℕ) (values : List (List ℕ × FlagValue)) (value : List ℕ × FlagValue) where
  -- whether the value is of a declared flag
  abbrev pub is_for : List ℕ × DeclaredFlag → Bool
  is_for declared = is_of «package» declared.1.name.text value

  abbrev before : List ℕ × DeclaredFlag → Flag
  before = flag_of «package» container values

  abbrev after : List ℕ × DeclaredFlag → Flag
  after = flag_of «package» container (values ++ value ∷ [])

  pub unaffected : (declared : List ℕ × DeclaredFlag) → is_for declared ≡ false → after declared ≡ before declared
  unaffected declared fails = ap (λ found. flag_with «package» container declared (map point_of found)) (filter-skip (is_of «package» declared.1.name.text) values value fails)

  affected : (declared : List ℕ × DeclaredFlag) → is_for declared ≡ true → after declared ≡ with_point (before declared) value
  affected declared passes =
      let more = points «package» declared.1.name.text values in
      let first = start declared.0 declared.1 in
      let last = last-append first more (point_of value) in
      ap (λ found. flag_with «package» container declared (map point_of found)) (filter-push (is_of «package» declared.1.name.text) values value passes)
      ∙ ap (flag_with «package» container declared) (map-append point_of (filter (is_of «package» declared.1.name.text) values) (value ∷ []))
      ∙ (λ i. record (with_point (before declared) value) { enabled = (last i).enabled; writable = (last i).writable })

  -- a value of none of the flags leaves all as they were
  pub all_unaffected : (declared : List (List ℕ × DeclaredFlag)) → ((k : ℕ) (d : List ℕ × DeclaredFlag) → k < length declared → is_for (get_or declared k d) ≡ false) → map after declared ≡ map before declared
  all_unaffected [] fails = refl
  all_unaffected (flag ∷ declared) fails = λ i. unaffected flag (fails 0 flag (omega arith)) i ∷ all_unaffected declared (λ k d within. fails (suc k) d (omega arith)) i

  -- a value of one of them gives that one a point
  pub one_affected : (declared : List (List ℕ × DeclaredFlag)) (at : ℕ) (other : Flag) → at < length declared
      → ((k : ℕ) (d : List ℕ × DeclaredFlag) → k < length declared → k ≢ at → is_for (get_or declared k d) ≡ false) → ((d : List ℕ × DeclaredFlag) → is_for (get_or declared at d) ≡ true)
      → map after declared ≡ set (map before declared) at (with_point (get_or (map before declared) at other) value)
  one_affected [] at other within fails passes = absurd (omega arith)
  one_affected (flag ∷ declared) zero other within fails passes =
      λ i. affected flag (passes flag) i ∷ all_unaffected declared (λ k d inside. fails (suc k) d (omega arith) (λ e. absurd (omega (arith, e)))) i
  one_affected (flag ∷ declared) (suc at) other within fails passes =
      λ i. unaffected flag (fails 0 flag (omega arith) (λ e. absurd (omega (arith, e)))) i
      ∷ one_affected declared at other (omega arith) (λ k d inside apart. fails (suc k) d (omega arith) (λ e. apart (omega (arith, e)))) passes i
