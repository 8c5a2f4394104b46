-- The first flag of another container: where there is one, it is one, and none stands where all are the container's.
use Rattle.std.proofs.Common.{◌≡◌, ℕ, suc, ◌<◌, Bool, true, false, not, List, [], ◌∷◌, take, slice_get, Some, refl, sym, subst, ◌∙◌, arith, ⊎_elim, true≢false}
use Rattle.std.specs.Bool.{Decides}
use Rattle.std.specs.Prelude.{All}
use Rattle.std.specs.Str.{bytes_eq}
use Rattle.std.proofs.lemmas.Bool.{cases_lt}
use Rattle.std.proofs.lemmas.Bool.Decides.{not_from_Decides}
use Rattle.std.proofs.lemmas.List.{get_or-take, length-take}
use Rattle.std.proofs.lemmas.List.Elements.{All-cons, All-nil}
use Rattle.std.proofs.lemmas.Option.{get_or_from_slice_get, slice_get_within}
use Rattle.std.proofs.lemmas.Slice.Eq.{bytes_eq-Decides}
use Rattle.acfg_decls.specs.declared.flags.Flag.{Flag}
use Rattle.acfg_top.specs.CreateStorage.{AreOwn, FirstStranger}

module _ {X : Type 0} (P : X → Type 0) where
  -- what holds of all holds of the one at a position
  holds_at : (xs : List X) (i : ℕ) (x : X) → All P xs → slice_get xs i ≡ Some x → P x
  holds_at xs i x all at = subst P (get_or_from_slice_get xs i x x at) (all i x (slice_get_within xs i x at))

  held_before : (xs : List X) (i j : ℕ) (x : X) → All P (take j xs) → i < j → slice_get xs i ≡ Some x → P x
  held_before xs i j x all before at =
      let within = slice_get_within xs i x at in
      subst P (get_or-take j xs i x before ∙ get_or_from_slice_get xs i x x at) (all i x (omega (arith, within, length-take j xs, before)))

module _ (container : List ℕ) where
  abbrev IsOwn : Flag → Type 0
  IsOwn flag = flag.container ≡ container

  pub never_strange : (flags : List Flag) (i : ℕ) → AreOwn container flags → FirstStranger container flags i → ⊥
  never_strange flags i all first = first.strange (holds_at IsOwn flags i first.flag all first.at)

  earlier : (flags : List Flag) (i j : ℕ) → i < j → FirstStranger container flags i → FirstStranger container flags j → ⊥
  earlier flags i j before first other = first.strange (held_before IsOwn flags i j first.flag other.before before first.at)

  pub one_stranger : (flags : List Flag) (i j : ℕ) → FirstStranger container flags i → FirstStranger container flags j → i ≡ j
  one_stranger flags i j first other =
      ⊎_elim (λ before. absurd (earlier flags i j before first other))
      (λ behind. ⊎_elim (λ before. absurd (earlier flags j i before other first)) (λ reached. omega (arith, behind, reached)) (cases_lt j i))
      (cases_lt i j)

  pub some_stranger : (flags : List Flag) → (AreOwn container flags → ⊥) → ((i : ℕ) → FirstStranger container flags i → ⊥) → ⊥
  some_stranger [] all first = all (All-nil IsOwn)
  some_stranger (flag ∷ flags) all first =
      by (bytes_eq flag.container container) (bytes_eq-Decides flag.container container)
      (λ own. some_stranger flags (λ rest. all (All-cons IsOwn flag flags own rest))
      (λ i later. first (suc i) (record { flag = later.flag; at = later.at; strange = later.strange; before = All-cons IsOwn flag (take i flags) own later.before })))
    where
      by : (b : Bool) → Decides b (IsOwn flag) → (IsOwn flag → ⊥) → ⊥
      by true decides own = own (decides.0 refl)
      by false decides own = first 0 (record { flag = flag; at = refl; strange = not_from_Decides false decides refl; before = All-nil IsOwn })

-- texts that `!=` tells apart
pub other_text : (text other : List ℕ) (differ : Bool) → differ ≡ not (bytes_eq text other) → differ ≡ true → text ≡ other → ⊥
other_text text other differ is apart same = by (bytes_eq text other) ((bytes_eq-Decides text other).1 same) (sym is ∙ apart)
  where
    by : (b : Bool) → b ≡ true → not b ≡ true → ⊥
    by true equal turned = true≢false (sym turned)
    by false equal turned = true≢false (sym equal)

pub same_text : (text other : List ℕ) (differ : Bool) → differ ≡ not (bytes_eq text other) → differ ≡ false → text ≡ other
same_text text other differ is same = (bytes_eq-Decides text other).0 (by (bytes_eq text other) (sym is ∙ same))
  where
    by : (b : Bool) → not b ≡ false → b ≡ true
    by true turned = refl
    by false turned = absurd (true≢false turned)
