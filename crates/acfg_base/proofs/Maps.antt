-- What `map_values` has at a key.
use Rattle.std.proofs.Common.{◌≡◌, true, false, cond, List, [], ◌∷◌, map, Some, option_map, refl, sym, ap, ◌∙◌, Ordering}
use Rattle.std.specs.Ordering.{eq_by_cmp}
use Rattle.std.specs.Cmp.{IsTotalOrder}
use Rattle.std.specs.FinMap.{FinMap, get, find, entries, IsAntisymmetric, get-entries, get-from_entries}
use Rattle.acfg_base.specs.Maps.{map_values}
use Rattle.acfg_base.proofs.Rows.{Equal_of}

module _ {K X Y : Type 0} {R : K → K → Ordering} (o : IsTotalOrder R) (exact : IsAntisymmetric R) (f : K → X → Y) where
  find-mapped : (es : List (K × X)) (q : K) → find R q (map (λ e. (e.0, f e.0 e.1)) es) ≡ option_map (f q) (find R q es)
  find-mapped [] q = refl
  find-mapped (e ∷ es) q =
      elim (eq_by_cmp R q e.0) as (λ b. eq_by_cmp R q e.0 ≡ b → cond b (Some (f e.0 e.1)) (find R q (map (λ e. (e.0, f e.0 e.1)) es)) ≡ option_map (f q) (cond b (Some e.1) (find R q es))) [
        | true ↦ λ t. ap (λ k. Some (f k e.1)) (sym (exact q e.0 (Equal_of _ t)))
        | false ↦ λ t. find-mapped es q
      ] refl

  pub get-map_values : (m : FinMap R X) (q : K) → get (map_values f m) q ≡ option_map (f q) (get m q)
  unfolding map_values
  get-map_values m q = get-from_entries o _ q ∙ find-mapped (entries m) q ∙ ap (option_map (f q)) (sym (get-entries m q))
