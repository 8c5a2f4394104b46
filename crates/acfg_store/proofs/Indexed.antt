-- The local override at an index.
use Rattle.std.proofs.Common.{◌≡◌, ℕ, Bool, cond, ◌==◌, List, [], ◌∷◌, get_or, Option, Some, None, option_map, refl, sym, ap, ◌∙◌, subst, find}
use Rattle.std.specs.Cmp.{unsigned_tied}
use Rattle.std.specs.Ordering.{eq_by_cmp, nat_cmp}
use Rattle.std.proofs.lemmas.Cmp.{nat_cmp_total, nat_eq_equiv}
use Rattle.acfg_base.specs.Places.{AreInOrder, StandsAt, WouldStandAt, row_at}
use Rattle.acfg_base.proofs.Rows.{row_at-gap, row_at-stands}
use Rattle.acfg_store.specs.declared.locals.LocalOverride.{LocalOverride}
use Rattle.acfg_store.specs.Keys.{local_index}
use Rattle.acfg_store.specs.declared.placed.Placed.{Placed}
use Rattle.acfg_store.specs.Placed.{AreLocalsOver}
use Rattle.acfg_store.specs.Records.{SpellsLocals}
use Rattle.acfg_store.specs.Stands.{local_at}
use Rattle.acfg_store.proofs.Reading.{one_locals}

at_row : (rows : List LocalOverride) (i : ℕ) → find (λ (row : LocalOverride). row.index == i) rows ≡ row_at nat_cmp local_index rows i
at_row [] i = refl
at_row (row ∷ rows) i =
    ap (λ (b : Bool). cond b (Some row) (find (λ (row : LocalOverride). row.index == i) rows)) (nat_eq_equiv.symm row.index i ∙ sym (unsigned_tied i row.index))
    ∙ ap (λ (r : Option LocalOverride). cond (eq_by_cmp nat_cmp i row.index) (Some row) r) (at_row rows i)

pub local_there : (rows : List LocalOverride) → AreInOrder nat_cmp local_index rows → (i k : ℕ) (d : LocalOverride) → StandsAt nat_cmp local_index rows i k → Some (get_or rows k d).value ≡ local_at rows i
local_there rows order i k d at = sym (ap (option_map (λ (row : LocalOverride). row.value)) (at_row rows i ∙ row_at-stands nat_cmp_total local_index rows order i k d at))

pub local_absent : (rows : List LocalOverride) (i k : ℕ) → WouldStandAt nat_cmp local_index rows i k → None ≡ local_at rows i
local_absent rows i k gap = sym (ap (option_map (λ (row : LocalOverride). row.value)) (at_row rows i ∙ row_at-gap nat_cmp_total local_index rows i k gap))

-- bytes that spell rows that are not lawful for the flags spell no other rows that are
pub no_other : (bytes : List ℕ) (rows : List LocalOverride) → SpellsLocals bytes rows → (count : ℕ) (flags : List Placed) → (AreLocalsOver bytes count flags rows → ⊥)
    → (other : List LocalOverride) → AreLocalsOver bytes count flags other → ⊥
no_other bytes rows spells count flags not other is = not (subst (AreLocalsOver bytes count flags) (one_locals bytes other rows is.spells spells) is)
