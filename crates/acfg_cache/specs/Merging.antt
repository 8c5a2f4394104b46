-- Lists of flags merged: their sorted union, or the first clash.
use Rattle.std.specs.Prelude.{◌≡◌, ◌⊎◌, ℕ, ◌<◌, ◌≤◌, Bool, false, List, map, slice_get, Some, Contains}
use Rattle.std.specs.Borrow.{Bor}
use Rattle.std.specs.declared.cmp.Ordering.TheVariants.{Less}
use Rattle.std.specs.Ordering.{nat_cmp}
use Rattle.std.specs.Cmp.Lexicographic.{slice_cmp}
use Rattle.acfg_decls.specs.declared.flags.Flag.{Flag}
use Rattle.acfg_decls.specs.Flags.{AreFlags, full_name}
use Rattle.acfg_cache.specs.declared.fault.MergeFault.{MergeFault}
use Rattle.acfg_cache.specs.declared.fault.MergeFault.TheVariants.{Clash, OutOfMemory}

-- flags that are lent one by one
abbrev pub lent : List (Bor Flag) → List Flag
lent flags = map (λ flag. flag.now) flags

-- the list at this position has the flag
pub record StandsIn (lists : List (List Flag)) (i : ℕ) (flag : Flag) : Type 0 where
  pub list : List Flag
  pub at : slice_get lists i ≡ Some list
  pub has : Contains list flag

-- two flags of one name don't go together: without `dedup` none do, with it only equal ones
abbrev pub Quarrel : Bool → Flag → Flag → Type 0
Quarrel dedup one other = (full_name one ≡ full_name other) × ((dedup ≡ false) ⊎ (one ≡ other → ⊥))

-- where these flags stand in these lists, the flag of this name in the list at this position doesn't go with one of an
-- earlier list
pub record ClashesIn (In : ℕ → Flag → Type 0) (dedup : Bool) (i : ℕ) (name : List ℕ) : Type 0 where
  pub flag : Flag
  pub here : In i flag
  pub named : full_name flag ≡ name
  pub earlier : ℕ
  pub other : Flag
  pub before : earlier < i
  pub there : In earlier other
  pub quarrel : Quarrel dedup other flag

abbrev pub Clashes : List (List Flag) → Bool → ℕ → List ℕ → Type 0
Clashes lists = ClashesIn (StandsIn lists)

-- No two flags clash, and these are the sorted union of the lists, equal flags once.
pub record IsMerged (lists : List (List Flag)) (dedup : Bool) (flags : List Flag) : Type 0 where
  pub are : AreFlags flags
  pub from : (flag : Flag) → Contains flags flag → (i : ℕ) × StandsIn lists i flag
  pub all : (i : ℕ) (flag : Flag) → StandsIn lists i flag → Contains flags flag
  pub apart : (i : ℕ) (name : List ℕ) → Clashes lists dedup i name → ⊥

-- The clash that is told: of the least name that clashes, and the first list whose flag of that name clashes.
pub record FirstClashIn (In : ℕ → Flag → Type 0) (dedup : Bool) (i : ℕ) (name : List ℕ) : Type 0 where
  pub clashes : ClashesIn In dedup i name
  pub least : (j : ℕ) (other : List ℕ) → ClashesIn In dedup j other → slice_cmp nat_cmp other name ≡ Less → ⊥
  pub first : (j : ℕ) → ClashesIn In dedup j name → i ≤ j

abbrev pub IsFirstClash : List (List Flag) → Bool → ℕ → List ℕ → Type 0
IsFirstClash lists = FirstClashIn (StandsIn lists)

-- a clash, for which this holds; nothing is said of a want of memory
abbrev pub IfClash : MergeFault → (ℕ → List ℕ → Type 0) → Type 0
IfClash (Clash i name) P = P i name
IfClash OutOfMemory P = Unit {0}
