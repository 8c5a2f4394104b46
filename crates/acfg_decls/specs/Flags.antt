-- Compiled flags: their order, and what a list of them has to keep. AOSP aconfig, `aconfig_internal.proto`.
use Rattle.std.specs.Prelude.{◌⊎◌, ℕ, ◌<◌, List, ◌∷◌, ◌++◌, length, count_by, IsTrue}
use Rattle.std.specs.Prelude.{All, Any}
use Rattle.std.specs.Ordering.{nat_cmp, eq_by_cmp}
use Rattle.std.specs.Cmp.Lexicographic.{slice_cmp}
use Rattle.acfg_base.specs.Names.{dot}
use Rattle.acfg_base.specs.Places.{AreInOrder}
use Rattle.acfg_decls.specs.declared.flags.Flag.{Flag}

-- `package.name`
abbrev pub full_name : Flag → List ℕ
full_name flag = flag.package ++ dot ∷ flag.name

-- a flag that a list of compiled flags may hold: not both fixed and writable, and with a point
pub record IsLawful (flag : Flag) : Type 0 where
  pub straight : IsTrue flag.fixed → IsTrue flag.writable → ⊥
  pub traced : 0 < length flag.trace

-- compiled flags: lawful ones, in the strict order of the bytes of `package.name`
pub record AreFlags (list : List Flag) : Type 0 where
  pub sorted : AreInOrder (slice_cmp nat_cmp) full_name list
  pub each : All IsLawful list

-- two flags of one name
abbrev pub HasTwins : List Flag → Type 0
HasTwins list = (name : List ℕ) × (1 < count_by (λ flag. eq_by_cmp (slice_cmp nat_cmp) name (full_name flag)) list)

-- no order makes this a list of compiled flags
abbrev pub AreNoFlags : List Flag → Type 0
AreNoFlags list = HasTwins list ⊎ Any (λ flag. IsLawful flag → ⊥) list
