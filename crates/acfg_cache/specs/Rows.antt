-- Words of the private functions that merge: rows of all lists, sorted, and taken one by one. No public contract cites
-- them.
use Rattle.std.specs.Prelude.{◌≡◌, ◌⊎◌, ℕ, ◌+◌, Bool, true, false, List, [], ◌∷◌, ◌++◌, map, Option, None, Some}
use Rattle.std.specs.Prelude.{All, AllPairs, Contains, IfSome}
use Rattle.std.specs.List.{last_or}
use Rattle.std.specs.declared.cmp.Ordering.{Ordering}
use Rattle.std.specs.declared.cmp.Ordering.TheVariants.{Less, Equal, Greater}
use Rattle.std.specs.Ordering.{nat_cmp, ordering_then}
use Rattle.std.specs.Cmp.Lexicographic.{slice_cmp}
use Rattle.acfg_decls.specs.declared.flags.Flag.{Flag}
use Rattle.acfg_decls.specs.Flags.{IsLawful, full_name}
use Rattle.acfg_cache.specs.declared.merging.Row.{Row}
use Rattle.acfg_cache.specs.declared.merging.Found.{Found}
use Rattle.acfg_cache.specs.declared.merging.Found.TheVariants as found
use Rattle.acfg_cache.specs.Bodies.{Rise}

-- the position of a list, and a flag of it
abbrev pub Listed : Type 0
Listed = ℕ × Flag

-- a row as the code has it
abbrev pub row_read : Row → Listed
row_read row = (row.list, row.flag.now)

abbrev pub rows_read : List Row → List Listed
rows_read rows = map row_read rows

-- the flags of lists, the first of which has this position
abbrev pub rows_of : ℕ → List (List Flag) → List Listed
rows_of i [] = []
rows_of i (flags ∷ lists) = map (λ flag. (i, flag)) flags ++ rows_of (i + 1) lists

-- what a row is sorted by: its flag's name, and then its list
abbrev pub RowKey : Type 0
RowKey = List ℕ × ℕ

abbrev pub row_key : Listed → RowKey
row_key row = (full_name row.1, row.0)

abbrev pub key_order : RowKey → RowKey → Ordering
key_order a b = ordering_then (slice_cmp nat_cmp a.0 b.0) (nat_cmp a.1 b.1)

abbrev pub row_order : Listed → Listed → Ordering
row_order a b = key_order (row_key a) (row_key b)

-- each row is less than every later one
abbrev pub Ascend : List Listed → Type 0
Ascend rows = AllPairs (λ a b. row_order a b ≡ Less) rows

-- ## How a flag stands to the last one that was taken

abbrev pub IsNew : Option Flag → Flag → Type 0
IsNew before flag = IfSome before (λ last. slice_cmp nat_cmp (full_name flag) (full_name last) ≡ Equal → ⊥)

pub record IsSame (dedup : Bool) (before : Option Flag) (flag : Flag) : Type 0 where
  pub last : before ≡ Some flag
  pub once : dedup ≡ true

pub record IsRefused (dedup : Bool) (before : Option Flag) (flag : Flag) : Type 0 where
  pub other : Flag
  pub last : before ≡ Some other
  pub named : slice_cmp nat_cmp (full_name flag) (full_name other) ≡ Equal
  pub quarrel : (dedup ≡ false) ⊎ (other ≡ flag → ⊥)

abbrev pub IsFound : Found → Bool → Option Flag → Flag → Type 0
IsFound found.New dedup before flag = IsNew before flag
IsFound found.Same dedup before flag = IsSame dedup before flag
IsFound found.Clash dedup before flag = IsRefused dedup before flag

-- one row is taken: its flag is new, or stands there already
abbrev pub Adds : Bool → Flag → List Flag → List Flag → Type 0
Adds dedup flag old new =
    (IsNew (last_or None old) flag × (new ≡ old ++ flag ∷ [])) ⊎ (IsSame dedup (last_or None old) flag × (new ≡ old))

-- a row's flag clashes with the last one that was taken
pub record IsClashOf (dedup : Bool) (row : Listed) (taken : List Flag) (i : ℕ) (name : List ℕ) : Type 0 where
  pub refused : IsRefused dedup (last_or None taken) row.1
  pub list : i ≡ row.0
  pub named : name ≡ full_name row.1

-- ## What taking rows keeps

-- rows that have no clash, and their flags, each once, in order
pub record IsTaken (dedup : Bool) (rows : List Listed) (flags : List Flag) : Type 0 where
  pub rise : Rise flags
  pub lawful : All IsLawful flags
  pub from : (flag : Flag) → Contains flags flag → (i : ℕ) × Contains rows (i, flag)
  pub all : (row : Listed) → Contains rows row → Contains flags row.1
  pub settled :
      (a b : Listed) → Contains rows a → Contains rows b → full_name a.1 ≡ full_name b.1
      → (a ≡ b) ⊎ ((dedup ≡ true) × (a.1 ≡ b.1))
  pub below :
      (row : Listed) → Contains rows row
      → (last : Flag) × (last_or None flags ≡ Some last)
      × (slice_cmp nat_cmp (full_name row.1) (full_name last) ≡ Greater → ⊥)

-- where rows have a flag of a list
abbrev pub InRows : List Listed → ℕ → Flag → Type 0
InRows rows i flag = Contains rows (i, flag)

-- ## Equal flags

pub record SameNames (flag other : Flag) : Type 0 where
  pub of_package : flag.package ≡ other.package
  pub of_name : flag.name ≡ other.name
  pub of_namespace : flag.namespace ≡ other.namespace

pub record SameWords (flag other : Flag) : Type 0 where
  pub of_container : flag.container ≡ other.container
  pub of_description : flag.description ≡ other.description

pub record SameState (flag other : Flag) : Type 0 where
  pub of_enabled : flag.enabled ≡ other.enabled
  pub of_writable : flag.writable ≡ other.writable
  pub of_fixed : flag.fixed ≡ other.fixed
  pub of_exported : flag.exported ≡ other.exported
  pub of_purpose : flag.purpose ≡ other.purpose

pub record SameFields (flag other : Flag) : Type 0 where
  pub of_names : SameNames flag other
  pub of_words : SameWords flag other
  pub of_state : SameState flag other

pub record SameLists (flag other : Flag) : Type 0 where
  pub of_bugs : flag.bugs ≡ other.bugs
  pub of_trace : flag.trace ≡ other.trace
