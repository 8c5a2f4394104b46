-- Releases: which flags a container has, each with its kind and value, as AOSP aconfig_storage_file keeps them.
use Rattle.std.specs.Prelude.{◌≡◌, ℕ, ◌<◌, Bool, true, false, List, Some, All, map, count_by}
use Rattle.std.specs.declared.cmp.Ordering.{Ordering}
use Rattle.std.specs.Ordering.{nat_cmp, ordering_then, eq_by_cmp}
use Rattle.std.specs.Cmp.Lexicographic.{slice_cmp}
use Rattle.std.specs.FinMap.{FinMap, entries, get}
use Rattle.acfg_base.specs.Names.{IsName, IsPackage}
use Rattle.acfg_base.specs.Places.{map_of}
use Rattle.acfg_base.specs.declared.releases.Kind.{Kind}
use Rattle.acfg_base.specs.declared.releases.Kind.TheVariants.{ReadWrite, ReadOnly, Fixed}
use Rattle.acfg_base.specs.declared.releases.Entry.{Entry}

-- what names a flag: its package and its own name
abbrev pub Key : Type 0
Key = List ℕ × List ℕ

-- by the bytes of the package, then by those of the name
abbrev pub key_cmp : Key → Key → Ordering
key_cmp a b = ordering_then (slice_cmp nat_cmp a.0 b.0) (slice_cmp nat_cmp a.1 b.1)

-- a kind by its number, as the storage files have it
abbrev pub kind_number : Kind → ℕ
kind_number ReadWrite = 0
kind_number ReadOnly = 1
kind_number Fixed = 2

-- whether the values of a kind may be overridden
abbrev pub is_read_write : Kind → Bool
is_read_write ReadWrite = true
is_read_write ReadOnly = false
is_read_write Fixed = false

-- a release: a finite map from flags to kinds and values
abbrev pub ReleaseMap : Type 0
ReleaseMap = FinMap key_cmp (Kind × Bool)

abbrev pub key_of : Entry → Key
key_of entry = (entry.package, entry.flag)

-- what the release has at an entry's key
abbrev pub facts_of : Entry → Kind × Bool
facts_of entry = (entry.kind, entry.value)

-- the entry of a key and what the release has there
abbrev pub entry_at : Key × (Kind × Bool) → Entry
entry_at e = record { «package» = e.0.0; flag = e.0.1; kind = e.1.0; value = e.1.1 }

-- the release that entries with pairwise different keys make
abbrev pub release_of : List Entry → ReleaseMap
release_of list = map_of key_cmp key_of list facts_of

-- the entries of a release, in order of their keys
abbrev pub entries_of : ReleaseMap → List Entry
entries_of release = map entry_at (entries release)

-- a key of lawful names
pub record IsKey (key : Key) : Type 0 where
  pub «package» : IsPackage key.0
  pub flag : IsName key.1

-- each flag of a release has a key of lawful names
pub record HasLawfulKeys (release : ReleaseMap) : Type 0 where
  pub each : (key : Key) (facts : Kind × Bool) → get release key ≡ Some facts → IsKey key

-- each of the entries has one
abbrev pub AreNamed : List Entry → Type 0
AreNamed list = All (λ entry. IsKey (key_of entry)) list

-- some key is that of more than one entry
abbrev pub HasTwins : List Entry → Type 0
HasTwins list = (key : Key) × (1 < count_by (λ entry. eq_by_cmp key_cmp key (key_of entry)) list)
