-- What the device keeps: the containers, each with its release, its overrides and perhaps its boot copy.
use Rattle.std.specs.Prelude.{◌≡◌, ℕ, ◌<◌, ◌≤◌, Bool, false, ◌||◌, IsTrue}
use Rattle.std.specs.Prelude.{List, length, All, Option, Some, unwrap_or}
use Rattle.std.specs.Option.{option_map_or}
use Rattle.std.specs.declared.cmp.Ordering.{Ordering}
use Rattle.std.specs.Ordering.{nat_cmp}
use Rattle.std.specs.Cmp.Lexicographic.{slice_cmp}
use Rattle.std.specs.FinMap.{FinMap, get, len}
use Rattle.acfg_base.specs.declared.releases.Kind.{Kind}
use Rattle.acfg_base.specs.Names.{IsContainer}
use Rattle.acfg_base.specs.Release.{Key, key_cmp, ReleaseMap, HasLawfulKeys, IsKey, is_read_write}

-- flags and the values that override those of the release
abbrev pub OverrideMap : Type 0
OverrideMap = FinMap key_cmp Bool

-- a flag as it was booted: its kind, its value, and whether it had a server override and a local one then
pub record BootedFlag : Type 0 where
  pub kind : Kind
  pub value : Bool
  pub server : Bool
  pub local : Bool

-- the flags that were there at the last boot
abbrev pub BootMap : Type 0
BootMap = FinMap key_cmp BootedFlag

-- a container: the digest of its release's files, the release, the overrides of the server and the local ones, and the
-- boot copy, where it was booted
pub record Container : Type 0 where
  pub digest : List ℕ
  pub release : ReleaseMap
  pub server : OverrideMap
  pub local : OverrideMap
  pub boot : Option BootMap

-- names of containers, by their bytes
abbrev pub name_cmp : List ℕ → List ℕ → Ordering
name_cmp = slice_cmp nat_cmp

-- the containers by their names: a list in which the names rise strictly
abbrev pub State : Type 0
State = FinMap name_cmp Container

-- whether a release has a flag, and its value may be overridden
abbrev pub is_writable : ReleaseMap → Key → Bool
is_writable release key = option_map_or (λ facts. is_read_write facts.0) (get release key) false

-- the precedence: a flag's local override, else the server's, else the value of the release
abbrev pub pick : Container → Key → Bool → Bool
pick container key value = unwrap_or (get container.local key) (unwrap_or (get container.server key) value)

-- 32 bytes
pub record IsDigest (digest : List ℕ) : Type 0 where
  pub size : length digest ≡ 32
  pub bytes : All (λ byte. byte < 256) digest

-- The digest has 32 bytes, and the keys of the release and of the boot copy are lawful; overrides stand on read-write
-- flags of the release, and notes on read-write flags of the boot copy.
pub record IsValidContainer (container : Container) : Type 0 where
  pub digest : IsDigest container.digest
  pub keys : HasLawfulKeys container.release
  pub booted : (boot : BootMap) (key : Key) (flag : BootedFlag) → container.boot ≡ Some boot → get boot key ≡ Some flag
      → IsKey key
  pub server : (key : Key) (value : Bool) → get container.server key ≡ Some value
      → IsTrue (is_writable container.release key)
  pub local : (key : Key) (value : Bool) → get container.local key ≡ Some value
      → IsTrue (is_writable container.release key)
  pub noted : (boot : BootMap) (key : Key) (flag : BootedFlag) → container.boot ≡ Some boot → get boot key ≡ Some flag
      → IsTrue (flag.server || flag.local) → IsTrue (is_read_write flag.kind)

-- how many containers a device has at most
abbrev pub most_containers : ℕ
most_containers = 256

pub record IsValid (state : State) : Type 0 where
  pub bound : len state ≤ most_containers
  pub names : (name : List ℕ) (container : Container) → get state name ≡ Some container → IsContainer name
  pub each : (name : List ℕ) (container : Container) → get state name ≡ Some container → IsValidContainer container
