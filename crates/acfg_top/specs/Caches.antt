-- Caches as inputs: read in order, and merged.
use Rattle.std.specs.Prelude.{◌≡◌, ℕ, Bool, List, [], ◌++◌, slice_index_or, codes}
use Rattle.std.specs.Fmt.{decimal}
use Rattle.acfg_decls.specs.declared.flags.Flag.{Flag}
use Rattle.acfg_wire.specs.declared.fault.WireFault.{WireFault}
use Rattle.acfg_wire.specs.declared.fault.WireFault.TheVariants as wire
use Rattle.acfg_cache.specs.declared.fault.CacheFault.{CacheFault}
use Rattle.acfg_cache.specs.declared.fault.CacheFault.TheVariants as cache
use Rattle.acfg_cache.specs.Merging.{IsFirstClash, IsMerged}
use Rattle.acfg_cache.specs.Reading.{FirstFault, Reads}
use Rattle.acfg_top.specs.Inputs.{Given, Judged, AreAccepted, FirstRefused}
use Rattle.acfg_top.specs.Outcome.{Outcome}

-- a fault of the wire format, and its place; want of memory is no fault of bytes, and isn't printed
abbrev pub wire_words : WireFault → List ℕ
wire_words (wire.Truncated place) = codes "truncated at " ++ decimal place
wire_words (wire.LongVarint place) = codes "long-varint at " ++ decimal place
wire_words (wire.BadType place) = codes "bad-type at " ++ decimal place
wire_words wire.OutOfMemory = codes "out-of-memory"

-- the first fault of a cache, with its place or the position of its flag
abbrev pub cache_words : CacheFault → List ℕ
cache_words (cache.Wire fault) = wire_words fault
cache_words (cache.BadText flag) = codes "bad-text flag " ++ decimal flag
cache_words (cache.BadEnum flag) = codes "bad-enum flag " ++ decimal flag
cache_words (cache.Missing flag) = codes "missing-value flag " ++ decimal flag
cache_words (cache.BadName flag) = codes "bad-name flag " ++ decimal flag
cache_words (cache.BadPermission flag) = codes "bad-permission flag " ++ decimal flag
cache_words (cache.Unsorted flag) = codes "unsorted flag " ++ decimal flag
cache_words (cache.Duplicate flag) = codes "duplicate flag " ++ decimal flag
cache_words cache.OutOfMemory = codes "out-of-memory"

-- a cache is read as flags, or refused for its first fault
abbrev pub IsCache : Given → List Flag → Type 0
IsCache input flags = Reads input.bytes flags

abbrev pub IsBadCache : Given → List ℕ → Type 0
IsBadCache input what = (fault : CacheFault) × FirstFault input.bytes fault × (what ≡ cache_words fault)

-- all caches are read, and this follows from their lists of flags; or the first bad one is refused
abbrev pub WithCaches : List Given → (List (List Flag) → Outcome → Type 0) → Outcome → Type 0
WithCaches inputs follows =
    Judged (FirstRefused IsCache IsBadCache inputs) (AreAccepted IsCache IsBadCache inputs) follows

-- a clash is refused for the later list's file
pub record Clashing (names : List (List ℕ)) (lists : List (List Flag)) (dedup : Bool) (file what : List ℕ)
    : Type 0 where
  pub list : ℕ
  pub name : List ℕ
  pub first : IsFirstClash lists dedup list name
  pub is_file : file ≡ slice_index_or names list []
  pub is_clash : what ≡ codes "clash " ++ name

-- lists of the files of these names are merged, and this follows from the flags; or their first clash is refused
abbrev pub WithMerged : List (List ℕ) → List (List Flag) → Bool → (List Flag → Outcome → Type 0) → Outcome → Type 0
WithMerged names lists dedup follows = Judged (Clashing names lists dedup) (IsMerged lists dedup) follows
