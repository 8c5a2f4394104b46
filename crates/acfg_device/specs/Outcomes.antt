-- What each call makes of the account: what it has done where it succeeds, and what it may have done where
-- it fails. The traits cite these words, and so does each device.
use Rattle.std.specs.Prelude.{◌≡◌, ◌⊎◌, ◌++◌, ℕ, List, [], length}
use Rattle.acfg_device.specs.Account.{Account, moved_on}
use Rattle.acfg_device.specs.Calls.{after_write, after_write_at, after_sync, after_rename, after_remove}
use Rattle.acfg_device.specs.Calls.{after_sync_names, after_say}

module _ (before after : Account) where
  -- the file has these bytes in the place of all that it had
  abbrev pub Wrote : List ℕ → List ℕ → Type 0
  Wrote name bytes = after ≡ moved_on before (after_write before.now name bytes) []

  -- nothing was done, or other bytes were written
  abbrev pub MayHaveWritten : List ℕ → Type 0
  MayHaveWritten name = (after ≡ before) ⊎ ((other : List ℕ) × Wrote name other)

  -- the file has these bytes from that place on
  abbrev pub WroteAt : List ℕ → ℕ → List ℕ → Type 0
  WroteAt name at bytes = after ≡ moved_on before (after_write_at before.now name at bytes) []

  -- nothing was done, or as many other bytes were written there
  abbrev pub MayHaveWrittenAt : List ℕ → ℕ → ℕ → Type 0
  MayHaveWrittenAt name at size = (after ≡ before) ⊎ ((other : List ℕ) × (length other ≡ size) × WroteAt name at other)

  -- the file's bytes stay
  abbrev pub Synced : List ℕ → Type 0
  Synced name = after ≡ moved_on before (after_sync before.now name) []

  -- the file has the other name
  abbrev pub Renamed : List ℕ → List ℕ → Type 0
  Renamed from to = after ≡ moved_on before (after_rename before.now from to) []

  abbrev pub MayHaveRenamed : List ℕ → List ℕ → Type 0
  MayHaveRenamed from to = (after ≡ before) ⊎ Renamed from to

  -- the name is gone
  abbrev pub Removed : List ℕ → Type 0
  Removed name = after ≡ moved_on before (after_remove before.now name) []

  abbrev pub MayHaveRemoved : List ℕ → Type 0
  MayHaveRemoved name = (after ≡ before) ⊎ Removed name

  -- the names stay
  abbrev pub SyncedNames : Type 0
  SyncedNames = after ≡ moved_on before (after_sync_names before.now) []

  -- these bytes were said
  abbrev pub Said : List ℕ → Type 0
  Said bytes = after ≡ moved_on before (after_say before.now bytes) bytes

  -- nothing was said, or the first few of these bytes
  abbrev pub MayHaveSaid : List ℕ → Type 0
  MayHaveSaid bytes = (after ≡ before) ⊎ ((part rest : List ℕ) × (bytes ≡ part ++ rest) × Said part)
