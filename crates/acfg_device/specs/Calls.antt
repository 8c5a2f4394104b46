-- What each call makes of a disk.
use Rattle.std.specs.Prelude.{ℕ, ◌+◌, ◌++◌, List, [], ◌∷◌, length, take, drop, Option, Some, None, is_some}
use Rattle.std.specs.Prelude.{if◌then◌else◌}
use Rattle.std.specs.Map.{update}
use Rattle.std.specs.Option.{option_map}
use Rattle.std.specs.Str.{bytes_eq}
use Rattle.acfg_device.specs.Disk.{Loose, Within, Replaced, File, Made, Moved, Removed, Disk}

-- the bytes with these in the place of as many
abbrev pub spliced : List ℕ → ℕ → List ℕ → List ℕ
spliced old at bytes = take at old ++ bytes ++ drop (at + length bytes) old

-- one range more
abbrev pub loosened : Loose → ℕ → ℕ → Loose
loosened (Within ranges) at length = Within (ranges ++ (at, length) ∷ [])
loosened Replaced at length = Replaced

-- a file that was made or replaced
abbrev pub new_file : List ℕ → File
new_file bytes = record { bytes = bytes; loose = Replaced }

-- a file with these bytes at this place
abbrev pub overwritten : ℕ → List ℕ → File → File
overwritten at bytes file = record {
  bytes = spliced file.bytes at bytes;
  loose
      = loosened file.loose at (length bytes);
}

-- a file that was synced
abbrev pub synced : File → File
synced file = record { bytes = file.bytes; loose = Within [] }

-- The file has these bytes, none of which is synced. Where there was none, it is made.
abbrev pub after_write : Disk → List ℕ → List ℕ → Disk
after_write disk name bytes = record disk {
  names = update bytes_eq disk.names name (Some (new_file bytes));
  pending = if is_some (disk.names name) then disk.pending else Made name ∷ disk.pending;
}

-- the file has these bytes at this place, and they are not synced
abbrev pub after_write_at : Disk → List ℕ → ℕ → List ℕ → Disk
after_write_at disk name at bytes = record disk {
  names = update bytes_eq disk.names name (option_map (overwritten at bytes) (disk.names name));
}

-- the file's bytes stay
abbrev pub after_sync : Disk → List ℕ → Disk
after_sync disk name = record disk {
  names = update bytes_eq disk.names name (option_map synced (disk.names name));
}

-- the file has the other name, and a file that had it is lost
abbrev pub after_rename : Disk → List ℕ → List ℕ → Disk
after_rename disk from to = record disk {
  names = update bytes_eq (update bytes_eq disk.names from None) to (disk.names from);
  pending = Moved from to (disk.names to) ∷ disk.pending;
}

-- the name is gone from this file; where there is none, nothing changes
abbrev pub without : Disk → List ℕ → Option File → Disk
without disk name None = disk
without disk name (Some file) = record disk {
  names = update bytes_eq disk.names name None;
  pending
      = Removed name file ∷ disk.pending;
}

abbrev pub after_remove : Disk → List ℕ → Disk
after_remove disk name = without disk name (disk.names name)

-- the names stay
abbrev pub after_sync_names : Disk → Disk
after_sync_names disk = record disk { pending = [] }

-- these bytes more are said
abbrev pub after_say : Disk → List ℕ → Disk
after_say disk bytes = record disk { said = disk.said ++ bytes }
