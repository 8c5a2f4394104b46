-- Private: the names of a disk, as the slots of a map. No public clause cites it.
use Rattle.std.specs.Prelude.{List, Option, Some, None, String, map, reverse}
use Rattle.std.specs.BTreeMap.{BTreeMap, get_by_text}
use Rattle.std.specs.Option.{option_map}
use Rattle.std.specs.declared.alloc.Global.{Global}
use Rattle.acfg_device.specs.Disk as disk
use Rattle.acfg_memdev.specs.Held.{change_of, file_of}
use Rattle.acfg_memdev.specs.declared.disk.Change.{Change}
use Rattle.acfg_memdev.specs.declared.disk.Disk.{Disk}
use Rattle.acfg_memdev.specs.declared.file.File.{File}

abbrev pub slot_of : Option (Option File) → Option disk.File
slot_of None = None
slot_of (Some slot) = option_map file_of slot

abbrev pub names_of : BTreeMap (String Global) (Option File) → disk.Names
names_of slots name = slot_of (get_by_text slots name)

-- the name changes, the newest first; the newest that is kept stands last
abbrev pub changes_of : List Change → List disk.Change
changes_of changes = reverse (map change_of changes)

-- the disk that is kept
abbrev pub disk_of : Disk → disk.Disk
disk_of kept = record { names = names_of kept.slots; pending = changes_of kept.pending.items; said = kept.said.items }
