-- Private: what the device keeps, as the disk that it stands for. No public clause cites it.
use Rattle.std.specs.Prelude.{string_bytes}
use Rattle.std.specs.Option.{option_map}
use Rattle.acfg_device.specs.Disk as disk
use Rattle.acfg_memdev.specs.declared.file.Loose.{Loose}
use Rattle.acfg_memdev.specs.declared.file.Loose.TheVariants.{Within, Replaced}
use Rattle.acfg_memdev.specs.declared.file.File.{File}
use Rattle.acfg_memdev.specs.declared.disk.Change.{Change}
use Rattle.acfg_memdev.specs.declared.disk.Change.TheVariants.{Made, Moved, Removed}

abbrev pub loose_of : Loose → disk.Loose
loose_of (Within ranges) = disk.Within ranges.items
loose_of Replaced = disk.Replaced

abbrev pub file_of : File → disk.File
file_of file = record { bytes = file.bytes.items; loose = loose_of file.loose }

abbrev pub change_of : Change → disk.Change
change_of (Made name) = disk.Made (string_bytes name)
change_of (Moved from to lost) = disk.Moved (string_bytes from) (string_bytes to) (option_map file_of lost)
change_of (Removed name file) = disk.Removed (string_bytes name) (file_of file)
