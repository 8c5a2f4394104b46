-- The release that compiled flags make, for the storage files and the device.
use Rattle.std.specs.Prelude.{if◌then◌else◌, List, map}
use Rattle.acfg_base.specs.declared.releases.Kind.{Kind}
use Rattle.acfg_base.specs.declared.releases.Kind.TheVariants.{ReadWrite, ReadOnly, Fixed}
use Rattle.acfg_base.specs.declared.releases.Entry.{Entry}
use Rattle.acfg_base.specs.Release.{ReleaseMap, release_of}
use Rattle.acfg_decls.specs.declared.flags.Flag.{Flag}

-- fixed where it is, else by its permission
abbrev pub kind_of : Flag → Kind
kind_of flag = if flag.fixed then Fixed else (if flag.writable then ReadWrite else ReadOnly)

-- a flag's key, kind and value
abbrev pub entry_of : Flag → Entry
entry_of flag = record { «package» = flag.package; flag = flag.name; kind = kind_of flag; value = flag.enabled }

-- the finite map of each flag's kind and value
abbrev pub release : List Flag → ReleaseMap
release flags = release_of (map entry_of flags)
