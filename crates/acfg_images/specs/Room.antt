-- Lists and tables of a check that hold nothing yet. No public clause cites these words.
use Rattle.std.specs.Prelude.{◌≡◌, []}
use Rattle.acfg_images.specs.declared.nodes.Packages.{Packages}
use Rattle.acfg_images.specs.declared.nodes.Flags.{Flags}
use Rattle.acfg_images.specs.declared.room.Room.{Room}
use Rattle.acfg_images.specs.declared.room.LinkTables.{LinkTables}
use Rattle.acfg_images.specs.declared.room.NumberTables.{NumberTables}
use Rattle.acfg_images.specs.declared.room.IndexTables.{IndexTables}

pub record AreUnusedPackages (packages : Packages) : Type 0 where
  pub nodes : packages.nodes.items ≡ []
  pub links : packages.links.items ≡ []

pub record AreUnusedFlags (flags : Flags) : Type 0 where
  pub nodes : flags.nodes.items ≡ []
  pub links : flags.links.items ≡ []

pub record AreUnusedTables (tables : LinkTables) : Type 0 where
  pub rows : tables.rows.items ≡ []
  pub buckets : tables.buckets.items ≡ []
  pub firsts : tables.firsts.items ≡ []

pub record AreUnusedIndexes (tables : IndexTables) : Type 0 where
  pub starts : tables.starts.items ≡ []
  pub indexes : tables.indexes.items ≡ []
  pub counts : tables.counts.items ≡ []
  pub kinds : tables.kinds.items ≡ []

pub record AreUnusedNumbers (numbers : NumberTables) : Type 0 where
  pub ids : numbers.ids.items ≡ []
  pub by_index : AreUnusedIndexes numbers.by_index

pub record IsUnused (room : Room) : Type 0 where
  pub packages : AreUnusedPackages room.packages
  pub package_tables : AreUnusedTables room.package_tables
  pub flags : AreUnusedFlags room.flags
  pub flag_tables : AreUnusedTables room.flag_tables
  pub numbers : AreUnusedNumbers room.numbers
