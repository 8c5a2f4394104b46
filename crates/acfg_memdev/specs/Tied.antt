-- Private: what a device in memory keeps is what its history makes of the disk. No public clause cites it.
use Rattle.std.specs.Prelude.{◌≡◌, map}
use Rattle.acfg_memdev.specs.History.{CanDoAll, History, account_of, first}
use Rattle.acfg_memdev.specs.Kept.{entry_of, logged_of}
use Rattle.acfg_memdev.specs.Slots.{disk_of}
use Rattle.acfg_memdev.specs.declared.device.MemDevice.TheInside.{Inside}

abbrev pub history_of : Inside → History
history_of device = record {
  files = map entry_of device.start.items;
  words = device.words.items;
  log = map logged_of device.log.items;
  calls = device.calls;
  fails = device.fails.items;
  starved = device.starved;
}

pub record IsTied (device : Inside) : Type 0 where
  pub same : disk_of device.disk ≡ (account_of (history_of device)).now
  pub able : CanDoAll (history_of device).log (first (history_of device)).now
