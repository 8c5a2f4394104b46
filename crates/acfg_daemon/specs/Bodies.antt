-- Words of private bodies: no public clause cites them.
use Rattle.std.specs.Prelude.{◌≡◌, ◌≢◌, ℕ, List, length, slice_index, codes}
use Rattle.acfg_base.specs.Bytes.{digit_zero, plus}
use Rattle.acfg_device.specs.declared.panel.ReadFault.{ReadFault}
use Rattle.acfg_device.specs.declared.panel.ReadFault.TheVariants as read
use Rattle.acfg_daemon.specs.declared.fault.DaemonFault.{DaemonFault}
use Rattle.acfg_daemon.specs.declared.fault.DaemonFault.TheVariants.{Device, OutOfMemory}
use Rattle.acfg_daemon.specs.declared.lines.Arrived.{Arrived}
use Rattle.acfg_daemon.specs.declared.lines.Arrived.TheVariants as arrived
use Rattle.acfg_daemon.specs.declared.requests.Verb.{Verb}
use Rattle.acfg_daemon.specs.declared.requests.Verb.TheVariants.{Update, Server, Local, Unset, Boot, Get}
use Rattle.acfg_daemon.specs.Requests.{local_word, unset_word}
use Rattle.acfg_daemon.specs.Lines.{Event, Complete, TooLong, BadLine}

-- the fault of a script whose read failed
abbrev pub fault_of : ReadFault → DaemonFault
fault_of read.Failed = Device
fault_of read.OutOfMemory = OutOfMemory

-- the first word of each request, by which it is read
abbrev pub verb_word : Verb → List ℕ
verb_word Update = codes "update"
verb_word Server = codes "server"
verb_word (Local now) = local_word now
verb_word (Unset now) = unset_word now
verb_word Boot = codes "boot"
verb_word Get = codes "get"

-- the word has no `+` in front, and no `0` in front of another byte
pub record BeginsPlainly (word : List ℕ) : Type 0 where
  pub unsigned : slice_index word 0 ≢ plus
  pub short : slice_index word 0 ≡ digit_zero → length word ≡ 1

abbrev pub event_of : ℕ → Arrived → Event
event_of number (arrived.Complete client text) = Complete client text.now
event_of number (arrived.TooLong client) = TooLong client
event_of number arrived.BadLine = BadLine number
