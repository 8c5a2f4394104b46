-- What is kept of a call, as the call of a history that it stands for.
use Rattle.std.specs.Prelude.{ℕ, List, String, Vec, string_bytes}
use Rattle.std.specs.declared.alloc.Global.{Global}
use Rattle.acfg_memdev.specs.History as history
use Rattle.acfg_memdev.specs.declared.call.Call.{Call}
use Rattle.acfg_memdev.specs.declared.call.Call.TheVariants.{Write, WriteAt, Sync, Rename, Remove, SyncNames, Say}

abbrev pub call_of : Call → history.Call
call_of (Write name bytes) = history.Write (string_bytes name) bytes.items
call_of (WriteAt name at bytes) = history.WriteAt (string_bytes name) at bytes.items
call_of (Sync name) = history.Sync (string_bytes name)
call_of (Rename from to) = history.Rename (string_bytes from) (string_bytes to)
call_of (Remove name) = history.Remove (string_bytes name)
call_of SyncNames = history.SyncNames
call_of (Say bytes) = history.Say bytes.items

-- a file's name and bytes
abbrev pub entry_of : String Global × Vec ℕ Global → List ℕ × List ℕ
entry_of entry = (string_bytes entry.0, entry.1.items)

-- a call with its number
abbrev pub logged_of : ℕ × Call → ℕ × history.Call
logged_of logged = (logged.0, call_of logged.1)
