-- The life of a device in memory, and the account that it makes.
use Rattle.std.specs.Prelude.{◌≡◌, ◌≢◌, ◌⊎◌, ◌+◌, ◌-◌, ◌^◌, ◌≤◌, ◌++◌, ◌==◌, ⊤, ℕ, true, false, Result, MatchResult}
use Rattle.std.specs.Prelude.{zero, suc, List, [], ◌∷◌, Bool, IsSomeAnd, if◌then◌else◌, length, min, nat_lt}
use Rattle.std.specs.List.{list_any}
use Rattle.std.specs.Map.{lookup}
use Rattle.std.specs.Option.{option_map}
use Rattle.std.specs.Str.{bytes_eq}
use Rattle.acfg_device.specs.Account.{Account, moved_on}
use Rattle.acfg_device.specs.Calls.{after_write, after_write_at, after_sync, after_rename, after_remove}
use Rattle.acfg_device.specs.Calls.{after_sync_names, after_say}
use Rattle.acfg_device.specs.Disk.{Disk, File, Within, told}
use Rattle.acfg_device.specs.Panel.{Files, last_count}

-- a call, with what it was given
pub data Call : Type 0 where
  Write : List ℕ → List ℕ → Call
  WriteAt : List ℕ → ℕ → List ℕ → Call
  Sync : List ℕ → Call
  Rename : List ℕ → List ℕ → Call
  Remove : List ℕ → Call
  SyncNames : Call
  Say : List ℕ → Call

-- what the call makes of a disk
abbrev pub done : Call → Disk → Disk
done (Write name bytes) disk = after_write disk name bytes
done (WriteAt name at bytes) disk = after_write_at disk name at bytes
done (Sync name) disk = after_sync disk name
done (Rename from to) disk = after_rename disk from to
done (Remove name) disk = after_remove disk name
done SyncNames disk = after_sync_names disk
done (Say bytes) disk = after_say disk bytes

-- the bytes that are said in it
abbrev pub saying : Call → List ℕ
saying (Write name bytes) = []
saying (WriteAt name at bytes) = []
saying (Sync name) = []
saying (Rename from to) = []
saying (Remove name) = []
saying SyncNames = []
saying (Say bytes) = bytes

-- what a call asks of the disk
abbrev pub CanDo : Call → Disk → Type 0
CanDo (Write name bytes) disk = ⊤
CanDo (WriteAt name at bytes) disk = IsSomeAnd (disk.names name) (λ file. at + length bytes ≤ length file.bytes)
CanDo (Sync name) disk = ⊤
CanDo (Rename from to) disk = from ≢ to
CanDo (Remove name) disk = ⊤
CanDo SyncNames disk = ⊤
CanDo (Say bytes) disk = ⊤

-- the bytes under each name; of two entries with one name the first counts
abbrev pub given : List (List ℕ × List ℕ) → Files
given entries = λ name. lookup (bytes_eq name) entries

-- a synced file
abbrev pub settled_file : List ℕ → File
settled_file bytes = record { bytes = bytes; loose = Within [] }

-- a settled disk with these files, and these words said
abbrev pub settled_disk : Files → List ℕ → Disk
settled_disk files words = record { names = λ name. option_map settled_file (files name); pending = []; said = words }

-- The files and the words at the start, the calls that were carried out with their numbers, how many calls
-- were made, which numbers are to fail, and how many calls found no memory.
pub record History : Type 0 where
  pub files : List (List ℕ × List ℕ)
  pub words : List ℕ
  pub log : List (ℕ × Call)
  pub calls : ℕ
  pub fails : List ℕ
  pub starved : ℕ

-- the account after these calls
abbrev pub after_all : List (ℕ × Call) → Account → Account
after_all [] account = account
after_all (entry ∷ log) account = after_all log (moved_on account (done entry.1 account.now) (saying entry.1))

-- the account at the start
abbrev pub starting : List (List ℕ × List ℕ) → List ℕ → Account
starting files words = record { now = settled_disk (given files) words; past = [] }

abbrev pub first : History → Account
first device = starting device.files device.words

-- the account now
abbrev pub account_of : History → Account
account_of device = after_all device.log (first device)

-- what is read under each name
abbrev pub files_of : History → Files
files_of device = told (account_of device).now

-- the words said
abbrev pub said_of : History → List ℕ
said_of device = (account_of device).now.said

-- a call with the number is to fail
abbrev pub is_listed : List ℕ → ℕ → Bool
is_listed fails number = list_any (λ fail. fail == number) fails

-- how many of the calls below this number were to fail
abbrev pub listed : List ℕ → ℕ → ℕ
listed fails zero = 0
listed fails (suc number) = listed fails number + (if is_listed fails number then 1 else 0)

-- how often the device failed
abbrev pub faults_of : History → ℕ
faults_of device = listed device.fails device.calls + device.starved

-- the last number that a call is counted with
abbrev pub last_call : ℕ
last_call = 2 ^ 128 - 1

-- one call more was made, and nothing else
abbrev pub called : History → History
called device = record device { calls = min (device.calls + 1) last_call }

-- a call of this number was carried out
abbrev pub logged : History → ℕ → Call → History
logged device number call = record device { log = device.log ++ (number, call) ∷ [] }

-- a call found no memory
abbrev pub starved_once : History → History
starved_once device = record device { starved = min (device.starved + 1) last_count }

-- A call failed: its number is listed, and nothing else changed, or it found no memory.
abbrev pub HasFailed : History → History → Type 0
HasFailed old new = ((is_listed old.fails old.calls ≡ true) × (new ≡ called old))
    ⊎ ((is_listed old.fails old.calls ≡ false) × (new ≡ starved_once (called old)))

-- A call was carried out, and its number isn't listed, or it failed.
abbrev pub IsCall : {T E : Type 0} → Result T E → History → History → Call → Type 0
IsCall result old new call = MatchResult result (λ _. (is_listed old.fails old.calls ≡ false)
    × (new ≡ logged (called old) old.calls call)) (λ _. HasFailed old new)

-- the calls below this number
abbrev pub until : ℕ → List (ℕ × Call) → List (ℕ × Call)
until calls [] = []
until calls (entry ∷ log) = if nat_lt entry.0 calls then entry ∷ until calls log else []

-- the disk after these calls
abbrev pub carried : List (ℕ × Call) → Disk → Disk
carried [] disk = disk
carried (entry ∷ log) disk = carried log (done entry.1 disk)

-- each of these calls can be done when it is its turn
abbrev pub CanDoAll : List (ℕ × Call) → Disk → Type 0
CanDoAll [] disk = ⊤
CanDoAll (entry ∷ log) disk = CanDo entry.1 disk × CanDoAll log (done entry.1 disk)

-- the disk after the calls below this number
abbrev pub disk_after : History → ℕ → Disk
disk_after device calls = carried (until calls device.log) (first device).now

-- a device that has made no call
abbrev pub unused : List (List ℕ × List ℕ) → List ℕ → List ℕ → History
unused files words fails = record { files = files; words = words; log = []; calls = 0; fails = fails; starved = 0 }
