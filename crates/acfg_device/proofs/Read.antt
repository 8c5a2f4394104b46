-- What is read after each call, by what was read before. Use these where the disk is known as a whole, as after
-- a `Wrote`; `Naming` serves where a call's clauses on files are enough.
--     told_write disk name bytes : told (after_write disk name bytes) ≡ update bytes_eq (told disk) name (Some bytes)
use Rattle.std.proofs.Common.{◌≡◌, inl, inr, ℕ, List, Option, Some, None, refl, sym, ◌∙◌, ap}
use Rattle.std.specs.Map.{update}
use Rattle.std.specs.Option.{option_map}
use Rattle.std.specs.Str.{bytes_eq}
use Rattle.acfg_device.specs.Calls.{after_write, after_sync, after_rename, new_file, synced}
use Rattle.acfg_device.specs.Disk.{File, Names, Disk, told}
use Rattle.acfg_device.specs.Panel.{Files}
use Rattle.acfg_device.proofs.Naming.{same_name, functions, update_here, update_apart, update_same}

-- the bytes of a file, where there is one
abbrev pub bytes_of : Option File → Option (List ℕ)
bytes_of file = option_map (λ (f : File). f.bytes) file

-- the bytes under each name
abbrev pub read : Names → Files
read names = λ name. bytes_of (names name)

pub read_update : (names : Names) (name : List ℕ) (file : Option File) → read (update bytes_eq names name file) ≡ update bytes_eq (read names) name (bytes_of file)
read_update names name file = functions (read (update bytes_eq names name file)) (update bytes_eq (read names) name (bytes_of file)) each
  where
    each : (other : List ℕ) → read (update bytes_eq names name file) other ≡ update bytes_eq (read names) name (bytes_of file) other
    each other = elim (same_name name other) [
      | inl same ↦ ap bytes_of (ap (update bytes_eq names name file) same ∙ update_here names name file)
          ∙ sym (ap (update bytes_eq (read names) name (bytes_of file)) same ∙ update_here (read names) name (bytes_of file))
      | inr apart ↦ ap bytes_of (update_apart names name file other apart) ∙ sym (update_apart (read names) name (bytes_of file) other apart)
    ]

module _ (disk : Disk) (name : List ℕ) where
  pub told_write : (bytes : List ℕ) → told (after_write disk name bytes) ≡ update bytes_eq (told disk) name (Some bytes)
  told_write bytes = read_update disk.names name (Some (new_file bytes))

  pub told_sync : told (after_sync disk name) ≡ told disk
  told_sync = read_update disk.names name (option_map synced (disk.names name)) ∙ update_same (told disk) name (bytes_of (option_map synced (disk.names name))) (same (disk.names name))
    where
      same : (file : Option File) → bytes_of file ≡ bytes_of (option_map synced file)
      same None = refl
      same (Some file) = refl

pub told_rename : (disk : Disk) (from to : List ℕ) → told (after_rename disk from to) ≡ update bytes_eq (update bytes_eq (told disk) from None) to (told disk from)
told_rename disk from to =
    read_update (update bytes_eq disk.names from None) to (disk.names from)
    ∙ ap (λ (files : Files). update bytes_eq files to (told disk from)) (read_update disk.names from None)
