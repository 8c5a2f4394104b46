-- A disk after slots were filled and emptied and a name change was pushed is the disk after the call.
use Rattle.std.proofs.Common.{◌≡◌, ℕ, List, [], ◌∷◌, ◌++◌, Option, Some, None, is_some, map, reverse, cond, sym, ◌∙◌, ap}
use Rattle.std.proofs.lemmas.List.{map-append, reverse-append}
use Rattle.std.specs.Map.{update}
use Rattle.std.specs.Option.{option_map}
use Rattle.std.specs.Str.{bytes_eq}
use Rattle.acfg_device.specs.Calls.{after_write, after_write_at, after_sync, after_rename, after_remove, new_file, overwritten, synced, without}
use Rattle.acfg_device.specs.Disk as disk
use Rattle.acfg_device.proofs.Naming.{update_same, update_twice}
use Rattle.acfg_memdev.specs.Held.{change_of}
use Rattle.acfg_memdev.specs.declared.disk.Change.{Change}

pub same_disk : (a b : disk.Disk) → a.names ≡ b.names → a.pending ≡ b.pending → a.said ≡ b.said → a ≡ b
same_disk a b names pending said = λ i. record { names = names i; pending = pending i; said = said i }

pub pushed : (changes all : List Change) (change : Change) → all ≡ changes ++ change ∷ [] → reverse (map change_of all) ≡ change_of change ∷ reverse (map change_of changes)
pushed changes all change is =
    ap (λ (list : List Change). reverse (map change_of list)) is
    ∙ ap reverse (map-append change_of changes (change ∷ []))
    ∙ reverse-append (map change_of changes) (change_of change ∷ [])

-- a slot of the old names was filled or emptied
pub put_names : (old zero one : disk.Names) (name : List ℕ) (file : Option disk.File) → zero ≡ old → one ≡ update bytes_eq zero name file → one ≡ update bytes_eq old name file
put_names old zero one name file same put = put ∙ ap (λ (names : disk.Names). update bytes_eq names name file) same

-- emptied and then filled
pub put_again : (old zero one two : disk.Names) (name : List ℕ) (file : Option disk.File) → zero ≡ old → one ≡ update bytes_eq zero name None → two ≡ update bytes_eq one name file → two ≡ update bytes_eq old name file
put_again old zero one two name file same put again =
    again ∙ ap (λ (names : disk.Names). update bytes_eq names name file) (put_names old zero one name None same put) ∙ update_twice old name None file

module _ (old new : disk.Disk) (name : List ℕ) (said : new.said ≡ old.said) where
  pub wrote_over : (bytes : List ℕ) (file : disk.File) → new.names ≡ update bytes_eq old.names name (Some (new_file bytes)) → new.pending ≡ old.pending → Some file ≡ old.names name → new ≡ after_write old name bytes
  wrote_over bytes file names pending was = same_disk new (after_write old name bytes) names
      (pending ∙ ap (λ (f : Option disk.File). cond (is_some f) old.pending (disk.Made name ∷ old.pending)) was) said

  pub wrote_new : (bytes : List ℕ) → new.names ≡ update bytes_eq old.names name (Some (new_file bytes)) → new.pending ≡ disk.Made name ∷ old.pending → None ≡ old.names name → new ≡ after_write old name bytes
  wrote_new bytes names pending was = same_disk new (after_write old name bytes) names
      (pending ∙ ap (λ (f : Option disk.File). cond (is_some f) old.pending (disk.Made name ∷ old.pending)) was) said

  pub removed_file : (file : disk.File) → new.names ≡ update bytes_eq old.names name None → new.pending ≡ disk.Removed name file ∷ old.pending → Some file ≡ old.names name → new ≡ after_remove old name
  removed_file file names pending was = same_disk new (without old name (Some file)) names pending said ∙ ap (without old name) was

  pub removed_none : new.names ≡ update bytes_eq old.names name None → new.pending ≡ old.pending → None ≡ old.names name → new ≡ after_remove old name
  removed_none names pending was = same_disk new old (names ∙ update_same old.names name None (sym was)) pending said ∙ ap (without old name) was

  pub synced_file : (file : disk.File) → new.names ≡ update bytes_eq old.names name (Some (synced file)) → new.pending ≡ old.pending → Some file ≡ old.names name → new ≡ after_sync old name
  synced_file file names pending was = same_disk new (after_sync old name) (names ∙ ap (λ (f : Option disk.File). update bytes_eq old.names name (option_map synced f)) was) pending said

  pub synced_none : new.names ≡ update bytes_eq old.names name None → new.pending ≡ old.pending → None ≡ old.names name → new ≡ after_sync old name
  synced_none names pending was = same_disk new (after_sync old name) (names ∙ ap (λ (f : Option disk.File). update bytes_eq old.names name (option_map synced f)) was) pending said

  pub wrote_at : (at : ℕ) (bytes : List ℕ) (file : disk.File) → new.names ≡ update bytes_eq old.names name (Some (overwritten at bytes file)) → new.pending ≡ old.pending → Some file ≡ old.names name → new ≡ after_write_at old name at bytes
  wrote_at at bytes file names pending was = same_disk new (after_write_at old name at bytes) (names ∙ ap (λ (f : Option disk.File). update bytes_eq old.names name (option_map (overwritten at bytes) f)) was) pending said

  pub put_back : (file : disk.File) → new.names ≡ update bytes_eq old.names name (Some file) → new.pending ≡ old.pending → Some file ≡ old.names name → new ≡ old
  put_back file names pending was = same_disk new old (names ∙ update_same old.names name (Some file) (sym was)) pending said

  pub renamed : (to : List ℕ) → new.names ≡ update bytes_eq (update bytes_eq old.names name None) to (old.names name) → new.pending ≡ disk.Moved name to (old.names to) ∷ old.pending → new ≡ after_rename old name to
  renamed to names pending = same_disk new (after_rename old name to) names pending said
