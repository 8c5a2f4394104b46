-- What a cut gives is what the model allows.
use Rattle.std.proofs.Common.{◌≡◌, inl, inr, ⊎_elim, ℕ, zero, suc, ◌+◌, List, [], ◌∷◌, ◌++◌, Option, Some, None, Bool, true, false, length, get_or, cond, nat_lt, refl, sym, ◌∙◌, ap, subst, arith, Result, Ok, Err, IfOk}
use Rattle.std.specs.Option.{option_map}
use Rattle.acfg_device.specs.Account.{Account, LeftSince, moved_on}
use Rattle.acfg_device.specs.Disk.{Change, Disk, File, KeepsNames, KeepsSome, Loose, MayHold, MayLeave, MayStand, Names, Replaced, Within, in_ranges, undone}
use Rattle.acfg_device.specs.Panel.{Files}
use Rattle.acfg_device.proofs.Cuts.{own_bytes}
use Rattle.acfg_device.proofs.Naming.{functions}
use Rattle.acfg_memdev.proofs.Logs.{after_all-append}
use Rattle.acfg_memdev.specs.Cut.{IsCut, cut_files, filled, filled_from, filled_with, kept}
use Rattle.acfg_memdev.specs.History.{History, Call, account_of, after_all, carried, disk_after, done, files_of, first, given, said_of, saying, settled_file, unused, until}

-- ---- one file

length-filled_from : (ranges : List (ℕ × ℕ)) (fill place : ℕ) (bytes : List ℕ) → length (filled_from ranges fill place bytes) ≡ length bytes
length-filled_from ranges fill place [] = refl
length-filled_from ranges fill place (byte ∷ bytes) = ap suc (length-filled_from ranges fill (place + 1) bytes)

outside_from : (ranges : List (ℕ × ℕ)) (fill place : ℕ) (bytes : List ℕ) (index : ℕ) → in_ranges ranges (place + index) ≡ false → get_or (filled_from ranges fill place bytes) index 0 ≡ get_or bytes index 0
outside_from ranges fill place [] index out = refl
outside_from ranges fill place (byte ∷ bytes) zero out =
    let same : place + zero ≡ place = omega arith in
    let here : in_ranges ranges place ≡ false = ap (in_ranges ranges) (sym same) ∙ out in
    rw here refl
outside_from ranges fill place (byte ∷ bytes) (suc index) out =
    let same : place + 1 + index ≡ place + suc index = omega arith in
    outside_from ranges fill (place + 1) bytes index (ap (in_ranges ranges) same ∙ out)

filled_held : (loose : Loose) (fill : ℕ) (bytes : List ℕ) → MayHold loose bytes (filled_with loose fill bytes)
filled_held (Within ranges) fill bytes = record {
  length = length-filled_from ranges fill 0 bytes;
  outside = λ place out. outside_from ranges fill 0 bytes place (ap (in_ranges ranges) (zero_plus place) ∙ out);
}
  where
    zero_plus : (n : ℕ) → 0 + n ≡ n
    zero_plus n = omega arith
filled_held Replaced fill bytes = tt

stands_filled : (fill : Option ℕ) (file : Option File) → MayStand file (option_map (filled fill) file)
stands_filled fill None = refl
stands_filled None (Some file) = own_bytes file.loose file.bytes
stands_filled (Some fill) (Some file) = filled_held file.loose fill file.bytes

-- ---- the whole disk

keeps_filled : (fill : Option ℕ) (names : Names) → KeepsNames names (λ name. option_map (filled fill) (names name))
keeps_filled fill names name = stands_filled fill (names name)

keeps_cut : (fill : Option ℕ) (count : ℕ) (pending : List Change) (names : Names) → KeepsSome pending names (λ name. option_map (filled fill) (kept count pending names name))
keeps_cut fill count [] names = keeps_filled fill names
keeps_cut fill count (newest ∷ older) names = by_test (nat_lt (length older) count) (keeps_cut fill count older (undone newest names))
  where
    by_test : (few : Bool) → KeepsSome older (undone newest names) (λ name. option_map (filled fill) (kept count older (undone newest names) name))
        → KeepsSome (newest ∷ older) names (λ name. option_map (filled fill) ((cond few names (kept count older (undone newest names))) name))
    by_test true later = inl (keeps_filled fill names)
    by_test false later = inr later

-- the model allows what the cut gives
pub cut_allowed : (disk : Disk) (count : ℕ) (fill : Option ℕ) → MayLeave disk (cut_files disk count fill) disk.said
cut_allowed disk count fill = record { under = keeps_cut fill count disk.pending disk.names; words = refl }

-- ---- some moment

left_too : (log : List (ℕ × Call)) (account : Account) (files : Files) (said : List ℕ) → LeftSince account 0 files said → LeftSince (after_all log account) 0 files said
left_too [] account files said left = left
left_too (entry ∷ log) account files said left = left_too log (moved_on account (done entry.1 account.now) (saying entry.1)) files said
    (⊎_elim (λ now. inr (inl (omega arith, record { under = now.under; words = ([], saying entry.1, refl, now.words ∙ sym (nothing account.now.said)) }))) (λ past. inr (inr past)) left)
  where
    nothing : (said : List ℕ) → said ++ [] ≡ said
    nothing [] = refl
    nothing (byte ∷ said) = ap (λ (rest : List ℕ). byte ∷ rest) (nothing said)

after_carried : (log : List (ℕ × Call)) (account : Account) → (after_all log account).now ≡ carried log account.now
after_carried [] account = refl
after_carried (entry ∷ log) account = after_carried log (moved_on account (done entry.1 account.now) (saying entry.1))

-- the calls from this number on
abbrev rest : ℕ → List (ℕ × Call) → List (ℕ × Call)
rest calls [] = []
rest calls (entry ∷ log) = cond (nat_lt entry.0 calls) (rest calls log) (entry ∷ log)

until_split : (calls : ℕ) (log : List (ℕ × Call)) → log ≡ until calls log ++ rest calls log
until_split calls [] = refl
until_split calls (entry ∷ log) = by_test (nat_lt entry.0 calls) (until_split calls log)
  where
    by_test : (low : Bool) → log ≡ until calls log ++ rest calls log → (entry ∷ log) ≡ cond low (entry ∷ until calls log) [] ++ cond low (rest calls log) (entry ∷ log)
    by_test true later = ap (λ (list : List (ℕ × Call)). entry ∷ list) later
    by_test false later = refl

-- ---- the device that a cut gives

if_ok : {T E : Type 0} (result : Result T E) (P Q : T → Type 0) → ((value : T) → P value → Q value) → IfOk result P → IfOk result Q
if_ok (Ok value) P Q weaker holds = weaker value holds
if_ok (Err e) P Q weaker holds = tt

module _ {E : Type 0} (result : Result History E) (device : History) (calls count : ℕ) (fill : Option ℕ) (disk : Disk) (names : Names) (entries : List (List ℕ × List ℕ)) (words fails : List ℕ)
    (made : IfOk result (λ left. left ≡ unused entries words fails)) (is_disk : disk ≡ disk_after device calls) (is_names : names ≡ kept count disk.pending disk.names)
    (listed : (name : List ℕ) → given entries name ≡ option_map (filled fill) (names name)) (is_words : words ≡ disk.said) (no_fails : fails ≡ []) where
  files_are : files_of (unused entries words fails) ≡ cut_files (disk_after device calls) count fill
  files_are =
      functions (files_of (unused entries words fails)) (given entries) (λ name. told_again (given entries name))
      ∙ functions (given entries) (λ name. option_map (filled fill) (names name)) listed
      ∙ ap (λ (n : Names). λ (name : List ℕ). option_map (filled fill) (n name)) is_names
      ∙ ap (λ (d : Disk). cut_files d count fill) is_disk
    where
      told_again : (bytes : Option (List ℕ)) → option_map (λ (file : File). file.bytes) (option_map settled_file bytes) ≡ bytes
      told_again None = refl
      told_again (Some bytes) = refl

  words_are : said_of (unused entries words fails) ≡ (disk_after device calls).said
  words_are = is_words ∙ ap (λ (d : Disk). d.said) is_disk

  pub cut_exact : IfOk result (IsCut device calls count fill)
  cut_exact = if_ok result (λ left. left ≡ unused entries words fails) (IsCut device calls count fill) (λ left is. record {
    files = ap files_of is ∙ files_are;
    said = ap said_of is ∙ words_are;
    log = ap (λ (d : History). d.log) is;
    made = ap (λ (d : History). d.calls) is;
    fails = ap (λ (d : History). d.fails) is ∙ no_fails;
    starved = ap (λ (d : History). d.starved) is;
  }) made

  allowed : (left : History) → left ≡ unused entries words fails → MayLeave (disk_after device calls) (files_of left) (said_of left)
  allowed left is =
      subst (λ (files : Files). MayLeave (disk_after device calls) files (said_of left)) (sym (ap files_of is ∙ files_are))
      (subst (λ (said : List ℕ). MayLeave (disk_after device calls) (cut_files (disk_after device calls) count fill) said) (sym (ap said_of is ∙ words_are)) (cut_allowed (disk_after device calls) count fill))

  pub cut_may : IfOk result (λ left. MayLeave (disk_after device calls) (files_of left) (said_of left))
  cut_may = if_ok result (λ left. left ≡ unused entries words fails) (λ left. MayLeave (disk_after device calls) (files_of left) (said_of left)) allowed made

  pub cut_since : IfOk result (λ left. LeftSince (account_of device) 0 (files_of left) (said_of left))
  cut_since = if_ok result (λ left. left ≡ unused entries words fails) (λ left. LeftSince (account_of device) 0 (files_of left) (said_of left)) (λ left is.
      subst (λ (account : Account). LeftSince account 0 (files_of left) (said_of left)) (sym split)
      (left_too (rest calls device.log) (after_all (until calls device.log) (first device)) (files_of left) (said_of left)
      (inl (subst (λ (d : Disk). MayLeave d (files_of left) (said_of left)) (sym (after_carried (until calls device.log) (first device))) (allowed left is))))) made
    where
      split : account_of device ≡ after_all (rest calls device.log) (after_all (until calls device.log) (first device))
      split = ap (λ (log : List (ℕ × Call)). after_all log (first device)) (until_split calls device.log) ∙ after_all-append (until calls device.log) (rest calls device.log) (first device)
