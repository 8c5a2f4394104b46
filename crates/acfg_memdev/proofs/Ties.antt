-- What is kept stays tied to the history.
use Rattle.std.proofs.Common.{◌≡◌, ℕ, List, [], ◌∷◌, ◌++◌, sym, ◌∙◌, ap, map, subst}
use Rattle.std.proofs.lemmas.List.{map-append}
use Rattle.acfg_device.specs.Account.{Account}
use Rattle.acfg_memdev.specs.History as history
use Rattle.acfg_memdev.specs.History.{CanDo, CanDoAll, History, account_of, done, after_all, first, logged, starting}
use Rattle.acfg_memdev.specs.Kept.{entry_of, logged_of, call_of}
use Rattle.acfg_memdev.specs.Slots.{disk_of}
use Rattle.acfg_memdev.specs.Tied.{IsTied, history_of}
use Rattle.acfg_memdev.specs.declared.device.MemDevice.TheInside.{Inside}
use Rattle.acfg_memdev.specs.declared.call.Call.{Call}
use Rattle.acfg_memdev.proofs.Logs.{able_too, account-logged}

-- a call was carried out and logged
pub tied_logged : (before after : Inside) (number : ℕ) (call : Call) → IsTied before → CanDo (call_of call) (account_of (history_of before)).now
    → after.start ≡ before.start → after.words ≡ before.words → after.log.items ≡ before.log.items ++ (number, call) ∷ []
    → disk_of after.disk ≡ done (call_of call) (disk_of before.disk) → IsTied after
tied_logged before after number call tied can start words log kept = record {
  same = kept ∙ ap (done (call_of call)) tied.same ∙ sym (ap (λ (account : Account). account.now) (account-logged old number (call_of call))) ∙ ap (λ (account : Account). account.now) same_account;
  able = subst (λ (entries : List (ℕ × history.Call)). CanDoAll entries (first new).now) (sym entries)
      (subst (λ (account : Account). CanDoAll (old.log ++ (number, call_of call) ∷ []) account.now) (sym same_first) (able_too old.log number (call_of call) (first old) tied.able can));
}
  where
    old : History
    old = history_of before

    new : History
    new = history_of after

    entries : (history_of after).log ≡ (history_of before).log ++ (number, call_of call) ∷ []
    entries = ap (map logged_of) log ∙ map-append logged_of before.log.items ((number, call) ∷ [])

    same_first : first (history_of after) ≡ first (history_of before)
    same_first = λ i. starting (map entry_of (start i).items) (words i).items

    same_account : account_of (logged (history_of before) number (call_of call)) ≡ account_of (history_of after)
    same_account = λ i. after_all (sym entries i) (sym same_first i)
