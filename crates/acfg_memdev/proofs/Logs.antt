-- One call more in a log.
use Rattle.std.proofs.Common.{◌≡◌, ℕ, List, [], ◌∷◌, ◌++◌, Result, Ok, Err, IsOkAnd, refl, ◌∙◌, ap}
use Rattle.acfg_device.specs.Account.{Account, moved_on}
use Rattle.acfg_memdev.specs.History as history
use Rattle.acfg_memdev.specs.History.{CanDo, CanDoAll, History, account_of, after_all, called, done, first, logged, saying}
use Rattle.acfg_memdev.specs.Kept.{call_of}
use Rattle.acfg_memdev.specs.declared.call.Call.{Call}

pub after_all-append : (log more : List (ℕ × history.Call)) (account : Account) → after_all (log ++ more) account ≡ after_all more (after_all log account)
after_all-append [] more account = refl
after_all-append (entry ∷ log) more account = after_all-append log more (moved_on account (done entry.1 account.now) (saying entry.1))

-- a call that was carried out moves the account on
pub account-logged : (device : History) (number : ℕ) (call : history.Call) → account_of (logged device number call) ≡ moved_on (account_of device) (done call (account_of device).now) (saying call)
account-logged device number call = after_all-append device.log ((number, call) ∷ []) (first device)

pub able_too : (log : List (ℕ × history.Call)) (number : ℕ) (call : history.Call) (account : Account) → CanDoAll log account.now → CanDo call (after_all log account).now → CanDoAll (log ++ (number, call) ∷ []) account.now
able_too [] number call account all can = (can, tt)
able_too (entry ∷ log) number call account all can = (all.0, able_too log number call (moved_on account (done entry.1 account.now) (saying entry.1)) all.1 can)

pub account_moves : {E : Type 0} (call : Result Call E) (old middle new : History) (number : ℕ) → middle ≡ called old → IsOkAnd call (λ (c : Call). new ≡ logged middle number (call_of c))
    → IsOkAnd call (λ (c : Call). account_of new ≡ moved_on (account_of old) (done (call_of c) (account_of old).now) (saying (call_of c)))
account_moves (Ok call) old middle new number counted is =
    ap account_of is ∙ account-logged middle number (call_of call)
    ∙ ap (λ (device : History). moved_on (account_of device) (done (call_of call) (account_of device).now) (saying (call_of call))) counted
account_moves (Err e) old middle new number counted is = is
