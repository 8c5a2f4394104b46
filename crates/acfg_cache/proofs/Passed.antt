-- Tests one behind the other: what fails first, and what holds of all.
use Rattle.std.proofs.Common.{List, [], ◌∷◌, ◌++◌, Result, Ok, Err, inl, inr}
use Rattle.std.specs.Prelude.{IfErr, IfOk, OnOk}
use Rattle.std.specs.List.{AllByRecursion}
use Rattle.acfg_cache.specs.declared.fault.CacheFault.{CacheFault}
use Rattle.acfg_cache.specs.declared.fault.CacheFault.TheVariants.{Wire, BadText, BadEnum, Missing, BadName, BadPermission, Unsorted, Duplicate, OutOfMemory}
use Rattle.acfg_cache.specs.Reading.{Test, Holds, FirstFails, IfFault}

pub in_front : (front rest : List Test) (told : CacheFault) → FirstFails front told → FirstFails (front ++ rest) told
in_front [] rest told fails = absurd fails
in_front (test ∷ tests) rest told (inl here) = inl here
in_front (test ∷ tests) rest told (inr later) = inr (later.0, in_front tests rest told later.1)

pub in_behind : (front rest : List Test) (told : CacheFault) → AllByRecursion Holds front → FirstFails rest told → FirstFails (front ++ rest) told
in_behind [] rest told holds fails = fails
in_behind (test ∷ tests) rest told holds fails = inr (holds.0, in_behind tests rest told holds.1 fails)

pub all_joined : (front rest : List Test) → AllByRecursion Holds front → AllByRecursion Holds rest → AllByRecursion Holds (front ++ rest)
all_joined [] rest holds more = more
all_joined (test ∷ tests) rest holds more = (holds.0, all_joined tests rest holds.1 more)

-- all tests before the rest hold: what the rest says is said of the whole
pub record PassedIn (rest whole : List Test) : Type 0 where
  pub fails : (told : CacheFault) → FirstFails rest told → FirstFails whole told
  pub holds : AllByRecursion Holds rest → AllByRecursion Holds whole

pub passed_next : (front rest whole : List Test) → AllByRecursion Holds front → PassedIn (front ++ rest) whole → PassedIn rest whole
passed_next front rest whole holds passed = record {
  fails = λ told fails. passed.fails told (in_behind front rest told holds fails);
  holds = λ more. passed.holds (all_joined front rest holds more);
}

-- a fault, for which something weaker holds
pub if_weaker : (fault : CacheFault) (P Q : CacheFault → Type 0) → ((told : CacheFault) → P told → Q told) → IfFault fault P → IfFault fault Q
if_weaker (Wire wire) P Q weaker holds = weaker (Wire wire) holds
if_weaker (BadText i) P Q weaker holds = weaker (BadText i) holds
if_weaker (BadEnum i) P Q weaker holds = weaker (BadEnum i) holds
if_weaker (Missing i) P Q weaker holds = weaker (Missing i) holds
if_weaker (BadName i) P Q weaker holds = weaker (BadName i) holds
if_weaker (BadPermission i) P Q weaker holds = weaker (BadPermission i) holds
if_weaker (Unsorted i) P Q weaker holds = weaker (Unsorted i) holds
if_weaker (Duplicate i) P Q weaker holds = weaker (Duplicate i) holds
if_weaker OutOfMemory P Q weaker holds = tt

-- the first of the front is the first of the whole
pub front_fails : (front rest whole : List Test) (fault : CacheFault) → PassedIn (front ++ rest) whole → IfFault fault (FirstFails front) → IfFault fault (FirstFails whole)
front_fails front rest whole fault passed = if_weaker fault (FirstFails front) (FirstFails whole) (λ told fails. passed.fails told (in_front front rest told fails))

-- the same of an answer
pub if_err_weaker : {X : Type 0} (answer : Result X CacheFault) (P Q : CacheFault → Type 0) → ((told : CacheFault) → P told → Q told) → IfErr answer (λ fault. IfFault fault P) → IfErr answer (λ fault. IfFault fault Q)
if_err_weaker (Ok x) P Q weaker holds = tt
if_err_weaker (Err fault) P Q weaker holds = if_weaker fault P Q weaker holds

pub if_ok_weaker : {X E : Type 0} (answer : Result X E) (P Q : X → Type 0) → ((x : X) → P x → Q x) → IfOk answer P → IfOk answer Q
if_ok_weaker (Ok x) P Q weaker holds = weaker x holds
if_ok_weaker (Err fault) P Q weaker holds = tt

pub on_ok_weaker : {X E : Type 0} (answer : Result X E) (P Q : Type 0) → (P → Q) → OnOk answer P → OnOk answer Q
on_ok_weaker (Ok x) P Q weaker holds = weaker holds
on_ok_weaker (Err fault) P Q weaker holds = tt
