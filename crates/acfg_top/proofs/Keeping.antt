-- What a command does to a panel at most, where its status says whether the outside failed.
use Rattle.std.proofs.Common.{◌≡◌, ℕ, List, arith, refl, subst}
use Rattle.std.specs.Prelude.{Result, Ok, Err}
use Rattle.acfg_device.specs.declared.panel.Panel.{Ghosts}
use Rattle.acfg_top.specs.declared.ending.Ending.{Ending}
use Rattle.acfg_top.specs.declared.ending.Ending.TheVariants as end
use Rattle.acfg_top.specs.declared.ending.Stop.{Stop}
use Rattle.acfg_top.specs.declared.ending.Stop.TheVariants.{Failed, OutOfMemory}
use Rattle.acfg_top.specs.Bodies.{OfReplay, status_of}
use Rattle.acfg_top.specs.Commands.{Only}
use Rattle.acfg_top.specs.Words.{Command, Flags, Rehearse, Replay, Query, Dump, CreateCache, CreateStorage, CreateAll}

pub only_weaker : {P : Type 0} (panel : Ghosts P) (command : Command) (before after : P) {fails other : Type 0} → (other → fails) → Only panel command before after fails → Only panel command before after other
only_weaker panel (Flags file) before after weaker only = record { files = only.files; names = only.names; pending = only.pending; words = only.words; count = only.count; failed = λ failed. only.failed (weaker failed) }
only_weaker panel (Rehearse script) before after weaker only = record { files = only.files; names = only.names; pending = only.pending; words = only.words; count = only.count; failed = λ failed. only.failed (weaker failed) }
only_weaker panel (Replay script dir) before after weaker only = record { others = only.others; words = only.words; count = only.count; failed = λ failed. only.failed (weaker failed) }
only_weaker panel (Query dir name flag) before after weaker only = record { files = only.files; names = only.names; pending = only.pending; words = only.words; count = only.count; failed = λ failed. only.failed (weaker failed) }
only_weaker panel (Dump format filter names) before after weaker only = record { files = only.files; names = only.names; pending = only.pending; words = only.words; count = only.count; failed = λ failed. only.failed (weaker failed) }
only_weaker panel (CreateCache name container out names) before after weaker only = record { others = only.others; words = only.words; count = only.count; failed = λ failed. only.failed (weaker failed) }
only_weaker panel (CreateStorage container dir names) before after weaker only = record { others = only.others; words = only.words; count = only.count; failed = λ failed. only.failed (weaker failed) }
only_weaker panel (CreateAll list) before after weaker only = record { others = only.others; words = only.words; count = only.count; failed = λ failed. only.failed (weaker failed) }

-- status 4 is that of a failure
pub status_failed : (result : Result Ending Stop) (status : ℕ) → status ≡ status_of result → status ≡ 4 → result ≡ Err Failed
status_failed (Ok end.Done) status is four = absurd (omega (arith, is, four))
status_failed (Ok end.Refused) status is four = absurd (omega (arith, is, four))
status_failed (Ok end.Damaged) status is four = absurd (omega (arith, is, four))
status_failed (Err Failed) status is four = refl
status_failed (Err OutOfMemory) status is four = absurd (omega (arith, is, four))

-- what is promised of a replay alone, where the command is one
pub of_replay : (command : Command) (script dir : List ℕ) (promise : List ℕ → List ℕ → Type 0) → command ≡ Replay script dir → OfReplay command promise → promise script dir
of_replay command script dir promise same holds = subst (λ (c : Command). OfReplay c promise) same holds
