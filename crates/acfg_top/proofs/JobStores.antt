-- Jobs that are stored one after another, each of them by itself.
use Rattle.std.proofs.Common.{◌≡◌, ℕ, ◌+◌, ◌<◌, ◌≤◌, List, [], ◌∷◌, ◌++◌, length, map, drop, get_or, refl, sym, ◌∙◌, ap, subst, inl, inr, append_assoc, string_bytes, Global}
use Rattle.std.specs.Borrow.{Bor}
use Rattle.std.specs.Prelude.{Option, None, Some, Result, Ok, Err, Contains, IfOk, String, codes, option_map}
use Rattle.std.specs.List.{AllZip, flat_map}
use Rattle.std.proofs.lemmas.List.{append-nil, drop_all, drop_more, flat_map_more, map-append}
use Rattle.std.proofs.lemmas.List.Elements.{Contains-append_cases}
use Rattle.acfg_commit.specs.declared.several.NewFile.{NewFile}
use Rattle.acfg_device.specs.Panel.{Files}
use Rattle.acfg_top.specs.Bodies.{AreAmong, IsOutputOf, IsProduct, missing_of, writes_in}
use Rattle.acfg_top.specs.CreateAll.{EachGives, FirstJobRefused, IsStored, JobGives, Stored}
use Rattle.acfg_top.specs.CreateStorage.{CreateStorageGives}
use Rattle.acfg_top.specs.Inputs.{Given, Judged, WithInputs, inputs_in, with_found}
use Rattle.acfg_top.specs.JobBodies.{IsOfStored, job_of, jobs_of}
use Rattle.acfg_top.specs.JobList.{Job}
use Rattle.acfg_top.specs.Outcome.{Outcome, Usage, Damaged, Done, Refused, Replayed}
use Rattle.acfg_top.specs.declared.ending.Ending.TheVariants as end
use Rattle.acfg_top.specs.declared.jobs.Job.{Job as Read}
use Rattle.acfg_top.specs.declared.output.Output.{Output}
use Rattle.acfg_top.proofs.Answering.{product_next}

-- ---- caches that aren't there

missing_behind : (name bytes : List ℕ) (rest : Result (List Given) (List ℕ)) → missing_of (with_found name (Some bytes) rest) ≡ missing_of rest
missing_behind name bytes (Ok inputs) = refl
missing_behind name bytes (Err missing) = refl

-- the first of files that is missed is the first of all, and where none is missed those behind decide
in_front : (files : Files) (name : List ℕ) (found : Option (List ℕ)) (rest all : Result (List Given) (List ℕ)) (missing : List ℕ) → (missing_of rest ≡ Some missing → missing_of all ≡ Some missing)
    → missing_of (with_found name found rest) ≡ Some missing → missing_of (with_found name found all) ≡ Some missing
in_front files name None rest all missing on is = is
in_front files name (Some bytes) rest all missing on is = missing_behind name bytes all ∙ on (sym (missing_behind name bytes rest) ∙ is)

none_in_front : (files : Files) (name : List ℕ) (found : Option (List ℕ)) (rest all : Result (List Given) (List ℕ)) (left : Option (List ℕ)) → (missing_of rest ≡ None → missing_of all ≡ left)
    → missing_of (with_found name found rest) ≡ None → missing_of (with_found name found all) ≡ left
none_in_front files name None rest all left on is = let told : Some name ≡ None = is in cc
none_in_front files name (Some bytes) rest all left on is = missing_behind name bytes all ∙ on (sym (missing_behind name bytes rest) ∙ is)

missing_first : (files : Files) (xs ys : List (List ℕ)) (missing : List ℕ) → missing_of (inputs_in files xs) ≡ Some missing → missing_of (inputs_in files (xs ++ ys)) ≡ Some missing
missing_first files [] ys missing is = let told : None ≡ Some missing = is in cc
missing_first files (x ∷ xs) ys missing is = in_front files x (files x) (inputs_in files xs) (inputs_in files (xs ++ ys)) missing (missing_first files xs ys missing) is

missing_later : (files : Files) (xs ys : List (List ℕ)) → missing_of (inputs_in files xs) ≡ None → missing_of (inputs_in files (xs ++ ys)) ≡ missing_of (inputs_in files ys)
missing_later files [] ys is = refl
missing_later files (x ∷ xs) ys is = none_in_front files x (files x) (inputs_in files xs) (inputs_in files (xs ++ ys)) (missing_of (inputs_in files ys)) (missing_later files xs ys) is

-- the first that is missed of caches, as it was found
pub found_at : (files loop : Files) (names caches : List (String Global)) (found : Option (Bor (List ℕ))) → loop ≡ files → names ≡ caches → option_map (λ (name : Bor (List ℕ)). name.now) found ≡ missing_of (inputs_in loop (map string_bytes names))
    → missing_of (inputs_in files (map string_bytes caches)) ≡ option_map (λ (name : Bor (List ℕ)). name.now) found
found_at files loop names caches found same listed is = sym (is ∙ (λ j. missing_of (inputs_in (same j) (map string_bytes (listed j)))))

-- the job at hand, and those behind it
pub job_at : (jobs : List Read) (i : ℕ) (job : Read) → job ≡ get_or jobs i job → i < length jobs → jobs_of (drop i jobs) ≡ job_of job ∷ jobs_of (drop (i + 1) jobs)
job_at jobs i job is low = ap jobs_of (drop_more jobs i job low) ∙ ap (λ (one : Read). job_of one ∷ jobs_of (drop (i + 1) jobs)) (sym is)

-- the caches of jobs
abbrev caches_of : List Job → List (List ℕ)
caches_of jobs = flat_map (λ job. job.caches) jobs

-- the first cache that the jobs at hand miss
pub job_misses : (files : Files) (jobs : List Read) (i : ℕ) (job : Read) (missing : List ℕ) (all : Option (List ℕ)) → job ≡ get_or jobs i job → i < length jobs
    → missing_of (inputs_in files (map string_bytes job.caches.items)) ≡ Some missing → missing_of (inputs_in files (flat_map (λ job. job.caches) (jobs_of (drop i jobs)))) ≡ all → Some missing ≡ all
job_misses files jobs i job missing all is low misses before =
    sym (missing_first files (job_of job).caches (caches_of (jobs_of (drop (i + 1) jobs))) missing misses)
    ∙ ap (λ (left : List Job). missing_of (inputs_in files (caches_of left))) (sym (job_at jobs i job is low)) ∙ before

pub job_has : (files : Files) (jobs : List Read) (i : ℕ) (job : Read) (all : Option (List ℕ)) → job ≡ get_or jobs i job → i < length jobs
    → missing_of (inputs_in files (map string_bytes job.caches.items)) ≡ None → missing_of (inputs_in files (flat_map (λ job. job.caches) (jobs_of (drop i jobs)))) ≡ all
    → missing_of (inputs_in files (flat_map (λ job. job.caches) (jobs_of (drop (i + 1) jobs)))) ≡ all
job_has files jobs i job all is low has before =
    sym (missing_later files (job_of job).caches (caches_of (jobs_of (drop (i + 1) jobs))) has)
    ∙ ap (λ (left : List Job). missing_of (inputs_in files (caches_of left))) (sym (job_at jobs i job is low)) ∙ before

-- what follows where no cache is missed, and where one is
pub none_missing : {E : Type 0} (found : Result (List Given) (List ℕ)) (gives : Outcome → Type 0) (result : Result Output E) → missing_of found ≡ None → IfOk result (IsProduct gives) → IfOk result (IsProduct (WithInputs found (λ inputs. gives)))
none_missing (Ok inputs) gives result is told = told
none_missing (Err missing) gives result is told = let no : Some missing ≡ None = is in cc

pub one_missing : (found : Result (List Given) (List ℕ)) (gives : Outcome → Type 0) (missing : List ℕ) → missing_of found ≡ Some missing → WithInputs found (λ inputs. gives) (Refused missing (codes "missing"))
one_missing (Ok inputs) gives missing is = let no : None ≡ Some missing = is in cc
one_missing (Err first) gives missing is = let same : first ≡ missing = cc in ap (λ (name : List ℕ). Refused name (codes "missing")) (sym same)

-- ---- jobs in order

-- these were stored so far: what is made of the jobs that are left is made of all
pub record Goes (files : Files) (all : List Job) (made : List Stored) (left : List Job) : Type 0 where
  pub stored : (more : List Stored) → AllZip (IsStored files) left more → AllZip (IsStored files) all (made ++ more)
  pub refused : (file what : List ℕ) → FirstJobRefused files left file what → FirstJobRefused files all file what

goes_more : (files : Files) (all : List Job) (made : List Stored) (job : Job) (left : List Job) (stored : Stored) → IsStored files job stored → Goes files all made (job ∷ left) → Goes files all (made ++ stored ∷ []) left
goes_more files all made job left stored is goes = record {
  stored = λ more rest. subst (AllZip (IsStored files) all) (sym (append_assoc made (stored ∷ []) more)) (goes.stored (stored ∷ more) (is, rest));
  refused = λ file what later. goes.refused file what (inr ((stored, is), later));
}

-- ---- the loop

-- what is to be written and told is that of jobs that are stored, and these are left
pub record Stores (files : Files) (all left : List Job) (output : Output) : Type 0 where
  pub made : List Stored
  pub is : IsOfStored made output
  pub goes : Goes files all made left

-- what is told is done, or it is a refusal
told_done : (outcome : Outcome) (next : Output) → IsOutputOf outcome next → next.told.ending ≡ end.Done → (stored : Stored) × (outcome ≡ Done stored.text stored.writes)
told_done Usage next is done = absurd is.ending
told_done (Refused file what) next is done = let no : end.Refused ≡ end.Done = sym is.ending ∙ done in cc
told_done (Damaged file) next is done = let no : end.Damaged ≡ end.Done = sym is.ending ∙ done in cc
told_done (Replayed dir text state) next is done = absurd is.files
told_done (Done text writes) next is done = (record { text = text; writes = writes }, refl)

told_refused : (outcome : Outcome) (next : Output) → IsOutputOf outcome next → next.told.ending ≡ end.Refused → (file what : List ℕ) × (outcome ≡ Refused file what)
told_refused Usage next is refused = absurd is.ending
told_refused (Refused file what) next is refused = (file, what, refl)
told_refused (Damaged file) next is refused = let no : end.Damaged ≡ end.Refused = sym is.ending ∙ refused in cc
told_refused (Replayed dir text state) next is refused = absurd is.files
told_refused (Done text writes) next is refused = let no : end.Done ≡ end.Refused = sym is.ending ∙ refused in cc

-- a job more
pub stores_more : (files : Files) (all left : List Job) (job : Job) (old new next : Output) → Stores files all (job ∷ left) old → IsProduct (JobGives files job) next → next.told.ending ≡ end.Done
    → new.told.ending ≡ old.told.ending → new.told.text.items ≡ old.told.text.items ++ next.told.text.items → new.files.items ≡ old.files.items ++ next.files.items → Stores files all left new
stores_more files all left job old new next stores product done ending text written =
    let it = told_done product.0 next product.2 done in
    let stored : Stored = it.0 in
    let given : IsStored files job stored = subst (JobGives files job) it.1 product.1 in
    let is : IsOutputOf (Done stored.text stored.writes) next = subst (λ outcome. IsOutputOf outcome next) it.1 product.2 in
    record {
      made = stores.made ++ stored ∷ [];
      is = record {
        ending = ending ∙ stores.is.ending;
        text = text ∙ (λ j. stores.is.text j ++ is.text j) ∙ flat_map_more (λ (one : Stored). one.text) [] stores.made stored;
        files = ap writes_in written ∙ map-append (λ (file : NewFile). (string_bytes file.name, file.bytes.items)) old.files.items next.files.items
            ∙ (λ j. stores.is.files j ++ sym is.files j) ∙ flat_map_more (λ (one : Stored). one.writes) [] stores.made stored;
      };
      goes = goes_more files all stores.made job left stored given stores.goes;
    }

-- the job at hand is refused
pub stores_refused : (files : Files) (all left : List Job) (job : Job) (old next : Output) → Stores files all (job ∷ left) old → IsProduct (JobGives files job) next → next.told.ending ≡ end.Refused → IsProduct (EachGives files all) next
stores_refused files all left job old next stores product refused =
    let it = told_refused product.0 next product.2 refused in
    let given : JobGives files job (Refused it.0 it.1) = subst (JobGives files job) it.2 product.1 in
    (Refused it.0 it.1, inl (it.0, it.1, stores.goes.refused it.0 it.1 (inl given), refl), subst (λ outcome. IsOutputOf outcome next) it.2 product.2)

-- all are stored
pub stores_all : (files : Files) (all : List Job) (output : Output) → Stores files all [] output → IsProduct (EachGives files all) output
stores_all files all output stores =
    let text = flat_map (λ stored. stored.text) stores.made in
    let writes = flat_map (λ stored. stored.writes) stores.made in (
      Done text writes,
      inr (stores.made, subst (AllZip (IsStored files) all) (append-nil stores.made) (stores.goes.stored [] tt), refl),
      record { ending = stores.is.ending; text = stores.is.text; files = sym stores.is.files },
    )

-- none is left at the end
pub no_job : (jobs : List Read) (i : ℕ) → length jobs ≤ i → jobs_of (drop i jobs) ≡ []
no_job jobs i high = ap jobs_of (drop_all i jobs high)

-- something was accepted, and the rest is made
pub made_next : {X E : Type 0} (refuses : List ℕ → List ℕ → Type 0) (accepts : X → Type 0) (follows : X → Outcome → Type 0) (x : X) → accepts x → (result : Result Output E) → IfOk result (IsProduct (follows x)) → IfOk result (IsProduct (Judged refuses accepts follows))
made_next refuses accepts follows x accepted (Ok output) rest = product_next refuses accepts follows x accepted output rest
made_next refuses accepts follows x accepted (Err e) rest = tt

-- what a container, a directory and caches give is what a job of equal ones gives
pub handed : (files loop : Files) (job : Read) (container dir : List ℕ) (caches : List (String Global)) (next : Output) → loop ≡ files → container ≡ job.container → dir ≡ string_bytes job.dir → caches ≡ job.caches.items
    → IsProduct (CreateStorageGives container dir (map string_bytes caches) loop) next → IsProduct (JobGives files (job_of job)) next
handed files loop job container dir caches next same named placed listed product =
    subst (λ (c : List ℕ). IsProduct (CreateStorageGives c (string_bytes job.dir) (map string_bytes job.caches.items) files) next) named
    (subst (λ (d : List ℕ). IsProduct (CreateStorageGives container d (map string_bytes job.caches.items) files) next) placed
    (subst (λ (names : List (String Global)). IsProduct (CreateStorageGives container dir (map string_bytes names) files) next) listed
    (subst (λ (files : Files). IsProduct (CreateStorageGives container dir (map string_bytes caches) files) next) same product)))

-- ---- names

-- the files of two lists are the files of one or the other
pub among_both : (names : List ℕ → Type 0) (old new next : Output) → new.files.items ≡ old.files.items ++ next.files.items → AreAmong names old → AreAmong names next → AreAmong names new
among_both names old new next files here there other (file, stands, is) =
    elim (Contains-append_cases old.files.items next.files.items file (subst (λ items. Contains items file) files stands)) [
      | inl first ↦ here other (file, first, is)
      | inr second ↦ there other (file, second, is)
    ]
