-- `create-all` has one outcome, and some outcome.
use Rattle.std.proofs.Common.{◌≡◌, ℕ, List, [], ◌∷◌, refl, sym, ◌∙◌, ap, inl, inr}
use Rattle.std.specs.Prelude.{Option, None, Some, Result, Ok, Err, codes, false, map, ◌++◌}
use Rattle.std.specs.Fmt.{decimal}
use Rattle.std.specs.List.{AllZip, flat_map}
use Rattle.acfg_daemon.specs.Lines.{lines}
use Rattle.acfg_cache.specs.Merging.{IsMerged}
use Rattle.acfg_device.specs.Panel.{Files}
use Rattle.acfg_images.specs.declared.building.fault.BuildFault.{BuildFault}
use Rattle.acfg_images.specs.Build.{built, compiled_flag}
use Rattle.acfg_images.specs.Files.{Files as SetFiles}
use Rattle.acfg_images.specs.Image.{Compiled}
use Rattle.acfg_top.specs.Caches.{Clashing}
use Rattle.acfg_top.specs.CreateAll.{AllStored, CreateAllGives, EachGives, FirstJobRefused, IsBadList, IsStored, JobGives, JobsGive, ListGives, Stored}
use Rattle.acfg_top.specs.CreateStorage.{FlagsStored, IsNoOwnCache, IsOwnCache, ListsStored, StoredGives, image_told, limit_words, set_writes, stored_line}
use Rattle.acfg_top.specs.Inputs.{AreAccepted, FirstRefused, Given, Judged, WithInputs, inputs_in}
use Rattle.acfg_top.specs.JobList.{AreJobs, Job}
use Rattle.acfg_top.specs.Outcome.{Outcome, Usage, Refused, Damaged, Done, Replayed, Writes}
use Rattle.acfg_top.specs.Bodies.{IsProduct}
use Rattle.acfg_top.specs.declared.ending.Ending.TheVariants as end
use Rattle.acfg_top.specs.declared.output.Output.{Output}
use Rattle.acfg_top.proofs.Judging.{IsOne, Some_, inputs_once, judged_once, some_inputs, some_judged}
use Rattle.acfg_top.proofs.OneList.{jobs_once, never_both, number_once, some_list}
use Rattle.acfg_top.proofs.Storing.{create_storage_unique, some_create_storage}

-- ---- outcomes taken apart

refused_apart : (file what other_file other : List ℕ) → Refused file what ≡ Refused other_file other → (file ≡ other_file) × (what ≡ other)
refused_apart file what other_file other same = (cc, cc)

stored_apart : (a b : Stored) → Done a.text a.writes ≡ Done b.text b.writes → a ≡ b
stored_apart a b same =
    let text : a.text ≡ b.text = cc in
    let writes : a.writes ≡ b.writes = cc in
    λ i. record { text = text i; writes = writes i }

-- an outcome that is neither a refusal nor done doesn't follow from what is judged, looked for or built
module _ (other : Outcome) (unrefused : (file what : List ℕ) → other ≡ Refused file what → ⊥) (undone : (text : List ℕ) (writes : Writes) → other ≡ Done text writes → ⊥) where
  no_judgement : {X : Type 0} (refuses : List ℕ → List ℕ → Type 0) (accepts : X → Type 0) (follows : X → Outcome → Type 0) → ((x : X) → follows x other → ⊥) → Judged refuses accepts follows other → ⊥
  no_judgement refuses accepts follows next (inl (file, what, refused, is)) = unrefused file what is
  no_judgement refuses accepts follows next (inr (x, accepted, given)) = next x given

  looked_up : (found : Result (List Given) (List ℕ)) (follows : List Given → Outcome → Type 0) → ((inputs : List Given) → follows inputs other → ⊥) → WithInputs found follows other → ⊥
  looked_up (Err missing) follows next given = unrefused missing (codes "missing") given
  looked_up (Ok inputs) follows next given = next inputs given

  no_image : (dir : List ℕ) (flags : List Compiled) (made : Result SetFiles BuildFault) → other ≡ image_told dir flags made → ⊥
  no_image dir flags (Ok set) is = undone (stored_line flags set) (set_writes dir set) is
  no_image dir flags (Err fault) is = unrefused dir (limit_words fault) is

never : (file what text : List ℕ) (writes : Writes) → Refused file what ≡ Done text writes → ⊥
never file what text writes same = cc

-- ---- the jobs

module _ (files : Files) where
  one_job : (job : Job) (a b : Outcome) → JobGives files job a → JobGives files job b → a ≡ b
  one_job job = create_storage_unique job.container job.dir job.caches files

  refused_once : (jobs : List Job) (file what other_file other : List ℕ) → FirstJobRefused files jobs file what → FirstJobRefused files jobs other_file other → (file ≡ other_file) × (what ≡ other)
  refused_once [] file what other_file other refused also = absurd refused
  refused_once (job ∷ jobs) file what other_file other (inl here) (inl there) = refused_apart file what other_file other (one_job job (Refused file what) (Refused other_file other) here there)
  refused_once (job ∷ jobs) file what other_file other (inl here) (inr (stored, later)) = absurd (never file what stored.0.text stored.0.writes (one_job job (Refused file what) (Done stored.0.text stored.0.writes) here stored.1))
  refused_once (job ∷ jobs) file what other_file other (inr (stored, later)) (inl there) = absurd (never other_file other stored.0.text stored.0.writes (one_job job (Refused other_file other) (Done stored.0.text stored.0.writes) there stored.1))
  refused_once (job ∷ jobs) file what other_file other (inr (stored, later)) (inr (stored_too, later_too)) = refused_once jobs file what other_file other later later_too

  stored_once : (jobs : List Job) (all others : List Stored) → AllZip (IsStored files) jobs all → AllZip (IsStored files) jobs others → all ≡ others
  stored_once [] [] [] each also = refl
  stored_once [] [] (y ∷ others) each also = absurd also
  stored_once [] (x ∷ all) others each also = absurd each
  stored_once (job ∷ jobs) [] others each also = absurd each
  stored_once (job ∷ jobs) (x ∷ all) [] each also = absurd also
  stored_once (job ∷ jobs) (x ∷ all) (y ∷ others) each also =
      let first = stored_apart x y (one_job job (Done x.text x.writes) (Done y.text y.writes) each.0 also.0) in
      let rest = stored_once jobs all others each.1 also.1 in
      λ i. first i ∷ rest i

  never_stored : (jobs : List Job) (file what : List ℕ) (all : List Stored) → FirstJobRefused files jobs file what → AllZip (IsStored files) jobs all → ⊥
  never_stored [] file what all refused each = refused
  never_stored (job ∷ jobs) file what [] refused each = each
  never_stored (job ∷ jobs) file what (x ∷ all) (inl here) each = never file what x.text x.writes (one_job job (Refused file what) (Done x.text x.writes) here each.0)
  never_stored (job ∷ jobs) file what (x ∷ all) (inr (stored, later)) each = never_stored jobs file what all later each.1

  one_each : (jobs : List Job) → IsOne (FirstJobRefused files jobs) (AllZip (IsStored files) jobs)
  one_each jobs = record { refusal = refused_once jobs; acceptance = stored_once jobs; apart = never_stored jobs }

  each_once : (jobs : List Job) (a b : Outcome) → EachGives files jobs a → EachGives files jobs b → a ≡ b
  each_once jobs = judged_once (FirstJobRefused files jobs) (AllZip (IsStored files) jobs) AllStored (one_each jobs) (λ all a b is given also. given ∙ sym also)

  -- no job's outcome is neither
  no_other : (other : Outcome) → ((file what : List ℕ) → other ≡ Refused file what → ⊥) → ((text : List ℕ) (writes : Writes) → other ≡ Done text writes → ⊥) → (job : Job) → JobGives files job other → ⊥
  no_other other unrefused undone job = looked_up other unrefused undone (inputs_in files job.caches) (StoredGives job.container job.dir) (λ inputs.
      no_judgement other unrefused undone (FirstRefused (IsOwnCache job.container) (IsNoOwnCache job.container) inputs) (AreAccepted (IsOwnCache job.container) (IsNoOwnCache job.container) inputs)
      (ListsStored job.container job.dir (map (λ input. input.name) inputs)) (λ lists.
      no_judgement other unrefused undone (Clashing (map (λ input. input.name) inputs) lists false) (IsMerged lists false) (FlagsStored job.container job.dir) (λ flags.
      no_image other unrefused undone job.dir (map compiled_flag flags) (built job.container (map compiled_flag flags)))))

  -- so none tells damage
  pub undamaged : (job : Job) (output : Output) → IsProduct (JobGives files job) output → output.told.ending ≡ end.Damaged → ⊥
  undamaged job output (Usage, given, of) damaged = of.ending
  undamaged job output (Refused file what, given, of) damaged = let no : end.Refused ≡ end.Damaged = sym of.ending ∙ damaged in cc
  undamaged job output (Damaged file, given, of) damaged = no_other (Damaged file) (λ name what is. cc) (λ text writes is. cc) job given
  undamaged job output (Done text writes, given, of) damaged = let no : end.Done ≡ end.Damaged = sym of.ending ∙ damaged in cc
  undamaged job output (Replayed dir text state, given, of) damaged = of.files

  -- what a job gives is a refusal, or it is stored
  as_job : (job : Job) (outcome : Outcome) → JobGives files job outcome → ((file what : List ℕ) → JobGives files job (Refused file what) → ⊥) → ((stored : Stored) → IsStored files job stored → ⊥) → ⊥
  as_job job Usage given refused stored = no_other Usage (λ file what is. cc) (λ text writes is. cc) job given
  as_job job (Damaged file) given refused stored = no_other (Damaged file) (λ name what is. cc) (λ text writes is. cc) job given
  as_job job (Replayed dir text state) given refused stored = no_other (Replayed dir text state) (λ file what is. cc) (λ said writes is. cc) job given
  as_job job (Refused file what) given refused stored = refused file what given
  as_job job (Done text writes) given refused stored = stored (record { text = text; writes = writes }) given

  some_each : (jobs : List Job) → ((file what : List ℕ) → FirstJobRefused files jobs file what → ⊥) → ((all : List Stored) → AllZip (IsStored files) jobs all → ⊥) → ⊥
  some_each [] refused stored = stored [] tt
  some_each (job ∷ jobs) refused stored =
      some_create_storage job.container job.dir job.caches files (λ outcome given. as_job job outcome given
      (λ file what here. refused file what (inl here))
      (λ one here. some_each jobs (λ file what later. refused file what (inr ((one, here), later))) (λ all rest. stored (one ∷ all) (here, rest))))

  jobs_give_once : (jobs : List Job) (a b : Outcome) → JobsGive files jobs a → JobsGive files jobs b → a ≡ b
  jobs_give_once jobs = inputs_once (inputs_in files (flat_map (λ job. job.caches) jobs)) (λ inputs. EachGives files jobs) (λ inputs. each_once jobs)

  some_jobs_give : (jobs : List Job) → Some_ (JobsGive files jobs)
  some_jobs_give jobs = some_inputs (inputs_in files (flat_map (λ job. job.caches) jobs)) (λ inputs. EachGives files jobs)
      (λ inputs. some_judged (FirstJobRefused files jobs) (AllZip (IsStored files) jobs) AllStored (some_each jobs)
      (λ all is none. none (Done (flat_map (λ stored. stored.text) all) (flat_map (λ stored. stored.writes) all)) refl))

-- ---- the list

one_list : (list bytes : List ℕ) → IsOne (IsBadList list bytes) (AreJobs (lines bytes))
one_list list bytes = record {
  refusal = λ file what other_file other bad also.
      let same = number_once (lines bytes) bad.number also.number bad.first also.first in
      (bad.is_file ∙ sym also.is_file, bad.is_bad ∙ ap (λ number. codes "bad-line " ++ decimal number) same ∙ sym also.is_bad);
  acceptance = jobs_once (lines bytes);
  apart = λ file what jobs bad are. never_both (lines bytes) jobs bad.number are bad.first;
}

list_once : (list : List ℕ) (files : Files) (found : Option (List ℕ)) (a b : Outcome) → ListGives list files found a → ListGives list files found b → a ≡ b
list_once list files None a b given also = given ∙ sym also
list_once list files (Some bytes) a b given also =
    judged_once (IsBadList list bytes) (AreJobs (lines bytes)) (JobsGive files) (one_list list bytes) (λ jobs a b is. jobs_give_once files jobs a b) a b given also

some_listed : (list : List ℕ) (files : Files) (found : Option (List ℕ)) → Some_ (ListGives list files found)
some_listed list files None none = none (Refused list (codes "missing")) refl
some_listed list files (Some bytes) none =
    some_judged (IsBadList list bytes) (AreJobs (lines bytes)) (JobsGive files)
    (λ refused accepted. some_list (lines bytes) accepted (λ number first. refused list (codes "bad-line " ++ decimal number) (record { number = number; first = first; is_file = refl; is_bad = refl })))
    (λ jobs is. some_jobs_give files jobs) none

pub create_all_unique : (list : List ℕ) (files : Files) (a b : Outcome) → CreateAllGives list files a → CreateAllGives list files b → a ≡ b
create_all_unique list files = list_once list files (files list)

pub some_create_all : (list : List ℕ) (files : Files) → Some_ (CreateAllGives list files)
some_create_all list files = some_listed list files (files list)
