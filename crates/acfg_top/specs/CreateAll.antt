-- The outcome of `create-all LIST`: each line of a list is a job, the same as `create-storage CONTAINER DIR CACHE..`.
use Rattle.std.specs.Prelude.{◌≡◌, ◌⊎◌, ℕ, List, [], ◌∷◌, ◌++◌, Option, None, Some, codes}
use Rattle.std.specs.Fmt.{decimal}
use Rattle.std.specs.List.{AllZip, flat_map}
use Rattle.acfg_daemon.specs.Lines.{lines}
use Rattle.acfg_device.specs.Panel.{Files}
use Rattle.acfg_top.specs.CreateStorage.{CreateStorageGives, IsFileIn}
use Rattle.acfg_top.specs.Inputs.{Judged, WithInputs, inputs_in}
use Rattle.acfg_top.specs.JobList.{AreJobs, IsFirstBadLine, Job}
use Rattle.acfg_top.specs.Outcome.{Outcome, Writes, Refused, Done}

-- the list is refused for its first bad line; its lines end as those of a script do
pub record IsBadList (list bytes file what : List ℕ) : Type 0 where
  pub number : ℕ
  pub first : IsFirstBadLine (lines bytes) number
  pub is_file : file ≡ list
  pub is_bad : what ≡ codes "bad-line " ++ decimal number

-- what a job gives by itself
abbrev pub JobGives : Files → Job → Outcome → Type 0
JobGives files job = CreateStorageGives job.container job.dir job.caches files

-- what a job says, and the files that it writes
pub record Stored : Type 0 where
  pub text : List ℕ
  pub writes : Writes

abbrev pub IsStored : Files → Job → Stored → Type 0
IsStored files job stored = JobGives files job (Done stored.text stored.writes)

-- the first job that is refused by itself, and why; those before it are stored
abbrev pub FirstJobRefused : Files → List Job → List ℕ → List ℕ → Type 0
FirstJobRefused files [] file what = ⊥
FirstJobRefused files (job ∷ jobs) file what =
    JobGives files job (Refused file what)
    ⊎ (((stored : Stored) × IsStored files job stored) × FirstJobRefused files jobs file what)

-- what follows where each job is stored: all that they say and all that they write, in their order
abbrev pub AllStored : List Stored → Outcome → Type 0
AllStored all outcome = outcome ≡ Done (flat_map (λ stored. stored.text) all) (flat_map (λ stored. stored.writes) all)

-- what follows where each cache is there
abbrev pub EachGives : Files → List Job → Outcome → Type 0
EachGives files jobs = Judged (FirstJobRefused files jobs) (AllZip (IsStored files) jobs) AllStored

-- what follows from the jobs of a list: the caches of all of them are looked for first
abbrev pub JobsGive : Files → List Job → Outcome → Type 0
JobsGive files jobs =
    WithInputs (inputs_in files (flat_map (λ job. job.caches) jobs)) (λ inputs. EachGives files jobs)

-- what follows from what is at LIST: the list is judged before its caches are looked for
abbrev pub ListGives : List ℕ → Files → Option (List ℕ) → Outcome → Type 0
ListGives list files None outcome = outcome ≡ Refused list (codes "missing")
ListGives list files (Some bytes) outcome =
    Judged (IsBadList list bytes) (AreJobs (lines bytes)) (JobsGive files) outcome

-- the outcome for this word
abbrev pub CreateAllGives : List ℕ → Files → Outcome → Type 0
CreateAllGives list files = ListGives list files (files list)

-- a name that is a storage file's in some directory
abbrev pub IsStorageFile : List ℕ → Type 0
IsStorageFile name = (dir : List ℕ) × IsFileIn dir name
