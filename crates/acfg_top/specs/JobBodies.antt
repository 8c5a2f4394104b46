-- Words of private bodies on lists of jobs. No public clause cites them.
use Rattle.std.specs.Prelude.{◌≡◌, ◌<◌, ℕ, List, All, Contains, Option, MatchOption, length, map, string_bytes}
use Rattle.std.specs.List.{flat_map}
use Rattle.acfg_base.specs.Names.{IsContainer}
use Rattle.acfg_base.specs.Paths.{IsPath}
use Rattle.acfg_top.specs.Bodies.{writes_in}
use Rattle.acfg_top.specs.CreateAll.{Stored}
use Rattle.acfg_top.specs.JobList.{AreJobs, IsBadBehind, IsFirstBadLine, IsJob, Job, job_words, most_jobs}
use Rattle.acfg_top.specs.declared.ending.Ending.TheVariants as end
use Rattle.acfg_top.specs.declared.jobs as listed
use Rattle.acfg_top.specs.declared.output.Output.{Output}

-- a job, as its line asks for it
abbrev pub job_of : listed.Job.Job → Job
job_of job = record {
  container = job.container;
  dir = string_bytes job.dir;
  caches = map string_bytes job.caches.items;
}

abbrev pub jobs_of : List listed.Job.Job → List Job
jobs_of jobs = map job_of jobs

-- the words are those of a job
pub record AreJobWords (words : List (List ℕ)) (job : Job) : Type 0 where
  pub container : IsContainer job.container
  pub dir : IsPath job.dir
  pub some : 0 < length job.caches
  pub caches : All IsPath job.caches
  pub same : words ≡ job_words job

-- a line behind those of jobs is a job too, with a directory of its own
pub record IsGoodBehind (jobs : List Job) (line : List ℕ) (job : Job) : Type 0 where
  pub is : IsJob line job
  pub fresh : ¬ Contains (map (λ earlier. earlier.dir) jobs) job.dir
  pub room : length jobs < most_jobs

-- the line is so, or it is bad
abbrev pub IsNext : List Job → List ℕ → Option listed.Job.Job → Type 0
IsNext jobs line found = MatchOption found (IsBadBehind jobs line) (λ job. IsGoodBehind jobs line (job_of job))

-- what was read of lines: all of them are these jobs, or this one is the first that is bad
abbrev pub IsListed : List (List ℕ) → listed.Listed.Listed → Type 0
IsListed lines (listed.Listed.TheVariants.Jobs jobs) = AreJobs lines (jobs_of jobs.items)
IsListed lines (listed.Listed.TheVariants.BadLine number) = IsFirstBadLine lines number

-- what is to be written and told so far is that of jobs that are stored
pub record IsOfStored (all : List Stored) (output : Output) : Type 0 where
  pub ending : output.told.ending ≡ end.Done
  pub text : output.told.text.items ≡ flat_map (λ stored. stored.text) all
  pub files : writes_in output.files.items ≡ flat_map (λ stored. stored.writes) all
