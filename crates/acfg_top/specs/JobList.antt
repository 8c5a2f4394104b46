-- The list of `create-all`: each of its lines is a job, or one of them is the first bad line.
use Rattle.std.specs.Prelude.{◌≡◌, ◌≢◌, ◌<◌, ◌≤◌, ◌+◌, ◌⊎◌, ℕ, List, ◌∷◌, ◌++◌, All, AllPairs, Contains}
use Rattle.std.specs.Prelude.{length, map}
use Rattle.std.specs.List.{AllZip, join_with_byte}
use Rattle.acfg_base.specs.Bytes.{space}
use Rattle.acfg_base.specs.Names.{IsContainer}
use Rattle.acfg_base.specs.Paths.{IsPathInLine}

-- what a line asks for: the storage files of a container, in a directory, made of caches
pub record Job : Type 0 where
  pub container : List ℕ
  pub dir : List ℕ
  pub caches : List (List ℕ)

-- the most jobs of a list
abbrev pub most_jobs : ℕ
most_jobs = 256

-- a container, a path and one or more paths
pub record IsLawfulJob (job : Job) : Type 0 where
  pub container : IsContainer job.container
  pub dir : IsPathInLine job.dir
  pub some : 0 < length job.caches
  pub caches : All IsPathInLine job.caches

-- the words of a job's line
abbrev pub job_words : Job → List (List ℕ)
job_words job = job.container ∷ job.dir ∷ job.caches

-- the line is a job's words, with one space between each two
pub record IsJob (line : List ℕ) (job : Job) : Type 0 where
  pub lawful : IsLawfulJob job
  pub spelled : line ≡ join_with_byte space (job_words job)

-- each of these lines is a job, no directory is named twice, and there are no more than the most
pub record AreJobs (lines : List (List ℕ)) (jobs : List Job) : Type 0 where
  pub each : AllZip IsJob lines jobs
  pub apart : AllPairs (λ job later. job.dir ≢ later.dir) jobs
  pub bound : length jobs ≤ most_jobs

-- a line behind those of jobs is bad: it is no job, or its directory stood in one of theirs, or they are the most
abbrev pub IsBadBehind : List Job → List ℕ → Type 0
IsBadBehind jobs line =
    ((job : Job) → IsJob line job → ⊥)
    ⊎ ((job : Job) × IsJob line job × Contains (map (λ earlier. earlier.dir) jobs) job.dir)
    ⊎ (most_jobs ≤ length jobs)

-- the first bad line, by its number from 1: the lines before it are jobs
pub record IsFirstBadLine (lines : List (List ℕ)) (number : ℕ) : Type 0 where
  pub before : List (List ℕ)
  pub line : List ℕ
  pub behind : List (List ℕ)
  pub jobs : List Job
  pub parts : lines ≡ before ++ line ∷ behind
  pub good : AreJobs before jobs
  pub bad : IsBadBehind jobs line
  pub is : number ≡ length jobs + 1
