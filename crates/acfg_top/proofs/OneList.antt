-- Lines are jobs, or one of them is the first bad line: never both, never in two ways, and it can't be neither.
use Rattle.std.proofs.Common.{◌≡◌, ◌≢◌, ℕ, zero, suc, ◌+◌, ◌<◌, ◌≤◌, List, [], ◌∷◌, ◌++◌, length, map, get_or, refl, sym, ◌∙◌, ap, subst, inl, inr, ◌⊎◌, arith}
use Rattle.std.specs.Prelude.{AllPairs, Contains}
use Rattle.std.specs.List.{AllZip}
use Rattle.std.proofs.lemmas.List.{get_or-map, length-append, length-map}
use Rattle.std.proofs.lemmas.Bool.{cases_lt}
use Rattle.acfg_top.specs.JobList.{AreJobs, IsBadBehind, IsFirstBadLine, IsJob, Job, job_words, most_jobs}
use Rattle.acfg_top.proofs.JobLines.{Reads, reads_all, reads_bad, reads_first, reads_more}
use Rattle.acfg_top.proofs.JobWords.{words_from_job}

-- ---- one line

same_job : (job other : Job) → job_words job ≡ job_words other → job ≡ other
same_job job other same =
    let spelled : job.container ∷ job.dir ∷ job.caches ≡ other.container ∷ other.dir ∷ other.caches = same in
    let container : job.container ≡ other.container = cc in
    let dir : job.dir ≡ other.dir = cc in
    let caches : job.caches ≡ other.caches = cc in
    λ i. record { container = container i; dir = dir i; caches = caches i }

pub one_job : (line : List ℕ) (job other : Job) → IsJob line job → IsJob line other → job ≡ other
one_job line job other is also = same_job job other (sym (words_from_job line job is).same ∙ (words_from_job line other also).same)

-- ---- lines that are jobs

one_each : (lines : List (List ℕ)) (jobs others : List Job) → AllZip IsJob lines jobs → AllZip IsJob lines others → jobs ≡ others
one_each [] [] [] each also = refl
one_each [] [] (y ∷ others) each also = absurd also
one_each [] (x ∷ jobs) others each also = absurd each
one_each (line ∷ lines) [] others each also = absurd each
one_each (line ∷ lines) (x ∷ jobs) [] each also = absurd also
one_each (line ∷ lines) (x ∷ jobs) (y ∷ others) each also =
    let first = one_job line x y each.0 also.0 in
    let rest = one_each lines jobs others each.1 also.1 in
    λ i. first i ∷ rest i

pub jobs_once : (lines : List (List ℕ)) (jobs others : List Job) → AreJobs lines jobs → AreJobs lines others → jobs ≡ others
jobs_once lines jobs others are also = one_each lines jobs others are.each also.each

as_many : (lines : List (List ℕ)) (jobs : List Job) → AllZip IsJob lines jobs → length lines ≡ length jobs
as_many [] [] each = refl
as_many [] (x ∷ jobs) each = absurd each
as_many (line ∷ lines) [] each = absurd each
as_many (line ∷ lines) (x ∷ jobs) each = let rest = as_many lines jobs each.1 in omega (arith, rest)

-- ---- a bad line among jobs

-- the jobs of lines that others begin with, and the one behind them
record Goes (line : List ℕ) (jobs all : List Job) : Type 0 where
  job : Job
  more : List Job
  is : IsJob line job
  parts : all ≡ jobs ++ job ∷ more

goes_on : (before : List (List ℕ)) (line : List ℕ) (behind : List (List ℕ)) (jobs all : List Job) → AllZip IsJob before jobs → AllZip IsJob (before ++ line ∷ behind) all → Goes line jobs all
goes_on [] line behind [] [] each every = absurd every
goes_on [] line behind [] (y ∷ all) each every = record { job = y; more = all; is = every.0; parts = refl }
goes_on [] line behind (x ∷ jobs) all each every = absurd each
goes_on (first ∷ before) line behind [] all each every = absurd each
goes_on (first ∷ before) line behind (x ∷ jobs) [] each every = absurd every
goes_on (first ∷ before) line behind (x ∷ jobs) (y ∷ all) each every =
    let rest = goes_on before line behind jobs all each.1 every.1 in
    let same = one_job first y x every.0 each.0 in
    record { job = rest.job; more = rest.more; is = rest.is; parts = λ i. same i ∷ rest.parts i }

-- the items of joined lists
at_front : (jobs more : List Job) (job : Job) (k : ℕ) (d : Job) → k < length jobs → get_or (jobs ++ job ∷ more) k d ≡ get_or jobs k d
at_front [] more job k d low = absurd (omega (arith, low))
at_front (x ∷ jobs) more job zero d low = refl
at_front (x ∷ jobs) more job (suc k) d low = at_front jobs more job k d (omega (arith, low))

at_middle : (jobs more : List Job) (job d : Job) → get_or (jobs ++ job ∷ more) (length jobs) d ≡ job
at_middle [] more job d = refl
at_middle (x ∷ jobs) more job d = at_middle jobs more job d

twice : (jobs more : List Job) (job : Job) → AllPairs (λ one later. one.dir ≢ later.dir) (jobs ++ job ∷ more) → ¬ Contains (map (λ earlier. earlier.dir) jobs) job.dir
twice jobs more job apart (k, low, is) =
    let here : k < length jobs = omega (arith, low, length-map jobs (λ earlier. earlier.dir)) in
    let within : length jobs < length (jobs ++ job ∷ more) = omega (arith, length-append jobs (job ∷ more)) in
    let first : (get_or (jobs ++ job ∷ more) k job).dir ≡ job.dir = ap (λ one. one.dir) (at_front jobs more job k job here) ∙ sym (get_or-map (λ earlier. earlier.dir) jobs k job job.dir here) ∙ is in
    apart k (length jobs) job here within (first ∙ sym (ap (λ one. one.dir) (at_middle jobs more job job)))

not_bad : (jobs more : List Job) (job : Job) (line : List ℕ) → IsJob line job → AllPairs (λ one later. one.dir ≢ later.dir) (jobs ++ job ∷ more) → length (jobs ++ job ∷ more) ≤ most_jobs → IsBadBehind jobs line → ⊥
not_bad jobs more job line is apart bound (inl none) = none job is
not_bad jobs more job line is apart bound (inr (inl (other, also, stands))) =
    twice jobs more job apart (subst (λ one. Contains (map (λ earlier. earlier.dir) jobs) one.dir) (one_job line other job also is) stands)
not_bad jobs more job line is apart bound (inr (inr full)) = omega (arith, full, bound, length-append jobs (job ∷ more))

covered : (before : List (List ℕ)) (line : List ℕ) (behind : List (List ℕ)) (jobs all : List Job) → AreJobs before jobs → IsBadBehind jobs line → AreJobs (before ++ line ∷ behind) all → ⊥
covered before line behind jobs all are bad every =
    let goes = goes_on before line behind jobs all are.each every.each in
    not_bad jobs goes.more goes.job line goes.is (subst (AllPairs (λ one later. one.dir ≢ later.dir)) goes.parts every.apart)
    (let short : List Job → Type 0 = λ all. length all ≤ most_jobs in subst short goes.parts every.bound) bad

pub never_both : (lines : List (List ℕ)) (jobs : List Job) (number : ℕ) → AreJobs lines jobs → IsFirstBadLine lines number → ⊥
never_both lines jobs number are first = covered first.before first.line first.behind first.jobs jobs first.good first.bad (subst (λ lines. AreJobs lines jobs) first.parts are)

-- ---- two bad lines

-- one of two places is in front of the other, or they are one
places : (a b : List (List ℕ)) (x y : List ℕ) (p q : List (List ℕ)) → a ++ x ∷ p ≡ b ++ y ∷ q
    → (length a ≡ length b) ⊎ ((m : List (List ℕ)) × (b ≡ a ++ x ∷ m)) ⊎ ((m : List (List ℕ)) × (a ≡ b ++ y ∷ m))
places [] [] x y p q same = inl refl
places [] (z ∷ b) x y p q same = let first : x ≡ z = cc in inr (inl (b, λ i. sym first i ∷ b))
places (z ∷ a) [] x y p q same = let first : z ≡ y = cc in inr (inr (a, λ i. first i ∷ a))
places (z ∷ a) (w ∷ b) x y p q same =
    let first : z ≡ w = cc in
    let rest : a ++ x ∷ p ≡ b ++ y ∷ q = cc in
    elim (places a b x y p q rest) [
      | inl long ↦ inl (omega (arith, long))
      | inr apart ↦ elim apart [
        | inl later ↦ inr (inl (later.0, λ i. sym first i ∷ later.1 i))
        | inr sooner ↦ inr (inr (sooner.0, λ i. first i ∷ sooner.1 i))
      ]
    ]

pub number_once : (lines : List (List ℕ)) (number other : ℕ) → IsFirstBadLine lines number → IsFirstBadLine lines other → number ≡ other
number_once lines number other first also =
    elim (places first.before also.before first.line also.line first.behind also.behind (sym first.parts ∙ also.parts)) [
      | inl long ↦
          let one = as_many first.before first.jobs first.good.each in
          let two = as_many also.before also.jobs also.good.each in
          let here : number ≡ length first.jobs + 1 = first.is in
          let there : other ≡ length also.jobs + 1 = also.is in
          omega (arith, long, one, two, here, there)
      | inr apart ↦ elim apart [
        | inl later ↦ absurd (covered first.before first.line later.0 first.jobs also.jobs first.good first.bad (subst (λ lines. AreJobs lines also.jobs) later.1 also.good))
        | inr sooner ↦ absurd (covered also.before also.line sooner.0 also.jobs first.jobs also.good also.bad (subst (λ lines. AreJobs lines first.jobs) sooner.1 first.good))
      ]
    ]

-- ---- some

below : (n : ℕ) → (most_jobs ≤ n → ⊥) → n < most_jobs
below n never = elim (cases_lt n most_jobs) [ inl low ↦ low | inr high ↦ absurd (never high) ]

some_from : (all left : List (List ℕ)) (jobs : List Job) → Reads all jobs left → ((jobs : List Job) → AreJobs all jobs → ⊥) → ((number : ℕ) → IsFirstBadLine all number → ⊥) → ⊥
some_from all [] jobs reads none never = none jobs (reads_all all jobs [] reads refl)
some_from all (line ∷ left) jobs reads none never =
    let good : IsBadBehind jobs line → ⊥ = λ bad. never (length jobs + 1) (reads_bad all jobs line (line ∷ left) left (length jobs + 1) reads refl bad refl) in
    good (inl (λ job is. some_from all left (jobs ++ job ∷ []) (reads_more all jobs (jobs ++ job ∷ []) line job (line ∷ left) left reads refl (record {
      is = is;
      fresh = λ stands. good (inr (inl (job, is, stands)));
      room = below (length jobs) (λ full. good (inr (inr full)));
    }) refl) none never))

pub some_list : (lines : List (List ℕ)) → ((jobs : List Job) → AreJobs lines jobs → ⊥) → ((number : ℕ) → IsFirstBadLine lines number → ⊥) → ⊥
some_list lines none never = some_from lines lines [] (reads_first lines) none never
