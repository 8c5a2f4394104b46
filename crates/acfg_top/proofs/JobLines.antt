-- Lines that are jobs, one after another.
use Rattle.std.proofs.Common.{◌≡◌, ◌≢◌, ℕ, ◌+◌, ◌<◌, List, [], ◌∷◌, ◌++◌, length, map, refl, sym, ◌∙◌, ap, subst, append_assoc, arith}
use Rattle.std.specs.List.{AllZip}
use Rattle.std.proofs.lemmas.List.{append-nil, get_or-map, length-append, length-map}
use Rattle.std.proofs.lemmas.List.Quantifiers.{all_pairs_push}
use Rattle.acfg_top.specs.JobBodies.{IsGoodBehind}
use Rattle.acfg_top.specs.JobList.{AreJobs, IsBadBehind, IsFirstBadLine, IsJob, Job, most_jobs}

each_push : (lines : List (List ℕ)) (jobs : List Job) (line : List ℕ) (job : Job) → AllZip IsJob lines jobs → IsJob line job → AllZip IsJob (lines ++ line ∷ []) (jobs ++ job ∷ [])
each_push [] [] line job each is = (is, tt)
each_push [] (y ∷ jobs) line job each is = absurd each
each_push (x ∷ lines) [] line job each is = absurd each
each_push (x ∷ lines) (y ∷ jobs) line job each is = (each.0, each_push lines jobs line job each.1 is)

-- one more job
pub are_more : (lines : List (List ℕ)) (jobs : List Job) (line : List ℕ) (job : Job) → AreJobs lines jobs → IsGoodBehind jobs line job → AreJobs (lines ++ line ∷ []) (jobs ++ job ∷ [])
are_more lines jobs line job are good = record {
  each = each_push lines jobs line job are.each good.is;
  apart = all_pairs_push (λ one later. one.dir ≢ later.dir) jobs job are.apart (λ k d within same.
      let low : k < length (map (λ one. one.dir) jobs) = omega (arith, length-map jobs (λ one. one.dir)) in
      good.fresh (k, low, get_or-map (λ one. one.dir) jobs k d job.dir within ∙ same));
  bound = let long = length-append jobs (job ∷ []) in let room : length jobs < most_jobs = good.room in omega arith;
}

-- these jobs are of the first of the lines, and these lines are left
pub record Reads (all : List (List ℕ)) (jobs : List Job) (left : List (List ℕ)) : Type 0 where
  pub before : List (List ℕ)
  pub parts : all ≡ before ++ left
  pub good : AreJobs before jobs

pub reads_first : (all : List (List ℕ)) → Reads all [] all
reads_first all = record {
  before = [];
  parts = refl;
  good = record { each = tt; apart = λ i j d below within. absurd (omega arith); bound = omega arith };
}

pub reads_more : (all : List (List ℕ)) (jobs more : List Job) (line : List ℕ) (job : Job) (left behind : List (List ℕ)) → Reads all jobs left → left ≡ line ∷ behind → IsGoodBehind jobs line job → more ≡ jobs ++ job ∷ [] → Reads all more behind
reads_more all jobs more line job left behind reads is good same = record {
  before = reads.before ++ line ∷ [];
  parts = reads.parts ∙ ap (λ left. reads.before ++ left) is ∙ sym (append_assoc reads.before (line ∷ []) behind);
  good = subst (AreJobs (reads.before ++ line ∷ [])) (sym same) (are_more reads.before jobs line job reads.good good);
}

-- the line at hand is bad
pub reads_bad : (all : List (List ℕ)) (jobs : List Job) (line : List ℕ) (left behind : List (List ℕ)) (number : ℕ) → Reads all jobs left → left ≡ line ∷ behind → IsBadBehind jobs line → number ≡ length jobs + 1 → IsFirstBadLine all number
reads_bad all jobs line left behind number reads is bad counted = record {
  before = reads.before;
  line = line;
  behind = behind;
  jobs = jobs;
  parts = reads.parts ∙ ap (λ left. reads.before ++ left) is;
  good = reads.good;
  bad = bad;
  is = counted;
}

-- no line is left
pub reads_all : (all : List (List ℕ)) (jobs : List Job) (left : List (List ℕ)) → Reads all jobs left → left ≡ [] → AreJobs all jobs
reads_all all jobs left reads none = subst (λ lines. AreJobs lines jobs) (sym (reads.parts ∙ ap (λ left. reads.before ++ left) none ∙ append-nil reads.before)) reads.good
