-- The words of a job's line, cut apart and joined.
use Rattle.std.proofs.Common.{◌≡◌, ℕ, zero, suc, ◌<◌, Bool, true, false, List, [], ◌∷◌, ◌++◌, length, map, refl, sym, ◌∙◌, ap, subst, arith, All, Option, string_bytes, append_assoc, Global}
use Rattle.std.specs.Prelude.{Any, Contains, IfOk, Result, Ok, Err, String, option_map}
use Rattle.std.specs.List.{join_with_byte, list_any, slice_split, onto_first, AllByRecursion, position_or_len, before_first, after_first}
use Rattle.std.specs.Str.{IsUtf8, bytes_eq}
use Rattle.std.proofs.lemmas.List.Folds.{Any-from_list_any, list_any-from_Any}
use Rattle.std.proofs.lemmas.Slice.Eq.{bytes_eq-Decides}
use Rattle.std.proofs.lemmas.List.{map-append}
use Rattle.std.proofs.lemmas.List.Elements.{All-cons, All-from_recursion, All-nil, All-weaker, recursion_from_All}
use Rattle.std.proofs.lemmas.List.Splits.{join_with_byte-slice_split, length-slice_split, slice_split-cons_no, slice_split-cons_yes, slice_split_first}
use Rattle.std.proofs.lemmas.Bool.{eqb-false, ne_eqb}
use lib.Dec.{eqb}
use Rattle.acfg_base.specs.Bytes.{space}
use Rattle.acfg_base.specs.Found.{Finds}
use Rattle.acfg_base.specs.Names.{IsContainer}
use Rattle.acfg_base.specs.Paths.{IsPath, IsPathInLine}
use Rattle.acfg_daemon.proofs.Words.{Finds-weaker, IsWord, joined_text, names_word, split_join}
use Rattle.std.proofs.lemmas.List.{get_or_default}
use Rattle.acfg_top.specs.JobBodies.{AreJobWords, job_of, jobs_of}
use Rattle.acfg_top.specs.JobList.{IsJob, IsLawfulJob, Job, job_words}
use Rattle.acfg_top.specs.declared.jobs.Job.{Job as Read}

-- the words of a text
abbrev pub words : List ℕ → List (List ℕ)
words = slice_split (λ byte. eqb byte space)

-- ---- words without spaces

IsSpaceless : List ℕ → Type 0
IsSpaceless word = All (λ byte. eqb byte space ≡ false) word

onto_spaceless : (x : ℕ) (parts : List (List ℕ)) → eqb x space ≡ false → AllByRecursion IsSpaceless parts → AllByRecursion IsSpaceless (onto_first x parts)
unfolding IsSpaceless
onto_spaceless x [] apart all = (All-cons (λ byte. eqb byte space ≡ false) x [] apart (All-nil (λ byte. eqb byte space ≡ false)), tt)
onto_spaceless x (part ∷ parts) apart all = (All-cons (λ byte. eqb byte space ≡ false) x part apart all.0, all.1)

one_byte : (x : ℕ) (xs : List ℕ) (b : Bool) → eqb x space ≡ b → AllByRecursion IsSpaceless (words xs) → AllByRecursion IsSpaceless (words (x ∷ xs))
unfolding IsSpaceless
one_byte x xs true is rest = subst (AllByRecursion IsSpaceless) (sym (slice_split-cons_yes (λ byte. eqb byte space) x xs is)) (All-nil (λ byte. eqb byte space ≡ false), rest)
one_byte x xs false is rest = subst (AllByRecursion IsSpaceless) (sym (slice_split-cons_no (λ byte. eqb byte space) x xs is)) (onto_spaceless x (words xs) is rest)

all_spaceless : (text : List ℕ) → AllByRecursion IsSpaceless (words text)
unfolding IsSpaceless
all_spaceless [] = (All-nil (λ byte. eqb byte space ≡ false), tt)
all_spaceless (x ∷ xs) = one_byte x xs (eqb x space) refl (all_spaceless xs)

no_space : (word : List ℕ) → IsSpaceless word → ¬ Contains word space
unfolding IsSpaceless
no_space word none (k, low, is) = eqb-false _ _ (none k space low) is

-- ---- a job's words

path_word : (path : List ℕ) → IsPathInLine path → IsWord path
path_word path is = record { whole = λ k d within. ne_eqb _ _ (λ e. is.whole (k, within, get_or_default path k space d within ∙ e)); text = is.path.utf8 }

all_words : (job : Job) → IsLawfulJob job → AllByRecursion IsWord (job_words job)
all_words job lawful = (names_word job.container lawful.container.names, (path_word job.dir lawful.dir, recursion_from_All IsWord job.caches (All-weaker IsPathInLine IsWord path_word job.caches lawful.caches)))

-- a job's line is text
pub job_text : (line : List ℕ) (job : Job) → IsJob line job → IsUtf8 line
job_text line job is = subst IsUtf8 (sym is.spelled) (joined_text (job_words job) (all_words job is.lawful))

pub words_from_job : (line : List ℕ) (job : Job) → IsJob line job → AreJobWords (words line) job
words_from_job line job is = record {
  container = is.lawful.container;
  dir = is.lawful.dir.path;
  some = is.lawful.some;
  caches = λ k d low. (is.lawful.caches k d low).path;
  same = ap words is.spelled ∙ split_join job.container (job.dir ∷ job.caches) (all_words job is.lawful);
}

job_from_words : (line : List ℕ) (job : Job) → AreJobWords (words line) job → IsJob line job
job_from_words line job are =
    let plain : AllByRecursion IsSpaceless (job_words job) = subst (AllByRecursion IsSpaceless) are.same (all_spaceless line) in
    record {
      lawful = record {
        container = are.container;
        dir = record { path = are.dir; whole = no_space job.dir plain.1.0 };
        some = are.some;
        caches = λ k d low. record { path = are.caches k d low; whole = no_space _ (All-from_recursion IsSpaceless job.caches plain.1.1 k d low) };
      };
      spelled = sym (join_with_byte-slice_split space line) ∙ ap (join_with_byte space) are.same;
    }

-- what is found by the words is found by the line
pub found_job : {E : Type 0} (line : List ℕ) (result : Result (Option Read) E) → IfOk result (λ found. Finds (AreJobWords (words line)) (option_map job_of found)) → IfOk result (λ found. Finds (IsJob line) (option_map job_of found))
found_job line (Ok found) finds = Finds-weaker (AreJobWords (words line)) (IsJob line) (job_from_words line) (words_from_job line) (option_map job_of found) finds
found_job line (Err e) finds = tt

-- no job has one word or two
pub not_one : (word : List ℕ) (job : Job) → AreJobWords (word ∷ []) job → ⊥
not_one word job are = let same : word ∷ [] ≡ job.container ∷ job.dir ∷ job.caches = are.same in cc

pub not_two : (word other : List ℕ) (job : Job) → AreJobWords (word ∷ other ∷ []) job → ⊥
not_two word other job are =
    let same : word ∷ other ∷ [] ≡ job.container ∷ job.dir ∷ job.caches = are.same in
    let none : job.caches ≡ [] = cc in
    omega (arith, are.some, ap length none)

pub its_container : (word : List ℕ) (rest : List (List ℕ)) (job : Job) → AreJobWords (word ∷ rest) job → IsContainer word
its_container word rest job are =
    let same : word ∷ rest ≡ job.container ∷ job.dir ∷ job.caches = are.same in
    let first : job.container ≡ word = cc in
    subst IsContainer first are.container

pub its_dir : (word other : List ℕ) (rest : List (List ℕ)) (job : Job) → AreJobWords (word ∷ other ∷ rest) job → IsPath other
its_dir word other rest job are =
    let same : word ∷ other ∷ rest ≡ job.container ∷ job.dir ∷ job.caches = are.same in
    let second : job.dir ≡ other = cc in
    subst IsPath second are.dir

pub its_caches : (word other : List ℕ) (rest : List (List ℕ)) (job : Job) → AreJobWords (word ∷ other ∷ rest) job → All IsPath rest
its_caches word other rest job are =
    let same : word ∷ other ∷ rest ≡ job.container ∷ job.dir ∷ job.caches = are.same in
    let behind : job.caches ≡ rest = cc in
    subst (All IsPath) behind are.caches

-- some word stands behind each space
pub some_words : (text : List ℕ) → 0 < length (words text)
some_words text = let long = length-slice_split (λ byte. eqb byte space) text in omega (arith, long)

-- ---- words cut off one at a time

pub first_word : (text word behind : List ℕ) → word ≡ before_first (λ byte. eqb byte space) text → behind ≡ after_first (λ byte. eqb byte space) text → position_or_len (λ byte. eqb byte space) text < length text
    → words text ≡ word ∷ words behind
first_word text word behind front rest some =
    slice_split_first (λ byte. eqb byte space) text 0 some ∙ (λ j. sym front j ∷ words (sym rest j))

pub word_pushed : (kept new : List (String Global)) (made : String Global) (word : List ℕ) (more : List (List ℕ)) → new ≡ kept ++ made ∷ [] → string_bytes made ≡ word → map string_bytes new ++ more ≡ map string_bytes kept ++ word ∷ more
word_pushed kept new made word more pushed is =
    ap (λ strings. map string_bytes strings ++ more) pushed
    ∙ ap (λ all. all ++ more) (map-append string_bytes kept (made ∷ []))
    ∙ append_assoc (map string_bytes kept) (string_bytes made ∷ []) more
    ∙ ap (λ word. map string_bytes kept ++ word ∷ more) is

-- ---- directories of jobs

its_place : (jobs : List Read) (dir : List ℕ) → Any (λ job. string_bytes job.dir ≡ dir) jobs → Contains (map (λ earlier. earlier.dir) (jobs_of jobs)) dir
its_place [] dir (k, job, low, at, is) = absurd (omega (arith, low))
its_place (first ∷ jobs) dir (zero, job, low, at, is) = (0, omega arith, ap (λ job. string_bytes job.dir) at ∙ is)
its_place (first ∷ jobs) dir (suc k, job, low, at, is) =
    let rest = its_place jobs dir (k, job, omega (arith, low), at, is) in
    (suc rest.0, omega (arith, rest.1), rest.2)

its_job : (jobs : List Read) (dir : List ℕ) → Contains (map (λ earlier. earlier.dir) (jobs_of jobs)) dir → Any (λ job. bytes_eq (string_bytes job.dir) dir ≡ true) jobs
its_job [] dir (k, low, is) = absurd (omega (arith, low))
its_job (first ∷ jobs) dir (zero, low, is) = (0, first, omega arith, refl, (bytes_eq-Decides (string_bytes first.dir) dir).1 is)
its_job (first ∷ jobs) dir (suc k, low, is) =
    let rest = its_job jobs dir (k, omega (arith, low), is) in
    (suc rest.0, rest.1, omega (arith, rest.2), rest.3, rest.4)

-- a directory is that of one of the jobs, as it is found by a test
pub dir_stands : (jobs : List Read) (dir : List ℕ) → list_any (λ job. bytes_eq (string_bytes job.dir) dir) jobs ≡ true → Contains (map (λ earlier. earlier.dir) (jobs_of jobs)) dir
dir_stands jobs dir found =
    let any = Any-from_list_any (λ job. bytes_eq (string_bytes job.dir) dir) jobs found in
    its_place jobs dir (any.0, any.1, any.2, any.3, (bytes_eq-Decides (string_bytes any.1.dir) dir).0 any.4)

pub stands_at : (jobs : List Read) (dir : List ℕ) → Contains (map (λ earlier. earlier.dir) (jobs_of jobs)) dir → list_any (λ job. bytes_eq (string_bytes job.dir) dir) jobs ≡ true
stands_at jobs dir is = list_any-from_Any (λ job. bytes_eq (string_bytes job.dir) dir) jobs (its_job jobs dir is)
