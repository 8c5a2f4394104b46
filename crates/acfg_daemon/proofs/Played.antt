-- A script played on a store, line by line: what was said so far, and what a cut leaves.
use Rattle.std.proofs.Common.{◌≡◌, ℕ, ◌+◌, List, [], ◌∷◌, ◌++◌, length, Option, Result, Err, refl, sym, ap, subst, ◌∙◌, inl, inr, arith, append_assoc}
use Rattle.std.proofs.lemmas.List.{append-nil, length-append}
use Rattle.acfg_device.specs.Account.{Account}
use Rattle.acfg_device.specs.Disk.{IsSettled, told}
use Rattle.acfg_device.specs.Left.{LeavesSince, SameBut}
use Rattle.acfg_device.specs.Panel.{Files}
use Rattle.acfg_device.specs.declared.panel.Panel.{Ghosts}
use Rattle.acfg_device.proofs.Runs.{at_rest}
use Rattle.acfg_model.specs.declared.requests.Loaded.{Loaded}
use Rattle.acfg_model.specs.declared.requests.Request.{Request}
use Rattle.acfg_model.specs.State.{State}
use Rattle.acfg_daemon.specs.Lines.{lines}
use Rattle.acfg_daemon.specs.Playing.{BeginsSaid, IsAtLine, IsBegun, IsPlayed, IsSaid, LeavesLine}
use Rattle.acfg_daemon.specs.Replayed.{ImageLoads, IsAnswering, IsOnTheWay, LeavesRun, OnlyAnswers}
use Rattle.acfg_daemon.specs.Transcript.{Begins, BeginsLine, LineSays, Runs}
use Rattle.acfg_daemon.proofs.Answered.{answering_same, begins_same, open_stands, says_same}
use Rattle.acfg_store.specs.Applied.{IsOpen, state_in}
use Rattle.acfg_store.specs.Names.{IsOfDirectory}
use Rattle.acfg_store.specs.Stands.{Stands}
use Rattle.acfg_store.specs.Store.{StoreView}

-- ---- runs of lines

module _ (loads : Request → Option Loaded → Type 0) where
  -- one line more
  pub runs_more : (from : State) (number : ℕ) (done : List (List ℕ)) (middle : State) (text : List ℕ) → Runs loads from number done middle text
      → (line : List ℕ) (after : State) (said : List ℕ) → LineSays loads middle (number + length done) line after said → Runs loads from number (done ++ line ∷ []) after (text ++ said)
  runs_more from number [] middle text (same, none) line after said says =
      let here = subst (λ (n : ℕ). LineSays loads middle n line after said) (omega arith) says in
      (after, said, [], subst (λ (s : State). LineSays loads s number line after said) same here, (refl, refl), ap (λ (t : List ℕ). t ++ said) none ∙ sym (append-nil said))
  runs_more from number (first ∷ done) middle text (next, spoken, rest, first_says, more, is) line after said says =
      (next, spoken, rest ++ said, first_says, runs_more next (number + 1) done middle rest more line after said (subst (λ (n : ℕ). LineSays loads middle n line after said) (omega arith) says), ap (λ (t : List ℕ). t ++ said) is ∙ append_assoc spoken rest said)

  -- and the first part of one
  pub runs_begins : (from : State) (number : ℕ) (done : List (List ℕ)) (middle : State) (text : List ℕ) → Runs loads from number done middle text
      → (line : List ℕ) (behind : List (List ℕ)) (part : List ℕ) → BeginsLine loads middle (number + length done) line part → Begins loads from number (done ++ line ∷ behind) (text ++ part)
  runs_begins from number [] middle text (same, none) line behind part begins =
      let here = subst (λ (n : ℕ). BeginsLine loads middle n line part) (omega arith) begins in
      let there = subst (λ (s : State). BeginsLine loads s number line part) same here in
      inl (subst (BeginsLine loads from number line) (sym (ap (λ (t : List ℕ). t ++ part) none)) there)
  runs_begins from number (first ∷ done) middle text (next, spoken, rest, first_says, more, is) line behind part begins =
      inr (next, spoken, rest ++ part, first_says, runs_begins next (number + 1) done middle rest more line behind part (subst (λ (n : ℕ). BeginsLine loads middle n line part) (omega arith) begins), ap (λ (t : List ℕ). t ++ part) is ∙ append_assoc spoken rest part)

  -- whole lines begin their transcript
  pub runs_begun : (from : State) (number : ℕ) (done : List (List ℕ)) (middle : State) (text : List ℕ) → Runs loads from number done middle text → Begins loads from number done text
  runs_begun from number [] middle text (same, none) = none
  runs_begun from number (first ∷ done) middle text (next, spoken, rest, first_says, more, is) = inr (next, spoken, rest, first_says, runs_begun next (number + 1) done middle rest more, is)

  pub between_lines : (state : State) (number : ℕ) (rest : List (List ℕ)) → IsOnTheWay loads state number rest [] state
  between_lines state number [] = (refl, refl)
  between_lines state number (line ∷ rest) = inl (refl, refl)

-- ---- how far a script has come

-- These lines were answered whole, from the state of the first store on, and led to this store; those of the rest are
-- left.
pub record Goes (first : Files) (before : List ℕ) (opened : StoreView) (script : List ℕ) (store : StoreView) (number : ℕ) (rest said : List ℕ) : Type 0 where
  pub done : List (List ℕ)
  pub text : List ℕ
  pub dir : store.dir ≡ opened.dir
  pub split : lines script ≡ done ++ lines rest
  pub count : number ≡ length done
  pub runs : Runs (ImageLoads first) (state_in opened) 1 done (state_in store) text
  pub grown : said ≡ before ++ text

pub goes_start : (first : Files) (before : List ℕ) (opened : StoreView) (script : List ℕ) → Goes first before opened script opened 0 script before
goes_start first before opened script = record { done = []; text = []; dir = refl; split = refl; count = refl; runs = (refl, refl); grown = sym (append-nil before) }

module _ (first now : Files) (before : List ℕ) (opened : StoreView) (script : List ℕ) (store : StoreView) (number : ℕ) (rest said line behind : List ℕ)
    (goes : Goes first before opened script store number rest said) (cut : lines rest ≡ line ∷ lines behind) (others : SameBut (IsOfDirectory opened.dir) first now) where
  -- the number of the line, and where it stands
  numbered : number + 1 ≡ 1 + length goes.done
  numbered = omega (arith, goes.count)

  here : lines script ≡ goes.done ++ line ∷ lines behind
  here = goes.split ∙ ap (λ (ls : List (List ℕ)). goes.done ++ ls) cut

  there : lines script ≡ (goes.done ++ line ∷ []) ++ lines behind
  there = here ∙ sym (append_assoc goes.done (line ∷ []) (lines behind))

  more_runs : (after : State) (text : List ℕ) → LineSays (ImageLoads now) (state_in store) (number + 1) line after text
      → Runs (ImageLoads first) (state_in opened) 1 (goes.done ++ line ∷ []) after (goes.text ++ text)
  more_runs after text says = runs_more (ImageLoads first) (state_in opened) 1 goes.done (state_in store) goes.text goes.runs line after text
      (subst (λ (n : ℕ). LineSays (ImageLoads first) (state_in store) n line after text) numbered (says_same first now opened.dir others (state_in store) (number + 1) line after text says))

  -- the next line is answered
  pub goes_on : (made : StoreView) (said_after : List ℕ) → IsSaid now said store (number + 1) line said_after made → Goes first before opened script made (number + 1) behind said_after
  goes_on made said_after is = record {
    done = goes.done ++ line ∷ [];
    text = goes.text ++ is.text;
    dir = is.taken.dir ∙ goes.dir;
    split = there;
    count = omega (arith, goes.count, length-append goes.done (line ∷ []));
    runs = more_runs (state_in made) is.text is.taken.says;
    grown = is.words ∙ ap (λ (s : List ℕ). s ++ is.text) goes.grown ∙ append_assoc before goes.text is.text;
  }

  -- it isn't answered whole
  pub goes_stops : (said_after : List ℕ) → BeginsSaid now said store (number + 1) line said_after → IsBegun first before opened script said_after
  goes_stops said_after is = record {
    text = goes.text ++ is.part;
    begins = subst (λ (ls : List (List ℕ)). Begins (ImageLoads first) (state_in opened) 1 ls (goes.text ++ is.part)) (sym here)
        (runs_begins (ImageLoads first) (state_in opened) 1 goes.done (state_in store) goes.text goes.runs line (lines behind) is.part
        (subst (λ (n : ℕ). BeginsLine (ImageLoads first) (state_in store) n line is.part) numbered (begins_same first now opened.dir others (state_in store) (number + 1) line is.part is.begins)));
    words = is.words ∙ ap (λ (s : List ℕ). s ++ is.part) goes.grown ∙ append_assoc before goes.text is.part;
  }

  -- what a cut leaves of the line, it leaves of the script
  pub leaves_run : (files : Files) (words : List ℕ) → LeavesLine now said store (number + 1) line files words → LeavesRun first before opened.dir (state_in opened) (lines script) files words
  leaves_run files words was = by_place was.at
    where
      stood : Stands files opened.dir was.left
      stood = subst (λ (d : List ℕ). Stands files d was.left) goes.dir was.stands

      kept : SameBut (IsOfDirectory opened.dir) first files
      kept = λ name apart. subst (λ (d : List ℕ). SameBut (IsOfDirectory d) now files) goes.dir was.others name apart ∙ others name apart

      so_far : words ≡ before ++ (goes.text ++ was.part)
      so_far = was.words ∙ ap (λ (s : List ℕ). s ++ was.part) goes.grown ∙ append_assoc before goes.text was.part

      counted : number + 1 ≡ length goes.done + 1
      counted = omega (arith, goes.count)

      by_place : IsAtLine now (state_in store) (number + 1) line was.part was.left → LeavesRun first before opened.dir (state_in opened) (lines script) files words
      by_place (inl none) = record { done = goes.done; rest = line ∷ lines behind; split = here; middle = state_in store; text = goes.text; runs = goes.runs; part = was.part; words = so_far; left = was.left; way = inl none; stands = stood; others = kept }
      by_place (inr (inl way)) = record {
        done = goes.done;
        rest = line ∷ lines behind;
        split = here;
        middle = state_in store;
        text = goes.text;
        runs = goes.runs;
        part = was.part;
        words = so_far;
        left = was.left;
        way = inr (subst (λ (n : ℕ). IsAnswering (ImageLoads first) (state_in store) n line was.part was.left) counted (answering_same first now opened.dir others (state_in store) (number + 1) line was.part was.left way));
        stands = stood;
        others = kept;
      }
      by_place (inr (inr whole)) = record {
        done = goes.done ++ line ∷ [];
        rest = lines behind;
        split = there;
        middle = was.left;
        text = goes.text ++ was.part;
        runs = more_runs was.left was.part whole;
        part = [];
        words = so_far ∙ ap (λ (s : List ℕ). before ++ s) (sym (append-nil (goes.text ++ was.part)));
        left = was.left;
        way = between_lines (ImageLoads first) was.left (length (goes.done ++ line ∷ []) + 1) (lines behind);
        stands = stood;
        others = kept;
      }

-- ---- at the end

pub goes_whole : (first now : Files) (before : List ℕ) (opened : StoreView) (script : List ℕ) (store : StoreView) (number : ℕ) (rest said : List ℕ) → Goes first before opened script store number rest said → IsOpen now store → length rest ≡ 0
    → IsPlayed first before opened script now said
goes_whole first now before opened script store number [] said goes is none = record {
  after = state_in store;
  text = goes.text;
  runs = subst (λ (ls : List (List ℕ)). Runs (ImageLoads first) (state_in opened) 1 ls (state_in store) goes.text) (sym (goes.split ∙ append-nil goes.done)) goes.runs;
  words = goes.grown;
  stands = subst (λ (d : List ℕ). Stands now d (state_in store)) goes.dir (open_stands now store is);
}
goes_whole first now before opened script store number (byte ∷ rest) said goes is none = absurd (omega arith)

pub goes_begun : (first : Files) (before : List ℕ) (opened : StoreView) (script : List ℕ) (store : StoreView) (number : ℕ) (rest said : List ℕ) → Goes first before opened script store number rest said → length rest ≡ 0 → IsBegun first before opened script said
goes_begun first before opened script store number [] said goes none = record {
  text = goes.text;
  begins = subst (λ (ls : List (List ℕ)). Begins (ImageLoads first) (state_in opened) 1 ls goes.text) (sym (goes.split ∙ append-nil goes.done)) (runs_begun (ImageLoads first) (state_in opened) 1 goes.done (state_in store) goes.text goes.runs);
  words = goes.grown;
}
goes_begun first before opened script store number (byte ∷ rest) said goes none = absurd (omega arith)

-- before the first line
pub run_rests : (account : Account) (first : Files) (spoken : List ℕ) (opened : StoreView) (all : List (List ℕ)) → first ≡ told account.now → spoken ≡ account.now.said → IsSettled account.now → IsOpen first opened
    → LeavesSince account account (LeavesRun first spoken opened.dir (state_in opened) all)
run_rests account first spoken opened all files said settled is = at_rest (LeavesRun first spoken opened.dir (state_in opened) all) first spoken files said settled (record {
  done = [];
  rest = all;
  split = refl;
  middle = state_in opened;
  text = [];
  runs = (refl, refl);
  part = [];
  words = sym (append-nil spoken);
  left = state_in opened;
  way = between_lines (ImageLoads first) (state_in opened) 1 all;
  stands = open_stands first opened is;
  others = λ name apart. refl;
})

-- the script's store that a line finds open has the directory of the first one
pub line_others : {P : Type 0} {panel : Ghosts P} {before after : P} {fails : Type 0} (opened store : StoreView) → store.dir ≡ opened.dir → OnlyAnswers panel (IsOfDirectory store.dir) before after fails → OnlyAnswers panel (IsOfDirectory opened.dir) before after fails
line_others {P} {panel} {before} {after} {fails} opened store same answers = subst (λ (d : List ℕ). OnlyAnswers panel (IsOfDirectory d) before after fails) same answers

-- a fault is one, whatever would have been given in its place
pub same_err : {A E : Type 0} (a b : E) → ◌≡◌ {A = Result A E} (Err a) (Err b) → a ≡ b
same_err a b same = cc
