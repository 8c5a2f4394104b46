-- How far a script has come: what was said so far, and what the lines that are left make of it.
use Rattle.std.proofs.Common.{◌≡◌, ℕ, ◌+◌, List, [], ◌∷◌, ◌++◌, length, Option, Result, Ok, Err, refl, sym, ◌∙◌, ap, subst, inl, inr, arith, append_assoc, OnErr}
use Rattle.std.specs.FinMap.{empty}
use Rattle.std.proofs.lemmas.List.{append-nil}
use Rattle.acfg_device.specs.Panel.{SaysPart}
use Rattle.acfg_model.specs.declared.requests.Loaded.{Loaded}
use Rattle.acfg_model.specs.declared.requests.Request.{Request}
use Rattle.acfg_model.specs.State.{State}
use Rattle.acfg_daemon.specs.Lines.{lines}
use Rattle.acfg_daemon.specs.Transcript.{LineSays, Transcript, BeginsLine, Begins}
use Rattle.acfg_daemon.proofs.OneLine.{IsOneLoad, begins_transcript}

-- A part was said to the lines before these ones: with their transcript behind it it is the script's.
pub record Goes (loads : Request → Option Loaded → Type 0) (before script : List ℕ) (state : State) (number : ℕ) (rest said : List ℕ) : Type 0 where
  pub done : List ℕ
  pub grown : said ≡ before ++ done
  pub whole : (text : List ℕ) → Transcript loads state (number + 1) (lines rest) text → Transcript loads empty 1 (lines script) (done ++ text)
  pub begun : (text : List ℕ) → Begins loads state (number + 1) (lines rest) text → Begins loads empty 1 (lines script) (done ++ text)

-- what a first part of the transcript is, once said
abbrev pub SaidBegun : (Request → Option Loaded → Type 0) → List ℕ → List ℕ → List ℕ → Type 0
SaidBegun loads before script said = (text : List ℕ) × Begins loads empty 1 (lines script) text × (said ≡ before ++ text)

abbrev pub SaidWhole : (Request → Option Loaded → Type 0) → List ℕ → List ℕ → List ℕ → Type 0
SaidWhole loads before script said = (text : List ℕ) × Transcript loads empty 1 (lines script) text × (said ≡ before ++ text)

pub goes_start : (loads : Request → Option Loaded → Type 0) (before script : List ℕ) → Goes loads before script empty 0 script before
goes_start loads before script = record { done = []; grown = sym (append-nil before); whole = λ text whole. whole; begun = λ text begun. begun }

pub goes_on : (loads : Request → Option Loaded → Type 0) (before script : List ℕ) (state after : State) (number : ℕ) (rest line behind said more said_after : List ℕ) → Goes loads before script state number rest said → lines rest ≡ line ∷ lines behind
    → LineSays loads state (number + 1) line after more → said_after ≡ said ++ more → Goes loads before script after (number + 1) behind said_after
goes_on loads before script state after number rest line behind said more said_after goes cut says grown = record {
  done = goes.done ++ more;
  grown = grown ∙ ap (λ s. s ++ more) goes.grown ∙ append_assoc before goes.done more;
  whole = λ text whole. subst (Transcript loads empty 1 (lines script)) (sym (append_assoc goes.done more text)) (goes.whole (more ++ text) (subst (λ ls. Transcript loads state (number + 1) ls (more ++ text)) (sym cut) (after, more, text, says, whole, refl)));
  begun = λ text begun. subst (Begins loads empty 1 (lines script)) (sym (append_assoc goes.done more text)) (goes.begun (more ++ text) (subst (λ ls. Begins loads state (number + 1) ls (more ++ text)) (sym cut) (inr (after, more, text, says, begun, refl))));
}

-- a script that ends in the middle of a line
pub goes_stops : (loads : Request → Option Loaded → Type 0) (before script : List ℕ) (state : State) (number : ℕ) (rest line behind said part said_after : List ℕ) → Goes loads before script state number rest said → lines rest ≡ line ∷ lines behind
    → BeginsLine loads state (number + 1) line part → said_after ≡ said ++ part → SaidBegun loads before script said_after
goes_stops loads before script state number rest line behind said part said_after goes cut begins grown =
    (goes.done ++ part, goes.begun part (subst (λ ls. Begins loads state (number + 1) ls part) (sym cut) (inl begins)), grown ∙ ap (λ s. s ++ part) goes.grown ∙ append_assoc before goes.done part)

-- a script of which no line is left
pub goes_whole : (loads : Request → Option Loaded → Type 0) (before script : List ℕ) (state : State) (number : ℕ) (rest said : List ℕ) → Goes loads before script state number rest said → length rest ≡ 0 → SaidWhole loads before script said
goes_whole loads before script state number [] said goes none = (goes.done ++ [], goes.whole [] refl, goes.grown ∙ ap (λ s. before ++ s) (sym (append-nil goes.done)))
goes_whole loads before script state number (x ∷ rest) said goes none = absurd (omega arith)

pub goes_begun : (loads : Request → Option Loaded → Type 0) (before script : List ℕ) (state : State) (number : ℕ) (rest said : List ℕ) → Goes loads before script state number rest said → length rest ≡ 0 → SaidBegun loads before script said
goes_begun loads before script state number [] said goes none = (goes.done ++ [], goes.begun [] refl, goes.grown ∙ ap (λ s. before ++ s) (sym (append-nil goes.done)))
goes_begun loads before script state number (x ∷ rest) said goes none = absurd (omega arith)

-- what begins the transcript is a part of it
pub said_part : (loads : Request → Option Loaded → Type 0) → IsOneLoad loads → (before script said : List ℕ) → SaidBegun loads before script said → (text : List ℕ) → Transcript loads empty 1 (lines script) text → SaysPart before said text
said_part loads one before script said (part, begins, grown) text whole =
    let rest = begins_transcript loads one empty 1 (lines script) part text begins whole in
    (part, rest.0, rest.1, grown)

-- a fact of every error
pub on_err : {A B : Type 0} (r : Result A B) (P : Type 0) → P → OnErr r P
on_err (Ok x) P p = tt
on_err (Err e) P p = p
