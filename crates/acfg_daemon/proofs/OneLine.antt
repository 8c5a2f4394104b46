-- A script has one transcript, where one thing at most is loaded for a request.
use Rattle.std.proofs.Common.{◌≡◌, ℕ, ◌+◌, Bool, true, false, List, [], ◌∷◌, ◌++◌, length, Option, refl, sym, ◌∙◌, ap, ap₂, subst, inl, inr, arith, append_assoc}
use Rattle.acfg_base.specs.Words.{bool_word}
use Rattle.acfg_model.specs.declared.requests.Loaded.{Loaded}
use Rattle.acfg_model.specs.declared.requests.Reply.{Reply}
use Rattle.acfg_model.specs.declared.requests.Request.{Request}
use Rattle.acfg_model.specs.declared.requests.Request.TheVariants.{Update, Server, Local, Unset, Boot, Get}
use Rattle.acfg_model.specs.State.{State}
use Rattle.acfg_model.specs.Step.{step}
use Rattle.acfg_daemon.specs.Requests.{words_of, Spells}
use Rattle.acfg_daemon.specs.Replies.{reply_line}
use Rattle.acfg_daemon.specs.Lines.{Event, Complete, TooLong, BadLine, IsEvent}
use Rattle.acfg_daemon.specs.Transcript.{Serves, EventSays, LineSays, Transcript, Begins, Runs}
use Rattle.acfg_daemon.proofs.Clients.{good_unique}
use Rattle.acfg_daemon.proofs.Words.{words_from_spelled}

event_unique : (number : ℕ) (line : List ℕ) (one other : Event) → IsEvent number line one → IsEvent number line other → one ≡ other
event_unique number line (Complete a s) (Complete b t) one other = let same = good_unique line a b s t one.0 other.0 in ap₂ Complete same.0 same.1
event_unique number line (Complete a s) (TooLong b) one other = let same = good_unique line a b s other.0 one.0 other.1 in absurd (omega (arith, ap length same.1, one.1, other.2))
event_unique number line (Complete a s) (BadLine m) one other = absurd (other.1 a s one.0)
event_unique number line (TooLong a) (Complete b t) one other = let same = good_unique line a b one.0 t one.1 other.0 in absurd (omega (arith, ap length same.1, one.2, other.1))
event_unique number line (TooLong a) (TooLong b) one other = ap TooLong (good_unique line a b one.0 other.0 one.1 other.1).0
event_unique number line (TooLong a) (BadLine m) one other = absurd (other.1 a one.0 one.1)
event_unique number line (BadLine n) (Complete b t) one other = absurd (one.1 b t other.0)
event_unique number line (BadLine n) (TooLong b) one other = absurd (one.1 b other.0 other.1)
event_unique number line (BadLine n) (BadLine m) one other = ap BadLine (one.0 ∙ sym other.0)

value_unique : (a b : Bool) → bool_word a ≡ bool_word b → a ≡ b
value_unique true true same = refl
value_unique true false same = cc
value_unique false true same = cc
value_unique false false same = refl

words_unique : (one other : Request) → words_of one ≡ words_of other → one ≡ other
words_unique (Update name dir) (Update n d) same = cc
words_unique (Update name dir) (Local n p f v true) same = cc
words_unique (Update name dir) (Local n p f v false) same = cc
words_unique (Update name dir) (Unset n p f true) same = cc
words_unique (Update name dir) (Unset n p f false) same = cc
words_unique (Update name dir) other same = cc
words_unique (Server name «package» flag value) (Server n p f v) same = let value_same = value_unique value v (cc) in cc
words_unique (Server name «package» flag value) (Local n p f v true) same = cc
words_unique (Server name «package» flag value) (Local n p f v false) same = cc
words_unique (Server name «package» flag value) (Unset n p f true) same = cc
words_unique (Server name «package» flag value) (Unset n p f false) same = cc
words_unique (Server name «package» flag value) other same = cc
words_unique (Local name «package» flag value true) (Local n p f v true) same = let value_same = value_unique value v (cc) in cc
words_unique (Local name «package» flag value true) (Local n p f v false) same = cc
words_unique (Local name «package» flag value true) (Unset n p f true) same = cc
words_unique (Local name «package» flag value true) (Unset n p f false) same = cc
words_unique (Local name «package» flag value true) other same = cc
words_unique (Local name «package» flag value false) (Local n p f v false) same = let value_same = value_unique value v (cc) in cc
words_unique (Local name «package» flag value false) (Local n p f v true) same = cc
words_unique (Local name «package» flag value false) (Unset n p f true) same = cc
words_unique (Local name «package» flag value false) (Unset n p f false) same = cc
words_unique (Local name «package» flag value false) other same = cc
words_unique (Unset name «package» flag true) (Unset n p f true) same = cc
words_unique (Unset name «package» flag true) (Local n p f v true) same = cc
words_unique (Unset name «package» flag true) (Local n p f v false) same = cc
words_unique (Unset name «package» flag true) (Unset n p f false) same = cc
words_unique (Unset name «package» flag true) other same = cc
words_unique (Unset name «package» flag false) (Unset n p f false) same = cc
words_unique (Unset name «package» flag false) (Local n p f v true) same = cc
words_unique (Unset name «package» flag false) (Local n p f v false) same = cc
words_unique (Unset name «package» flag false) (Unset n p f true) same = cc
words_unique (Unset name «package» flag false) other same = cc
words_unique Boot Boot same = refl
words_unique Boot (Local n p f v true) same = cc
words_unique Boot (Local n p f v false) same = cc
words_unique Boot (Unset n p f true) same = cc
words_unique Boot (Unset n p f false) same = cc
words_unique Boot other same = cc
words_unique (Get name «package» flag) (Get n p f) same = cc
words_unique (Get name «package» flag) (Local n p f v true) same = cc
words_unique (Get name «package» flag) (Local n p f v false) same = cc
words_unique (Get name «package» flag) (Unset n p f true) same = cc
words_unique (Get name «package» flag) (Unset n p f false) same = cc
words_unique (Get name «package» flag) other same = cc

-- a text spells one request
pub spells_unique : (text : List ℕ) (one other : Request) → Spells text one → Spells text other → one ≡ other
spells_unique text one other a b = words_unique one other (sym (words_from_spelled text one a).same ∙ (words_from_spelled text other b).same)

-- one thing at most is loaded for a request
abbrev pub IsOneLoad : (Request → Option Loaded → Type 0) → Type 0
IsOneLoad loads = (request : Request) (one other : Option Loaded) → loads request one → loads request other → one ≡ other

module _ (loads : Request → Option Loaded → Type 0) (one_load : IsOneLoad loads) where
  serves_unique : (state : State) (text : List ℕ) (after after' : State) (reply reply' : Reply) → Serves loads state text after reply → Serves loads state text after' reply' → (after ≡ after') × (reply ≡ reply')
  serves_unique state text after after' reply reply' one other = elim one [
    | inl (request, loaded, spells, loaded_is, steps) ↦ elim other [
      | inl (request', loaded', spells', loaded_is', steps') ↦
          let same = spells_unique text request request' spells spells' in
          let loaded_same = one_load request' loaded loaded' (subst (λ r. loads r loaded) same loaded_is) loaded_is' in
          let answers = sym steps ∙ ap (λ r. step state r loaded) same ∙ ap (step state request') loaded_same ∙ steps' in
          (ap (λ (p : State × Reply). p.0) answers, ap (λ (p : State × Reply). p.1) answers)
      | inr (none, kept, refused) ↦ absurd (none request spells)
    ]
    | inr (none, kept, refused) ↦ elim other [
      | inl (request', loaded', spells', loaded_is', steps') ↦ absurd (none request' spells')
      | inr (none', kept', refused') ↦ (kept ∙ sym kept', refused ∙ sym refused')
    ]
  ]

  says_unique : (state : State) (event : Event) (after after' : State) (said said' : List ℕ) → EventSays loads state event after said → EventSays loads state event after' said' → (after ≡ after') × (said ≡ said')
  says_unique state (Complete client text) after after' said said' one other =
      let same = serves_unique state text after after' one.0 other.0 one.1 other.1 in
      (same.0, one.2 ∙ ap (reply_line client) same.1 ∙ sym other.2)
  says_unique state (TooLong client) after after' said said' one other = (one.0 ∙ sym other.0, one.1 ∙ sym other.1)
  says_unique state (BadLine number) after after' said said' one other = (one.0 ∙ sym other.0, one.1 ∙ sym other.1)

  -- a line is answered in one way
  pub line_unique : (state : State) (number : ℕ) (line : List ℕ) (after after' : State) (said said' : List ℕ) → LineSays loads state number line after said → LineSays loads state number line after' said' → (after ≡ after') × (said ≡ said')
  line_unique state number line after after' said said' one other =
      let same = event_unique number line one.0 other.0 one.1 other.1 in
      says_unique state other.0 after after' said said' (subst (λ event. EventSays loads state event after said) same one.2) other.2

  pub one_transcript : (state : State) (number : ℕ) (lines : List (List ℕ)) (text other : List ℕ) → Transcript loads state number lines text → Transcript loads state number lines other → text ≡ other
  one_transcript state number [] text other a b = a ∙ sym b
  one_transcript state number (line ∷ lines) text other (after, said, rest, says, more, whole) (after', said', rest', says', more', whole') =
      let same = line_unique state number line after after' said said' says says' in
      let rest_same = one_transcript after' (number + 1) lines rest rest' (subst (λ s. Transcript loads s (number + 1) lines rest) same.0 more) more' in
      whole ∙ ap₂ ◌++◌ same.1 rest_same ∙ sym whole'

  pub begins_transcript : (state : State) (number : ℕ) (lines : List (List ℕ)) (part text : List ℕ) → Begins loads state number lines part → Transcript loads state number lines text → (rest : List ℕ) × (text ≡ part ++ rest)
  begins_transcript state number [] part text begins whole = ([], whole ∙ ap (λ p. p ++ []) (sym begins))
  begins_transcript state number (line ∷ lines) part text begins (after, said, rest, says, more, whole) = elim begins [
    | inl first ↦ elim first [
      | inl none ↦ (text, ap (λ p. p ++ text) (sym none))
      | inr (after', said', left, says', is) ↦
          let same = line_unique state number line after after' said said' says says' in
          (left ++ rest, whole ∙ ap (λ s. s ++ rest) (same.1 ∙ is) ∙ append_assoc part left rest)
    ]
    | inr (after', said', rest', says', begins', is) ↦
        let same = line_unique state number line after after' said said' says says' in
        let left = begins_transcript after' (number + 1) lines rest' rest begins' (subst (λ s. Transcript loads s (number + 1) lines rest) same.0 more) in
        (left.0, whole ∙ ap₂ ◌++◌ same.1 left.1 ∙ sym (append_assoc said' rest' left.0) ∙ ap (λ s. s ++ left.0) (sym is))
  ]

  pub whole_begins : (state : State) (number : ℕ) (lines : List (List ℕ)) (text : List ℕ) → Transcript loads state number lines text → Begins loads state number lines text
  whole_begins state number [] text whole = whole
  whole_begins state number (line ∷ lines) text (after, said, rest, says, more, whole) = inr (after, said, rest, says, whole_begins after (number + 1) lines rest more, whole)

  -- lines lead to one state, and one text is said to them
  pub runs_unique : (state : State) (number : ℕ) (lines : List (List ℕ)) (after other : State) (text said : List ℕ) → Runs loads state number lines after text → Runs loads state number lines other said → (after ≡ other) × (text ≡ said)
  runs_unique state number [] after other text said (same, none) (same', none') = (same ∙ sym same', none ∙ sym none')
  runs_unique state number (line ∷ lines) after other text said (middle, spoken, rest, says, more, is) (middle', spoken', rest', says', more', is') =
      let same = line_unique state number line middle middle' spoken spoken' says says' in
      let behind = runs_unique middle' (number + 1) lines after other rest rest' (subst (λ s. Runs loads s (number + 1) lines after rest) same.0 more) more' in
      (behind.0, is ∙ ap₂ ◌++◌ same.1 behind.1 ∙ sym is')

-- what is said to lines is their transcript
pub runs_transcript : (loads : Request → Option Loaded → Type 0) (state : State) (number : ℕ) (lines : List (List ℕ)) (after : State) (text : List ℕ) → Runs loads state number lines after text → Transcript loads state number lines text
runs_transcript loads state number [] after text (same, none) = none
runs_transcript loads state number (line ∷ lines) after text (middle, spoken, rest, says, more, is) = (middle, spoken, rest, says, runs_transcript loads middle (number + 1) lines after rest more, is)

-- and a transcript leads to a state
pub transcript_runs : (loads : Request → Option Loaded → Type 0) (state : State) (number : ℕ) (lines : List (List ℕ)) (text : List ℕ) → Transcript loads state number lines text → (after : State) × Runs loads state number lines after text
transcript_runs loads state number [] text none = (state, (refl, none))
transcript_runs loads state number (line ∷ lines) text (middle, spoken, rest, says, more, is) =
    let behind = transcript_runs loads middle (number + 1) lines rest more in
    (behind.0, (middle, spoken, rest, says, behind.1, is))
