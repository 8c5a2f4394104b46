-- The transcript of a script: one line for each of its lines, in order, as the machine answers.
use Rattle.std.specs.Prelude.{◌≡◌, ℕ, ◌+◌, ◌⊎◌, List, [], ◌∷◌, ◌++◌, Option, codes}
use Rattle.std.specs.Fmt.{decimal}
use Rattle.acfg_base.specs.Bytes.{line_feed}
use Rattle.acfg_model.specs.declared.refusals.Refusal.TheVariants as refusal
use Rattle.acfg_model.specs.declared.requests.Loaded.{Loaded}
use Rattle.acfg_model.specs.declared.requests.Reply.{Reply}
use Rattle.acfg_model.specs.declared.requests.Reply.TheVariants.{Refused}
use Rattle.acfg_model.specs.declared.requests.Request.{Request}
use Rattle.acfg_model.specs.Refusals.{number_of}
use Rattle.acfg_model.specs.State.{State}
use Rattle.acfg_model.specs.Step.{step}
use Rattle.acfg_daemon.specs.Requests.{Spells}
use Rattle.acfg_daemon.specs.Replies.{reply_line}
use Rattle.acfg_daemon.specs.Lines.{Event, Complete, TooLong, BadLine, IsEvent}

-- the refusal of bytes that are no request
abbrev pub bad_request : Reply
bad_request = Refused (number_of refusal.BadRequest)

-- the refusal of a request that is over its most bytes
abbrev pub too_long : Reply
too_long = Refused (number_of refusal.TooLong)

-- the line that tells a bad line by its number
abbrev pub bad_line : ℕ → List ℕ
bad_line number = codes "? bad-line " ++ decimal number ++ line_feed ∷ []

-- Whatever is loaded for a request. A rehearsal loads declarations (`Sources`), and a replay on a directory image sets
-- (`Replayed`).
module _ (loads : Request → Option Loaded → Type 0) where
  -- a request's text is answered by one step of the machine with what is loaded for it, and a text of no request is
  -- refused
  abbrev pub Serves : State → List ℕ → State → Reply → Type 0
  Serves state text after reply =
      ((request : Request) × (loaded : Option Loaded) × Spells text request × loads request loaded
      × (step state request loaded ≡ (after, reply)))
      ⊎ (((request : Request) → Spells text request → ⊥) × (after ≡ state) × (reply ≡ bad_request))

  -- what is said to an event, and the state after it
  abbrev pub EventSays : State → Event → State → List ℕ → Type 0
  EventSays state (Complete client text) after said =
      (reply : Reply) × Serves state text after reply × (said ≡ reply_line client reply)
  EventSays state (TooLong client) after said = (after ≡ state) × (said ≡ reply_line client too_long)
  EventSays state (BadLine number) after said = (after ≡ state) × (said ≡ bad_line number)

  -- what is said to the line of a number, and the state after it
  abbrev pub LineSays : State → ℕ → List ℕ → State → List ℕ → Type 0
  LineSays state number line after said =
      (event : Event) × IsEvent number line event × EventSays state event after said

  -- The transcript of lines from a state on, the first of them with this number: each line meets the state that the one
  -- before it left.
  abbrev pub Transcript : State → ℕ → List (List ℕ) → List ℕ → Type 0
  Transcript state number [] text = text ≡ []
  Transcript state number (line ∷ lines) text =
      (after : State) × (said : List ℕ) × (rest : List ℕ) × LineSays state number line after said
      × Transcript after (number + 1) lines rest × (text ≡ said ++ rest)

  -- nothing is said to a line yet, or the first part of what is said to it
  abbrev pub BeginsLine : State → ℕ → List ℕ → List ℕ → Type 0
  BeginsLine state number line text =
      (text ≡ [])
      ⊎ ((after : State) × (said : List ℕ) × (rest : List ℕ) × LineSays state number line after said
      × (said ≡ text ++ rest))

  -- the first part of the transcript of lines: whole lines said, and then the first part of one
  abbrev pub Begins : State → ℕ → List (List ℕ) → List ℕ → Type 0
  Begins state number [] text = text ≡ []
  Begins state number (line ∷ lines) text =
      BeginsLine state number line text
      ⊎ ((after : State) × (said : List ℕ) × (rest : List ℕ) × LineSays state number line after said
      × Begins after (number + 1) lines rest × (text ≡ said ++ rest))

  -- Lines in their order lead from a state to another, and these words are said to them; the first of them has this
  -- number.
  abbrev pub Runs : State → ℕ → List (List ℕ) → State → List ℕ → Type 0
  Runs state number [] after text = (after ≡ state) × (text ≡ [])
  Runs state number (line ∷ lines) after text =
      (middle : State) × (said : List ℕ) × (rest : List ℕ) × LineSays state number line middle said
      × Runs middle (number + 1) lines after rest × (text ≡ said ++ rest)
