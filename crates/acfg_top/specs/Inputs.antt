-- Input files in the order of words: the first that isn't there, and then the first that isn't accepted.
use Rattle.std.specs.Prelude.{◌≡◌, ◌⊎◌, ℕ, List, [], ◌∷◌, Option, None, Some, Result, Ok, Err, codes}
use Rattle.std.specs.List.{AllZip}
use Rattle.acfg_device.specs.Panel.{Files}
use Rattle.acfg_top.specs.Outcome.{Outcome, Refused}

-- a file that is there, and its bytes
pub record Given : Type 0 where
  pub name : List ℕ
  pub bytes : List ℕ

-- a file in front of others: all of them, or the name of the first one that isn't there
abbrev pub with_found : List ℕ → Option (List ℕ) → Result (List Given) (List ℕ) → Result (List Given) (List ℕ)
with_found name None rest = Err name
with_found name (Some bytes) (Ok inputs) = Ok (record { name = name; bytes = bytes } ∷ inputs)
with_found name (Some bytes) (Err missing) = Err missing

-- the files of these names, or the name of the first one that isn't there
abbrev pub inputs_in : Files → List (List ℕ) → Result (List Given) (List ℕ)
inputs_in files [] = Ok []
inputs_in files (name ∷ names) = with_found name (files name) (inputs_in files names)

-- all files are there, and this follows from them; or the first one is missing
abbrev pub WithInputs : Result (List Given) (List ℕ) → (List Given → Outcome → Type 0) → Outcome → Type 0
WithInputs (Err missing) follows outcome = outcome ≡ Refused missing (codes "missing")
WithInputs (Ok inputs) follows outcome = follows inputs outcome

-- Something is refused, by the name and for the reason that are told; or it is accepted as something, and this follows
-- from that.
abbrev pub Judged : {X : Type 0} → (List ℕ → List ℕ → Type 0) → (X → Type 0) → (X → Outcome → Type 0) → Outcome → Type 0
Judged {X} refuses accepts follows outcome =
    ((file what : List ℕ) × refuses file what × (outcome ≡ Refused file what))
    ⊎ ((x : X) × accepts x × follows x outcome)

module _ {X : Type 0} (accepts : Given → X → Type 0) (refuses : Given → List ℕ → Type 0) where
  -- each of the inputs is accepted, in their order
  abbrev pub AreAccepted : List Given → List X → Type 0
  AreAccepted inputs xs = AllZip accepts inputs xs

  -- the first input that is refused, and why; those before it are accepted
  abbrev pub FirstRefused : List Given → List ℕ → List ℕ → Type 0
  FirstRefused [] file what = ⊥
  FirstRefused (input ∷ inputs) file what =
      ((file ≡ input.name) × refuses input what) ⊎ (((x : X) × accepts input x) × FirstRefused inputs file what)
