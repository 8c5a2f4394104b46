-- What any request promises of a store: the step of the machine, on the directory.
use Rattle.std.specs.Prelude.{◌≡◌, ⊤, ℕ, List, Bool, IsTrue, Option}
use Rattle.acfg_device.specs.Panel.{Files}
use Rattle.acfg_model.specs.declared.requests.Loaded.{Loaded}
use Rattle.acfg_model.specs.declared.requests.Reply.{Reply}
use Rattle.acfg_model.specs.declared.requests.Request.{Request}
use Rattle.acfg_model.specs.declared.requests.Request.TheVariants.{Update, Server, Local, Unset, Boot, Get}
use Rattle.acfg_model.specs.State.{State}
use Rattle.acfg_model.specs.Step.{step}
use Rattle.acfg_store.specs.Applied.{IsMade, LeavesBetween, state_in}
use Rattle.acfg_store.specs.Loading.{image_load}
use Rattle.acfg_store.specs.Store.{StoreView}

-- The store and the reply that a request makes: those of one step with what is loaded for it. Where the files are told,
-- that is what they hold.
pub record IsAnswered (tells : Bool) (files : Files) (store : StoreView) (request : Request) (made : StoreView)
    (reply : Reply) : Type 0 where
  pub loaded : Option Loaded
  pub of : IsTrue tells → loaded ≡ image_load files request
  pub makes : IsMade store (step (state_in store) request loaded) made reply

-- the state that a request leads to
abbrev pub state_after : Files → StoreView → Request → State
state_after files store request = (step (state_in store) request (image_load files request)).0

-- What a cut leaves on the way: the old state, or what is persistent of the new one with each boot copy old or new.
abbrev pub LeavesOnTheWay : (files : Files) (spoken : List ℕ) (store : StoreView) → Request → (left : Files)
    (said : List ℕ) → Type 0
LeavesOnTheWay files spoken store request = LeavesBetween files spoken store (state_after files store request)

-- The request is answered by one commit at most, or by two whose memory is taken before the first: so it is written
-- whole, or memory is refused before anything is.
abbrev pub TakesMemoryFirst : Request → Type 0
TakesMemoryFirst (Update name folder) = ⊤
TakesMemoryFirst (Server name «package» flag value) = ⊤
TakesMemoryFirst (Local name «package» flag value now) = ⊤
TakesMemoryFirst (Unset name «package» flag now) = ⊤
TakesMemoryFirst Boot = ⊥
TakesMemoryFirst (Get name «package» flag) = ⊤
