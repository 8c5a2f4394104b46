-- Each refusal that a step replies with is in the table.
use Rattle.std.proofs.Common.{◌≡◌, ℕ, Bool, true, false, cond, List, Option, None, Some, Result, Ok, Err, bytes_eq, refl, subst, ap}
use Rattle.std.specs.Prelude.{nat_le}
use Rattle.std.specs.FinMap.{get, insert, len}
use Rattle.acfg_base.specs.Release.{ReleaseMap}
use Rattle.acfg_model.specs.declared.refusals.Refusal.{Refusal}
use Rattle.acfg_model.specs.declared.refusals.Refusal.TheVariants as refusal
use Rattle.acfg_model.specs.declared.requests.Loaded.{Loaded}
use Rattle.acfg_model.specs.declared.requests.Loaded.TheVariants.{Missing, Bad, Disagree, Release}
use Rattle.acfg_model.specs.declared.requests.Reply.{Reply}
use Rattle.acfg_model.specs.declared.requests.Request.{Request}
use Rattle.acfg_model.specs.declared.requests.Request.TheVariants.{Update, Server, Local, Unset, Boot, Get}
use Rattle.acfg_model.specs.State.{Container, State, most_containers}
use Rattle.acfg_model.specs.Step.{replaced, value_reply, release_step, refused, with_release, fresh, step}
use Rattle.acfg_model.specs.declared.requests.Reply.TheVariants.{Updated, Unchanged}
use Rattle.acfg_daemon.specs.Replies.{IsNumbered}

replaced_numbered : (state : State) (name : List ℕ) (made : Option (Result Container Refusal)) → IsNumbered (replaced state name made).1
replaced_numbered state name None = (refusal.UnknownContainer, refl)
replaced_numbered state name (Some (Ok container)) = tt
replaced_numbered state name (Some (Err why)) = (why, refl)

value_numbered : (value : Option (Result (Option Bool) Refusal)) → IsNumbered (value_reply value)
value_numbered None = (refusal.UnknownContainer, refl)
value_numbered (Some (Ok value)) = tt
value_numbered (Some (Err why)) = (why, refl)

-- a choice of two answers
chosen : (b : Bool) (one other : State × Reply) → IsNumbered one.1 → IsNumbered other.1 → IsNumbered (cond b one other).1
chosen true one other p q = p
chosen false one other p q = q

release_numbered : (state : State) (name digest : List ℕ) (release : ReleaseMap) (there : Option Container) → IsNumbered (release_step state name digest release there).1
release_numbered state name digest release (Some c) =
    chosen (bytes_eq c.digest digest) (state, Unchanged) (insert state name (with_release c digest release), Updated digest (len release)) tt tt
release_numbered state name digest release None =
    chosen (nat_le most_containers (len state)) (refused state refusal.TooManyContainers) (insert state name (fresh digest release), Updated digest (len release)) (refusal.TooManyContainers, refl) tt

step_numbered : (state : State) (request : Request) (loaded : Option Loaded) → IsNumbered (step state request loaded).1
step_numbered state (Update name dir) None = (refusal.MissingFile, refl)
step_numbered state (Update name dir) (Some Missing) = (refusal.MissingFile, refl)
step_numbered state (Update name dir) (Some Bad) = (refusal.BadImage, refl)
step_numbered state (Update name dir) (Some Disagree) = (refusal.FilesDisagree, refl)
step_numbered state (Update name dir) (Some (Release digest release)) = release_numbered state name digest release (get state name)
step_numbered state (Server name «package» flag value) loaded = replaced_numbered state name _
step_numbered state (Local name «package» flag value now) loaded = replaced_numbered state name _
step_numbered state (Unset name «package» flag now) loaded = replaced_numbered state name _
step_numbered state Boot loaded = tt
step_numbered state (Get name «package» flag) loaded = value_numbered _

pub numbered : (state : State) (request : Request) (loaded : Option Loaded) (after : State) (reply : Reply) → step state request loaded ≡ (after, reply) → IsNumbered reply
numbered state request loaded after reply is = subst IsNumbered (ap (λ (p : State × Reply). p.1) is) (step_numbered state request loaded)
