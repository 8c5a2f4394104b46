-- Private: how the machine keeps its containers, in order of their names.
use Rattle.std.specs.Prelude.{ℕ, List, Result, Ok, Err}
use Rattle.acfg_base.specs.Places.{AreInOrder, map_of}
use Rattle.acfg_model.specs.declared.machines.NamedContainer.{NamedContainer}
use Rattle.acfg_model.specs.declared.refusals.Refusal.{Refusal}
use Rattle.acfg_model.specs.declared.requests.Reply.{Reply}
use Rattle.acfg_model.specs.declared.requests.Reply.TheVariants.{Fine, Refused}
use Rattle.acfg_model.specs.State.{State, name_cmp, IsValid}
use Rattle.acfg_model.specs.Refusals.{number_of}
use Rattle.acfg_model.specs.Step.{booted}

abbrev pub kept_name : NamedContainer → List ℕ
kept_name named = named.name

abbrev pub state_of : List NamedContainer → State
state_of list = map_of name_cmp kept_name list (λ named. named.container)

-- the containers are in order, and the state that they make is valid
pub record IsKept (list : List NamedContainer) : Type 0 where
  pub order : AreInOrder name_cmp kept_name list
  pub valid : IsValid (state_of list)

abbrev pub booted_named : NamedContainer → NamedContainer
booted_named named = record { name = named.name; container = booted named.container }

-- the reply to a change of one container
abbrev pub reply_of : {A : Type 0} → Result A Refusal → Reply
reply_of (Ok done) = Fine
reply_of (Err why) = Refused (number_of why)
