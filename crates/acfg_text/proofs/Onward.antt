-- Texts read field by field.
use Rattle.std.proofs.Common.{◌≡◌, ℕ, ◌-◌, ◌<◌, true, List, [], ◌∷◌, ◌++◌, length, map, drop, Ok, Err, refl, sym, ap, ◌∙◌, subst, arith}
use Rattle.std.specs.Prelude.{◌≤◌, Option, Some, IfSome}
use Rattle.std.proofs.lemmas.List.{append_assoc, append-nil, length-drop, length-map}
use Rattle.acfg_text.specs.declared.classes.Class.{Class}
use Rattle.acfg_text.specs.declared.classes.Class.TheVariants as c
use Rattle.acfg_text.specs.declared.terminals.Seen.{Seen}
use Rattle.acfg_text.specs.declared.tree.Item.{Item}
use Rattle.acfg_text.specs.declared.fault.TextWhat.{TextWhat}
use Rattle.acfg_text.specs.declared.fault.TextWhat.TheVariants.{Unexpected}
use Rattle.acfg_text.specs.Trees.{tree}
use Rattle.acfg_text.specs.Terminals.{Lexeme, Terminal, terminal_of}
use Rattle.acfg_text.specs.Machine.{at_field, st, fault, step_at, run, begin}
use Rattle.acfg_text.specs.Reading.{cursor, terminal_at, ahead, seen_of, IsNext, NoField, ReadsField, FailsAll, FailsNext, ReadsAll}
use Rattle.acfg_text.specs.Progress.{Rest, rest_of, HasRead, Reads, IsAll, IsReadable, Fails}
use Rattle.acfg_text.proofs.Parts.{fails_step}
use Rattle.acfg_text.proofs.Wholes.{refuses, spells}

-- a token that begins no field stands where one is due
stray_class : (class : Class) (t : Terminal) (items : List Item) → (class ≡ c.Word → ⊥) → step_at true at_field class t items [] ≡ Err (fault t.place Unexpected)
stray_class c.Word t items other = absurd (other refl)
stray_class _ t items other = refl

pub stray : (tokens : List Lexeme) (end at : ℕ) (t : Seen) → NoField (ahead tokens at) → IsNext tokens at t → FailsNext tokens end at t.place Unexpected
stray tokens end at t none next items =
    let other : t.class ≡ c.Word → ⊥ = subst NoField next none in
    fails_step tokens end at t (st at_field items []) t.place Unexpected next (stray_class t.class (seen_of t) items other)

module _ (tokens : List Lexeme) (end at : ℕ) (rest : Rest) (is : rest ≡ rest_of tokens end at) where
  read_to : (text : List ℕ) (items : List Item) → HasRead text items rest → HasRead text items (rest_of tokens end at)
  read_to text items read = subst (λ r. HasRead text items r) is read

  -- one more field
  pub reads_next : (next : ℕ) (field : Item) → ReadsField (cursor tokens end 0 at) field next → Reads rest field (rest_of tokens end next)
  reads_next next field reads text items read =
      let h : HasRead text items (rest_of tokens end at) = read_to text items read in
      record { found = h.found; lexes = h.lexes; ends = h.ends; leads = h.leads ∙ reads items [] refl }

  -- none is left
  pub reads_all : ahead tokens at ≡ [] → IsAll rest
  unfolding run
  reads_all none text items read =
      let h : HasRead text items (rest_of tokens end at) = read_to text items read in
      let whole : run true end (map terminal_of h.found) begin ≡ Ok items = h.leads ∙ ap (λ l. run true end l (st at_field items [])) none in
      spells text h.found items (tree items (length text)) h.lexes (subst (λ e. ReadsAll h.found e items) h.ends whole) refl

  pub fails_next : (place : ℕ) (what : TextWhat) → FailsNext tokens end at place what → Fails rest place what
  fails_next place what fails text items read =
      let h : HasRead text items (rest_of tokens end at) = read_to text items read in
      refuses text h.found place what h.lexes (subst (λ e. FailsAll h.found e place what) h.ends (h.leads ∙ fails items))

  -- less is left
  pub less_left : (next : ℕ) → at < next → next ≤ length tokens → length (ahead tokens next) < length rest.ahead
  less_left next further within =
      let before : length rest.ahead ≡ length tokens - at = ap (λ r. length r.ahead) is ∙ length-map (drop at tokens) terminal_at ∙ length-drop at tokens in
      let after : length (ahead tokens next) ≡ length tokens - next = length-map (drop next tokens) terminal_at ∙ length-drop next tokens in
      omega (arith, before, after)

-- from where one reads on, fields lead to there
abbrev pub LeadsTo : Rest → Rest → Type 0
LeadsTo from to = (text : List ℕ) (items : List Item) → HasRead text items from → (more : List Item) × HasRead text (items ++ more) to

pub leads_here : (rest : Rest) → LeadsTo rest rest
leads_here rest text items read = ([], subst (λ i. HasRead text i rest) (sym (append-nil items)) read)

pub leads_on : (from to next : Rest) (field : Item) → LeadsTo from to → Reads to field next → LeadsTo from next
leads_on from to next field leads reads text items read =
    let far : (more : List Item) × HasRead text (items ++ more) to = leads text items read in
    (far.0 ++ field ∷ [], subst (λ i. HasRead text i next) (append_assoc items far.0 (field ∷ [])) (reads text (items ++ far.0) far.1))

pub leads_to_all : (from to : Rest) → LeadsTo from to → IsAll to → IsReadable from
leads_to_all from to leads all text items read =
    let far : (more : List Item) × HasRead text (items ++ more) to = leads text items read in
    (far.0, all text (items ++ far.0) far.1)

pub leads_to_fault : (from to : Rest) (place : ℕ) (what : TextWhat) → LeadsTo from to → Fails to place what → Fails from place what
leads_to_fault from to place what leads fails text items read =
    let far : (more : List Item) × HasRead text (items ++ more) to = leads text items read in
    fails text (items ++ far.0) far.1

-- where a field is there, the number of the token behind it is within what was said
pub within_some : {at bound : ℕ} {read : Option (Item × ℕ)} (one : Item × ℕ) → read ≡ Some one → IfSome read (λ r. (at < r.1) × (r.1 ≤ bound)) → (at < one.1) × (one.1 ≤ bound)
within_some {at} {bound} one is told = subst (λ (o : Option (Item × ℕ)). IfSome o (λ r. (at < r.1) × (r.1 ≤ bound))) is told
