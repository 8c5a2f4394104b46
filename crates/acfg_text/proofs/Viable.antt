-- Tokens begin some form exactly where the machine reads them, of any depth and with texts of any bytes.
use Rattle.std.proofs.Common.{◌≡◌, ℕ, Bool, false, List, [], ◌∷◌, ◌++◌, Result, Ok, Err, refl, sym, ap, ◌∙◌}
use Rattle.acfg_text.specs.declared.classes.Class.{Class}
use Rattle.acfg_text.specs.declared.classes.Class.TheVariants as c
use Rattle.acfg_text.specs.declared.classes.Bracket.TheVariants.{Curly}
use Rattle.acfg_text.specs.declared.tree.Item.{Item}
use Rattle.acfg_text.specs.declared.tree.Value.{Value}
use Rattle.acfg_text.specs.declared.tree.Value.TheVariants as v
use Rattle.acfg_text.specs.Trees.{tree}
use Rattle.acfg_text.specs.Terminals.{Terminal, terminal}
use Rattle.acfg_text.specs.Grammar.{Begins}
use Rattle.acfg_text.specs.Machine.{Head, Slot, single, among, Frame, Mode, at_field, behind_field, behind_name, behind_colon, in_list, at_item, behind_item, in_text, State, st, Fault, plain_item, listed_item, settle, opened, frame, step, carry, run, walk, begin}
use Rattle.acfg_text.proofs.Leading.{same_itself, form_run}
use Rattle.acfg_text.proofs.Resting.{run_form}

pub carry_assoc : {A : Type 0} (r : Result State Fault) (f : State → Result State Fault) (g : State → Result A Fault) → carry (carry r f) g ≡ carry r (λ s. carry (f s) g)
carry_assoc (Ok s) f g = refl
carry_assoc (Err e) f g = refl

carry_same : {A : Type 0} (r : Result State Fault) (f g : State → Result A Fault) → ((s : State) → f s ≡ g s) → carry r f ≡ carry r g
carry_same (Ok s) f g each = each s
carry_same (Err e) f g each = refl

pub walk_append : (strict : Bool) (a b : List Terminal) (s : State) → walk strict (a ++ b) s ≡ carry (walk strict a s) (λ r. walk strict b r)
unfolding walk
walk_append strict [] b s = refl
walk_append strict (t ∷ a) b s =
    carry_same (step strict s t) (λ q. walk strict (a ++ b) q) (λ q. carry (walk strict a q) (λ r. walk strict b r)) (λ q. walk_append strict a b q) ∙ sym (carry_assoc (step strict s t) (λ q. walk strict a q) (λ r. walk strict b r))

pub run_append : (strict : Bool) (end : ℕ) (a b : List Terminal) (s : State) → run strict end (a ++ b) s ≡ carry (walk strict a s) (λ r. run strict end b r)
unfolding walk run
run_append strict end [] b s = refl
run_append strict end (t ∷ a) b s =
    carry_same (step strict s t) (λ q. run strict end (a ++ b) q) (λ q. carry (walk strict a q) (λ r. run strict end b r)) (λ q. run_append strict end a b q) ∙ sym (carry_assoc (step strict s t) (λ q. walk strict a q) (λ r. run strict end b r))

-- one terminal behind others
pub walk_one : (strict : Bool) (a : List Terminal) (t : Terminal) (s : State) → walk strict (a ++ t ∷ []) s ≡ carry (walk strict a s) (λ r. step strict r t)
unfolding walk
walk_one strict a t s = walk_append strict a (t ∷ []) s ∙ carry_same (walk strict a s) (λ r. walk strict (t ∷ []) r) (λ r. step strict r t) (λ r. last (step strict r t))
  where
    last : (r : Result State Fault) → carry r (λ q. Ok q) ≡ r
    last (Ok q) = refl
    last (Err f) = refl

-- a walk that is carried through came to a state
pub carried_ok : {A : Type 0} (r : Result State Fault) (f : State → Result A Fault) (a : A) → carry r f ≡ Ok a → (s : State) × (r ≡ Ok s) × (f s ≡ Ok a)
carried_ok (Ok s) f a e = (s, refl, e)
carried_ok (Err x) f a e = absurd cc

-- closing terminals of what is open
abbrev closer : Class → Terminal
closer class = terminal class 0 []

abbrev behind_slot : Slot → List Terminal → List Terminal
behind_slot single ts = ts
behind_slot (among colon values) ts = closer c.CloseList ∷ ts

abbrev closers : List Frame → List Terminal
closers [] = []
closers (f ∷ frames) = closer (c.Close f.bracket) ∷ behind_slot f.slot (closers frames)

abbrev Closes : List Terminal → State → Type 0
Closes ts s = (items : List Item) × (run false 0 ts s ≡ Ok items)

close_behind : (top : List Item) (frames : List Frame) → Closes (closers frames) (st at_field top frames) → Closes (closers frames) (st behind_field top frames)
unfolding run
close_behind top [] closes = closes
close_behind top (f ∷ frames) closes = closes

close_slot : (h : Head) (slot : Slot) (value : Value) (top : List Item) (frames : List Frame) → ((fields : List Item) → Closes (closers frames) (st at_field fields frames)) → Closes (behind_slot slot (closers frames)) (settle h slot value top frames)
unfolding run
close_slot h single value top frames each = close_behind (top ++ plain_item h value ∷ []) frames (each (top ++ plain_item h value ∷ []))
close_slot h (among colon values) value top frames each =
    close_behind (top ++ listed_item h (values ++ value ∷ []) ∷ []) frames (each (top ++ listed_item h (values ++ value ∷ []) ∷ []))

close_fields : (top : List Item) (frames : List Frame) → Closes (closers frames) (st at_field top frames)
unfolding run
close_fields top [] = (top, refl)
close_fields top (f ∷ frames) =
    let closes : Closes (behind_slot f.slot (closers frames)) (settle f.head f.slot (v.Message f.place (tree top 0)) f.top frames) = close_slot f.head f.slot (v.Message f.place (tree top 0)) f.top frames (λ fields. close_fields fields frames) in
    (closes.0, rw (same_itself f.bracket) closes.1)

open_close : (top : List Item) (h : Head) (slot : Slot) (frames : List Frame) → Closes (closers (frame h slot top 0 Curly ∷ frames)) (opened h slot Curly 0 top frames)
open_close top h slot frames = close_fields [] (frame h slot top 0 Curly ∷ frames)

-- whatever the state is, some terminals complete it
complete : (mode : Mode) (top : List Item) (frames : List Frame) → (ts : List Terminal) × Closes ts (st mode top frames)
unfolding run
complete at_field top frames = (closers frames, close_fields top frames)
complete behind_field top frames = (closers frames, close_behind top frames (close_fields top frames))
complete (behind_name h) top frames = (closer (c.Open Curly) ∷ closers (frame h single top 0 Curly ∷ frames), open_close top h single frames)
complete (behind_colon h) top frames = (closer (c.Open Curly) ∷ closers (frame h single top 0 Curly ∷ frames), open_close top h single frames)
complete (in_list h colon) top frames = (closer c.CloseList ∷ closers frames, close_behind (top ++ listed_item h [] ∷ []) frames (close_fields (top ++ listed_item h [] ∷ []) frames))
complete (at_item h colon values) top frames = (closer (c.Open Curly) ∷ closers (frame h (among colon values) top 0 Curly ∷ frames), open_close top h (among colon values) frames)
complete (behind_item h colon values) top frames = (closer c.CloseList ∷ closers frames, close_behind (top ++ listed_item h values ∷ []) frames (close_fields (top ++ listed_item h values ∷ []) frames))
complete (in_text h single place bytes) top frames = (closer c.Comma ∷ closers frames, close_fields (top ++ plain_item h (v.Text place bytes) ∷ []) frames)
complete (in_text h (among colon values) place bytes) top frames =
    (closer c.CloseList ∷ closers frames, close_behind (top ++ listed_item h (values ++ v.Text place bytes ∷ []) ∷ []) frames (close_fields (top ++ listed_item h (values ++ v.Text place bytes ∷ []) ∷ []) frames))

pub walk_begins : (ts : List Terminal) (s : State) → walk false ts begin ≡ Ok s → Begins ts
walk_begins ts s e =
    let rest : (more : List Terminal) × Closes more s = complete s.mode s.top s.frames in
    let whole : run false 0 (ts ++ rest.0) begin ≡ Ok rest.1.0 = run_append false 0 ts rest.0 begin ∙ ap (λ r. carry r (λ q. run false 0 rest.0 q)) e ∙ rest.1.1 in
    (rest.0, rest.1.0, run_form 0 (ts ++ rest.0) rest.1.0 whole)

pub begins_walk : (ts : List Terminal) → Begins ts → (s : State) × (walk false ts begin ≡ Ok s)
begins_walk ts (more, items, form) =
    let c : (s : State) × (walk false ts begin ≡ Ok s) × (run false 0 more s ≡ Ok items)
    = carried_ok (walk false ts begin) (λ q. run false 0 more q) items (sym (run_append false 0 ts more begin) ∙ form_run 0 (ts ++ more) items form) in
    (c.0, c.1)
