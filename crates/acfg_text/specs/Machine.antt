-- Words of the reader's private contracts and of proofs alone: a machine that reads the grammar's terminals one by one.
use Rattle.std.specs.Prelude.{ℕ, ◌&&◌, not, nat_le, Bool, true, false, List, [], ◌∷◌, ◌++◌, length, Option, Some, None}
use Rattle.std.specs.Prelude.{Result, Ok, Err}
use Rattle.std.specs.Str.{is_utf8}
use Rattle.acfg_text.specs.declared.classes.Bracket.{Bracket}
use Rattle.acfg_text.specs.declared.classes.Bracket.TheVariants.{Curly, Angle}
use Rattle.acfg_text.specs.declared.classes.Class.{Class}
use Rattle.acfg_text.specs.declared.classes.Class.TheVariants as c
use Rattle.acfg_text.specs.declared.tree.Item.{Item}
use Rattle.acfg_text.specs.declared.tree.Value.{Value}
use Rattle.acfg_text.specs.declared.tree.Value.TheVariants as v
use Rattle.acfg_text.specs.declared.fault.TextWhat.{TextWhat}
use Rattle.acfg_text.specs.declared.fault.TextWhat.TheVariants.{Unexpected, TooDeep, BadUtf8}
use Rattle.acfg_text.specs.Trees.{item, tree}
use Rattle.acfg_text.specs.Terminals.{Terminal}
use Rattle.acfg_text.specs.Escapes.{spelled}
use Rattle.acfg_text.specs.TextFaults.{is_quoted}

-- a field's name and its place
pub record Head : Type 0 where
  pub name : List ℕ
  pub place : ℕ

abbrev pub head_of : Terminal → Head
head_of t = record { name = t.text; place = t.place }

-- where a value goes: it is the field's one value, or follows these in a list
pub data Slot : Type 0 where
  single : Slot
  among : Bool → List Value → Slot

-- a message that is open: the field that holds it, the fields before that one, and its bracket
pub record Frame : Type 0 where
  pub head : Head
  pub slot : Slot
  pub top : List Item
  pub place : ℕ
  pub bracket : Bracket

-- what has been read of the field that is open
pub data Mode : Type 0 where
  at_field : Mode
  behind_field : Mode
  behind_name : Head → Mode
  behind_colon : Head → Mode
  in_list : Head → Bool → Mode
  at_item : Head → Bool → List Value → Mode
  behind_item : Head → Bool → List Value → Mode
  in_text : Head → Slot → ℕ → List ℕ → Mode

-- the mode, the fields read of the innermost message, and the messages that are open, innermost first
pub record State : Type 0 where
  pub mode : Mode
  pub top : List Item
  pub frames : List Frame

abbrev pub st : Mode → List Item → List Frame → State
st mode top frames = record { mode = mode; top = top; frames = frames }

pub record Fault : Type 0 where
  pub place : ℕ
  pub what : TextWhat

abbrev pub fault : ℕ → TextWhat → Fault
fault place what = record { place = place; what = what }

abbrev pub plain_item : Head → Value → Item
plain_item h value = item h.name h.place false (value ∷ [])

abbrev pub listed_item : Head → List Value → Item
listed_item h values = item h.name h.place true values

-- behind a value that is put where it goes
abbrev pub settle : Head → Slot → Value → List Item → List Frame → State
settle h single value top frames = st behind_field (top ++ plain_item h value ∷ []) frames
settle h (among colon values) value top frames = st (behind_item h colon (values ++ value ∷ [])) top frames

abbrev pub close_list : Head → List Value → List Item → List Frame → State
close_list h values top frames = st behind_field (top ++ listed_item h values ∷ []) frames

abbrev pub frame : Head → Slot → List Item → ℕ → Bracket → Frame
frame h slot top place bracket = record { head = h; slot = slot; top = top; place = place; bracket = bracket }

abbrev pub opened : Head → Slot → Bracket → ℕ → List Item → List Frame → State
opened h slot bracket place top frames = st at_field [] (frame h slot top place bracket ∷ frames)

abbrev pub same : Bracket → Bracket → Bool
same Curly Curly = true
same Angle Angle = true
same _ _ = false

abbrev pub closed_by : Bool → Frame → ℕ → List Item → List Frame → Option State
closed_by true f end top frames = Some (settle f.head f.slot (v.Message f.place (tree top end)) f.top frames)
closed_by false f end top frames = None

abbrev pub closed : Bracket → ℕ → List Item → List Frame → Option State
closed bracket end top [] = None
closed bracket end top (f ∷ frames) = closed_by (same bracket f.bracket) f end top frames

abbrev pub on_field : Class → Terminal → List Item → List Frame → Option State
on_field c.Word t top frames = Some (st (behind_name (head_of t)) top frames)
on_field (c.Close bracket) t top frames = closed bracket t.place top frames
on_field _ t top frames = None

abbrev pub on_behind_field : Class → Terminal → List Item → List Frame → Option State
on_behind_field c.Comma t top frames = Some (st at_field top frames)
on_behind_field c.Semicolon t top frames = Some (st at_field top frames)
on_behind_field class t top frames = on_field class t top frames

abbrev pub on_name : Head → Class → Terminal → List Item → List Frame → Option State
on_name h c.Colon t top frames = Some (st (behind_colon h) top frames)
on_name h (c.Open bracket) t top frames = Some (opened h single bracket t.place top frames)
on_name h c.OpenList t top frames = Some (st (in_list h false) top frames)
on_name h _ t top frames = None

abbrev pub on_colon : Head → Class → Terminal → List Item → List Frame → Option State
on_colon h c.Word t top frames = Some (settle h single (v.Word t.place t.text) top frames)
on_colon h c.Number t top frames = Some (settle h single (v.Number t.place t.text) top frames)
on_colon h c.Quoted t top frames = Some (st (in_text h single t.place (spelled t.text)) top frames)
on_colon h (c.Open bracket) t top frames = Some (opened h single bracket t.place top frames)
on_colon h c.OpenList t top frames = Some (st (in_list h true) top frames)
on_colon h _ t top frames = None

abbrev pub on_item : Head → Bool → List Value → Class → Terminal → List Item → List Frame → Option State
on_item h colon values (c.Open bracket) t top frames = Some (opened h (among colon values) bracket t.place top frames)
on_item h true values c.Word t top frames = Some (settle h (among true values) (v.Word t.place t.text) top frames)
on_item h true values c.Number t top frames = Some (settle h (among true values) (v.Number t.place t.text) top frames)
on_item h true values c.Quoted t top frames =
    Some (st (in_text h (among true values) t.place (spelled t.text)) top frames)
on_item h colon values _ t top frames = None

abbrev pub on_list : Head → Bool → Class → Terminal → List Item → List Frame → Option State
on_list h colon c.CloseList t top frames = Some (close_list h [] top frames)
on_list h colon class t top frames = on_item h colon [] class t top frames

abbrev pub on_behind_item : Head → Bool → List Value → Class → Terminal → List Item → List Frame → Option State
on_behind_item h colon values c.Comma t top frames = Some (st (at_item h colon values) top frames)
on_behind_item h colon values c.CloseList t top frames = Some (close_list h values top frames)
on_behind_item h colon values _ t top frames = None

-- behind quoted tokens: one more, or another token, behind the value that they are
abbrev pub on_text : Bool → Head → Slot → ℕ → List ℕ → Class → Terminal → List Item → List Frame → Option State
on_text true h slot place bytes class t top frames =
    Some (st (in_text h slot place (bytes ++ spelled t.text)) top frames)
on_text false h single place bytes class t top frames =
    on_behind_field class t (top ++ plain_item h (v.Text place bytes) ∷ []) frames
on_text false h (among colon values) place bytes class t top frames =
    on_behind_item h colon (values ++ v.Text place bytes ∷ []) class t top frames

-- the state behind one more terminal, of any depth and with texts of any bytes
abbrev pub plain : Mode → Class → Terminal → List Item → List Frame → Option State
plain at_field class t top frames = on_field class t top frames
plain behind_field class t top frames = on_behind_field class t top frames
plain (behind_name h) class t top frames = on_name h class t top frames
plain (behind_colon h) class t top frames = on_colon h class t top frames
plain (in_list h colon) class t top frames = on_list h colon class t top frames
plain (at_item h colon values) class t top frames = on_item h colon values class t top frames
plain (behind_item h colon values) class t top frames = on_behind_item h colon values class t top frames
plain (in_text h slot place bytes) class t top frames = on_text (is_quoted class) h slot place bytes class t top frames

abbrev pub refused : Bool → ℕ → TextWhat → Option Fault
refused true place what = Some (fault place what)
refused false place what = None

-- a text that is whole isn't UTF-8; told where strict
abbrev pub text_fault : Bool → Mode → Bool → Option Fault
text_fault strict (in_text h slot place bytes) true = None
text_fault strict (in_text h slot place bytes) false = refused (strict && not (is_utf8 bytes)) place BadUtf8
text_fault strict _ quoted = None

-- a message opens where 32 are open; told where strict
abbrev pub depth_fault : Bool → Class → ℕ → List Frame → Option Fault
depth_fault strict (c.Open bracket) place frames = refused (strict && nat_le 32 (length frames)) place TooDeep
depth_fault strict _ place frames = None

abbrev pub step_by : Option Fault → Option State → Option Fault → ℕ → Result State Fault
step_by (Some f) read deep place = Err f
step_by None None deep place = Err (fault place Unexpected)
step_by None (Some s) (Some f) place = Err f
step_by None (Some s) None place = Ok s

abbrev pub step_at : Bool → Mode → Class → Terminal → List Item → List Frame → Result State Fault
step_at strict mode class t top frames =
    step_by (text_fault strict mode (is_quoted class)) (plain mode class t top frames)
    (depth_fault strict class t.place frames) t.place

abbrev pub step : Bool → State → Terminal → Result State Fault
step strict s t = step_at strict s.mode t.class t s.top s.frames

-- the fields of a text that ends here
abbrev pub done : Mode → List Item → List Frame → Option (List Item)
done at_field top [] = Some top
done behind_field top [] = Some top
done (in_text h single place bytes) top [] = Some (top ++ plain_item h (v.Text place bytes) ∷ [])
done _ top frames = None

abbrev pub finish_by : Option Fault → Option (List Item) → ℕ → Result (List Item) Fault
finish_by (Some f) read end = Err f
finish_by None None end = Err (fault end Unexpected)
finish_by None (Some items) end = Ok items

abbrev pub finish : Bool → ℕ → State → Result (List Item) Fault
finish strict end s = finish_by (text_fault strict s.mode false) (done s.mode s.top s.frames) end

abbrev pub carry : {A : Type 0} → Result State Fault → (State → Result A Fault) → Result A Fault
carry (Ok s) f = f s
carry (Err e) f = Err e

-- what a text of this length with these terminals to come is read as
unfoldable pub run : Bool → ℕ → List Terminal → State → Result (List Item) Fault
run strict end [] s = finish strict end s
run strict end (t ∷ ts) s = carry (step strict s t) (λ r. run strict end ts r)

-- the state behind these terminals
unfoldable pub walk : Bool → List Terminal → State → Result State Fault
walk strict [] s = Ok s
walk strict (t ∷ ts) s = carry (step strict s t) (λ r. walk strict ts r)

abbrev pub begin : State
begin = st at_field [] []

-- a mode in which a value may come, and where it goes
pub data Waits : Mode → Head → Slot → Bool → Type 0 where
  waits_name : {h : Head} → Waits (behind_name h) h single false
  waits_colon : {h : Head} → Waits (behind_colon h) h single true
  waits_list : {h : Head} {colon : Bool} → Waits (in_list h colon) h (among colon []) colon
  waits_item : {h : Head} {colon : Bool} {values : List Value}
      → Waits (at_item h colon values) h (among colon values) colon

-- a mode in which a list may open, and whether it stands behind a colon
pub data Lists : Mode → Head → Bool → Type 0 where
  lists_name : {h : Head} → Lists (behind_name h) h false
  lists_colon : {h : Head} → Lists (behind_colon h) h true
