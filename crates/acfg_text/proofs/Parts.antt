-- What the reader's parts read and where they fail: one lemma for each way out.
use Rattle.std.proofs.Common.{◌≡◌, ℕ, ◌+◌, ◌<◌, Bool, true, false, List, [], ◌∷◌, ◌++◌, length, map, drop, get_or, None, Ok, Err, refl, sym, ap, ◌∙◌, subst, arith}
use Rattle.std.specs.Prelude.{◌≤◌, ◌==◌, ◌&&◌, if◌then◌else◌, nat_le, slice_index}
use Rattle.std.proofs.lemmas.List.{drop_more}
use Rattle.std.proofs.lemmas.Bool.Decides.{nat_tests}
use Rattle.std.specs.Str.{is_utf8, IsUtf8}
use Rattle.std.proofs.lemmas.Str.{IsUtf8-from_is_utf8}
use Rattle.acfg_text.specs.declared.classes.Class.{Class}
use Rattle.acfg_text.specs.declared.classes.Class.TheVariants as c
use Rattle.acfg_text.specs.declared.classes.Bracket.{Bracket}
use Rattle.acfg_text.specs.declared.classes.Bracket.TheVariants.{Curly, Angle}
use Rattle.acfg_text.specs.declared.terminals.Seen.{Seen}
use Rattle.acfg_text.specs.declared.tree.Item.{Item}
use Rattle.acfg_text.specs.declared.tree.Value.{Value}
use Rattle.acfg_text.specs.declared.tree.Value.TheVariants as v
use Rattle.acfg_text.specs.declared.fault.TextWhat.{TextWhat}
use Rattle.acfg_text.specs.declared.fault.TextWhat.TheVariants.{Unexpected, TooDeep, BadUtf8}
use Rattle.acfg_text.specs.Trees.{item, tree}
use Rattle.acfg_text.specs.Terminals.{Lexeme, lexeme, Terminal, terminal, symbol, class_of}
use Rattle.acfg_text.specs.declared.token.TokenKind.{TokenKind}
use Rattle.acfg_text.specs.declared.token.TokenKind.TheVariants as kinds
use Rattle.acfg_text.specs.TextFaults.{is_quoted, BeginsUnquoted}
use Rattle.acfg_text.specs.Escapes.{spelled}
use Rattle.acfg_text.specs.Machine.{Head, Slot, single, among, Frame, frame, Mode, at_field, behind_field, behind_name, behind_colon, in_list, at_item, behind_item, in_text, State, st, fault, settle, close_list, opened, same, closed_by, refused, step_by, step, step_at, finish, carry, run, Waits, waits_name, waits_colon, waits_list, waits_item}
use Rattle.acfg_text.specs.Reading.{cursor, terminal_at, ahead, seen_of, IsNext, NoField, ClosesList, ClosesNoList, NoClosing, IsNoOpening, SkipsEnd, Leads, FailsBy, ReadsFields, FailsFields, ReadsField, FailsField, ReadsHeld, FailsHeld, ReadsColon, FailsColon, ReadsList, FailsList, ReadsValue, FailsValue, ReadsElement, FailsElement, FailsScalar, ClosesBy, FailsToClose, list_state, GoesOn, FailsToGoOn, Joins}
use Rattle.acfg_text.proofs.Leading.{Unquoted, same_itself, open_step, settled_run}

-- one step of the machine
pub leads_step : (tokens : List Lexeme) (end at : ℕ) (t : Seen) (s r : State) → IsNext tokens at t → step true s (seen_of t) ≡ Ok r → Leads tokens end at s (at + 1) r
unfolding run
leads_step tokens end at t s r next e = ap (λ l. run true end l s) next ∙ ap (λ o. carry o (λ q. run true end (ahead tokens (at + 1)) q)) e

pub fails_step : (tokens : List Lexeme) (end at : ℕ) (t : Seen) (s : State) (p : ℕ) (w : TextWhat) → IsNext tokens at t → step true s (seen_of t) ≡ Err (fault p w) → FailsBy tokens end at s p w
unfolding run
fails_step tokens end at t s p w next e = ap (λ l. run true end l s) next ∙ ap (λ o. carry o (λ q. run true end (ahead tokens (at + 1)) q)) e

pub fails_end : (tokens : List Lexeme) (end at : ℕ) (s : State) → ahead tokens at ≡ [] → finish true end s ≡ Err (fault end Unexpected) → FailsBy tokens end at s end Unexpected
unfolding run
fails_end tokens end at s none e = ap (λ l. run true end l s) none ∙ e

-- a step by the class alone
class_step : (mode : Mode) (t : Seen) (class : Class) (top : List Item) (frames : List Frame) → t.class ≡ class → step true (st mode top frames) (seen_of t) ≡ step_at true mode class (terminal class t.place t.text.now) top frames
class_step mode t class top frames e = ap (λ x. step_at true mode x (terminal x t.place t.text.now) top frames) e

-- a field's end
pub skips_comma : (tokens : List Lexeme) (at : ℕ) (t : Seen) → IsNext tokens at t → t.class ≡ c.Comma → SkipsEnd tokens at (at + 1)
skips_comma tokens at t next e end top frames = leads_step tokens end at t (st behind_field top frames) (st at_field top frames) next (class_step behind_field t c.Comma top frames e)

pub skips_semicolon : (tokens : List Lexeme) (at : ℕ) (t : Seen) → IsNext tokens at t → t.class ≡ c.Semicolon → SkipsEnd tokens at (at + 1)
skips_semicolon tokens at t next e end top frames = leads_step tokens end at t (st behind_field top frames) (st at_field top frames) next (class_step behind_field t c.Semicolon top frames e)

bare : (class : Class) (t : Terminal) (top : List Item) (frames : List Frame) → (class ≡ c.Comma → ⊥) → (class ≡ c.Semicolon → ⊥) → step_at true behind_field class t top frames ≡ step_at true at_field class t top frames
bare c.Comma t top frames a b = absurd (a refl)
bare c.Semicolon t top frames a b = absurd (b refl)
bare _ t top frames a b = refl

pub skips_nothing : (tokens : List Lexeme) (at : ℕ) (t : Seen) → IsNext tokens at t → (t.class ≡ c.Comma → ⊥) → (t.class ≡ c.Semicolon → ⊥) → SkipsEnd tokens at at
unfolding run
skips_nothing tokens at t next a b end top frames =
    ap (λ l. run true end l (st behind_field top frames)) next ∙ ap (λ o. carry o (λ q. run true end (ahead tokens (at + 1)) q)) (bare t.class (seen_of t) top frames a b) ∙ ap (λ l. run true end l (st at_field top frames)) (sym next)

pub skips_end : (tokens : List Lexeme) (at : ℕ) → ahead tokens at ≡ [] → SkipsEnd tokens at at
unfolding run
skips_end tokens at none end top [] = ap (λ l. run true end l (st behind_field top [])) none ∙ ap (λ l. run true end l (st at_field top [])) (sym none)
skips_end tokens at none end top (f ∷ frames) = ap (λ l. run true end l (st behind_field top (f ∷ frames))) none ∙ ap (λ l. run true end l (st at_field top (f ∷ frames))) (sym none)

pub field_read : (tokens : List Lexeme) (end depth at next behind : ℕ) (name : Seen) (listed : Bool) (values : List Value) (i : Item) → IsNext tokens at name → name.class ≡ c.Word → ReadsHeld (cursor tokens end depth (at + 1)) listed values next → SkipsEnd tokens next behind
    → item name.text.now name.place listed values ≡ i → ReadsField (cursor tokens end depth at) i behind
field_read tokens end depth at next behind name listed values i is_next word held skips is top frames d =
    let h : Head = record { name = name.text.now; place = name.place } in
    leads_step tokens end at name (st at_field top frames) (st (behind_name h) top frames) is_next (class_step at_field name c.Word top frames word)
    ∙ held h top frames d ∙ skips end (top ++ item name.text.now name.place listed values ∷ []) frames ∙ ap (λ j. run true end (ahead tokens behind) (st at_field (top ++ j ∷ []) frames)) is

pub field_fails : (tokens : List Lexeme) (end depth at : ℕ) (name : Seen) (p : ℕ) (w : TextWhat) → IsNext tokens at name → name.class ≡ c.Word → FailsHeld (cursor tokens end depth (at + 1)) p w → FailsField (cursor tokens end depth at) p w
field_fails tokens end depth at name p w is_next word fails top frames d =
    let h : Head = record { name = name.text.now; place = name.place } in
    leads_step tokens end at name (st at_field top frames) (st (behind_name h) top frames) is_next (class_step at_field name c.Word top frames word) ∙ fails h top frames d

-- behind a name
pub held_colon : (tokens : List Lexeme) (end depth at next : ℕ) (t : Seen) (listed : Bool) (values : List Value) → IsNext tokens at t → t.class ≡ c.Colon → ReadsColon (cursor tokens end depth (at + 1)) listed values next → ReadsHeld (cursor tokens end depth at) listed values next
held_colon tokens end depth at next t listed values is_next e reads h top frames d =
    leads_step tokens end at t (st (behind_name h) top frames) (st (behind_colon h) top frames) is_next (class_step (behind_name h) t c.Colon top frames e) ∙ reads h top frames d

pub held_colon_fails : (tokens : List Lexeme) (end depth at : ℕ) (t : Seen) (p : ℕ) (w : TextWhat) → IsNext tokens at t → t.class ≡ c.Colon → FailsColon (cursor tokens end depth (at + 1)) p w → FailsHeld (cursor tokens end depth at) p w
held_colon_fails tokens end depth at t p w is_next e fails h top frames d =
    leads_step tokens end at t (st (behind_name h) top frames) (st (behind_colon h) top frames) is_next (class_step (behind_name h) t c.Colon top frames e) ∙ fails h top frames d

pub held_message : (tokens : List Lexeme) (end depth at next : ℕ) (value : Value) → ((colon : Bool) → ReadsValue (cursor tokens end depth at) colon value next) → ReadsHeld (cursor tokens end depth at) false (value ∷ []) next
held_message tokens end depth at next value reads h top frames d = reads false (behind_name h) h single top frames waits_name d

pub held_message_fails : (tokens : List Lexeme) (end depth at p : ℕ) (w : TextWhat) → ((colon : Bool) → FailsValue (cursor tokens end depth at) colon p w) → FailsHeld (cursor tokens end depth at) p w
held_message_fails tokens end depth at p w fails h top frames d = fails false (behind_name h) h single top frames waits_name d

pub held_list : (tokens : List Lexeme) (end depth at next : ℕ) (t : Seen) (values : List Value) → IsNext tokens at t → t.class ≡ c.OpenList → ReadsList (cursor tokens end depth (at + 1)) false values next → ReadsHeld (cursor tokens end depth at) true values next
held_list tokens end depth at next t values is_next e reads h top frames d =
    leads_step tokens end at t (st (behind_name h) top frames) (st (in_list h false) top frames) is_next (class_step (behind_name h) t c.OpenList top frames e) ∙ reads h top frames d

pub held_list_fails : (tokens : List Lexeme) (end depth at : ℕ) (t : Seen) (p : ℕ) (w : TextWhat) → IsNext tokens at t → t.class ≡ c.OpenList → FailsList (cursor tokens end depth (at + 1)) false p w → FailsHeld (cursor tokens end depth at) p w
held_list_fails tokens end depth at t p w is_next e fails h top frames d =
    leads_step tokens end at t (st (behind_name h) top frames) (st (in_list h false) top frames) is_next (class_step (behind_name h) t c.OpenList top frames e) ∙ fails h top frames d

named_none : (h : Head) (class : Class) (t : Terminal) (top : List Item) (frames : List Frame) → (class ≡ c.Colon → ⊥) → ((b : Bracket) → class ≡ c.Open b → ⊥) → (class ≡ c.OpenList → ⊥) → step_at true (behind_name h) class t top frames ≡ Err (fault t.place Unexpected)
named_none h c.Colon t top frames x y z = absurd (x refl)
named_none h (c.Open b) t top frames x y z = absurd (y b refl)
named_none h c.OpenList t top frames x y z = absurd (z refl)
named_none h _ t top frames x y z = refl

pub held_none : (tokens : List Lexeme) (end depth at : ℕ) (t : Seen) → IsNext tokens at t → (t.class ≡ c.Colon → ⊥) → ((b : Bracket) → t.class ≡ c.Open b → ⊥) → (t.class ≡ c.OpenList → ⊥) → FailsHeld (cursor tokens end depth at) t.place Unexpected
held_none tokens end depth at t is_next x y z h top frames d = fails_step tokens end at t (st (behind_name h) top frames) t.place Unexpected is_next (named_none h t.class (seen_of t) top frames x y z)

pub held_end : (tokens : List Lexeme) (end depth at : ℕ) → ahead tokens at ≡ [] → FailsHeld (cursor tokens end depth at) end Unexpected
held_end tokens end depth at none h top frames d = fails_end tokens end at (st (behind_name h) top frames) none refl

-- behind a colon
pub colon_value : (tokens : List Lexeme) (end depth at next : ℕ) (value : Value) → ReadsValue (cursor tokens end depth at) true value next → ReadsColon (cursor tokens end depth at) false (value ∷ []) next
colon_value tokens end depth at next value reads h top frames d = reads (behind_colon h) h single top frames waits_colon d

pub colon_message_fails : (tokens : List Lexeme) (end depth at p : ℕ) (w : TextWhat) → ((colon : Bool) → FailsValue (cursor tokens end depth at) colon p w) → FailsColon (cursor tokens end depth at) p w
colon_message_fails tokens end depth at p w fails h top frames d = fails true (behind_colon h) h single top frames waits_colon d

pub colon_scalar_fails : (tokens : List Lexeme) (end depth at p : ℕ) (w : TextWhat) → FailsScalar (cursor tokens end depth at) p w → FailsColon (cursor tokens end depth at) p w
colon_scalar_fails tokens end depth at p w fails h top frames d = (fails h [] top frames d).0

pub colon_list : (tokens : List Lexeme) (end depth at next : ℕ) (t : Seen) (values : List Value) → IsNext tokens at t → t.class ≡ c.OpenList → ReadsList (cursor tokens end depth (at + 1)) true values next → ReadsColon (cursor tokens end depth at) true values next
colon_list tokens end depth at next t values is_next e reads h top frames d =
    leads_step tokens end at t (st (behind_colon h) top frames) (st (in_list h true) top frames) is_next (class_step (behind_colon h) t c.OpenList top frames e) ∙ reads h top frames d

pub colon_list_fails : (tokens : List Lexeme) (end depth at : ℕ) (t : Seen) (p : ℕ) (w : TextWhat) → IsNext tokens at t → t.class ≡ c.OpenList → FailsList (cursor tokens end depth (at + 1)) true p w → FailsColon (cursor tokens end depth at) p w
colon_list_fails tokens end depth at t p w is_next e fails h top frames d =
    leads_step tokens end at t (st (behind_colon h) top frames) (st (in_list h true) top frames) is_next (class_step (behind_colon h) t c.OpenList top frames e) ∙ fails h top frames d

pub colon_end : (tokens : List Lexeme) (end depth at : ℕ) → ahead tokens at ≡ [] → FailsColon (cursor tokens end depth at) end Unexpected
colon_end tokens end depth at none h top frames d = fails_end tokens end at (st (behind_colon h) top frames) none refl

pub no_opening : (class : Class) → ((b : Bracket) → class ≡ c.Open b → ⊥) → (class ≡ c.OpenList → ⊥) → IsNoOpening class
no_opening (c.Open b) x y = absurd (x b refl)
no_opening c.OpenList x y = absurd (y refl)
no_opening _ x y = tt

-- scalars
pub scalar_word : (tokens : List Lexeme) (end depth at : ℕ) (t : Seen) → IsNext tokens at t → t.class ≡ c.Word → ReadsValue (cursor tokens end depth at) true (v.Word t.place t.text.now) (at + 1)
scalar_word tokens end depth at t is_next e mode h slot top frames waits d = leads_step tokens end at t (st mode top frames) (settle h slot (v.Word t.place t.text.now) top frames) is_next (class_step mode t c.Word top frames e ∙ by_mode waits)
  where
    by_mode : {mode : Mode} {h : Head} {slot : Slot} → Waits mode h slot true → step_at true mode c.Word (terminal c.Word t.place t.text.now) top frames ≡ Ok (settle h slot (v.Word t.place t.text.now) top frames)
    by_mode waits_colon = refl
    by_mode waits_list = refl
    by_mode waits_item = refl

pub scalar_number : (tokens : List Lexeme) (end depth at : ℕ) (t : Seen) → IsNext tokens at t → t.class ≡ c.Number → ReadsValue (cursor tokens end depth at) true (v.Number t.place t.text.now) (at + 1)
scalar_number tokens end depth at t is_next e mode h slot top frames waits d = leads_step tokens end at t (st mode top frames) (settle h slot (v.Number t.place t.text.now) top frames) is_next (class_step mode t c.Number top frames e ∙ by_mode waits)
  where
    by_mode : {mode : Mode} {h : Head} {slot : Slot} → Waits mode h slot true → step_at true mode c.Number (terminal c.Number t.place t.text.now) top frames ≡ Ok (settle h slot (v.Number t.place t.text.now) top frames)
    by_mode waits_colon = refl
    by_mode waits_list = refl
    by_mode waits_item = refl

coloned_none : (h : Head) (class : Class) (t : Terminal) (top : List Item) (frames : List Frame) → (class ≡ c.Word → ⊥) → (class ≡ c.Number → ⊥) → (class ≡ c.Quoted → ⊥) → IsNoOpening class → step_at true (behind_colon h) class t top frames ≡ Err (fault t.place Unexpected)
coloned_none h c.Word t top frames x y z o = absurd (x refl)
coloned_none h c.Number t top frames x y z o = absurd (y refl)
coloned_none h c.Quoted t top frames x y z o = absurd (z refl)
coloned_none h (c.Open b) t top frames x y z o = absurd o
coloned_none h c.OpenList t top frames x y z o = absurd o
coloned_none h _ t top frames x y z o = refl

item_none : (h : Head) (old : List Value) (class : Class) (t : Terminal) (top : List Item) (frames : List Frame) → (class ≡ c.Word → ⊥) → (class ≡ c.Number → ⊥) → (class ≡ c.Quoted → ⊥) → ((b : Bracket) → class ≡ c.Open b → ⊥) → step_at true (at_item h true old) class t top frames ≡ Err (fault t.place Unexpected)
item_none h old c.Word t top frames x y z o = absurd (x refl)
item_none h old c.Number t top frames x y z o = absurd (y refl)
item_none h old c.Quoted t top frames x y z o = absurd (z refl)
item_none h old (c.Open b) t top frames x y z o = absurd (o b refl)
item_none h old _ t top frames x y z o = refl

not_open : (class : Class) → IsNoOpening class → (b : Bracket) → class ≡ c.Open b → ⊥
not_open class o b e = subst IsNoOpening e o

pub scalar_none : (tokens : List Lexeme) (end depth at : ℕ) (t : Seen) → IsNext tokens at t → (t.class ≡ c.Word → ⊥) → (t.class ≡ c.Number → ⊥) → (t.class ≡ c.Quoted → ⊥) → IsNoOpening t.class → FailsScalar (cursor tokens end depth at) t.place Unexpected
scalar_none tokens end depth at t is_next x y z o h old top frames d = (
  fails_step tokens end at t (st (behind_colon h) top frames) t.place Unexpected is_next (coloned_none h t.class (seen_of t) top frames x y z o),
  fails_step tokens end at t (st (at_item h true old) top frames) t.place Unexpected is_next (item_none h old t.class (seen_of t) top frames x y z (not_open t.class o)),
)

-- texts
pub joined_more : (tokens : List Lexeme) (end from at p : ℕ) (old bytes text : List ℕ) → ((h : Head) (slot : Slot) (place : ℕ) (top : List Item) (frames : List Frame) → Leads tokens end from (st (in_text h slot place old) top frames) at (st (in_text h slot place bytes) top frames))
    → ahead tokens at ≡ terminal c.Quoted p text ∷ ahead tokens (at + 1) → (h : Head) (slot : Slot) (place : ℕ) (top : List Item) (frames : List Frame) → Leads tokens end from (st (in_text h slot place old) top frames) (at + 1) (st (in_text h slot place (bytes ++ spelled text)) top frames)
unfolding run
joined_more tokens end from at p old bytes text leads next h slot place top frames = leads h slot place top frames ∙ ap (λ l. run true end l (st (in_text h slot place bytes) top frames)) next

text_begins : (tokens : List Lexeme) (end at : ℕ) (t : Seen) {mode : Mode} {h : Head} {slot : Slot} (top : List Item) (frames : List Frame) → IsNext tokens at t → t.class ≡ c.Quoted → Waits mode h slot true
    → Leads tokens end at (st mode top frames) (at + 1) (st (in_text h slot t.place (spelled t.text.now)) top frames)
text_begins tokens end at t top frames is_next e (waits_colon {h = h}) = leads_step tokens end at t (st (behind_colon h) top frames) (st (in_text h single t.place (spelled t.text.now)) top frames) is_next (class_step (behind_colon h) t c.Quoted top frames e)
text_begins tokens end at t top frames is_next e (waits_list {h = h}) = leads_step tokens end at t (st (in_list h true) top frames) (st (in_text h (among true []) t.place (spelled t.text.now)) top frames) is_next (class_step (in_list h true) t c.Quoted top frames e)
text_begins tokens end at t top frames is_next e (waits_item {h = h} {values = values}) = leads_step tokens end at t (st (at_item h true values) top frames) (st (in_text h (among true values) t.place (spelled t.text.now)) top frames) is_next (class_step (at_item h true values) t c.Quoted top frames e)

settled_text : (tokens : List Lexeme) (end at : ℕ) (h : Head) (slot : Slot) (place : ℕ) (bytes : List ℕ) (top : List Item) (frames : List Frame) → BeginsUnquoted (ahead tokens at) → is_utf8 bytes ≡ true → Leads tokens end at (st (in_text h slot place bytes) top frames) at (settle h slot (v.Text place bytes) top frames)
settled_text tokens end at h slot place bytes top frames no_quote utf8 = settled_run true end h slot place bytes top frames (ahead tokens at) (unquoted (ahead tokens at) no_quote) (rw utf8 refl)
  where
    unquoted : (ts : List Terminal) → BeginsUnquoted ts → Unquoted ts
    unquoted [] n = n
    unquoted (t ∷ ts) n = n

pub text_read : (tokens : List Lexeme) (end depth at next : ℕ) (t : Seen) (bytes : List ℕ) → IsNext tokens at t → t.class ≡ c.Quoted → Joins tokens end (spelled t.text.now) (at + 1) bytes next → is_utf8 bytes ≡ true → ReadsValue (cursor tokens end depth at) true (v.Text t.place bytes) next
text_read tokens end depth at next t bytes is_next e joins utf8 mode h slot top frames waits d =
    text_begins tokens end at t top frames is_next e waits ∙ joins.leads h slot t.place top frames ∙ settled_text tokens end next h slot t.place bytes top frames joins.ends utf8

bad_text : (end : ℕ) (h : Head) (slot : Slot) (place : ℕ) (bytes : List ℕ) (top : List Item) (frames : List Frame) (ts : List Terminal) → BeginsUnquoted ts → is_utf8 bytes ≡ false → run true end ts (st (in_text h slot place bytes) top frames) ≡ Err (fault place BadUtf8)
unfolding run
bad_text end h slot place bytes top frames [] n bad = rw bad refl
bad_text end h slot place bytes top frames (t ∷ ts) n bad = rw (n, bad) refl

pub text_fails : (tokens : List Lexeme) (end depth at next : ℕ) (t : Seen) (bytes : List ℕ) → IsNext tokens at t → t.class ≡ c.Quoted → Joins tokens end (spelled t.text.now) (at + 1) bytes next → is_utf8 bytes ≡ false → FailsScalar (cursor tokens end depth at) t.place BadUtf8
text_fails tokens end depth at next t bytes is_next e joins bad h old top frames d = (
  text_begins tokens end at t top frames is_next e (waits_colon {h = h}) ∙ joins.leads h single t.place top frames ∙ bad_text end h single t.place bytes top frames (ahead tokens next) joins.ends bad,
  text_begins tokens end at t top frames is_next e (waits_item {h = h} {values = old}) ∙ joins.leads h (among true old) t.place top frames ∙ bad_text end h (among true old) t.place bytes top frames (ahead tokens next) joins.ends bad,
)

-- lists
pub list_empty : (tokens : List Lexeme) (end depth at : ℕ) (colon : Bool) → ClosesList tokens at → ReadsList (cursor tokens end depth at) colon [] (at + 1)
unfolding run
list_empty tokens end depth at colon (p, text, next) h top frames d = ap (λ l. run true end l (st (in_list h colon) top frames)) next

first_item : (h : Head) (colon : Bool) (class : Class) (t : Terminal) (top : List Item) (frames : List Frame) → (class ≡ c.CloseList → ⊥) → step_at true (in_list h colon) class t top frames ≡ step_at true (at_item h colon []) class t top frames
first_item h colon c.CloseList t top frames x = absurd (x refl)
first_item h colon _ t top frames x = refl

pub list_begins : (tokens : List Lexeme) (end depth at : ℕ) (colon : Bool) → ClosesNoList tokens at → (h : Head) (top : List Item) (frames : List Frame) → length frames ≡ depth → Leads tokens end at (st (in_list h colon) top frames) at (st (at_item h colon []) top frames)
unfolding run
list_begins tokens end depth at colon closes h top frames d = go (ahead tokens at) closes
  where
    go : (ts : List Terminal) → NoClosing ts → run true end ts (st (in_list h colon) top frames) ≡ run true end ts (st (at_item h colon []) top frames)
    go [] n = refl
    go (t ∷ ts) n = ap (λ o. carry o (λ q. run true end ts q)) (first_item h colon t.class t top frames n)

abbrev pub ListSoFar : List Lexeme → ℕ → ℕ → Bool → ℕ → ℕ → Bool → List Value → Type 0
ListSoFar tokens end depth colon from at more values = (h : Head) (top : List Item) (frames : List Frame) → length frames ≡ depth → Leads tokens end from (st (in_list h colon) top frames) at (list_state more h colon values top frames)

pub goes_comma : (tokens : List Lexeme) (end at : ℕ) (t : Seen) → IsNext tokens at t → t.class ≡ c.Comma → GoesOn tokens end at true
goes_comma tokens end at t is_next e h colon values top frames = leads_step tokens end at t (st (behind_item h colon values) top frames) (st (at_item h colon values) top frames) is_next (class_step (behind_item h colon values) t c.Comma top frames e)

pub goes_closed : (tokens : List Lexeme) (end at : ℕ) (t : Seen) → IsNext tokens at t → t.class ≡ c.CloseList → GoesOn tokens end at false
goes_closed tokens end at t is_next e h colon values top frames = leads_step tokens end at t (st (behind_item h colon values) top frames) (close_list h values top frames) is_next (class_step (behind_item h colon values) t c.CloseList top frames e)

behind_none : (h : Head) (colon : Bool) (values : List Value) (class : Class) (t : Terminal) (top : List Item) (frames : List Frame) → (class ≡ c.Comma → ⊥) → (class ≡ c.CloseList → ⊥) → step_at true (behind_item h colon values) class t top frames ≡ Err (fault t.place Unexpected)
behind_none h colon values c.Comma t top frames x y = absurd (x refl)
behind_none h colon values c.CloseList t top frames x y = absurd (y refl)
behind_none h colon values _ t top frames x y = refl

pub goes_none : (tokens : List Lexeme) (end at : ℕ) (t : Seen) → IsNext tokens at t → (t.class ≡ c.Comma → ⊥) → (t.class ≡ c.CloseList → ⊥) → FailsToGoOn tokens end at t.place Unexpected
goes_none tokens end at t is_next x y h colon values top frames = fails_step tokens end at t (st (behind_item h colon values) top frames) t.place Unexpected is_next (behind_none h colon values t.class (seen_of t) top frames x y)

pub goes_end : (tokens : List Lexeme) (end at : ℕ) → ahead tokens at ≡ [] → FailsToGoOn tokens end at end Unexpected
goes_end tokens end at none h colon values top frames = fails_end tokens end at (st (behind_item h colon values) top frames) none refl

-- items
pub element_value : (tokens : List Lexeme) (end depth at next : ℕ) (colon : Bool) (value : Value) → ReadsValue (cursor tokens end depth at) colon value next → ReadsElement (cursor tokens end depth at) colon value next
element_value tokens end depth at next colon value reads h old top frames d = reads (at_item h colon old) h (among colon old) top frames waits_item d

pub element_message_fails : (tokens : List Lexeme) (end depth at p : ℕ) (w : TextWhat) (colon : Bool) → ((colon : Bool) → FailsValue (cursor tokens end depth at) colon p w) → FailsElement (cursor tokens end depth at) colon p w
element_message_fails tokens end depth at p w colon fails h old top frames d = fails colon (at_item h colon old) h (among colon old) top frames waits_item d

uncoloned_none : (h : Head) (old : List Value) (class : Class) (t : Terminal) (top : List Item) (frames : List Frame) → ((b : Bracket) → class ≡ c.Open b → ⊥) → step_at true (at_item h false old) class t top frames ≡ Err (fault t.place Unexpected)
uncoloned_none h old (c.Open b) t top frames x = absurd (x b refl)
uncoloned_none h old _ t top frames x = refl

pub element_none : (tokens : List Lexeme) (end depth at : ℕ) (t : Seen) → IsNext tokens at t → ((b : Bracket) → t.class ≡ c.Open b → ⊥) → FailsElement (cursor tokens end depth at) false t.place Unexpected
element_none tokens end depth at t is_next x h old top frames d = fails_step tokens end at t (st (at_item h false old) top frames) t.place Unexpected is_next (uncoloned_none h old t.class (seen_of t) top frames x)

pub element_list : (tokens : List Lexeme) (end depth at : ℕ) (colon : Bool) (t : Seen) → IsNext tokens at t → t.class ≡ c.OpenList → FailsElement (cursor tokens end depth at) colon t.place Unexpected
element_list tokens end depth at colon t is_next e h old top frames d = fails_step tokens end at t (st (at_item h colon old) top frames) t.place Unexpected is_next (class_step (at_item h colon old) t c.OpenList top frames e)

pub element_end : (tokens : List Lexeme) (end depth at : ℕ) (colon : Bool) → ahead tokens at ≡ [] → FailsElement (cursor tokens end depth at) colon end Unexpected
element_end tokens end depth at colon none h old top frames d = fails_end tokens end at (st (at_item h colon old) top frames) none refl

-- messages
deep_step : {mode : Mode} {h : Head} {slot : Slot} {colon : Bool} (t : Terminal) (b : Bracket) (top : List Item) (frames : List Frame) → Waits mode h slot colon → nat_le 32 (length frames) ≡ true → step_at true mode (c.Open b) t top frames ≡ Err (fault t.place TooDeep)
deep_step t b top frames waits_name e = rw e refl
deep_step t b top frames waits_colon e = rw e refl
deep_step t b top frames waits_list e = rw e refl
deep_step t b top frames waits_item e = rw e refl

pub message_deep : (tokens : List Lexeme) (end depth at : ℕ) (t : Seen) (b : Bracket) → IsNext tokens at t → t.class ≡ c.Open b → 32 ≤ depth → (colon : Bool) → FailsValue (cursor tokens end depth at) colon t.place TooDeep
message_deep tokens end depth at t b is_next e deep colon mode h slot top frames waits d =
    let full : nat_le 32 (length frames) ≡ true = grind (arith, nat_tests) in
    fails_step tokens end at t (st mode top frames) t.place TooDeep is_next (class_step mode t (c.Open b) top frames e ∙ deep_step (terminal (c.Open b) t.place t.text.now) b top frames waits full)

message_opens : (tokens : List Lexeme) (end depth at : ℕ) (t : Seen) (b : Bracket) {mode : Mode} {h : Head} {slot : Slot} {colon : Bool} (top : List Item) (frames : List Frame) → IsNext tokens at t → t.class ≡ c.Open b → depth < 32 → Waits mode h slot colon → length frames ≡ depth
    → Leads tokens end at (st mode top frames) (at + 1) (opened h slot b t.place top frames)
message_opens tokens end depth at t b {mode = mode} {h = h} {slot = slot} top frames is_next e shallow waits d =
    let open_still : (true && nat_le 32 (length frames)) ≡ false = grind (arith, nat_tests) in
    leads_step tokens end at t (st mode top frames) (opened h slot b t.place top frames) is_next (class_step mode t (c.Open b) top frames e ∙ open_step true top frames b t.place t.text.now waits open_still)

pub message_read : (tokens : List Lexeme) (end depth at close place : ℕ) (t : Seen) (b : Bracket) (items : List Item) (value : Value) → IsNext tokens at t → t.class ≡ c.Open b → depth < 32 → ReadsFields (cursor tokens end (depth + 1) (at + 1)) items close → ClosesBy tokens end close b place
    → v.Message t.place (tree items place) ≡ value → (colon : Bool) → ReadsValue (cursor tokens end depth at) colon value (close + 1)
message_read tokens end depth at close place t b items value is_next e shallow fields closes is colon mode h slot top frames waits d =
    message_opens tokens end depth at t b top frames is_next e shallow waits d ∙ fields.leads (frame h slot top t.place b ∷ frames) (omega arith) ∙ closes items (frame h slot top t.place b) frames refl
    ∙ ap (λ x. run true end (ahead tokens (close + 1)) (settle h slot x top frames)) is

pub message_fields_fail : (tokens : List Lexeme) (end depth at : ℕ) (t : Seen) (b : Bracket) (p : ℕ) (w : TextWhat) → IsNext tokens at t → t.class ≡ c.Open b → depth < 32 → FailsFields (cursor tokens end (depth + 1) (at + 1)) p w → (colon : Bool) → FailsValue (cursor tokens end depth at) colon p w
message_fields_fail tokens end depth at t b p w is_next e shallow fails colon mode h slot top frames waits d = message_opens tokens end depth at t b top frames is_next e shallow waits d ∙ fails (frame h slot top t.place b ∷ frames) (omega arith)

pub message_close_fails : (tokens : List Lexeme) (end depth at close : ℕ) (t : Seen) (b : Bracket) (items : List Item) (p : ℕ) (w : TextWhat) → IsNext tokens at t → t.class ≡ c.Open b → depth < 32 → ReadsFields (cursor tokens end (depth + 1) (at + 1)) items close → FailsToClose tokens end close b p w
    → (colon : Bool) → FailsValue (cursor tokens end depth at) colon p w
message_close_fails tokens end depth at close t b items p w is_next e shallow fields fails colon mode h slot top frames waits d =
    message_opens tokens end depth at t b top frames is_next e shallow waits d ∙ fields.leads (frame h slot top t.place b ∷ frames) (omega arith) ∙ fails items (frame h slot top t.place b) frames refl

pub closes_by : (tokens : List Lexeme) (end at : ℕ) (t : Seen) (b : Bracket) → IsNext tokens at t → t.class ≡ c.Close b → ClosesBy tokens end at b t.place
closes_by tokens end at t b is_next e items f frames of_it =
    let step_is : step true (st at_field items (f ∷ frames)) (seen_of t) ≡ Ok (settle f.head f.slot (v.Message f.place (tree items t.place)) f.top frames)
    = class_step at_field t (c.Close b) items (f ∷ frames) e ∙ ap (λ d. step_by None (closed_by (same b d) f t.place items frames) None t.place) of_it ∙ ap (λ q. step_by None (closed_by q f t.place items frames) None t.place) (same_itself b) in
    leads_step tokens end at t (st at_field items (f ∷ frames)) (settle f.head f.slot (v.Message f.place (tree items t.place)) f.top frames) is_next step_is

same_false : (a b : Bracket) → (c.Close a ≡ c.Close b → ⊥) → same a b ≡ false
same_false Curly Curly x = absurd (x refl)
same_false Angle Angle x = absurd (x refl)
same_false Curly Angle x = refl
same_false Angle Curly x = refl

unclosed : (class : Class) (t : Terminal) (items : List Item) (f : Frame) (frames : List Frame) → (class ≡ c.Word → ⊥) → (class ≡ c.Close f.bracket → ⊥) → step_at true at_field class t items (f ∷ frames) ≡ Err (fault t.place Unexpected)
unclosed c.Word t items f frames x y = absurd (x refl)
unclosed (c.Close a) t items f frames x y = ap (λ q. step_by None (closed_by q f t.place items frames) None t.place) (same_false a f.bracket y)
unclosed (c.Open b) t items f frames x y = open_no (nat_le 32 (length (f ∷ frames)))
  where
    open_no : (q : Bool) → step_by None None (refused q t.place TooDeep) t.place ≡ Err (fault t.place Unexpected)
    open_no true = refl
    open_no false = refl
unclosed _ t items f frames x y = refl

pub close_none : (tokens : List Lexeme) (end at : ℕ) (t : Seen) (b : Bracket) → IsNext tokens at t → NoField (ahead tokens at) → (t.class ≡ c.Close b → ⊥) → FailsToClose tokens end at b t.place Unexpected
close_none tokens end at t b is_next none x items f frames of_it =
    let no_word : t.class ≡ c.Word → ⊥ = subst NoField is_next none in
    fails_step tokens end at t (st at_field items (f ∷ frames)) t.place Unexpected is_next (unclosed t.class (seen_of t) items f frames no_word (λ e. x (e ∙ ap (λ d. c.Close d) of_it)))

pub close_end : (tokens : List Lexeme) (end at : ℕ) (b : Bracket) → ahead tokens at ≡ [] → FailsToClose tokens end at b end Unexpected
close_end tokens end at b none items f frames of_it = fails_end tokens end at (st at_field items (f ∷ frames)) none refl

pub value_read_text : (tokens : List Lexeme) (end depth at next : ℕ) (t : Seen) (bytes text : List ℕ) → IsNext tokens at t → t.class ≡ c.Quoted → Joins tokens end (spelled t.text.now) (at + 1) bytes next → is_utf8 bytes ≡ true → text ≡ bytes
    → ReadsValue (cursor tokens end depth at) true (v.Text t.place text) next
value_read_text tokens end depth at next t bytes text is_next e joins utf8 is = subst (λ b. ReadsValue (cursor tokens end depth at) true (v.Text t.place b) next) (sym is) (text_read tokens end depth at next t bytes is_next e joins utf8)

-- a quoted token by itself
pub joins_none : (tokens : List Lexeme) (end : ℕ) (old bytes : List ℕ) (at : ℕ) → bytes ≡ old → BeginsUnquoted (ahead tokens at) → Joins tokens end old at bytes at
joins_none tokens end old bytes at is ends = record {
  leads = λ h slot place top frames. ap (λ b. run true end (ahead tokens at) (st (in_text h slot place b) top frames)) (sym is);
  ends = ends;
}

pub not_utf8 : (bytes : List ℕ) → (IsUtf8 bytes → false ≡ true) → is_utf8 bytes ≡ false
not_utf8 bytes other = go (is_utf8 bytes) refl
  where
    go : (q : Bool) → is_utf8 bytes ≡ q → is_utf8 bytes ≡ false
    go true e = absurd (let never : false ≡ true = other (IsUtf8-from_is_utf8 bytes e) in cc)
    go false e = e

-- a token of another kind
either : (P : Class → Type 0) (q : Bool) (x y : Class) → P x → P y → P (if q then x else y)
either P true x y a b = a
either P false x y a b = b

symbol_unquoted : (b : ℕ) → is_quoted (symbol b) ≡ false
unfolding symbol
symbol_unquoted b =
    let P : Class → Type 0 = λ x. is_quoted x ≡ false in
    either P (b == 58) c.Colon _ refl (either P (b == 44) c.Comma _ refl (either P (b == 123) (c.Open Curly) _ refl (either P (b == 125) (c.Close Curly) _ refl (either P (b == 60) (c.Open Angle) _ refl (either P (b == 62) (c.Close Angle) _ refl (either P (b == 91) c.OpenList _ refl (either P (b == 93) c.CloseList c.Semicolon refl refl)))))))

kind_unquoted : (kind : TokenKind) (text : List ℕ) → (kind ≡ kinds.Quoted → ⊥) → is_quoted (class_of kind text) ≡ false
kind_unquoted kinds.Word text other = refl
kind_unquoted kinds.Number text other = refl
kind_unquoted kinds.Quoted text other = absurd (other refl)
kind_unquoted kinds.Symbol text other = symbol_unquoted (slice_index text 0)

no_comma : (kind : TokenKind) (text : List ℕ) → (kind ≡ kinds.Symbol → ⊥) → class_of kind text ≡ c.Comma → ⊥
no_comma kinds.Word text other is = cc
no_comma kinds.Number text other is = cc
no_comma kinds.Quoted text other is = cc
no_comma kinds.Symbol text other is = other refl

no_semicolon : (kind : TokenKind) (text : List ℕ) → (kind ≡ kinds.Symbol → ⊥) → class_of kind text ≡ c.Semicolon → ⊥
no_semicolon kinds.Word text other is = cc
no_semicolon kinds.Number text other is = cc
no_semicolon kinds.Quoted text other is = cc
no_semicolon kinds.Symbol text other is = other refl

skips_none : (tokens : List Lexeme) (at : ℕ) (t : Terminal) → ahead tokens at ≡ t ∷ ahead tokens (at + 1) → (t.class ≡ c.Comma → ⊥) → (t.class ≡ c.Semicolon → ⊥) → SkipsEnd tokens at at
unfolding run
skips_none tokens at t next a b end top frames =
    ap (λ l. run true end l (st behind_field top frames)) next ∙ ap (λ o. carry o (λ q. run true end (ahead tokens (at + 1)) q)) (bare t.class t top frames a b) ∙ ap (λ l. run true end l (st at_field top frames)) (sym next)

module _ (tokens : List Lexeme) (at : ℕ) (inside : at < length tokens) where
  abbrev there : Lexeme
  there = get_or tokens at (lexeme kinds.Symbol 0 [])

  is_there : drop at tokens ≡ there ∷ drop (at + 1) tokens
  is_there = drop_more tokens at (lexeme kinds.Symbol 0 []) inside

  pub no_quote : ((l : Lexeme) (rest : List Lexeme) → drop at tokens ≡ l ∷ rest → l.kind ≡ kinds.Quoted → ⊥) → BeginsUnquoted (ahead tokens at)
  no_quote other = subst (λ ls. BeginsUnquoted (map terminal_at ls)) (sym is_there) (kind_unquoted there.kind there.text (other there (drop (at + 1) tokens) is_there))

  pub skips_other : ((l : Lexeme) (rest : List Lexeme) → drop at tokens ≡ l ∷ rest → l.kind ≡ kinds.Symbol → ⊥) → SkipsEnd tokens at at
  skips_other other =
      let unlike : there.kind ≡ kinds.Symbol → ⊥ = other there (drop (at + 1) tokens) is_there in
      skips_none tokens at (terminal_at there) (ap (map terminal_at) is_there) (no_comma there.kind there.text unlike) (no_semicolon there.kind there.text unlike)
