-- Where a strict run ends, and why: its fault is one of the tokens.
use Rattle.std.proofs.Common.{◌≡◌, ℕ, Bool, true, false, List, [], ◌∷◌, ◌++◌, length, Option, Some, None, Result, Ok, Err, refl, sym, ap, ◌∙◌, subst, arith, append_assoc, append-nil}
use Rattle.std.specs.Prelude.{◌≤◌, not, nat_le}
use Rattle.std.proofs.lemmas.Bool.Decides.{nat_tests}
use Rattle.std.specs.Str.{is_utf8}
use Rattle.acfg_text.specs.declared.classes.Class.{Class}
use Rattle.acfg_text.specs.declared.classes.Class.TheVariants as c
use Rattle.acfg_text.specs.declared.classes.Bracket.{Bracket}
use Rattle.acfg_text.specs.declared.tree.Item.{Item}
use Rattle.acfg_text.specs.declared.tree.Value.{Value}
use Rattle.acfg_text.specs.declared.tree.Value.TheVariants as v
use Rattle.acfg_text.specs.declared.fault.TextWhat.TheVariants.{Unexpected, TooDeep, BadUtf8}
use Rattle.acfg_text.specs.Trees.{tree}
use Rattle.acfg_text.specs.Terminals.{Terminal, terminal}
use Rattle.acfg_text.specs.Escapes.{spelled}
use Rattle.acfg_text.specs.Grammar.{HasForm, Begins, Texts, last_text, more_texts}
use Rattle.acfg_text.specs.TextFaults.{is_open, is_quoted, nest, nesting, EndsUnquoted, BeginsUnquoted, Faulty, stray, early, deep, bad_text}
use Rattle.acfg_text.specs.Machine.{Head, Slot, single, among, Frame, Mode, at_field, behind_field, behind_name, behind_colon, in_list, at_item, behind_item, in_text, State, st, Fault, fault, plain_item, settle, same, closed_by, on_field, on_behind_field, on_name, on_colon, on_item, on_list, on_behind_item, on_text, plain, refused, text_fault, depth_fault, step_by, step, done, finish_by, finish, carry, run, walk, begin}
use Rattle.acfg_text.proofs.Viable.{run_append, walk_one, carried_ok, walk_begins, begins_walk}
use Rattle.acfg_text.proofs.Leading.{form_run}

-- what a step makes of the mode and of the open messages
abbrev pub is_text : Mode → Bool
is_text (in_text h slot place bytes) = true
is_text _ = false

abbrev pub SomeThen : Option State → (State → Type 0) → Type 0
SomeThen None P = Unit {0}
SomeThen (Some s) P = P s

pub record After (class : Class) (frames : List Frame) (s : State) : Type 0 where
  pub nests : length s.frames ≡ nest (length frames) class
  pub unquoted : is_quoted class ≡ false → is_text s.mode ≡ false

after_settle : (h : Head) (slot : Slot) (value : Value) (top : List Item) (frames : List Frame) (class : Class) (old : List Frame) → length frames ≡ nest (length old) class → After class old (settle h slot value top frames)
after_settle h single value top frames class old e = record { nests = e; unquoted = λ q. refl }
after_settle h (among colon values) value top frames class old e = record { nests = e; unquoted = λ q. refl }

after_closed : (q : Bool) (f : Frame) (end : ℕ) (top : List Item) (frames : List Frame) (b : Bracket) → SomeThen (closed_by q f end top frames) (After (c.Close b) (f ∷ frames))
after_closed true f end top frames b = after_settle f.head f.slot (v.Message f.place (tree top end)) f.top frames (c.Close b) (f ∷ frames) (omega arith)
after_closed false f end top frames b = tt

after_field : (class : Class) (t : Terminal) (top : List Item) (frames : List Frame) → SomeThen (on_field class t top frames) (After class frames)
after_field c.Word t top frames = record { nests = refl; unquoted = λ q. refl }
after_field (c.Close b) t top [] = tt
after_field (c.Close b) t top (f ∷ frames) = after_closed (same b f.bracket) f t.place top frames b
after_field _ t top frames = tt

after_behind : (class : Class) (t : Terminal) (top : List Item) (frames : List Frame) → SomeThen (on_behind_field class t top frames) (After class frames)
after_behind c.Comma t top frames = record { nests = refl; unquoted = λ q. refl }
after_behind c.Semicolon t top frames = record { nests = refl; unquoted = λ q. refl }
after_behind c.Word t top frames = after_field c.Word t top frames
after_behind (c.Close b) t top frames = after_field (c.Close b) t top frames
after_behind _ t top frames = tt

after_name : (h : Head) (class : Class) (t : Terminal) (top : List Item) (frames : List Frame) → SomeThen (on_name h class t top frames) (After class frames)
after_name h c.Colon t top frames = record { nests = refl; unquoted = λ q. refl }
after_name h (c.Open b) t top frames = record { nests = omega arith; unquoted = λ q. refl }
after_name h c.OpenList t top frames = record { nests = refl; unquoted = λ q. refl }
after_name h _ t top frames = tt

after_colon : (h : Head) (class : Class) (t : Terminal) (top : List Item) (frames : List Frame) → SomeThen (on_colon h class t top frames) (After class frames)
after_colon h c.Word t top frames = record { nests = refl; unquoted = λ q. refl }
after_colon h c.Number t top frames = record { nests = refl; unquoted = λ q. refl }
after_colon h c.Quoted t top frames = record { nests = refl; unquoted = λ q. cc }
after_colon h (c.Open b) t top frames = record { nests = omega arith; unquoted = λ q. refl }
after_colon h c.OpenList t top frames = record { nests = refl; unquoted = λ q. refl }
after_colon h _ t top frames = tt

after_item : (h : Head) (colon : Bool) (values : List Value) (class : Class) (t : Terminal) (top : List Item) (frames : List Frame) → SomeThen (on_item h colon values class t top frames) (After class frames)
after_item h colon values (c.Open b) t top frames = record { nests = omega arith; unquoted = λ q. refl }
after_item h true values c.Word t top frames = record { nests = refl; unquoted = λ q. refl }
after_item h true values c.Number t top frames = record { nests = refl; unquoted = λ q. refl }
after_item h true values c.Quoted t top frames = record { nests = refl; unquoted = λ q. cc }
after_item h colon values _ t top frames = tt

after_list : (h : Head) (colon : Bool) (class : Class) (t : Terminal) (top : List Item) (frames : List Frame) → SomeThen (on_list h colon class t top frames) (After class frames)
after_list h colon c.CloseList t top frames = record { nests = refl; unquoted = λ q. refl }
after_list h colon class t top frames = after_item h colon [] class t top frames

after_behind_item : (h : Head) (colon : Bool) (values : List Value) (class : Class) (t : Terminal) (top : List Item) (frames : List Frame) → SomeThen (on_behind_item h colon values class t top frames) (After class frames)
after_behind_item h colon values c.Comma t top frames = record { nests = refl; unquoted = λ q. refl }
after_behind_item h colon values c.CloseList t top frames = record { nests = refl; unquoted = λ q. refl }
after_behind_item h colon values _ t top frames = tt

after_text : (h : Head) (slot : Slot) (place : ℕ) (bytes : List ℕ) (class : Class) (t : Terminal) (top : List Item) (frames : List Frame) → SomeThen (on_text (is_quoted class) h slot place bytes class t top frames) (After class frames)
after_text h slot place bytes c.Quoted t top frames = record { nests = refl; unquoted = λ q. cc }
after_text h single place bytes class t top frames = after_behind class t (top ++ plain_item h (v.Text place bytes) ∷ []) frames
after_text h (among colon values) place bytes class t top frames = after_behind_item h colon (values ++ v.Text place bytes ∷ []) class t top frames

pub after : (mode : Mode) (class : Class) (t : Terminal) (top : List Item) (frames : List Frame) → SomeThen (plain mode class t top frames) (After class frames)
after at_field class t top frames = after_field class t top frames
after behind_field class t top frames = after_behind class t top frames
after (behind_name h) class t top frames = after_name h class t top frames
after (behind_colon h) class t top frames = after_colon h class t top frames
after (in_list h colon) class t top frames = after_list h colon class t top frames
after (at_item h colon values) class t top frames = after_item h colon values class t top frames
after (behind_item h colon values) class t top frames = after_behind_item h colon values class t top frames
after (in_text h slot place bytes) class t top frames = after_text h slot place bytes class t top frames

-- a quoted token begins a text
pub record BeginsText (t : Terminal) (mode : Mode) : Type 0 where
  pub h : Head
  pub slot : Slot
  pub is : mode ≡ in_text h slot t.place (spelled t.text)

pub begins_text : (mode : Mode) (t : Terminal) (top : List Item) (frames : List Frame) → is_text mode ≡ false → SomeThen (plain mode c.Quoted t top frames) (λ s. BeginsText t s.mode)
begins_text (behind_colon h) t top frames e = record { h = h; slot = single; is = refl }
begins_text (in_list h true) t top frames e = record { h = h; slot = among true []; is = refl }
begins_text (in_list h false) t top frames e = tt
begins_text (at_item h true values) t top frames e = record { h = h; slot = among true values; is = refl }
begins_text (at_item h false values) t top frames e = tt
begins_text (in_text h slot place bytes) t top frames e = cc
begins_text _ t top frames e = tt

pub some_then : (o : Option State) (P : State → Type 0) (s : State) → SomeThen o P → o ≡ Some s → P s
some_then o P s holds e = subst (λ q. SomeThen q P) e holds

-- a step that is strict is a plain step, or says why it isn't
step_read : (told depth : Option Fault) (read : Option State) (place : ℕ) (s : State) → step_by told read depth place ≡ Ok s → read ≡ Some s
step_read (Some f) depth read place s e = cc
step_read None depth None place s e = cc
step_read None (Some f) (Some r) place s e = cc
step_read None None (Some r) place s e = cc

free_text : (mode : Mode) (quoted : Bool) → text_fault false mode quoted ≡ None
free_text (in_text h slot place bytes) true = refl
free_text (in_text h slot place bytes) false = refl
free_text _ quoted = refl

free_depth : (class : Class) (place : ℕ) (frames : List Frame) → depth_fault false class place frames ≡ None
free_depth (c.Open b) place frames = refl
free_depth _ place frames = refl

abbrev pub read_of : State → Terminal → Option State
read_of s t = plain s.mode t.class t s.top s.frames

free_step : (s : State) (t : Terminal) (r : State) → read_of s t ≡ Some r → step false s t ≡ Ok r
free_step s t r e = rw (free_text s.mode (is_quoted t.class), free_depth t.class t.place s.frames, e) refl

pub read_step : (strict : Bool) (s : State) (t : Terminal) (r : State) → step strict s t ≡ Ok r → read_of s t ≡ Some r
read_step strict s t r e = step_read (text_fault strict s.mode (is_quoted t.class)) (depth_fault strict t.class t.place s.frames) (read_of s t) t.place r e

pub loosen : (ts : List Terminal) (s r : State) → walk true ts s ≡ Ok r → walk false ts s ≡ Ok r
unfolding walk
loosen [] s r e = e
loosen (t ∷ ts) s r e =
    let c : (q : State) × (step true s t ≡ Ok q) × (walk true ts q ≡ Ok r) = carried_ok (step true s t) (λ q. walk true ts q) r e in
    ap (λ o. carry o (λ q. walk false ts q)) (free_step s t c.0 (read_step true s t c.0 c.1)) ∙ loosen ts c.0 r c.2

-- a text that isn't UTF-8
pub record NotUtf8 (mode : Mode) (quoted : Bool) (f : Fault) : Type 0 where
  pub h : Head
  pub slot : Slot
  pub place : ℕ
  pub bytes : List ℕ
  pub in_it : mode ≡ in_text h slot place bytes
  pub ends : quoted ≡ false
  pub not_utf8 : is_utf8 bytes ≡ false
  pub is : f ≡ fault place BadUtf8

text_told : (mode : Mode) (quoted : Bool) (f : Fault) → text_fault true mode quoted ≡ Some f → NotUtf8 mode quoted f
text_told (in_text h slot place bytes) true f e = absurd cc
text_told (in_text h slot place bytes) false f e = go (is_utf8 bytes) refl e
  where
    go : (q : Bool) → is_utf8 bytes ≡ q → refused (not q) place BadUtf8 ≡ Some f → NotUtf8 (in_text h slot place bytes) false f
    go true u e = absurd cc
    go false u e = record { h = h; slot = slot; place = place; bytes = bytes; in_it = refl; ends = refl; not_utf8 = u; is = cc }
text_told at_field quoted f e = absurd cc
text_told behind_field quoted f e = absurd cc
text_told (behind_name h) quoted f e = absurd cc
text_told (behind_colon h) quoted f e = absurd cc
text_told (in_list h colon) quoted f e = absurd cc
text_told (at_item h colon values) quoted f e = absurd cc
text_told (behind_item h colon values) quoted f e = absurd cc

pub record IsDeep (class : Class) (place : ℕ) (frames : List Frame) (f : Fault) : Type 0 where
  pub opens : is_open class ≡ true
  pub below : 32 ≤ length frames
  pub is : f ≡ fault place TooDeep

depth_told : (class : Class) (place : ℕ) (frames : List Frame) (f : Fault) → depth_fault true class place frames ≡ Some f → IsDeep class place frames f
depth_told (c.Open b) place frames f e = go (nat_le 32 (length frames)) refl e
  where
    go : (q : Bool) → nat_le 32 (length frames) ≡ q → refused q place TooDeep ≡ Some f → IsDeep (c.Open b) place frames f
    go true u e = record { opens = refl; below = grind (arith, nat_tests); is = cc }
    go false u e = absurd cc
depth_told c.Word place frames f e = absurd cc
depth_told c.Number place frames f e = absurd cc
depth_told c.Quoted place frames f e = absurd cc
depth_told c.Colon place frames f e = absurd cc
depth_told c.Comma place frames f e = absurd cc
depth_told c.Semicolon place frames f e = absurd cc
depth_told (c.Close b) place frames f e = absurd cc
depth_told c.OpenList place frames f e = absurd cc
depth_told c.CloseList place frames f e = absurd cc

-- why a strict step fails
pub data StepFails (s : State) (t : Terminal) (f : Fault) : Type 0 where
  unexpected : read_of s t ≡ None → f ≡ fault t.place Unexpected → StepFails s t f
  too_deep : (r : State) → read_of s t ≡ Some r → IsDeep t.class t.place s.frames f → StepFails s t f
  bad_bytes : NotUtf8 s.mode (is_quoted t.class) f → StepFails s t f

pub step_fails : (s : State) (t : Terminal) (f : Fault) → step true s t ≡ Err f → StepFails s t f
step_fails s t f e = go (text_fault true s.mode (is_quoted t.class)) (read_of s t) (depth_fault true t.class t.place s.frames) refl refl refl e
  where
    go : (told : Option Fault) (read : Option State) (depth : Option Fault) → text_fault true s.mode (is_quoted t.class) ≡ told → read_of s t ≡ read → depth_fault true t.class t.place s.frames ≡ depth → step_by told read depth t.place ≡ Err f → StepFails s t f
    go (Some g) read depth x y z e = let is : g ≡ f = cc in bad_bytes (text_told s.mode (is_quoted t.class) f (x ∙ ap Some is))
    go None None depth x y z e = unexpected y cc
    go None (Some r) (Some g) x y z e = let is : g ≡ f = cc in too_deep r y (depth_told t.class t.place s.frames f (z ∙ ap Some is))
    go None (Some r) None x y z e = absurd cc

pub data FinishFails (s : State) (end : ℕ) (f : Fault) : Type 0 where
  ends_early : done s.mode s.top s.frames ≡ None → f ≡ fault end Unexpected → FinishFails s end f
  ends_bad : NotUtf8 s.mode false f → FinishFails s end f

pub finish_fails : (s : State) (end : ℕ) (f : Fault) → finish true end s ≡ Err f → FinishFails s end f
finish_fails s end f e = go (text_fault true s.mode false) (done s.mode s.top s.frames) refl refl e
  where
    go : (told : Option Fault) (read : Option (List Item)) → text_fault true s.mode false ≡ told → done s.mode s.top s.frames ≡ read → finish_by told read end ≡ Err f → FinishFails s end f
    go (Some g) read x y e = let is : g ≡ f = cc in ends_bad (text_told s.mode false f (x ∙ ap Some is))
    go None None x y e = ends_early y cc
    go None (Some items) x y e = absurd cc

pub finish_read : (strict : Bool) (s : State) (end : ℕ) (items : List Item) → finish strict end s ≡ Ok items → done s.mode s.top s.frames ≡ Some items
finish_read strict s end items e = go (text_fault strict s.mode false) (done s.mode s.top s.frames) e
  where
    go : (told : Option Fault) (read : Option (List Item)) → finish_by told read end ≡ Ok items → read ≡ Some items
    go (Some g) read e = absurd cc
    go None None e = absurd cc
    go None (Some i) e = cc

-- what a state says of the terminals before it
pub record InText (before : List Terminal) (place : ℕ) (bytes : List ℕ) : Type 0 where
  pub front : List Terminal
  pub first : Terminal
  pub texts : List Terminal
  pub is : before ≡ front ++ first ∷ texts
  pub unquoted : EndsUnquoted front
  pub joins : Texts bytes (first ∷ texts) []
  pub begins : first.place ≡ place

abbrev pub TextInv : List Terminal → Mode → Type 0
TextInv before (in_text h slot place bytes) = InText before place bytes
TextInv before _ = EndsUnquoted before

pub record Inv (before : List Terminal) (s : State) : Type 0 where
  pub nests : length s.frames ≡ nesting 0 before
  pub text : TextInv before s.mode

nesting_one : (n : ℕ) (before : List Terminal) (t : Terminal) → nesting n (before ++ t ∷ []) ≡ nest (nesting n before) t.class
nesting_one n [] t = refl
nesting_one n (b ∷ before) t = nesting_one (nest n b.class) before t

last_is : (front back : List Terminal) (t u : Terminal) → back ++ t ∷ [] ≡ front ++ u ∷ [] → t ≡ u
last_is [] [] t u e = cc
last_is [] (b ∷ back) t u e = absurd (nothing back t cc)
  where
    nothing : (back : List Terminal) (t : Terminal) → back ++ t ∷ [] ≡ [] → ⊥
    nothing [] t e = cc
    nothing (b ∷ back) t e = cc
last_is (f ∷ front) [] t u e = absurd (nothing front u (cc))
  where
    nothing : (back : List Terminal) (t : Terminal) → [] ≡ back ++ t ∷ [] → ⊥
    nothing [] t e = cc
    nothing (b ∷ back) t e = cc
last_is (f ∷ front) (b ∷ back) t u e = last_is front back t u cc

texts_one : {bytes : List ℕ} {ts rest : List Terminal} (p : ℕ) (u : List ℕ) → rest ≡ [] → Texts bytes ts rest → Texts (bytes ++ spelled u) (ts ++ terminal c.Quoted p u ∷ []) []
texts_one {rest = rest} p u e (last_text {t = t}) = more_texts t (spelled u) (subst (λ r. Texts (spelled u) (r ++ terminal c.Quoted p u ∷ []) []) (sym e) last_text)
texts_one p u e (more_texts {p = q} t bytes {ts = ts} texts) =
    subst (λ b. Texts b (terminal c.Quoted q t ∷ (ts ++ terminal c.Quoted p u ∷ [])) []) (sym (append_assoc (spelled t) bytes (spelled u))) (more_texts {p = q} t (bytes ++ spelled u) (texts_one p u e texts))

plain_inv : (before : List Terminal) (mode : Mode) → is_text mode ≡ false → EndsUnquoted before → TextInv before mode
plain_inv before (in_text h slot place bytes) e unq = cc
plain_inv before at_field e unq = unq
plain_inv before behind_field e unq = unq
plain_inv before (behind_name h) e unq = unq
plain_inv before (behind_colon h) e unq = unq
plain_inv before (in_list h colon) e unq = unq
plain_inv before (at_item h colon values) e unq = unq
plain_inv before (behind_item h colon values) e unq = unq

unquoted_inv : (before : List Terminal) (mode : Mode) → is_text mode ≡ false → TextInv before mode → EndsUnquoted before
unquoted_inv before (in_text h slot place bytes) e inv = cc
unquoted_inv before at_field e inv = inv
unquoted_inv before behind_field e inv = inv
unquoted_inv before (behind_name h) e inv = inv
unquoted_inv before (behind_colon h) e inv = inv
unquoted_inv before (in_list h colon) e inv = inv
unquoted_inv before (at_item h colon values) e inv = inv
unquoted_inv before (behind_item h colon values) e inv = inv

ends_unquoted : (before : List Terminal) (t : Terminal) → is_quoted t.class ≡ false → EndsUnquoted (before ++ t ∷ [])
ends_unquoted before t unq front u e = ap (λ w. is_quoted w.class) (sym (last_is front before t u e)) ∙ unq

inv_unquoted : (before : List Terminal) (s : State) (t : Terminal) (r : State) → is_quoted t.class ≡ false → read_of s t ≡ Some r → TextInv (before ++ t ∷ []) r.mode
inv_unquoted before s t r unq e =
    let a : After t.class s.frames r = some_then (read_of s t) (After t.class s.frames) r (after s.mode t.class t s.top s.frames) e in
    plain_inv (before ++ t ∷ []) r.mode (a.unquoted unq) (ends_unquoted before t unq)

-- a quoted token begins a text or goes on with one
joined_inv : (before : List Terminal) (place : ℕ) (bytes : List ℕ) (p : ℕ) (u : List ℕ) → InText before place bytes → InText (before ++ terminal c.Quoted p u ∷ []) place (bytes ++ spelled u)
joined_inv before place bytes p u inv = record {
  front = inv.front;
  first = inv.first;
  texts = inv.texts ++ terminal c.Quoted p u ∷ [];
  is = ap (λ b. b ++ terminal c.Quoted p u ∷ []) inv.is ∙ append_assoc inv.front (inv.first ∷ inv.texts) (terminal c.Quoted p u ∷ []);
  unquoted = inv.unquoted;
  joins = texts_one p u refl inv.joins;
  begins = inv.begins;
}

begun_inv : (before : List Terminal) (p : ℕ) (u : List ℕ) → EndsUnquoted before → InText (before ++ terminal c.Quoted p u ∷ []) p (spelled u)
begun_inv before p u unq = record { front = before; first = terminal c.Quoted p u; texts = []; is = refl; unquoted = unq; joins = last_text; begins = refl }

begins_inv : (before : List Terminal) (mode : Mode) (p : ℕ) (u : List ℕ) (top : List Item) (frames : List Frame) (r : State) → is_text mode ≡ false → TextInv before mode → plain mode c.Quoted (terminal c.Quoted p u) top frames ≡ Some r → TextInv (before ++ terminal c.Quoted p u ∷ []) r.mode
begins_inv before mode p u top frames r other inv e =
    let b : BeginsText (terminal c.Quoted p u) r.mode = some_then (plain mode c.Quoted (terminal c.Quoted p u) top frames) (λ s. BeginsText (terminal c.Quoted p u) s.mode) r (begins_text mode (terminal c.Quoted p u) top frames other) e in
    subst (λ m. TextInv (before ++ terminal c.Quoted p u ∷ []) m) (sym b.is) (begun_inv before p u (unquoted_inv before mode other inv))

inv_quoted : (before : List Terminal) (mode : Mode) (p : ℕ) (u : List ℕ) (top : List Item) (frames : List Frame) (r : State) → TextInv before mode → plain mode c.Quoted (terminal c.Quoted p u) top frames ≡ Some r → TextInv (before ++ terminal c.Quoted p u ∷ []) r.mode
inv_quoted before (in_text h slot place bytes) p u top frames r inv e =
    let is : st (in_text h slot place (bytes ++ spelled u)) top frames ≡ r = cc in
    subst (λ q. TextInv (before ++ terminal c.Quoted p u ∷ []) q.mode) is (joined_inv before place bytes p u inv)
inv_quoted before at_field p u top frames r inv e = begins_inv before at_field p u top frames r refl inv e
inv_quoted before behind_field p u top frames r inv e = begins_inv before behind_field p u top frames r refl inv e
inv_quoted before (behind_name h) p u top frames r inv e = begins_inv before (behind_name h) p u top frames r refl inv e
inv_quoted before (behind_colon h) p u top frames r inv e = begins_inv before (behind_colon h) p u top frames r refl inv e
inv_quoted before (in_list h colon) p u top frames r inv e = begins_inv before (in_list h colon) p u top frames r refl inv e
inv_quoted before (at_item h colon values) p u top frames r inv e = begins_inv before (at_item h colon values) p u top frames r refl inv e
inv_quoted before (behind_item h colon values) p u top frames r inv e = begins_inv before (behind_item h colon values) p u top frames r refl inv e

inv_read : (before : List Terminal) (s : State) (class : Class) (p : ℕ) (u : List ℕ) (r : State) → TextInv before s.mode → read_of s (terminal class p u) ≡ Some r → TextInv (before ++ terminal class p u ∷ []) r.mode
inv_read before s c.Quoted p u r inv e = inv_quoted before s.mode p u s.top s.frames r inv e
inv_read before s class p u r inv e = inv_unquoted before s (terminal class p u) r refl e

inv_step : (before : List Terminal) (s : State) (t : Terminal) (r : State) → Inv before s → read_of s t ≡ Some r → Inv (before ++ t ∷ []) r
inv_step before s t r inv e =
    let a : After t.class s.frames r = some_then (read_of s t) (After t.class s.frames) r (after s.mode t.class t s.top s.frames) e in
    record { nests = a.nests ∙ ap (λ n. nest n t.class) inv.nests ∙ sym (nesting_one 0 before t); text = inv_read before s t.class t.place t.text r inv.text e }

pub inv_begin : Inv [] begin
inv_begin = record { nests = refl; text = λ front t e. absurd (nothing front t e) }
  where
    nothing : (front : List Terminal) (t : Terminal) → [] ≡ front ++ t ∷ [] → ⊥
    nothing [] t e = cc
    nothing (b ∷ front) t e = cc

pub inv_walk : (strict : Bool) (before ts : List Terminal) (s r : State) → Inv before s → walk strict ts s ≡ Ok r → Inv (before ++ ts) r
unfolding walk
inv_walk strict before [] s r inv e = let is : s ≡ r = cc in subst (λ b. Inv b r) (sym (append-nil before)) (subst (λ q. Inv before q) is inv)
inv_walk strict before (t ∷ ts) s r inv e =
    let c : (q : State) × (step strict s t ≡ Ok q) × (walk strict ts q ≡ Ok r) = carried_ok (step strict s t) (λ q. walk strict ts q) r e in
    subst (λ b. Inv b r) (append_assoc before (t ∷ []) ts) (inv_walk strict (before ++ t ∷ []) ts c.0 r (inv_step before s t c.0 inv (read_step strict s t c.0 c.1)) c.2)

pub run_walk : (strict : Bool) (end : ℕ) (ts : List Terminal) (s : State) → run strict end ts s ≡ carry (walk strict ts s) (λ r. finish strict end r)
unfolding run
run_walk strict end ts s = ap (λ l. run strict end l s) (sym (append-nil ts)) ∙ run_append strict end ts [] s

-- the free machine reads exactly what begins some form
pub free_one : (before : List Terminal) (t : Terminal) (s : State) → walk true before begin ≡ Ok s → Begins (before ++ t ∷ []) → (r : State) × (read_of s t ≡ Some r)
free_one before t s e begins =
    let w : (r : State) × (walk false (before ++ t ∷ []) begin ≡ Ok r) = begins_walk (before ++ t ∷ []) begins in
    let one : carry (walk false before begin) (λ q. step false q t) ≡ Ok w.0 = sym (walk_one false before t begin) ∙ w.1 in
    let stepped : step false s t ≡ Ok w.0 = sym (ap (λ q. carry q (λ z. step false z t)) (loosen before begin s e)) ∙ one in
    (w.0, read_step false s t w.0 stepped)

pub one_free : (before : List Terminal) (t : Terminal) (s r : State) → walk true before begin ≡ Ok s → read_of s t ≡ Some r → Begins (before ++ t ∷ [])
one_free before t s r e read = walk_begins (before ++ t ∷ []) r (walk_one false before t begin ∙ ap (λ q. carry q (λ z. step false z t)) (loosen before begin s e) ∙ free_step s t r read)

pub free_finish : (mode : Mode) (top : List Item) (frames : List Frame) (end : ℕ) (items : List Item) → done mode top frames ≡ Some items → finish false end (st mode top frames) ≡ Ok items
free_finish mode top frames end items e = rw (free_text mode false, e) refl

-- the fault of a text that isn't UTF-8, behind its quoted tokens
bad_from : (end : ℕ) (before after : List Terminal) (s : State) (f : Fault) (quoted : Bool) → walk true before begin ≡ Ok s → Inv before s → NotUtf8 s.mode quoted f → BeginsUnquoted after → Faulty (before ++ after) end f.place f.what
bad_from end before after s f quoted w inv bad unq =
    let text : InText before bad.place bad.bytes = subst (λ m. TextInv before m) bad.in_it inv.text in
    let begins : Begins (text.front ++ text.first ∷ text.texts) = subst Begins text.is (walk_begins before s (loosen before begin s w)) in
    let split : before ++ after ≡ text.front ++ ((text.first ∷ text.texts) ++ after) = ap (λ b. b ++ after) text.is ∙ append_assoc text.front (text.first ∷ text.texts) after in
    let told : Faulty (before ++ after) end text.first.place BadUtf8 = bad_text text.front text.first text.texts after bad.bytes split begins text.unquoted text.joins unq bad.not_utf8 in
    subst (λ g. Faulty (before ++ after) end g.place g.what) (sym bad.is) (subst (λ n. Faulty (before ++ after) end n BadUtf8) text.begins told)

finish_fault : (end : ℕ) (before : List Terminal) (s : State) (f : Fault) → walk true before begin ≡ Ok s → Inv before s → FinishFails s end f → Faulty before end f.place f.what
finish_fault end before s f w inv (ends_bad bad) = subst (λ b. Faulty b end f.place f.what) (append-nil before) (bad_from end before [] s f false w inv bad tt)
finish_fault end before s f w inv (ends_early none is) =
    let free : walk false before begin ≡ Ok s = loosen before begin s w in
    let no_form : (items : List Item) → HasForm before items → ⊥ = λ items form.
    let runs : finish false end s ≡ Ok items = sym (ap (λ q. carry q (λ r. finish false end r)) free) ∙ sym (run_walk false end before begin) ∙ form_run end before items form in
    let some : done s.mode s.top s.frames ≡ Some items = finish_read false s end items runs in cc in
    subst (λ g. Faulty before end g.place g.what) (sym is) (early (walk_begins before s free) no_form)

step_fault : (end : ℕ) (before : List Terminal) (t : Terminal) (ts : List Terminal) (s : State) (f : Fault) → walk true before begin ≡ Ok s → Inv before s → StepFails s t f → Faulty (before ++ t ∷ ts) end f.place f.what
step_fault end before t ts s f w inv (unexpected none is) =
    let no_more : Begins (before ++ t ∷ []) → ⊥ = λ begins. let r : (r : State) × (read_of s t ≡ Some r) = free_one before t s w begins in let some : read_of s t ≡ Some r.0 = r.1 in cc in
    subst (λ g. Faulty (before ++ t ∷ ts) end g.place g.what) (sym is) (stray before t ts refl (walk_begins before s (loosen before begin s w)) no_more)
step_fault end before t ts s f w inv (too_deep r read is_deep) =
    subst (λ g. Faulty (before ++ t ∷ ts) end g.place g.what) (sym is_deep.is) (deep before t ts refl (one_free before t s r w read) is_deep.opens (subst (λ n. 32 ≤ n) inv.nests is_deep.below))
step_fault end before t ts s f w inv (bad_bytes bad) = bad_from end before (t ∷ ts) s f (is_quoted t.class) w inv bad bad.ends

fault_from : (end : ℕ) (before ts : List Terminal) (s : State) (f : Fault) → walk true before begin ≡ Ok s → Inv before s → run true end ts s ≡ Err f → Faulty (before ++ ts) end f.place f.what
unfolding run
fault_from end before [] s f w inv e = subst (λ b. Faulty b end f.place f.what) (sym (append-nil before)) (finish_fault end before s f w inv (finish_fails s end f e))
fault_from end before (t ∷ ts) s f w inv e =
    carried (step true s t) refl e
    (λ r stepped rest. subst (λ b. Faulty b end f.place f.what) (append_assoc before (t ∷ []) ts)
    (fault_from end (before ++ t ∷ []) ts r f (walk_one true before t begin ∙ ap (λ q. carry q (λ z. step true z t)) w ∙ stepped) (inv_step before s t r inv (read_step true s t r stepped)) rest))
  where
    carried : (o : Result State Fault) → step true s t ≡ o → carry o (λ r. run true end ts r) ≡ Err f
        → ((r : State) → step true s t ≡ Ok r → run true end ts r ≡ Err f → Faulty (before ++ t ∷ ts) end f.place f.what) → Faulty (before ++ t ∷ ts) end f.place f.what
    carried (Ok r) is e go = go r is e
    carried (Err g) is e go = let same : g ≡ f = cc in step_fault end before t ts s f w inv (step_fails s t f (is ∙ ap Err same))

pub run_fault : (end : ℕ) (tokens : List Terminal) (f : Fault) → run true end tokens begin ≡ Err f → Faulty tokens end f.place f.what
unfolding walk
run_fault end tokens f e = fault_from end [] tokens begin f refl inv_begin e
