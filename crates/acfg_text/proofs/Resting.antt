-- What may still come in a state of the machine, in terms of the grammar: a run that ends well is a derivation.
use Rattle.std.proofs.Common.{◌≡◌, ℕ, suc, ◌-◌, ◌<◌, Bool, true, false, List, [], ◌∷◌, ◌++◌, length, Option, Some, None, Result, Ok, Err, refl, sym, ◌∙◌, subst, arith, append_assoc, append-nil}
use Rattle.std.specs.Prelude.{◌&&◌, not, nat_le}
use Rattle.std.proofs.lemmas.Bool.Decides.{nat_tests}
use Rattle.std.specs.Str.{is_utf8}
use Rattle.acfg_text.specs.declared.classes.Class.{Class}
use Rattle.acfg_text.specs.declared.classes.Class.TheVariants as c
use Rattle.acfg_text.specs.declared.classes.Bracket.{Bracket}
use Rattle.acfg_text.specs.declared.classes.Bracket.TheVariants.{Curly, Angle}
use Rattle.acfg_text.specs.declared.tree.Item.{Item}
use Rattle.acfg_text.specs.declared.tree.Value.{Value}
use Rattle.acfg_text.specs.declared.tree.Value.TheVariants as v
use Rattle.acfg_text.specs.declared.fault.TextWhat.TheVariants.{TooDeep, BadUtf8}
use Rattle.acfg_text.specs.Trees.{item, tree}
use Rattle.acfg_text.specs.Terminals.{Terminal, terminal}
use Rattle.acfg_text.specs.Escapes.{spelled}
use Rattle.acfg_text.specs.Grammar.{Room, free, left, Enters, enters_free, enters_left, Takes, Texts, last_text, more_texts, Scalar, word_is, number_is, text_is, Ends, bare_end, comma_end, semicolon_end, Fields, no_fields, more_fields, field_is, Held, holds_scalar, holds_message, holds_colon_message, holds_list, holds_colon_list, Message, message_is, Listed, empty_list, filled_list, Elements, last_element, more_elements, Element, scalar_element, message_element, Derives, HasForm}
use Rattle.acfg_text.specs.TextFaults.{is_quoted}
use Rattle.acfg_text.specs.Machine.{Head, head_of, Slot, single, among, Frame, Mode, at_field, behind_field, behind_name, behind_colon, in_list, at_item, behind_item, in_text, State, st, Fault, plain_item, listed_item, settle, opened, same, frame, closed_by, on_text, refused, text_fault, depth_fault, step_by, step, step_at, finish_by, finish, carry, run, begin}
use Rattle.acfg_text.proofs.Leading.{Accepts, settles}

abbrev room_of : Bool → List Frame → Room
room_of false frames = free
room_of true frames = left (32 - length frames)

-- any number of quoted tokens
pub data Onward : List ℕ → List Terminal → List Terminal → Type 0 where
  no_texts : {ts : List Terminal} → Onward [] ts ts
  some_texts : {bytes : List ℕ} {ts rest : List Terminal} → Texts bytes ts rest → Onward bytes ts rest

module _ (room : Room) (K : List Item → List Terminal → Type 0) where
  -- fields, and then what closes them
  pub record FieldsThen (top : List Item) (ts : List Terminal) : Type 0 where
    pub more : List Item
    pub mid : List Terminal
    pub fields : Fields room more ts mid
    pub out : K (top ++ more) mid

  -- a field's end, and then fields
  pub record EndThen (top : List Item) (ts : List Terminal) : Type 0 where
    pub mid : List Terminal
    pub ends : Ends ts mid
    pub then_fields : FieldsThen top mid

  -- the items of a list that are still due
  pub record AtItem (h : Head) (colon : Bool) (values : List Value) (top : List Item) (ts : List Terminal) : Type 0 where
    pub more : List Value
    pub mid : List Terminal
    pub elements : Elements room colon more ts mid
    pub end : EndThen (top ++ listed_item h (values ++ more) ∷ []) mid

  pub data BehindItem (h : Head) (colon : Bool) (values : List Value) (top : List Item) : List Terminal → Type 0 where
    list_closes : {q : ℕ} {u : List ℕ} {rest : List Terminal} → EndThen (top ++ listed_item h values ∷ []) rest → BehindItem h colon values top (terminal c.CloseList q u ∷ rest)
    comma_then : {q : ℕ} {u : List ℕ} {mid : List Terminal} → AtItem h colon values top mid → BehindItem h colon values top (terminal c.Comma q u ∷ mid)

  abbrev pub Settled : Head → Slot → Value → List Item → List Terminal → Type 0
  Settled h single value top ts = EndThen (top ++ plain_item h value ∷ []) ts
  Settled h (among colon values) value top ts = BehindItem h colon (values ++ value ∷ []) top ts

  pub record HeldThen (h : Head) (top : List Item) (ts : List Terminal) : Type 0 where
    pub listed : Bool
    pub values : List Value
    pub mid : List Terminal
    pub held : Held room listed values ts mid
    pub end : EndThen (top ++ item h.name h.place listed values ∷ []) mid

  pub record ColonThen (h : Head) (top : List Item) (ts : List Terminal) : Type 0 where
    pub listed : Bool
    pub values : List Value
    pub mid : List Terminal
    pub held : (p : ℕ) (t : List ℕ) → Held room listed values (terminal c.Colon p t ∷ ts) mid
    pub end : EndThen (top ++ item h.name h.place listed values ∷ []) mid

  pub record ListThen (h : Head) (colon : Bool) (top : List Item) (ts : List Terminal) : Type 0 where
    pub values : List Value
    pub mid : List Terminal
    pub listed : (p : ℕ) (t : List ℕ) → Listed room colon values (terminal c.OpenList p t ∷ ts) mid
    pub end : EndThen (top ++ listed_item h values ∷ []) mid

  pub record TextThen (h : Head) (slot : Slot) (place : ℕ) (bytes : List ℕ) (top : List Item) (ts : List Terminal) : Type 0 where
    pub more : List ℕ
    pub mid : List Terminal
    pub onward : Onward more ts mid
    pub takes : Takes room (bytes ++ more)
    pub settled : Settled h slot (v.Text place (bytes ++ more)) top mid

  abbrev pub Waiting : Mode → List Item → List Terminal → Type 0
  Waiting at_field top ts = FieldsThen top ts
  Waiting behind_field top ts = EndThen top ts
  Waiting (behind_name h) top ts = HeldThen h top ts
  Waiting (behind_colon h) top ts = ColonThen h top ts
  Waiting (in_list h colon) top ts = ListThen h colon top ts
  Waiting (at_item h colon values) top ts = AtItem h colon values top ts
  Waiting (behind_item h colon values) top ts = BehindItem h colon values top ts
  Waiting (in_text h slot place bytes) top ts = TextThen h slot place bytes top ts

-- the closing bracket of a message, and what follows the message
pub data Closing (bracket : Bracket) (S : ℕ → List Terminal → Type 0) : List Terminal → Type 0 where
  closes_by : {e : ℕ} {u : List ℕ} {rest : List Terminal} → S e rest → Closing bracket S (terminal (c.Close bracket) e u ∷ rest)

abbrev pub Out : Bool → List Item → List Frame → List Item → List Terminal → Type 0
Out strict items [] top ts = (ts ≡ []) × (items ≡ top)
Out strict items (f ∷ frames) top ts = Closing f.bracket (λ e rest. Settled (room_of strict frames) (λ i r. Out strict items frames i r) f.head f.slot (v.Message f.place (tree top e)) f.top rest) ts

-- these tokens complete the state to these items
abbrev pub Rests : Bool → List Item → Mode → List Item → List Frame → List Terminal → Type 0
Rests strict items mode top frames ts = Waiting (room_of strict frames) (λ i r. Out strict items frames i r) mode top ts

abbrev pub RestsAt : Bool → List Item → State → List Terminal → Type 0
RestsAt strict items s ts = Rests strict items s.mode s.top s.frames ts

abbrev pub OkThen : {A E : Type 0} → Result A E → (A → Type 0) → Type 0
OkThen (Ok a) P = P a
OkThen (Err e) P = ⊥

same_is : (a b : Bracket) → same a b ≡ true → a ≡ b
same_is Curly Curly e = refl
same_is Angle Angle e = refl
same_is Curly Angle e = cc
same_is Angle Curly e = cc

enters_of : (strict : Bool) (frames : List Frame) (f : Frame) → (strict && nat_le 32 (length frames)) ≡ false → Enters (room_of strict frames) (room_of strict (f ∷ frames))
enters_of false frames f e = enters_free
enters_of true frames f e =
    let below : length frames < 32 = grind (arith, nat_tests) in
    let is : 32 - length frames ≡ suc (32 - length (f ∷ frames)) = omega arith in
    subst (λ n. Enters (left n) (left (32 - length (f ∷ frames)))) (sym is) enters_left

takes_of : (strict : Bool) (frames : List Frame) (bytes : List ℕ) → Accepts strict bytes → Takes (room_of strict frames) bytes
takes_of false frames bytes e = tt
takes_of true frames bytes e = denied (is_utf8 bytes) e
  where
    denied : (b : Bool) → not b ≡ false → b ≡ true
    denied true e = refl
    denied false e = cc

-- What follows is one lemma for each mode: whatever completes the state behind a terminal completes, with it, the state before.
module _ (strict : Bool) (items : List Item) where
  settled_rests : (h : Head) (slot : Slot) (value : Value) (top : List Item) (frames : List Frame) (ts : List Terminal) → RestsAt strict items (settle h slot value top frames) ts
      → Settled (room_of strict frames) (λ i r. Out strict items frames i r) h slot value top ts
  settled_rests h single value top frames ts r = r
  settled_rests h (among colon values) value top frames ts r = r

  field_first : (p : ℕ) (u : List ℕ) (top : List Item) (frames : List Frame) (ts : List Terminal) → Rests strict items (behind_name (head_of (terminal c.Word p u))) top frames ts → Rests strict items at_field top frames (terminal c.Word p u ∷ ts)
  field_first p u top frames ts r =
      let i : Item = item u p r.listed r.values in
      let rest : FieldsThen (room_of strict frames) (λ i r. Out strict items frames i r) (top ++ i ∷ []) r.end.mid = r.end.then_fields in
      record {
        more = i ∷ rest.more;
        mid = rest.mid;
        fields = more_fields (field_is r.held r.end.ends) rest.fields;
        out = subst (λ l. Out strict items frames l rest.mid) (append_assoc top (i ∷ []) rest.more) rest.out;
      }

  closing : (b : Bracket) (f : Frame) (p : ℕ) (u : List ℕ) (top : List Item) (frames : List Frame) (ts : List Terminal) (q : Bool) → same b f.bracket ≡ q
      → OkThen (step_by None (closed_by q f p top frames) None p) (λ s. RestsAt strict items s ts)
      → Rests strict items at_field top (f ∷ frames) (terminal (c.Close b) p u ∷ ts)
  closing b f p u top frames ts true e ok =
      let out : Out strict items (f ∷ frames) top (terminal (c.Close f.bracket) p u ∷ ts) = closes_by (settled_rests f.head f.slot (v.Message f.place (tree top p)) f.top frames ts ok) in
      let there : Out strict items (f ∷ frames) top (terminal (c.Close b) p u ∷ ts) = subst (λ d. Out strict items (f ∷ frames) top (terminal (c.Close d) p u ∷ ts)) (sym (same_is b f.bracket e)) out in
      record { more = []; mid = terminal (c.Close b) p u ∷ ts; fields = no_fields; out = subst (λ l. Out strict items (f ∷ frames) l (terminal (c.Close b) p u ∷ ts)) (sym (append-nil top)) there }
  closing b f p u top frames ts false e ok = absurd ok

  back_field : (class : Class) (p : ℕ) (u : List ℕ) (top : List Item) (frames : List Frame) (ts : List Terminal) → OkThen (step_at strict at_field class (terminal class p u) top frames) (λ s. RestsAt strict items s ts) → Rests strict items at_field top frames (terminal class p u ∷ ts)
  back_field c.Word p u top frames ts ok = field_first p u top frames ts ok
  back_field (c.Close b) p u top [] ts ok = absurd ok
  back_field (c.Close b) p u top (f ∷ frames) ts ok = closing b f p u top frames ts (same b f.bracket) refl ok
  back_field (c.Open b) p u top frames ts ok = absurd (never (strict && nat_le 32 (length frames)) p ok)
    where
      never : (q : Bool) (p : ℕ) → OkThen (step_by None None (refused q p TooDeep) p) (λ s. RestsAt strict items s ts) → ⊥
      never true p ok = ok
      never false p ok = ok
  back_field _ p u top frames ts ok = absurd ok

  back_behind : (class : Class) (p : ℕ) (u : List ℕ) (top : List Item) (frames : List Frame) (ts : List Terminal) → OkThen (step_at strict behind_field class (terminal class p u) top frames) (λ s. RestsAt strict items s ts) → Rests strict items behind_field top frames (terminal class p u ∷ ts)
  back_behind c.Comma p u top frames ts ok = record { mid = ts; ends = comma_end; then_fields = ok }
  back_behind c.Semicolon p u top frames ts ok = record { mid = ts; ends = semicolon_end; then_fields = ok }
  back_behind c.Word p u top frames ts ok = record { mid = terminal c.Word p u ∷ ts; ends = bare_end; then_fields = back_field c.Word p u top frames ts ok }
  back_behind (c.Close b) p u top frames ts ok = record { mid = terminal (c.Close b) p u ∷ ts; ends = bare_end; then_fields = back_field (c.Close b) p u top frames ts ok }
  back_behind (c.Open b) p u top frames ts ok = record { mid = terminal (c.Open b) p u ∷ ts; ends = bare_end; then_fields = back_field (c.Open b) p u top frames ts ok }
  back_behind _ p u top frames ts ok = absurd ok

  -- a message that opens, and what follows it
  record MessageThen (h : Head) (slot : Slot) (top : List Item) (frames : List Frame) (t : Terminal) (ts : List Terminal) : Type 0 where
    value : Value
    rest : List Terminal
    message : Message (room_of strict frames) value (t ∷ ts) rest
    settled : Settled (room_of strict frames) (λ i r. Out strict items frames i r) h slot value top rest

  message_then : (h : Head) (slot : Slot) (b : Bracket) (p : ℕ) (u : List ℕ) (top : List Item) (frames : List Frame) (ts : List Terminal) (q : Bool) → (strict && nat_le 32 (length frames)) ≡ q
      → OkThen (step_by None (Some (opened h slot b p top frames)) (refused q p TooDeep) p) (λ s. RestsAt strict items s ts) → MessageThen h slot top frames (terminal (c.Open b) p u) ts
  message_then h slot b p u top frames ts true e ok = absurd ok
  message_then h slot b p u top frames ts false e ok = whole ok.more ok.mid ok.fields ok.out
    where
      whole : (more : List Item) (mid : List Terminal) → Fields (room_of strict (frame h slot top p b ∷ frames)) more ts mid → Out strict items (frame h slot top p b ∷ frames) more mid → MessageThen h slot top frames (terminal (c.Open b) p u) ts
      whole more mid fields (closes_by {e = end} {rest = rest} settled) =
          record { value = v.Message p (tree more end); rest = rest; message = message_is (enters_of strict frames (frame h slot top p b) e) fields; settled = settled }

  back_name : (h : Head) (class : Class) (p : ℕ) (u : List ℕ) (top : List Item) (frames : List Frame) (ts : List Terminal) → OkThen (step_at strict (behind_name h) class (terminal class p u) top frames) (λ s. RestsAt strict items s ts) → Rests strict items (behind_name h) top frames (terminal class p u ∷ ts)
  back_name h c.Colon p u top frames ts ok = record { listed = ok.listed; values = ok.values; mid = ok.mid; held = ok.held p u; end = ok.end }
  back_name h (c.Open b) p u top frames ts ok =
      let m : MessageThen h single top frames (terminal (c.Open b) p u) ts = message_then h single b p u top frames ts (strict && nat_le 32 (length frames)) refl ok in
      record { listed = false; values = m.value ∷ []; mid = m.rest; held = holds_message m.message; end = m.settled }
  back_name h c.OpenList p u top frames ts ok = record { listed = true; values = ok.values; mid = ok.mid; held = holds_list (ok.listed p u); end = ok.end }
  back_name h _ p u top frames ts ok = absurd ok

  -- quoted tokens behind one, and the text that they are with it
  texts_of : (p : ℕ) (u : List ℕ) (more : List ℕ) (ts rest : List Terminal) → Onward more ts rest → Texts (spelled u ++ more) (terminal c.Quoted p u ∷ ts) rest
  texts_of p u more ts rest no_texts = subst (λ b. Texts b (terminal c.Quoted p u ∷ rest) rest) (sym (append-nil (spelled u))) last_text
  texts_of p u more ts rest (some_texts texts) = more_texts u more texts

  -- a text that begins, and what follows it
  text_scalar : (h : Head) (slot : Slot) (p : ℕ) (u : List ℕ) (top : List Item) (frames : List Frame) (ts : List Terminal) (r : Rests strict items (in_text h slot p (spelled u)) top frames ts)
      → Scalar (room_of strict frames) (v.Text p (spelled u ++ r.more)) (terminal c.Quoted p u ∷ ts) r.mid
  text_scalar h slot p u top frames ts r = text_is (texts_of p u r.more ts r.mid r.onward) r.takes

  back_colon : (h : Head) (class : Class) (p : ℕ) (u : List ℕ) (top : List Item) (frames : List Frame) (ts : List Terminal) → OkThen (step_at strict (behind_colon h) class (terminal class p u) top frames) (λ s. RestsAt strict items s ts) → Rests strict items (behind_colon h) top frames (terminal class p u ∷ ts)
  back_colon h c.Word p u top frames ts ok = record { listed = false; values = v.Word p u ∷ []; mid = ts; held = λ q w. holds_scalar word_is; end = ok }
  back_colon h c.Number p u top frames ts ok = record { listed = false; values = v.Number p u ∷ []; mid = ts; held = λ q w. holds_scalar number_is; end = ok }
  back_colon h c.Quoted p u top frames ts ok =
      record { listed = false; values = v.Text p (spelled u ++ ok.more) ∷ []; mid = ok.mid; held = λ q w. holds_scalar (text_scalar h single p u top frames ts ok); end = ok.settled }
  back_colon h (c.Open b) p u top frames ts ok =
      let m : MessageThen h single top frames (terminal (c.Open b) p u) ts = message_then h single b p u top frames ts (strict && nat_le 32 (length frames)) refl ok in
      record { listed = false; values = m.value ∷ []; mid = m.rest; held = λ q w. holds_colon_message m.message; end = m.settled }
  back_colon h c.OpenList p u top frames ts ok = record { listed = true; values = ok.values; mid = ok.mid; held = λ q w. holds_colon_list (ok.listed p u); end = ok.end }
  back_colon h _ p u top frames ts ok = absurd ok

  -- one item of a list, and what follows it
  element_then : (h : Head) (colon : Bool) (values : List Value) (value : Value) (top : List Item) (frames : List Frame) (ts rest : List Terminal) → Element (room_of strict frames) colon value ts rest
      → BehindItem (room_of strict frames) (λ i r. Out strict items frames i r) h colon (values ++ value ∷ []) top rest → Rests strict items (at_item h colon values) top frames ts
  element_then h colon values value top frames ts rest element (list_closes {rest = behind} end) = record { more = value ∷ []; mid = behind; elements = last_element element; end = end }
  element_then h colon values value top frames ts rest element (comma_then then_item) =
      record {
        more = value ∷ then_item.more;
        mid = then_item.mid;
        elements = more_elements element then_item.elements;
        end = subst (λ l. EndThen (room_of strict frames) (λ i r. Out strict items frames i r) (top ++ listed_item h l ∷ []) then_item.mid) (append_assoc values (value ∷ []) then_item.more) then_item.end;
      }

  back_item : (h : Head) (colon : Bool) (values : List Value) (class : Class) (p : ℕ) (u : List ℕ) (top : List Item) (frames : List Frame) (ts : List Terminal) → OkThen (step_at strict (at_item h colon values) class (terminal class p u) top frames) (λ s. RestsAt strict items s ts)
      → Rests strict items (at_item h colon values) top frames (terminal class p u ∷ ts)
  back_item h colon values (c.Open b) p u top frames ts ok =
      let m : MessageThen h (among colon values) top frames (terminal (c.Open b) p u) ts = message_then h (among colon values) b p u top frames ts (strict && nat_le 32 (length frames)) refl ok in
      element_then h colon values m.value top frames (terminal (c.Open b) p u ∷ ts) m.rest (message_element m.message) m.settled
  back_item h true values c.Word p u top frames ts ok = element_then h true values (v.Word p u) top frames (terminal c.Word p u ∷ ts) ts (scalar_element word_is) ok
  back_item h true values c.Number p u top frames ts ok = element_then h true values (v.Number p u) top frames (terminal c.Number p u ∷ ts) ts (scalar_element number_is) ok
  back_item h true values c.Quoted p u top frames ts ok =
      element_then h true values (v.Text p (spelled u ++ ok.more)) top frames (terminal c.Quoted p u ∷ ts) ok.mid (scalar_element (text_scalar h (among true values) p u top frames ts ok)) ok.settled
  back_item h colon values _ p u top frames ts ok = absurd ok

  list_then : (h : Head) (colon : Bool) (top : List Item) (frames : List Frame) (ts : List Terminal) → Rests strict items (at_item h colon []) top frames ts → Rests strict items (in_list h colon) top frames ts
  list_then h colon top frames ts r = record { values = r.more; mid = r.mid; listed = λ q w. filled_list r.elements; end = r.end }

  back_list : (h : Head) (colon : Bool) (class : Class) (p : ℕ) (u : List ℕ) (top : List Item) (frames : List Frame) (ts : List Terminal) → OkThen (step_at strict (in_list h colon) class (terminal class p u) top frames) (λ s. RestsAt strict items s ts)
      → Rests strict items (in_list h colon) top frames (terminal class p u ∷ ts)
  back_list h colon c.CloseList p u top frames ts ok = record { values = []; mid = ts; listed = λ q w. empty_list; end = ok }
  back_list h colon c.Word p u top frames ts ok = list_then h colon top frames (terminal c.Word p u ∷ ts) (back_item h colon [] c.Word p u top frames ts ok)
  back_list h colon c.Number p u top frames ts ok = list_then h colon top frames (terminal c.Number p u ∷ ts) (back_item h colon [] c.Number p u top frames ts ok)
  back_list h colon c.Quoted p u top frames ts ok = list_then h colon top frames (terminal c.Quoted p u ∷ ts) (back_item h colon [] c.Quoted p u top frames ts ok)
  back_list h colon (c.Open b) p u top frames ts ok = list_then h colon top frames (terminal (c.Open b) p u ∷ ts) (back_item h colon [] (c.Open b) p u top frames ts ok)
  back_list h colon _ p u top frames ts ok = absurd ok

  back_behind_item : (h : Head) (colon : Bool) (values : List Value) (class : Class) (p : ℕ) (u : List ℕ) (top : List Item) (frames : List Frame) (ts : List Terminal) → OkThen (step_at strict (behind_item h colon values) class (terminal class p u) top frames) (λ s. RestsAt strict items s ts)
      → Rests strict items (behind_item h colon values) top frames (terminal class p u ∷ ts)
  back_behind_item h colon values c.Comma p u top frames ts ok = comma_then ok
  back_behind_item h colon values c.CloseList p u top frames ts ok = list_closes ok
  back_behind_item h colon values (c.Open b) p u top frames ts ok = absurd (never (strict && nat_le 32 (length frames)) p ok)
    where
      never : (q : Bool) (p : ℕ) → OkThen (step_by None None (refused q p TooDeep) p) (λ s. RestsAt strict items s ts) → ⊥
      never true p ok = ok
      never false p ok = ok
  back_behind_item h colon values _ p u top frames ts ok = absurd ok

  -- a text that no further quoted token follows
  text_ends : (h : Head) (slot : Slot) (place : ℕ) (bytes : List ℕ) (top : List Item) (frames : List Frame) (ts : List Terminal) → Accepts strict bytes → RestsAt strict items (settle h slot (v.Text place bytes) top frames) ts → Rests strict items (in_text h slot place bytes) top frames ts
  text_ends h slot place bytes top frames ts acc r =
      let whole : bytes ++ [] ≡ bytes = append-nil bytes in
      record {
        more = [];
        mid = ts;
        onward = no_texts;
        takes = subst (λ b. Takes (room_of strict frames) b) (sym whole) (takes_of strict frames bytes acc);
        settled = subst (λ b. Settled (room_of strict frames) (λ i r. Out strict items frames i r) h slot (v.Text place b) top ts) (sym whole) (settled_rests h slot (v.Text place bytes) top frames ts r);
      }

  accepted : (q : Bool) (place p : ℕ) (read : Option State) (deep : Option Fault) (ts : List Terminal) → OkThen (step_by (refused q place BadUtf8) read deep p) (λ s. RestsAt strict items s ts) → q ≡ false
  accepted true place p read deep ts ok = absurd ok
  accepted false place p read deep ts ok = refl

  back_settled : (h : Head) (slot : Slot) (value : Value) (class : Class) (p : ℕ) (u : List ℕ) (top : List Item) (frames : List Frame) (ts : List Terminal) → OkThen (step strict (settle h slot value top frames) (terminal class p u)) (λ s. RestsAt strict items s ts) → RestsAt strict items (settle h slot value top frames) (terminal class p u ∷ ts)
  back_settled h single value class p u top frames ts ok = back_behind class p u (top ++ plain_item h value ∷ []) frames ts ok
  back_settled h (among colon values) value class p u top frames ts ok = back_behind_item h colon (values ++ value ∷ []) class p u top frames ts ok

  back_unquoted : (h : Head) (slot : Slot) (place : ℕ) (bytes : List ℕ) (class : Class) (p : ℕ) (u : List ℕ) (top : List Item) (frames : List Frame) (ts : List Terminal) → is_quoted class ≡ false → OkThen (step_at strict (in_text h slot place bytes) class (terminal class p u) top frames) (λ s. RestsAt strict items s ts)
      → Rests strict items (in_text h slot place bytes) top frames (terminal class p u ∷ ts)
  back_unquoted h slot place bytes class p u top frames ts unq ok =
      let told : OkThen (step_by (refused (strict && not (is_utf8 bytes)) place BadUtf8) (on_text (is_quoted class) h slot place bytes class (terminal class p u) top frames) (depth_fault strict class p frames) p) (λ s. RestsAt strict items s ts)
      = subst (λ q. OkThen (step_by (text_fault strict (in_text h slot place bytes) q) (on_text (is_quoted class) h slot place bytes class (terminal class p u) top frames) (depth_fault strict class p frames) p) (λ s. RestsAt strict items s ts)) unq ok in
      let acc : Accepts strict bytes = accepted (strict && not (is_utf8 bytes)) place p (on_text (is_quoted class) h slot place bytes class (terminal class p u) top frames) (depth_fault strict class p frames) ts told in
      text_ends h slot place bytes top frames (terminal class p u ∷ ts) acc
      (back_settled h slot (v.Text place bytes) class p u top frames ts (subst (λ r. OkThen r (λ s. RestsAt strict items s ts)) (settles strict h slot place bytes top frames (terminal class p u) unq acc) ok))

  back_text : (h : Head) (slot : Slot) (place : ℕ) (bytes : List ℕ) (class : Class) (p : ℕ) (u : List ℕ) (top : List Item) (frames : List Frame) (ts : List Terminal) → OkThen (step_at strict (in_text h slot place bytes) class (terminal class p u) top frames) (λ s. RestsAt strict items s ts)
      → Rests strict items (in_text h slot place bytes) top frames (terminal class p u ∷ ts)
  back_text h slot place bytes c.Quoted p u top frames ts ok =
      let joined : (bytes ++ spelled u) ++ ok.more ≡ bytes ++ (spelled u ++ ok.more) = append_assoc bytes (spelled u) ok.more in
      record {
        more = spelled u ++ ok.more;
        mid = ok.mid;
        onward = some_texts (texts_of p u ok.more ts ok.mid ok.onward);
        takes = subst (λ b. Takes (room_of strict frames) b) joined ok.takes;
        settled = subst (λ b. Settled (room_of strict frames) (λ i r. Out strict items frames i r) h slot (v.Text place b) top ok.mid) joined ok.settled;
      }
  back_text h slot place bytes class p u top frames ts ok = back_unquoted h slot place bytes class p u top frames ts refl ok

  backwards : (mode : Mode) (class : Class) (p : ℕ) (u : List ℕ) (top : List Item) (frames : List Frame) (ts : List Terminal) → OkThen (step_at strict mode class (terminal class p u) top frames) (λ s. RestsAt strict items s ts) → Rests strict items mode top frames (terminal class p u ∷ ts)
  backwards at_field class p u top frames ts ok = back_field class p u top frames ts ok
  backwards behind_field class p u top frames ts ok = back_behind class p u top frames ts ok
  backwards (behind_name h) class p u top frames ts ok = back_name h class p u top frames ts ok
  backwards (behind_colon h) class p u top frames ts ok = back_colon h class p u top frames ts ok
  backwards (in_list h colon) class p u top frames ts ok = back_list h colon class p u top frames ts ok
  backwards (at_item h colon values) class p u top frames ts ok = back_item h colon values class p u top frames ts ok
  backwards (behind_item h colon values) class p u top frames ts ok = back_behind_item h colon values class p u top frames ts ok
  backwards (in_text h slot place bytes) class p u top frames ts ok = back_text h slot place bytes class p u top frames ts ok

  -- at the tokens' end
  ended_fields : (top : List Item) → items ≡ top → Rests strict items at_field top [] []
  ended_fields top e = record { more = []; mid = []; fields = no_fields; out = (refl, e ∙ sym (append-nil top)) }

  ended_settled : (top : List Item) → items ≡ top → Rests strict items behind_field top [] []
  ended_settled top e = record { mid = []; ends = bare_end; then_fields = ended_fields top e }

  unfinished : (q : Bool) (place end : ℕ) → finish_by (refused q place BadUtf8) None end ≡ Ok items → ⊥
  unfinished true place end e = cc
  unfinished false place end e = cc

  ended_text : (h : Head) (place : ℕ) (bytes : List ℕ) (top : List Item) (end : ℕ) (q : Bool) → (strict && not (is_utf8 bytes)) ≡ q → finish_by (refused q place BadUtf8) (Some (top ++ plain_item h (v.Text place bytes) ∷ [])) end ≡ Ok items → Rests strict items (in_text h single place bytes) top [] []
  ended_text h place bytes top end true acc e = absurd cc
  ended_text h place bytes top end false acc e =
      let is : items ≡ top ++ plain_item h (v.Text place bytes) ∷ [] = cc in
      text_ends h single place bytes top [] [] acc (ended_settled (top ++ plain_item h (v.Text place bytes) ∷ []) is)

  ended : (mode : Mode) (top : List Item) (frames : List Frame) (end : ℕ) → finish strict end (st mode top frames) ≡ Ok items → Rests strict items mode top frames []
  ended at_field top [] end e = ended_fields top cc
  ended behind_field top [] end e = ended_settled top cc
  ended (in_text h single place bytes) top [] end e = ended_text h place bytes top end (strict && not (is_utf8 bytes)) refl e
  ended (in_text h single place bytes) top (f ∷ frames) end e = absurd (unfinished (strict && not (is_utf8 bytes)) place end e)
  ended (in_text h (among colon values) place bytes) top frames end e = absurd (unfinished (strict && not (is_utf8 bytes)) place end e)
  ended at_field top (f ∷ frames) end e = absurd cc
  ended behind_field top (f ∷ frames) end e = absurd cc
  ended (behind_name h) top frames end e = absurd cc
  ended (behind_colon h) top frames end e = absurd cc
  ended (in_list h colon) top frames end e = absurd cc
  ended (at_item h colon values) top frames end e = absurd cc
  ended (behind_item h colon values) top frames end e = absurd cc

  carried : (r : Result State Fault) (next_run : State → Result (List Item) Fault) (P : State → Type 0) → ((s : State) → next_run s ≡ Ok items → P s) → carry r next_run ≡ Ok items → OkThen r P
  carried (Ok s) next_run P each e = each s e
  carried (Err f) next_run P each e = cc

  pub run_rests : (end : ℕ) (ts : List Terminal) (mode : Mode) (top : List Item) (frames : List Frame) → run strict end ts (st mode top frames) ≡ Ok items → Rests strict items mode top frames ts
  unfolding run
  run_rests end [] mode top frames e = ended mode top frames end e
  run_rests end (t ∷ ts) mode top frames e =
      backwards mode t.class t.place t.text top frames ts (carried (step_at strict mode t.class t top frames) (λ s. run strict end ts s) (λ s. RestsAt strict items s ts) (λ s f. run_rests end ts s.mode s.top s.frames f) e)

pub run_derives : (end : ℕ) (ts : List Terminal) (items : List Item) → run true end ts begin ≡ Ok items → Derives ts items
run_derives end ts items e =
    let r : Rests true items at_field [] [] ts = run_rests true items end ts at_field [] [] e in
    subst (λ i. Derives ts i) (sym r.out.1) (subst (λ mid. Fields (left 32) r.more ts mid) r.out.0 r.fields)

pub run_form : (end : ℕ) (ts : List Terminal) (items : List Item) → run false end ts begin ≡ Ok items → HasForm ts items
run_form end ts items e =
    let r : Rests false items at_field [] [] ts = run_rests false items end ts at_field [] [] e in
    subst (λ i. HasForm ts i) (sym r.out.1) (subst (λ mid. Fields free r.more ts mid) r.out.0 r.fields)
