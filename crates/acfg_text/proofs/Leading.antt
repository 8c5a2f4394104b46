-- A derivation leads the machine from the state before it to the state behind it.
use Rattle.std.proofs.Common.{◌≡◌, ℕ, ◌+◌, ◌<◌, Bool, true, false, List, [], ◌∷◌, ◌++◌, length, Ok, refl, sym, ap, ◌∙◌, arith, append_assoc, append-nil}
use Rattle.std.specs.Prelude.{◌&&◌, not, nat_le}
use Rattle.std.proofs.lemmas.Bool.Decides.{nat_tests}
use Rattle.std.specs.Str.{is_utf8}
use Rattle.acfg_text.specs.declared.classes.Class.{Class}
use Rattle.acfg_text.specs.declared.classes.Class.TheVariants as c
use Rattle.acfg_text.specs.declared.classes.Bracket.{Bracket}
use Rattle.acfg_text.specs.declared.classes.Bracket.TheVariants.{Curly, Angle}
use Rattle.acfg_text.specs.declared.tree.Item.{Item}
use Rattle.acfg_text.specs.declared.tree.Value.{Value}
use Rattle.acfg_text.specs.declared.tree.Value.TheVariants as v
use Rattle.acfg_text.specs.Trees.{item}
use Rattle.acfg_text.specs.Terminals.{Terminal, terminal}
use Rattle.acfg_text.specs.Escapes.{spelled}
use Rattle.acfg_text.specs.Grammar.{Room, free, left, Enters, enters_free, enters_left, Takes, Texts, last_text, more_texts, Scalar, word_is, number_is, text_is, Ends, bare_end, comma_end, semicolon_end, Fields, no_fields, more_fields, Field, field_is, Held, holds_scalar, holds_message, holds_colon_message, holds_list, holds_colon_list, Message, message_is, Listed, empty_list, filled_list, Elements, last_element, more_elements, Element, scalar_element, message_element, Derives, HasForm}
use Rattle.acfg_text.specs.TextFaults.{is_quoted}
use Rattle.acfg_text.specs.Machine.{Head, Slot, single, among, Frame, Mode, at_field, behind_field, behind_name, in_text, st, settle, close_list, opened, same, frame, step, step_at, carry, run, begin, Waits, waits_name, waits_colon, waits_list, waits_item, Lists, lists_name, lists_colon}

-- the room that is left beside so many open messages
abbrev pub Fits : Bool → Room → List Frame → Type 0
Fits false free frames = Unit {0}
Fits true (left n) frames = n + length frames ≡ 32
Fits _ _ frames = ⊥

-- what may follow a field's end: no quoted token, comma or semicolon
abbrev pub ends_field : Class → Bool
ends_field c.Quoted = false
ends_field c.Comma = false
ends_field c.Semicolon = false
ends_field _ = true

abbrev pub Follows : List Terminal → Type 0
Follows [] = Unit {0}
Follows (t ∷ ts) = ends_field t.class ≡ true

abbrev pub Unquoted : List Terminal → Type 0
Unquoted [] = Unit {0}
Unquoted (t ∷ ts) = is_quoted t.class ≡ false

unquoted_by : (class : Class) → ends_field class ≡ true → is_quoted class ≡ false
unquoted_by c.Quoted e = cc
unquoted_by _ e = refl

pub unquoted : (ts : List Terminal) → Follows ts → Unquoted ts
unquoted [] f = f
unquoted (t ∷ ts) f = unquoted_by t.class f

abbrev pub Accepts : Bool → List ℕ → Type 0
Accepts strict bytes = (strict && not (is_utf8 bytes)) ≡ false

pub accepts : (strict : Bool) (room : Room) (frames : List Frame) (bytes : List ℕ) → Fits strict room frames → Takes room bytes → Accepts strict bytes
accepts false free frames bytes f t = refl
accepts true (left n) frames bytes f t = rw t refl
accepts false (left n) frames bytes f t = absurd f
accepts true free frames bytes f t = absurd f

le_test : (a b : ℕ) → b < a → nat_le a b ≡ false
le_test a b h = grind (arith, nat_tests)

pub shallow : (strict : Bool) (room inner : Room) (frames : List Frame) → Fits strict room frames → Enters room inner → (strict && nat_le 32 (length frames)) ≡ false
shallow false room inner frames f e = refl
shallow true free inner frames f e = absurd f
shallow true (left n) inner frames f e = within n inner f e
  where
    within : (n : ℕ) (inner : Room) → n + length frames ≡ 32 → Enters (left n) inner → nat_le 32 (length frames) ≡ false
    within n inner f enters_left = le_test 32 (length frames) (omega arith)

pub fits_inner : (strict : Bool) (room inner : Room) (frames : List Frame) (f : Frame) → Fits strict room frames → Enters room inner → Fits strict inner (f ∷ frames)
fits_inner false free inner frames f fits enters_free = fits
fits_inner true (left n) inner frames f fits enters_left = omega arith
fits_inner false (left n) inner frames f fits e = absurd fits
fits_inner true free inner frames f fits e = absurd fits

pub same_itself : (bracket : Bracket) → same bracket bracket ≡ true
same_itself Curly = refl
same_itself Angle = refl

-- behind a quoted value an unquoted token does what it does behind the settled value
pub settles : (strict : Bool) (h : Head) (slot : Slot) (place : ℕ) (bytes : List ℕ) (top : List Item) (frames : List Frame) (t : Terminal) → is_quoted t.class ≡ false → Accepts strict bytes
    → step strict (st (in_text h slot place bytes) top frames) t ≡ step strict (settle h slot (v.Text place bytes) top frames) t
settles strict h single place bytes top frames t unq acc = rw (unq, acc) refl
settles strict h (among colon values) place bytes top frames t unq acc = rw (unq, acc) refl

pub open_step : (strict : Bool) {mode : Mode} {h : Head} {slot : Slot} {colon : Bool} (top : List Item) (frames : List Frame) (bracket : Bracket) (p : ℕ) (t : List ℕ) → Waits mode h slot colon → (strict && nat_le 32 (length frames)) ≡ false
    → step strict (st mode top frames) (terminal (c.Open bracket) p t) ≡ Ok (opened h slot bracket p top frames)
open_step strict top frames bracket p t waits_name e = rw e refl
open_step strict top frames bracket p t waits_colon e = rw e refl
open_step strict top frames bracket p t waits_list e = rw e refl
open_step strict top frames bracket p t waits_item e = rw e refl

-- quoted tokens join to a text
text_run : (strict : Bool) (end : ℕ) {bytes : List ℕ} {ts rest : List Terminal} (h : Head) (slot : Slot) (place : ℕ) (old : List ℕ) (top : List Item) (frames : List Frame) → Texts bytes ts rest
    → run strict end ts (st (in_text h slot place old) top frames) ≡ run strict end rest (st (in_text h slot place (old ++ bytes)) top frames)
unfolding run
text_run strict end h slot place old top frames last_text = refl
text_run strict end h slot place old top frames (more_texts t bytes {rest = rest} texts) =
    text_run strict end h slot place (old ++ spelled t) top frames texts ∙ ap (λ b. run strict end rest (st (in_text h slot place b) top frames)) (append_assoc old (spelled t) bytes)

pub first_text : (strict : Bool) (end : ℕ) {bytes : List ℕ} {p : ℕ} {t : List ℕ} {ts rest : List Terminal} (h : Head) (slot : Slot) (place : ℕ) (top : List Item) (frames : List Frame) → Texts bytes (terminal c.Quoted p t ∷ ts) rest
    → run strict end ts (st (in_text h slot place (spelled t)) top frames) ≡ run strict end rest (st (in_text h slot place bytes) top frames)
first_text strict end h slot place top frames last_text = refl
first_text strict end h slot place top frames (more_texts t bytes texts) = text_run strict end h slot place (spelled t) top frames texts

pub settled_run : (strict : Bool) (end : ℕ) (h : Head) (slot : Slot) (place : ℕ) (bytes : List ℕ) (top : List Item) (frames : List Frame) (rest : List Terminal) → Unquoted rest → Accepts strict bytes
    → run strict end rest (st (in_text h slot place bytes) top frames) ≡ run strict end rest (settle h slot (v.Text place bytes) top frames)
unfolding run
settled_run strict end h single place bytes top [] [] unq acc = rw acc refl
settled_run strict end h single place bytes top (f ∷ frames) [] unq acc = rw acc refl
settled_run strict end h (among colon values) place bytes top frames [] unq acc = rw acc refl
settled_run strict end h slot place bytes top frames (t ∷ ts) unq acc = ap (λ s. carry s (λ r. run strict end ts r)) (settles strict h slot place bytes top frames t unq acc)

text_value : (strict : Bool) (end : ℕ) (room : Room) {bytes : List ℕ} {p : ℕ} {t : List ℕ} {ts rest : List Terminal} (h : Head) (slot : Slot) (top : List Item) (frames : List Frame) → Texts bytes (terminal c.Quoted p t ∷ ts) rest → Takes room bytes → Fits strict room frames → Unquoted rest
    → run strict end ts (st (in_text h slot p (spelled t)) top frames) ≡ run strict end rest (settle h slot (v.Text p bytes) top frames)
text_value strict end room {bytes} {p} {t} {ts} {rest} h slot top frames texts takes fits unq =
    first_text strict end h slot p top frames texts ∙ settled_run strict end h slot p bytes top frames rest unq (accepts strict room frames bytes fits takes)

pub scalar_run : (strict : Bool) (end : ℕ) {room : Room} {value : Value} {ts rest : List Terminal} {mode : Mode} {h : Head} {slot : Slot} (top : List Item) (frames : List Frame) → Scalar room value ts rest → Waits mode h slot true → Fits strict room frames → Unquoted rest
    → run strict end ts (st mode top frames) ≡ run strict end rest (settle h slot value top frames)
unfolding run
scalar_run strict end top frames word_is waits_colon fits unq = refl
scalar_run strict end top frames word_is waits_list fits unq = refl
scalar_run strict end top frames word_is waits_item fits unq = refl
scalar_run strict end top frames number_is waits_colon fits unq = refl
scalar_run strict end top frames number_is waits_list fits unq = refl
scalar_run strict end top frames number_is waits_item fits unq = refl
scalar_run strict end {room} top frames (text_is texts takes) (waits_colon {h = h}) fits unq = text_value strict end room h single top frames texts takes fits unq
scalar_run strict end {room} top frames (text_is texts takes) (waits_list {h = h}) fits unq = text_value strict end room h (among true []) top frames texts takes fits unq
scalar_run strict end {room} top frames (text_is texts takes) (waits_item {h = h} {values = values}) fits unq = text_value strict end room h (among true values) top frames texts takes fits unq

-- a field's end
bare_step : (strict : Bool) (class : Class) (t : Terminal) (top : List Item) (frames : List Frame) → ends_field class ≡ true → step_at strict behind_field class t top frames ≡ step_at strict at_field class t top frames
bare_step strict c.Quoted t top frames e = cc
bare_step strict c.Comma t top frames e = cc
bare_step strict c.Semicolon t top frames e = cc
bare_step strict _ t top frames e = refl

bare_run : (strict : Bool) (end : ℕ) (top : List Item) (frames : List Frame) (rest : List Terminal) → Follows rest → run strict end rest (st behind_field top frames) ≡ run strict end rest (st at_field top frames)
unfolding run
bare_run strict end top [] [] f = refl
bare_run strict end top (g ∷ frames) [] f = refl
bare_run strict end top frames (t ∷ ts) f = ap (λ s. carry s (λ r. run strict end ts r)) (bare_step strict t.class t top frames f)

ends_run : (strict : Bool) (end : ℕ) {ts rest : List Terminal} (top : List Item) (frames : List Frame) → Ends ts rest → Follows rest → run strict end ts (st behind_field top frames) ≡ run strict end rest (st at_field top frames)
unfolding run
ends_run strict end top frames (bare_end {ts = rest}) f = bare_run strict end top frames rest f
ends_run strict end top frames comma_end f = refl
ends_run strict end top frames semicolon_end f = refl

ends_unquoted : {ts rest : List Terminal} → Ends ts rest → Follows rest → Unquoted ts
ends_unquoted (bare_end {ts = rest}) f = unquoted rest f
ends_unquoted comma_end f = refl
ends_unquoted semicolon_end f = refl

pub fields_front : {room : Room} {items : List Item} {ts rest : List Terminal} → Fields room items ts rest → Follows rest → Follows ts
fields_front no_fields f = f
fields_front (more_fields (field_is held ends) _) f = refl

mutual
  unfolding run

  pub fields_run : (strict : Bool) (end : ℕ) {room : Room} {items : List Item} {ts rest : List Terminal} (top : List Item) (frames : List Frame) → Fields room items ts rest → Fits strict room frames → Follows rest
      → run strict end ts (st at_field top frames) ≡ run strict end rest (st at_field (top ++ items) frames)
  fields_run strict end {rest = rest} top frames no_fields fits f = ap (λ i. run strict end rest (st at_field i frames)) (sym (append-nil top))
  fields_run strict end {rest = rest} top frames (more_fields {i = i} {items = items} field others) fits f =
      field_run strict end top frames field fits (fields_front others f) ∙ fields_run strict end (top ++ i ∷ []) frames others fits f
      ∙ ap (λ l. run strict end rest (st at_field l frames)) (append_assoc top (i ∷ []) items)

  pub field_run : (strict : Bool) (end : ℕ) {room : Room} {i : Item} {ts rest : List Terminal} (top : List Item) (frames : List Frame) → Field room i ts rest → Fits strict room frames → Follows rest
      → run strict end ts (st at_field top frames) ≡ run strict end rest (st at_field (top ++ i ∷ []) frames)
  field_run strict end top frames (field_is {p = p} {t = t} {listed = listed} {values = values} held ends) fits f =
      let h : Head = record { name = t; place = p } in
      held_run strict end h top frames held fits (ends_unquoted ends f) ∙ ends_run strict end (top ++ item t p listed values ∷ []) frames ends f

  pub held_run : (strict : Bool) (end : ℕ) {room : Room} {listed : Bool} {values : List Value} {ts rest : List Terminal} (h : Head) (top : List Item) (frames : List Frame) → Held room listed values ts rest → Fits strict room frames → Unquoted rest
      → run strict end ts (st (behind_name h) top frames) ≡ run strict end rest (st behind_field (top ++ item h.name h.place listed values ∷ []) frames)
  held_run strict end h top frames (holds_scalar scalar) fits unq = scalar_run strict end top frames scalar (waits_colon {h = h}) fits unq
  held_run strict end h top frames (holds_message message) fits unq = message_run strict end top frames message (waits_name {h = h}) fits
  held_run strict end h top frames (holds_colon_message message) fits unq = message_run strict end top frames message (waits_colon {h = h}) fits
  held_run strict end h top frames (holds_list list) fits unq = listed_run strict end top frames list (lists_name {h = h}) fits
  held_run strict end h top frames (holds_colon_list list) fits unq = listed_run strict end top frames list (lists_colon {h = h}) fits

  pub message_run : (strict : Bool) (end : ℕ) {room : Room} {value : Value} {ts rest : List Terminal} {mode : Mode} {h : Head} {slot : Slot} {colon : Bool} (top : List Item) (frames : List Frame) → Message room value ts rest → Waits mode h slot colon → Fits strict room frames
      → run strict end ts (st mode top frames) ≡ run strict end rest (settle h slot value top frames)
  message_run strict end {room} {rest = rest} {h = h} {slot = slot} top frames (message_is {inner = inner} {bracket = bracket} {p = p} {t = t} {items = items} {ts = ts} enters inside) waits fits =
      ap (λ s. carry s (λ r. run strict end ts r)) (open_step strict top frames bracket p t waits (shallow strict room inner frames fits enters))
      ∙ fields_run strict end [] (frame h slot top p bracket ∷ frames) inside (fits_inner strict room inner frames (frame h slot top p bracket) fits enters) refl
      ∙ rw (same_itself bracket) refl

  pub listed_run : (strict : Bool) (end : ℕ) {room : Room} {colon : Bool} {values : List Value} {ts rest : List Terminal} {mode : Mode} {h : Head} (top : List Item) (frames : List Frame) → Listed room colon values ts rest → Lists mode h colon → Fits strict room frames
      → run strict end ts (st mode top frames) ≡ run strict end rest (close_list h values top frames)
  listed_run strict end top frames empty_list lists_name fits = refl
  listed_run strict end top frames empty_list lists_colon fits = refl
  listed_run strict end top frames (filled_list elements) (lists_name {h = h}) fits = elements_run strict end [] top frames elements (waits_list {h = h}) fits
  listed_run strict end top frames (filled_list elements) (lists_colon {h = h}) fits = elements_run strict end [] top frames elements (waits_list {h = h}) fits

  pub elements_run : (strict : Bool) (end : ℕ) {room : Room} {colon : Bool} {values : List Value} {ts rest : List Terminal} {mode : Mode} {h : Head} (old : List Value) (top : List Item) (frames : List Frame) → Elements room colon values ts rest → Waits mode h (among colon old) colon → Fits strict room frames
      → run strict end ts (st mode top frames) ≡ run strict end rest (close_list h (old ++ values) top frames)
  elements_run strict end old top frames (last_element element) waits fits = element_run strict end top frames element waits fits refl
  elements_run strict end {colon = colon} {rest = rest} {h = h} old top frames (more_elements {value = value} {values = values} element elements) waits fits =
      element_run strict end top frames element waits fits refl
      ∙ elements_run strict end (old ++ value ∷ []) top frames elements (waits_item {h = h} {colon = colon} {values = old ++ value ∷ []}) fits
      ∙ ap (λ l. run strict end rest (close_list h l top frames)) (append_assoc old (value ∷ []) values)

  pub element_run : (strict : Bool) (end : ℕ) {room : Room} {colon : Bool} {value : Value} {ts rest : List Terminal} {mode : Mode} {h : Head} {slot : Slot} (top : List Item) (frames : List Frame) → Element room colon value ts rest → Waits mode h slot colon → Fits strict room frames → Unquoted rest
      → run strict end ts (st mode top frames) ≡ run strict end rest (settle h slot value top frames)
  element_run strict end top frames (scalar_element scalar) waits fits unq = scalar_run strict end top frames scalar waits fits unq
  element_run strict end top frames (message_element message) waits fits unq = message_run strict end top frames message waits fits

-- a derivation of the whole tokens is a run of them
pub derives_run : (end : ℕ) (ts : List Terminal) (items : List Item) → Derives ts items → run true end ts begin ≡ Ok items
unfolding run
derives_run end ts items derived = fields_run true end [] [] derived refl tt

pub form_run : (end : ℕ) (ts : List Terminal) (items : List Item) → HasForm ts items → run false end ts begin ≡ Ok items
unfolding run
form_run end ts items derived = fields_run false end [] [] derived tt tt

pub one_derived : (ts : List Terminal) (items others : List Item) → Derives ts items → Derives ts others → items ≡ others
one_derived ts items others derived derives =
    let a : run true 0 ts begin ≡ Ok items = derives_run 0 ts items derived in
    let b : run true 0 ts begin ≡ Ok others = derives_run 0 ts others derives in
    cc
