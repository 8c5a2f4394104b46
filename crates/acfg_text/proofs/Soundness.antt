-- Words and numbers among the terminals of a text are words and numbers, also behind what has been read of them.
use Rattle.std.proofs.Common.{ℕ, Bool, true, false, List, map, cond}
use Rattle.std.specs.Prelude.{nat_eq, slice_index}
use Rattle.std.specs.List.{AllByRecursion}
use Rattle.acfg_text.specs.declared.classes.Class.{Class}
use Rattle.acfg_text.specs.declared.classes.Class.TheVariants as c
use Rattle.acfg_text.specs.declared.classes.Bracket.TheVariants.{Curly, Angle}
use Rattle.acfg_text.specs.declared.token.TokenKind.{TokenKind}
use Rattle.acfg_text.specs.declared.token.TokenKind.TheVariants.{Word, Number, Quoted, Symbol}
use Rattle.acfg_text.specs.declared.tree.Item.{Item}
use Rattle.acfg_text.specs.declared.tree.Value.{Value}
use Rattle.acfg_text.specs.Terminals.{Lexeme, symbol, class_of, Terminal, terminal_of}
use Rattle.acfg_text.specs.Lexes.{IsToken, Lexed, here, blank, comment, token}
use Rattle.acfg_text.specs.Grammar.{Room, Texts, last_text, more_texts, Scalar, word_is, number_is, text_is, Ends, bare_end, comma_end, semicolon_end, Fields, no_fields, more_fields, Field, field_is, Held, holds_scalar, holds_message, holds_colon_message, holds_list, holds_colon_list, Message, message_is, Listed, empty_list, filled_list, Elements, last_element, more_elements, Element, scalar_element, message_element}

abbrev pub IsSound : Class → List ℕ → Type 0
IsSound c.Word text = IsToken Word text
IsSound c.Number text = IsToken Number text
IsSound _ text = Unit {0}

abbrev pub Sound : List Terminal → Type 0
Sound ts = AllByRecursion (λ t. IsSound t.class t.text) ts

cond_sound : (q : Bool) (a b : Class) (text : List ℕ) → IsSound a text → IsSound b text → IsSound (cond q a b) text
cond_sound true a b text x y = x
cond_sound false a b text x y = y

symbol_sound : (b : ℕ) (text : List ℕ) → IsSound (symbol b) text
unfolding symbol
symbol_sound b text =
    cond_sound (nat_eq b 58) c.Colon _ text tt (cond_sound (nat_eq b 44) c.Comma _ text tt (cond_sound (nat_eq b 123) (c.Open Curly) _ text tt (cond_sound (nat_eq b 125) (c.Close Curly) _ text tt
    (cond_sound (nat_eq b 60) (c.Open Angle) _ text tt (cond_sound (nat_eq b 62) (c.Close Angle) _ text tt (cond_sound (nat_eq b 91) c.OpenList _ text tt (cond_sound (nat_eq b 93) c.CloseList c.Semicolon text tt tt)))))))

token_sound : (kind : TokenKind) (bytes : List ℕ) → IsToken kind bytes → IsSound (class_of kind bytes) bytes
token_sound Word bytes is = is
token_sound Number bytes is = is
token_sound Quoted bytes is = tt
token_sound Symbol bytes is = symbol_sound (slice_index bytes 0) bytes

pub lexed_sound : {at : ℕ} {text : List ℕ} {found : List Lexeme} {end : ℕ} {rest : List ℕ} → Lexed at text found end rest → Sound (map terminal_of found)
lexed_sound here = tt
lexed_sound (blank leads lexed) = lexed_sound lexed
lexed_sound (comment body text leads ends lexed) = lexed_sound lexed
lexed_sound (token {kind = kind} bytes text is longest lexed) = (token_sound kind bytes is, lexed_sound lexed)

texts_sound : {bytes : List ℕ} {ts rest : List Terminal} → Texts bytes ts rest → Sound ts → Sound rest
texts_sound last_text s = s.1
texts_sound (more_texts t bytes texts) s = texts_sound texts s.1

pub scalar_sound : {room : Room} {value : Value} {ts rest : List Terminal} → Scalar room value ts rest → Sound ts → Sound rest
scalar_sound word_is s = s.1
scalar_sound number_is s = s.1
scalar_sound (text_is texts takes) s = texts_sound texts s

pub ends_sound : {ts rest : List Terminal} → Ends ts rest → Sound ts → Sound rest
ends_sound bare_end s = s
ends_sound comma_end s = s.1
ends_sound semicolon_end s = s.1

mutual
  pub fields_sound : {room : Room} {items : List Item} {ts rest : List Terminal} → Fields room items ts rest → Sound ts → Sound rest
  fields_sound no_fields s = s
  fields_sound (more_fields field others) s = fields_sound others (field_sound field s)

  pub field_sound : {room : Room} {i : Item} {ts rest : List Terminal} → Field room i ts rest → Sound ts → Sound rest
  field_sound (field_is held ends) s = ends_sound ends (held_sound held s.1)

  pub held_sound : {room : Room} {listed : Bool} {values : List Value} {ts rest : List Terminal} → Held room listed values ts rest → Sound ts → Sound rest
  held_sound (holds_scalar scalar) s = scalar_sound scalar s.1
  held_sound (holds_message message) s = message_sound message s
  held_sound (holds_colon_message message) s = message_sound message s.1
  held_sound (holds_list list) s = listed_sound list s
  held_sound (holds_colon_list list) s = listed_sound list s.1

  pub message_sound : {room : Room} {value : Value} {ts rest : List Terminal} → Message room value ts rest → Sound ts → Sound rest
  message_sound (message_is enters inside) s = (fields_sound inside s.1).1

  pub listed_sound : {room : Room} {colon : Bool} {values : List Value} {ts rest : List Terminal} → Listed room colon values ts rest → Sound ts → Sound rest
  listed_sound empty_list s = s.1.1
  listed_sound (filled_list elements) s = elements_sound elements s.1

  pub elements_sound : {room : Room} {colon : Bool} {values : List Value} {ts rest : List Terminal} → Elements room colon values ts rest → Sound ts → Sound rest
  elements_sound (last_element element) s = (element_sound element s).1
  elements_sound (more_elements element elements) s = elements_sound elements (element_sound element s).1

  pub element_sound : {room : Room} {colon : Bool} {value : Value} {ts rest : List Terminal} → Element room colon value ts rest → Sound ts → Sound rest
  element_sound (scalar_element scalar) s = scalar_sound scalar s
  element_sound (message_element message) s = message_sound message s
