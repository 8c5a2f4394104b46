-- What is printed of a derivation is read again as the same, places aside.
use Rattle.std.proofs.Common.{◌≡◌, ℕ, ◌+◌, Bool, true, false, List, [], ◌∷◌, ◌++◌, length, map, refl, sym, subst, ap, ◌∙◌, arith, append_assoc, append-nil, length-append}
use Rattle.std.specs.Prelude.{◌||◌, nat_eq, codes, if◌then◌else◌}
use Rattle.std.specs.List.{AllByRecursion, flat_map}
use Rattle.std.proofs.lemmas.List.{map-append}
use Rattle.acfg_text.specs.declared.classes.Class.TheVariants as c
use Rattle.acfg_text.specs.declared.classes.Bracket.TheVariants.{Curly}
use Rattle.acfg_text.specs.declared.token.TokenKind.TheVariants.{Word, Number, Quoted, Symbol}
use Rattle.acfg_text.specs.declared.bytes.Lead.TheVariants as leads
use Rattle.acfg_text.specs.declared.tree.Tree.{Tree}
use Rattle.acfg_text.specs.declared.tree.Item.{Item}
use Rattle.acfg_text.specs.declared.tree.Value.{Value}
use Rattle.acfg_text.specs.declared.tree.Value.TheVariants as v
use Rattle.acfg_text.specs.Trees.{item, tree}
use Rattle.acfg_text.specs.Terminals.{Lexeme, lexeme, symbol, Terminal, terminal, terminal_of}
use Rattle.acfg_text.specs.Lexes.{is_white, is_letter, is_digit, is_word, is_number, is_quote, is_symbol, lead, IsToken, Lexed, here, blank, comment, token, Lexes}
use Rattle.acfg_text.specs.Grammar.{Room, free, left, Enters, enters_free, enters_left, Takes, Texts, last_text, Scalar, word_is, number_is, text_is, bare_end, Fields, no_fields, more_fields, Field, field_is, Held, holds_scalar, holds_message, holds_colon_message, holds_list, holds_colon_list, Message, message_is, Listed, empty_list, filled_list, Elements, last_element, more_elements, Element, scalar_element, message_element}
use Rattle.acfg_text.specs.Spells.{Spells}
use Rattle.acfg_text.specs.Printed.{scalar, quoted, braced, held, separated, bracketed, shown, printed_item, printed}
use Rattle.acfg_text.specs.Unplaced.{unplaced_value, unplaced_item, unplaced}
use Rattle.acfg_text.proofs.Lexing.{Stops, longest_word, longest_number, longest_symbol, longest_quoted}
use Rattle.acfg_text.proofs.Reprinted.{quote_leads, quoted_token, quoted_spelled}
use Rattle.acfg_text.proofs.Utf8Bytes.{AreBytes, utf8_bytes}
use Rattle.acfg_text.proofs.Soundness.{Sound, lexed_sound, field_sound, element_sound}
use Rattle.acfg_text.proofs.Folded.{shown_word, shown_number, shown_text, shown_message, printed_item_is, printed_fields_is, unplaced_word, unplaced_number, unplaced_text, unplaced_message, unplaced_item_is, unplaced_is}

-- Printed text is read again: its tokens, where they end, and what they are read as, whatever follows.
record Again {A : Type 0} (R : A → List Terminal → List Terminal → Type 0) (Same : A → Type 0) (at : ℕ) (text : List ℕ) : Type 0 where
  found : List Lexeme
  end : ℕ
  again : A
  lexed : (after : List ℕ) → Stops is_number after → Lexed at (text ++ after) found end after
  reads : (more : List Terminal) → R again (map terminal_of found ++ more) more
  same : Same again

-- single bytes
space_ends : is_number 32 ≡ false
unfolding is_number is_word is_letter is_digit
space_ends = refl

colon_ends : is_number 58 ≡ false
unfolding is_number is_word is_letter is_digit
colon_ends = refl

comma_ends : is_number 44 ≡ false
unfolding is_number is_word is_letter is_digit
comma_ends = refl

bracket_ends : is_number 93 ≡ false
unfolding is_number is_word is_letter is_digit
bracket_ends = refl

space_leads : lead 32 ≡ leads.White
unfolding lead is_white
space_leads = refl

open_leads : lead 123 ≡ leads.Token Symbol
unfolding lead is_white is_letter is_digit is_quote is_symbol
open_leads = refl

close_leads : lead 125 ≡ leads.Token Symbol
unfolding lead is_white is_letter is_digit is_quote is_symbol
close_leads = refl

list_leads : lead 91 ≡ leads.Token Symbol
unfolding lead is_white is_letter is_digit is_quote is_symbol
list_leads = refl

end_leads : lead 93 ≡ leads.Token Symbol
unfolding lead is_white is_letter is_digit is_quote is_symbol
end_leads = refl

colon_leads : lead 58 ≡ leads.Token Symbol
unfolding lead is_white is_letter is_digit is_quote is_symbol
colon_leads = refl

comma_leads : lead 44 ≡ leads.Token Symbol
unfolding lead is_white is_letter is_digit is_quote is_symbol
comma_leads = refl

no_word : (text : List ℕ) → Stops is_number text → Stops is_word text
unfolding is_number
no_word [] stops = tt
no_word (b ∷ text) stops = go (is_word b) stops
  where
    go : (q : Bool) → (q || (nat_eq b 46)) ≡ false → q ≡ false
    go true e = cc
    go false e = refl

-- tokens in front of what is lexed
module _ {found : List Lexeme} {end : ℕ} {rest : List ℕ} where
  lex_space : (at : ℕ) (text : List ℕ) → Lexed (at + 1) text found end rest → Lexed at (32 ∷ text) found end rest
  lex_space at text lexed = blank space_leads lexed

  lex_symbol : (b at : ℕ) (text : List ℕ) → lead b ≡ leads.Token Symbol → Lexed (at + 1) text found end rest → Lexed at (b ∷ text) (lexeme Symbol at (b ∷ []) ∷ found) end rest
  lex_symbol b at text is lexed = token (b ∷ []) text (is, refl) (longest_symbol b text is) lexed

  lex_word : (at : ℕ) (bytes text : List ℕ) → IsToken Word bytes → Stops is_number text → Lexed (at + length bytes) text found end rest → Lexed at (bytes ++ text) (lexeme Word at bytes ∷ found) end rest
  lex_word at [] text is stops lexed = absurd is
  lex_word at (b ∷ bytes) text is stops lexed = token (b ∷ bytes) text is (longest_word b bytes text is.0 (no_word text stops)) lexed

  lex_number : (at : ℕ) (bytes text : List ℕ) → IsToken Number bytes → Stops is_number text → Lexed (at + length bytes) text found end rest → Lexed at (bytes ++ text) (lexeme Number at bytes ∷ found) end rest
  lex_number at [] text is stops lexed = absurd is
  lex_number at (b ∷ bytes) text is stops lexed = token (b ∷ bytes) text is (longest_number b bytes text is.0 stops) lexed

  lex_quoted : (at : ℕ) (bytes text : List ℕ) → AreBytes bytes → Lexed (at + length (quoted bytes)) text found end rest → Lexed at (quoted bytes ++ text) (lexeme Quoted at (quoted bytes) ∷ found) end rest
  lex_quoted at bytes text small lexed = let is : IsToken Quoted (quoted bytes) = quoted_token bytes small in token (quoted bytes) text is (longest_quoted 34 _ text quote_leads is.1) lexed

lexed_append : {at : ℕ} {text : List ℕ} {a b : List Lexeme} {mid end : ℕ} {rest last : List ℕ} → Lexed at text a mid rest → Lexed mid rest b end last → Lexed at text (a ++ b) end last
lexed_append here second = second
lexed_append (blank leads lexed) second = blank leads (lexed_append lexed second)
lexed_append (comment body text leads ends lexed) second = comment body text leads ends (lexed_append lexed second)
lexed_append (token bytes text is longest lexed) second = token bytes text is longest (lexed_append lexed second)

-- scalars
abbrev IsStrict : Room → Type 0
IsStrict free = ⊥
IsStrict (left n) = Unit {0}

enters_strict : {room inner : Room} → Enters room inner → IsStrict room → IsStrict inner
enters_strict enters_free s = s
enters_strict enters_left s = tt

abbrev SameValue : Value → Value → Type 0
SameValue value other = unplaced_value other ≡ unplaced_value value

text_bytes : (room : Room) (bytes : List ℕ) → IsStrict room → Takes room bytes → AreBytes bytes
text_bytes (left n) bytes s takes = utf8_bytes bytes takes
text_bytes free bytes s takes = absurd s

text_again : (room : Room) (at : ℕ) (bytes : List ℕ) (more : List Terminal) → AreBytes bytes → Takes room bytes → Scalar room (v.Text at bytes) (terminal c.Quoted at (quoted bytes) ∷ more) more
text_again room at bytes more small takes = text_is (subst (λ b. Texts b (terminal c.Quoted at (quoted bytes) ∷ more) more) (quoted_spelled bytes small) last_text) takes

scalar_again : {room : Room} {value : Value} {ts rest : List Terminal} → Scalar room value ts rest → IsStrict room → Sound ts → (at : ℕ) → Again (Scalar room) (SameValue value) at (shown value).text
scalar_again {room} (word_is {p = p} {t = t}) strict sound at = subst (Again (Scalar room) (SameValue (v.Word p t)) at) (ap (λ s. s.text) (sym (shown_word p t)))
    (record { found = lexeme Word at t ∷ []; end = at + length t; again = v.Word at t; lexed = λ after stops. lex_word at t after sound.0 stops here; reads = λ more. word_is; same = unplaced_word at t ∙ sym (unplaced_word p t) })
scalar_again {room} (number_is {p = p} {t = t}) strict sound at = subst (Again (Scalar room) (SameValue (v.Number p t)) at) (ap (λ s. s.text) (sym (shown_number p t)))
    (record { found = lexeme Number at t ∷ []; end = at + length t; again = v.Number at t; lexed = λ after stops. lex_number at t after sound.0 stops here; reads = λ more. number_is; same = unplaced_number at t ∙ sym (unplaced_number p t) })
scalar_again {room} (text_is {p = p} {bytes = bytes} texts takes) strict sound at = subst (Again (Scalar room) (SameValue (v.Text p bytes)) at) (ap (λ s. s.text) (sym (shown_text p bytes)))
    (record {
      found = lexeme Quoted at (quoted bytes) ∷ [];
      end = at + length (quoted bytes);
      again = v.Text at bytes;
      lexed = λ after stops. lex_quoted at bytes after (text_bytes room bytes strict takes) here;
      reads = λ more. text_again room at bytes more (text_bytes room bytes strict takes) takes;
      same = unplaced_text at bytes ∙ sym (unplaced_text p bytes);
    })

-- values in a list, and the bracket that closes it
ElementAgain : Room → Value → Type 0
ElementAgain room value = (at : ℕ) → Again (Element room true) (SameValue value) at (shown value).text

-- behind an item: the items that follow it
ListTail : Room → List Value → List Terminal → List Terminal → Type 0
ListTail room values ts rest = (first : Value) (front : List Terminal) → Element room true first front ts → Elements room true (first ∷ values) front rest

abbrev tail_text : List Value → List ℕ
tail_text values = flat_map (λ p. codes ", " ++ p) (map (λ s. s.text) (map shown values)) ++ 93 ∷ []

tail_starts : (values : List Value) (after : List ℕ) → Stops is_number (tail_text values ++ after)
tail_starts [] after = bracket_ends
tail_starts (value ∷ values) after = comma_ends

SameValues : List Value → List Value → Type 0
SameValues values others = map unplaced_value others ≡ map unplaced_value values

-- terminals of two lists of tokens
both_terminals : (a b : List Lexeme) (more : List Terminal) → map terminal_of a ++ (map terminal_of b ++ more) ≡ map terminal_of (a ++ b) ++ more
both_terminals a b more = sym (append_assoc (map terminal_of a) (map terminal_of b) more) ∙ ap (λ l. l ++ more) (sym (map-append terminal_of a b))

tail_split : (value : Value) (values : List Value) → tail_text (value ∷ values) ≡ 44 ∷ 32 ∷ ((shown value).text ++ tail_text values)
tail_split value values = ap (λ l. 44 ∷ 32 ∷ l) (append_assoc (shown value).text (flat_map (λ p. codes ", " ++ p) (map (λ s. s.text) (map shown values))) (93 ∷ []))

tail_again : (room : Room) (values : List Value) → AllByRecursion (ElementAgain room) values → (at : ℕ) → Again (ListTail room) (SameValues values) at (tail_text values)
unfolding symbol ListTail SameValues ElementAgain
tail_again room [] all at = record { found = lexeme Symbol at (93 ∷ []) ∷ []; end = at + 1; again = []; lexed = λ after stops. lex_symbol 93 at after end_leads here; reads = λ more first front element. last_element element; same = refl }
tail_again room (value ∷ values) all at =
    let x : Again (Element room true) (SameValue value) (at + 1 + 1) (shown value).text = all.0 (at + 1 + 1) in
    let y : Again (ListTail room) (SameValues values) x.end (tail_text values) = tail_again room values all.1 x.end in
    subst (Again (ListTail room) (SameValues (value ∷ values)) at) (sym (tail_split value values))
    (record {
      found = lexeme Symbol at (44 ∷ []) ∷ (x.found ++ y.found);
      end = y.end;
      again = x.again ∷ y.again;
      lexed = λ after stops. lex_symbol 44 at _ comma_leads (lex_space (at + 1) _
          (subst (λ l. Lexed (at + 1 + 1) l (x.found ++ y.found) y.end after) (sym (append_assoc (shown value).text (tail_text values) after))
          (lexed_append (x.lexed (tail_text values ++ after) (tail_starts values after)) (y.lexed after stops))));
      reads = λ more first front element. more_elements element
          (subst (λ l. Elements room true (x.again ∷ y.again) l more) (both_terminals x.found y.found more) (y.reads more x.again (map terminal_of x.found ++ (map terminal_of y.found ++ more)) (x.reads (map terminal_of y.found ++ more))));
      same = ap (λ w. w ∷ map unplaced_value y.again) x.same ∙ ap (λ l. unplaced_value value ∷ l) y.same;
    })

-- fields in braces
record Body : Type 0 where
  items : List Item
  end : ℕ

ItemAgain : Room → Item → Type 0
ItemAgain room i = (at : ℕ) → Again (Field room) (λ j. unplaced_item j ≡ unplaced_item i) at (printed_item i)

BodyTail : Room → Body → List Terminal → List Terminal → Type 0
BodyTail room body ts rest = (u : List ℕ) × Fields room body.items ts (terminal (c.Close Curly) body.end u ∷ rest)

SameBody : List Item → Body → Type 0
SameBody items body = map unplaced_item body.items ≡ map unplaced_item items

abbrev body_text : List Item → List ℕ
body_text items = flat_map (λ f. f ++ 32 ∷ []) (map printed_item items) ++ 125 ∷ []

body_split : (i : Item) (items : List Item) → body_text (i ∷ items) ≡ printed_item i ++ (32 ∷ body_text items)
body_split i items =
    append_assoc (printed_item i ++ 32 ∷ []) (flat_map (λ f. f ++ 32 ∷ []) (map printed_item items)) (125 ∷ []) ∙ append_assoc (printed_item i) (32 ∷ []) (body_text items)

body_again : (room : Room) (items : List Item) → AllByRecursion (ItemAgain room) items → (at : ℕ) → Again (BodyTail room) (SameBody items) at (body_text items)
unfolding symbol BodyTail SameBody ItemAgain
body_again room [] all at = record { found = lexeme Symbol at (125 ∷ []) ∷ []; end = at + 1; again = record { items = []; end = at }; lexed = λ after stops. lex_symbol 125 at after close_leads here; reads = λ more. (125 ∷ [], no_fields); same = refl }
body_again room (i ∷ items) all at =
    let x : Again (Field room) (λ j. unplaced_item j ≡ unplaced_item i) at (printed_item i) = all.0 at in
    let y : Again (BodyTail room) (SameBody items) (x.end + 1) (body_text items) = body_again room items all.1 (x.end + 1) in
    subst (Again (BodyTail room) (SameBody (i ∷ items)) at) (sym (body_split i items))
    (record {
      found = x.found ++ y.found;
      end = y.end;
      again = record { items = x.again ∷ y.again.items; end = y.again.end };
      lexed = λ after stops. subst (λ l. Lexed at l (x.found ++ y.found) y.end after) (sym (append_assoc (printed_item i) (32 ∷ body_text items) after))
          (lexed_append (x.lexed (32 ∷ (body_text items ++ after)) space_ends) (lex_space x.end (body_text items ++ after) (y.lexed after stops)));
      reads = λ more. (
        (y.reads more).0,
        subst (λ l. Fields room (x.again ∷ y.again.items) l (terminal (c.Close Curly) y.again.end (y.reads more).0 ∷ more)) (both_terminals x.found y.found more)
            (more_fields (x.reads (map terminal_of y.found ++ more)) (y.reads more).1),
      );
      same = ap (λ w. w ∷ map unplaced_item y.again.items) x.same ∙ ap (λ l. unplaced_item i ∷ l) y.same;
    })

-- a message
MessageAgain : Room → Value → Type 0
MessageAgain room value = (at : ℕ) → Again (Message room) (SameValue value) at (shown value).text

message_made : (room inner : Room) (p e : ℕ) (items : List Item) → Enters room inner → AllByRecursion (ItemAgain inner) items → MessageAgain room (v.Message p (tree items e))
unfolding symbol MessageAgain BodyTail SameBody
message_made room inner p e items enters all at =
    let y : Again (BodyTail inner) (SameBody items) (at + 1 + 1) (body_text items) = body_again inner items all (at + 1 + 1) in
    let text : (shown (v.Message p (tree items e))).text ≡ 123 ∷ 32 ∷ body_text items = ap (λ s. s.text) (shown_message p (tree items e)) ∙ ap braced (printed_fields_is items e) in
    subst (Again (Message room) (SameValue (v.Message p (tree items e))) at) (sym text)
    (record {
      found = lexeme Symbol at (123 ∷ []) ∷ y.found;
      end = y.end;
      again = v.Message at (tree y.again.items y.again.end);
      lexed = λ after stops. lex_symbol 123 at _ open_leads (lex_space (at + 1) _ (y.lexed after stops));
      reads = λ more. message_is enters (y.reads more).1;
      same = unplaced_message at (tree y.again.items y.again.end) ∙ ap (λ t. v.Message 0 t) (unplaced_is y.again.items y.again.end ∙ ap (λ l. tree l 0) y.same ∙ sym (unplaced_is items e)) ∙ sym (unplaced_message p (tree items e));
    })

message_shown : (p : ℕ) (t : Tree) → (shown (v.Message p t)).message ≡ true
message_shown p t = ap (λ s. s.message) (shown_message p t)

scalar_shown : {room : Room} {value : Value} {ts rest : List Terminal} → Scalar room value ts rest → (shown value).message ≡ false
scalar_shown (word_is {p = p} {t = t}) = ap (λ s. s.message) (shown_word p t)
scalar_shown (number_is {p = p} {t = t}) = ap (λ s. s.message) (shown_number p t)
scalar_shown (text_is {p = p} {bytes = bytes} texts takes) = ap (λ s. s.message) (shown_text p bytes)

-- what a field holds
abbrev held_text : Bool → List Value → List ℕ
held_text listed values = if listed then bracketed (map shown values) else flat_map held (map shown values)

record HeldAgain (room : Room) (listed : Bool) (values : List Value) : Type 0 where
  starts : (after : List ℕ) → Stops is_number (held_text listed values ++ after)
  holds : (at : ℕ) → Again (λ others. Held room listed others) (SameValues values) at (held_text listed values)

held_scalar_text : (value : Value) → (shown value).message ≡ false → held_text false (value ∷ []) ≡ 58 ∷ 32 ∷ (shown value).text
held_scalar_text value e = append-nil (held (shown value)) ∙ ap (λ q. if q then 32 ∷ (shown value).text else (codes ": " ++ (shown value).text)) e

held_message_text : (value : Value) → (shown value).message ≡ true → held_text false (value ∷ []) ≡ 32 ∷ (shown value).text
held_message_text value e = append-nil (held (shown value)) ∙ ap (λ q. if q then 32 ∷ (shown value).text else (codes ": " ++ (shown value).text)) e

held_scalar : (room : Room) (value : Value) → (shown value).message ≡ false → ((at : ℕ) → Again (Scalar room) (SameValue value) at (shown value).text) → HeldAgain room false (value ∷ [])
unfolding symbol SameValues
held_scalar room value e each = record {
  starts = λ after. subst (λ l. Stops is_number (l ++ after)) (sym (held_scalar_text value e)) colon_ends;
  holds = λ at. let x : Again (Scalar room) (SameValue value) (at + 1 + 1) (shown value).text = each (at + 1 + 1) in
      subst (Again (λ others. Held room false others) (SameValues (value ∷ [])) at) (sym (held_scalar_text value e))
      (record {
        found = lexeme Symbol at (58 ∷ []) ∷ x.found;
        end = x.end;
        again = x.again ∷ [];
        lexed = λ after stops. lex_symbol 58 at _ colon_leads (lex_space (at + 1) _ (x.lexed after stops));
        reads = λ more. holds_scalar (x.reads more);
        same = ap (λ w. w ∷ []) x.same;
      });
}

held_message : (room : Room) (value : Value) → (shown value).message ≡ true → MessageAgain room value → HeldAgain room false (value ∷ [])
unfolding SameValues MessageAgain
held_message room value e each = record {
  starts = λ after. subst (λ l. Stops is_number (l ++ after)) (sym (held_message_text value e)) space_ends;
  holds = λ at. let x : Again (Message room) (SameValue value) (at + 1) (shown value).text = each (at + 1) in
      subst (Again (λ others. Held room false others) (SameValues (value ∷ [])) at) (sym (held_message_text value e))
      (record {
        found = x.found;
        end = x.end;
        again = x.again ∷ [];
        lexed = λ after stops. lex_space at _ (x.lexed after stops);
        reads = λ more. holds_message (x.reads more);
        same = ap (λ w. w ∷ []) x.same;
      });
}

list_text : (value : Value) (values : List Value) → bracketed (map shown (value ∷ values)) ≡ 58 ∷ 32 ∷ 91 ∷ ((shown value).text ++ tail_text values)
list_text value values = ap (λ l. 58 ∷ 32 ∷ 91 ∷ l) (append_assoc (shown value).text (flat_map (λ p. codes ", " ++ p) (map (λ s. s.text) (map shown values))) (93 ∷ []))

list_again : (room : Room) (values : List Value) → AllByRecursion (ElementAgain room) values → (at : ℕ) → Again (λ others. Held room true others) (SameValues values) at (bracketed (map shown values))
unfolding symbol ListTail SameValues ElementAgain
list_again room [] all at = record {
  found = lexeme Symbol at (58 ∷ []) ∷ lexeme Symbol (at + 1 + 1) (91 ∷ []) ∷ lexeme Symbol (at + 1 + 1 + 1) (93 ∷ []) ∷ [];
  end = at + 1 + 1 + 1 + 1;
  again = [];
  lexed = λ after stops. lex_symbol 58 at _ colon_leads (lex_space (at + 1) _ (lex_symbol 91 (at + 1 + 1) _ list_leads (lex_symbol 93 (at + 1 + 1 + 1) _ end_leads here)));
  reads = λ more. holds_colon_list empty_list;
  same = refl;
}
list_again room (value ∷ values) all at =
    let x : Again (Element room true) (SameValue value) (at + 1 + 1 + 1) (shown value).text = all.0 (at + 1 + 1 + 1) in
    let y : Again (ListTail room) (SameValues values) x.end (tail_text values) = tail_again room values all.1 x.end in
    subst (Again (λ others. Held room true others) (SameValues (value ∷ values)) at) (sym (list_text value values))
    (record {
      found = lexeme Symbol at (58 ∷ []) ∷ lexeme Symbol (at + 1 + 1) (91 ∷ []) ∷ (x.found ++ y.found);
      end = y.end;
      again = x.again ∷ y.again;
      lexed = λ after stops. lex_symbol 58 at _ colon_leads (lex_space (at + 1) _ (lex_symbol 91 (at + 1 + 1) _ list_leads
          (subst (λ l. Lexed (at + 1 + 1 + 1) l (x.found ++ y.found) y.end after) (sym (append_assoc (shown value).text (tail_text values) after))
          (lexed_append (x.lexed (tail_text values ++ after) (tail_starts values after)) (y.lexed after stops)))));
      reads = λ more. holds_colon_list (filled_list (subst (λ l. Elements room true (x.again ∷ y.again) l more) (both_terminals x.found y.found more)
          (y.reads more x.again (map terminal_of x.found ++ (map terminal_of y.found ++ more)) (x.reads (map terminal_of y.found ++ more)))));
      same = ap (λ w. w ∷ map unplaced_value y.again) x.same ∙ ap (λ l. unplaced_value value ∷ l) y.same;
    })

list_starts : (values : List Value) (after : List ℕ) → Stops is_number (bracketed (map shown values) ++ after)
list_starts values after = colon_ends

held_list : (room : Room) (values : List Value) → AllByRecursion (ElementAgain room) values → HeldAgain room true values
held_list room values all = record { starts = list_starts values; holds = list_again room values all }

-- a field
field_made : (room : Room) (p : ℕ) (t : List ℕ) (listed : Bool) (values : List Value) → IsToken Word t → HeldAgain room listed values → ItemAgain room (item t p listed values)
unfolding ItemAgain SameValues
field_made room p t listed values is h at =
    let x : Again (λ others. Held room listed others) (SameValues values) (at + length t) (held_text listed values) = h.holds (at + length t) in
    subst (Again (Field room) (λ j. unplaced_item j ≡ unplaced_item (item t p listed values)) at) (sym (printed_item_is t p listed values))
    (record {
      found = lexeme Word at t ∷ x.found;
      end = x.end;
      again = item t at listed x.again;
      lexed = λ after stops. subst (λ l. Lexed at l (lexeme Word at t ∷ x.found) x.end after) (sym (append_assoc t (held_text listed values) after)) (lex_word at t (held_text listed values ++ after) is (h.starts after) (x.lexed after stops));
      reads = λ more. field_is (x.reads more) bare_end;
      same = unplaced_item_is t at listed x.again ∙ ap (λ l. item t 0 listed l) x.same ∙ sym (unplaced_item_is t p listed values);
    })

-- an item of a list
element_scalar : {room : Room} {value : Value} {ts rest : List Terminal} → Scalar room value ts rest → IsStrict room → Sound ts → ElementAgain room value
unfolding ElementAgain
element_scalar scalar strict sound at = let x = scalar_again scalar strict sound at in record { found = x.found; end = x.end; again = x.again; lexed = x.lexed; reads = λ more. scalar_element (x.reads more); same = x.same }

element_message : (room : Room) (value : Value) → MessageAgain room value → ElementAgain room value
unfolding ElementAgain MessageAgain
element_message room value each at = let x : Again (Message room) (SameValue value) at (shown value).text = each at in record { found = x.found; end = x.end; again = x.again; lexed = x.lexed; reads = λ more. message_element (x.reads more); same = x.same }

record IsMessageAgain (room : Room) (value : Value) : Type 0 where
  again : MessageAgain room value
  message : (shown value).message ≡ true

mutual
  fields_again : {room : Room} {items : List Item} {ts rest : List Terminal} → Fields room items ts rest → IsStrict room → Sound ts → AllByRecursion (ItemAgain room) items
  fields_again no_fields strict sound = tt
  fields_again (more_fields field others) strict sound = (field_again field strict sound, fields_again others strict (field_sound field sound))

  field_again : {room : Room} {i : Item} {ts rest : List Terminal} → Field room i ts rest → IsStrict room → Sound ts → ItemAgain room i
  field_again {room} (field_is {p = p} {t = t} {listed = listed} {values = values} held ends) strict sound = field_made room p t listed values sound.0 (held_again held strict sound.1)

  held_again : {room : Room} {listed : Bool} {values : List Value} {ts rest : List Terminal} → Held room listed values ts rest → IsStrict room → Sound ts → HeldAgain room listed values
  held_again {room} (holds_scalar {value = value} scalar) strict sound = held_scalar room value (scalar_shown scalar) (scalar_again scalar strict sound.1)
  held_again {room} (holds_message {value = value} message) strict sound = let m : IsMessageAgain room value = message_again message strict sound in held_message room value m.message m.again
  held_again {room} (holds_colon_message {value = value} message) strict sound = let m : IsMessageAgain room value = message_again message strict sound.1 in held_message room value m.message m.again
  held_again {room} (holds_list {values = values} list) strict sound = held_list room values (listed_again list strict sound)
  held_again {room} (holds_colon_list {values = values} list) strict sound = held_list room values (listed_again list strict sound.1)

  message_again : {room : Room} {value : Value} {ts rest : List Terminal} → Message room value ts rest → IsStrict room → Sound ts → IsMessageAgain room value
  message_again {room} (message_is {inner = inner} {p = p} {e = e} {items = items} enters inside) strict sound =
      record { again = message_made room inner p e items enters (fields_again inside (enters_strict enters strict) sound.1); message = message_shown p (tree items e) }

  listed_again : {room : Room} {colon : Bool} {values : List Value} {ts rest : List Terminal} → Listed room colon values ts rest → IsStrict room → Sound ts → AllByRecursion (ElementAgain room) values
  listed_again empty_list strict sound = tt
  listed_again (filled_list elements) strict sound = elements_again elements strict sound.1

  elements_again : {room : Room} {colon : Bool} {values : List Value} {ts rest : List Terminal} → Elements room colon values ts rest → IsStrict room → Sound ts → AllByRecursion (ElementAgain room) values
  elements_again (last_element element) strict sound = (element_again element strict sound, tt)
  elements_again (more_elements element elements) strict sound = (element_again element strict sound, elements_again elements strict (element_sound element sound).1)

  element_again : {room : Room} {colon : Bool} {value : Value} {ts rest : List Terminal} → Element room colon value ts rest → IsStrict room → Sound ts → ElementAgain room value
  element_again (scalar_element scalar) strict sound = element_scalar scalar strict sound
  element_again {room} (message_element {value = value} message) strict sound = let m : IsMessageAgain room value = message_again message strict sound in element_message room value m.again

-- the fields of a text
FieldsSame : List Item → List Item → Type 0
FieldsSame items others = map unplaced_item others ≡ map unplaced_item items

abbrev more_text : List Item → List ℕ
more_text items = flat_map (λ p. (32 ∷ []) ++ p) (map printed_item items)

more_starts : (items : List Item) (after : List ℕ) → Stops is_number after → Stops is_number (more_text items ++ after)
more_starts [] after stops = stops
more_starts (i ∷ items) after stops = space_ends

more_again : (room : Room) (items : List Item) → AllByRecursion (ItemAgain room) items → (at : ℕ) → Again (λ others. Fields room others) (FieldsSame items) at (more_text items)
unfolding FieldsSame ItemAgain
more_again room [] all at = record { found = []; end = at; again = []; lexed = λ after stops. here; reads = λ more. no_fields; same = refl }
more_again room (i ∷ items) all at =
    let x : Again (Field room) (λ j. unplaced_item j ≡ unplaced_item i) (at + 1) (printed_item i) = all.0 (at + 1) in
    let y : Again (λ others. Fields room others) (FieldsSame items) x.end (more_text items) = more_again room items all.1 x.end in
    record {
      found = x.found ++ y.found;
      end = y.end;
      again = x.again ∷ y.again;
      lexed = λ after stops. lex_space at _ (subst (λ l. Lexed (at + 1) l (x.found ++ y.found) y.end after) (sym (append_assoc (printed_item i) (more_text items) after))
          (lexed_append (x.lexed (more_text items ++ after) (more_starts items after stops)) (y.lexed after stops)));
      reads = λ more. subst (λ l. Fields room (x.again ∷ y.again) l more) (both_terminals x.found y.found more) (more_fields (x.reads (map terminal_of y.found ++ more)) (y.reads more));
      same = ap (λ w. w ∷ map unplaced_item y.again) x.same ∙ ap (λ l. unplaced_item i ∷ l) y.same;
    }

all_again : (room : Room) (items : List Item) → AllByRecursion (ItemAgain room) items → (at : ℕ) → Again (λ others. Fields room others) (FieldsSame items) at (separated (32 ∷ []) (map printed_item items))
unfolding FieldsSame ItemAgain
all_again room [] all at = record { found = []; end = at; again = []; lexed = λ after stops. here; reads = λ more. no_fields; same = refl }
all_again room (i ∷ items) all at =
    let x : Again (Field room) (λ j. unplaced_item j ≡ unplaced_item i) at (printed_item i) = all.0 at in
    let y : Again (λ others. Fields room others) (FieldsSame items) x.end (more_text items) = more_again room items all.1 x.end in
    record {
      found = x.found ++ y.found;
      end = y.end;
      again = x.again ∷ y.again;
      lexed = λ after stops. subst (λ l. Lexed at l (x.found ++ y.found) y.end after) (sym (append_assoc (printed_item i) (more_text items) after))
          (lexed_append (x.lexed (more_text items ++ after) (more_starts items after stops)) (y.lexed after stops));
      reads = λ more. subst (λ l. Fields room (x.again ∷ y.again) l more) (both_terminals x.found y.found more) (more_fields (x.reads (map terminal_of y.found ++ more)) (y.reads more));
      same = ap (λ w. w ∷ map unplaced_item y.again) x.same ∙ ap (λ l. unplaced_item i ∷ l) y.same;
    }

lexed_end : {at : ℕ} {text : List ℕ} {found : List Lexeme} {end : ℕ} {rest : List ℕ} → Lexed at text found end rest → at + length text ≡ end + length rest
lexed_end here = refl
lexed_end (blank {at = at} {end = end} {text = text} {rest = rest} leads lexed) = let later : at + 1 + length text ≡ end + length rest = lexed_end lexed in omega arith
lexed_end (comment {at = at} {end = end} body text {rest = rest} leads ends lexed) =
    let later : at + 1 + length body + length text ≡ end + length rest = lexed_end lexed in omega (arith, length-append body text)
lexed_end (token {at = at} {end = end} bytes text {rest = rest} is longest lexed) = let later : at + length bytes + length text ≡ end + length rest = lexed_end lexed in omega (arith, length-append bytes text)

whole_lexed : (line text : List ℕ) (found : List Lexeme) (end : ℕ) → Lexed 0 (line ++ []) found end [] → text ≡ line → Lexes text found
whole_lexed line text found end lexed is =
    let whole : Lexed 0 line found end [] = subst (λ l. Lexed 0 l found end []) (append-nil line) lexed in
    let at_end : end ≡ length line = ends_at (length line) end (lexed_end whole) in
    subst (λ l. Lexed 0 l found (length l) []) (sym is) (subst (λ n. Lexed 0 line found n []) at_end whole)
  where
    ends_at : (n end : ℕ) → 0 + n ≡ end + 0 → end ≡ n
    ends_at n end e = omega arith

abbrev SpelledAgain : List ℕ → Tree → Type 0
SpelledAgain text read = (again : Tree) × Spells text again × (unplaced again ≡ unplaced read)

spelled_by : (text : List ℕ) (read : Tree) (items : List Item) (end : ℕ) → text ≡ separated (32 ∷ []) (map printed_item items) → read ≡ tree items end
    → Again (λ others. Fields (left 32) others) (FieldsSame items) 0 (separated (32 ∷ []) (map printed_item items)) → SpelledAgain text read
unfolding FieldsSame
spelled_by text read items end line is x = (
  tree x.again (length text),
  record {
    found = x.found;
    items = x.again;
    lexes = whole_lexed (separated (32 ∷ []) (map printed_item items)) text x.found x.end (x.lexed [] tt) line;
    derives = subst (λ l. Fields (left 32) x.again l []) (append-nil (map terminal_of x.found)) (x.reads []);
    is = refl;
  },
  unplaced_is x.again (length text) ∙ ap (λ l. tree l 0) x.same ∙ sym (ap unplaced is ∙ unplaced_is items end),
)

-- what a text's tree is printed as spells the same tree
pub printed_spells : (text : List ℕ) (read : Tree) → Spells text read → (again : Tree) × Spells (printed read) again × (unplaced again ≡ unplaced read)
printed_spells text read spells =
    spelled_by (printed read) read spells.items (length text) (ap printed spells.is ∙ ap (separated (32 ∷ [])) (printed_fields_is spells.items (length text))) spells.is
    (all_again (left 32) spells.items (fields_again spells.derives tt (lexed_sound spells.lexes)) 0)
