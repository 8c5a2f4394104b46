-- Tokens as a function give exactly the tokens, or the first fault, that the definitions have.
use Rattle.std.proofs.Common.{◌≡◌, ℕ, zero, suc, ◌+◌, ◌<◌, Bool, true, false, List, [], ◌∷◌, ◌++◌, length, take, drop, Result, Ok, Err, refl, sym, ap, ◌∙◌, subst, arith, append_assoc, append-nil, cond, length-drop, length-append}
use Rattle.std.specs.Prelude.{◌≤◌, ◌&&◌, ◌||◌, not}
use Rattle.std.specs.List.{list_any, list_all, prefix_len}
use Rattle.std.proofs.lemmas.List.{take-append-drop, length-take}
use Rattle.std.proofs.lemmas.List.Sums.{prefix_len-le-length}
use Rattle.std.proofs.Math.Seq.{drop-append_seam, take-append_seam}
use Rattle.acfg_text.specs.declared.token.TokenKind.{TokenKind}
use Rattle.acfg_text.specs.declared.token.TokenKind.TheVariants.{Word, Number, Quoted, Symbol}
use Rattle.acfg_text.specs.declared.bytes.Lead.{Lead}
use Rattle.acfg_text.specs.declared.bytes.Lead.TheVariants.{White, Comment, Token, Nothing}
use Rattle.acfg_text.specs.declared.quoted.Scan.{Scan}
use Rattle.acfg_text.specs.declared.quoted.Scan.TheVariants.{Closed, Bad, Open}
use Rattle.acfg_text.specs.declared.fault.TextWhat.{TextWhat}
use Rattle.acfg_text.specs.declared.fault.TextWhat.TheVariants.{BadEscape, OpenString}
use Rattle.acfg_text.specs.Terminals.{Lexeme, lexeme}
use Rattle.acfg_text.specs.Lexes.{is_word, is_number, is_line_feed, lead, Closes, IsToken, IsLongest, EndsLine, Lexed, here, blank, comment, token, BreaksAt, bad_byte, open_string, bad_escape, LexFault, Lexes}
use Rattle.acfg_text.specs.Machine.{Fault, fault}
use Rattle.acfg_text.specs.Scanning.{scan, quoted_len, token_len, comment_len, with_front, lex_token, lex_by, lex}
use Rattle.acfg_text.proofs.Quotes.{one_close, closes_scan, closes_more, never_scan, bad_scan, Scanned, scan_is, Split, closes_split}

pub lex_skip : (k at : ℕ) (text : List ℕ) → k ≤ length text → lex k at text ≡ lex 0 (at + k) (drop k text)
unfolding lex
lex_skip zero at text h = ap (λ n. lex 0 n text) (omega arith)
lex_skip (suc k) at [] h = absurd (omega arith)
lex_skip (suc k) at (b ∷ text) h = lex_skip k (at + 1) text (omega arith) ∙ ap (λ n. lex 0 n (drop k text)) (omega arith)

pub with_nothing : (r : Result (List Lexeme) Fault) → with_front [] r ≡ r
with_nothing (Ok found) = refl
with_nothing (Err f) = refl

pub with_both : (a b : List Lexeme) (r : Result (List Lexeme) Fault) → with_front (a ++ b) r ≡ with_front a (with_front b r)
with_both a b (Ok found) = ap Ok (append_assoc a b found)
with_both a b (Err f) = refl

-- a front of bytes that pass a test
abbrev pub Stops : (ℕ → Bool) → List ℕ → Type 0
Stops p [] = Unit {0}
Stops p (b ∷ text) = p b ≡ false

front_by : (p : ℕ → Bool) (b m : ℕ) (text : List ℕ) (q : Bool) → p b ≡ q → (list_all p (take m text) ≡ true) × Stops p (drop m text)
    → (list_all p (take (cond q (1 + m) 0) (b ∷ text)) ≡ true) × Stops p (drop (cond q (1 + m) 0) (b ∷ text))
front_by p b m text true e rest =
    let Holds : ℕ → Type 0 = λ n. (list_all p (take n (b ∷ text)) ≡ true) × Stops p (drop n (b ∷ text)) in
    let one : suc m ≡ 1 + m = omega arith in
    subst Holds one (rw e rest.0, rest.1)
front_by p b m text false e rest = (refl, e)

pub front : (p : ℕ → Bool) (text : List ℕ) → (list_all p (take (prefix_len p text) text) ≡ true) × Stops p (drop (prefix_len p text) text)
front p [] = (refl, tt)
front p (b ∷ text) = front_by p b (prefix_len p text) text (p b) refl (front p text)

and_true : (a b : Bool) → (a && b) ≡ true → (a ≡ true) × (b ≡ true)
and_true true b e = (refl, e)
and_true false b e = absurd cc

pub prefix_all : (p : ℕ → Bool) (bytes rest : List ℕ) → list_all p bytes ≡ true → Stops p rest → prefix_len p (bytes ++ rest) ≡ length bytes
prefix_all p [] [] e stops = refl
prefix_all p [] (b ∷ rest) e stops = rw stops refl
prefix_all p (b ∷ bytes) rest e stops =
    let both : (p b ≡ true) × (list_all p bytes ≡ true) = and_true (p b) (list_all p bytes) e in
    let later : prefix_len p (bytes ++ rest) ≡ length bytes = prefix_all p bytes rest both.1 stops in
    let first : p b ≡ true = both.0 in
    rw (first, later) (omega arith)

all_behind : (p : ℕ → Bool) (front back : List ℕ) → list_all p (front ++ back) ≡ true → list_all p back ≡ true
all_behind p [] back e = e
all_behind p (b ∷ front) back e = all_behind p front back (and_true (p b) (list_all p (front ++ back)) e).1

all_one : (p : ℕ → Bool) (bytes : List ℕ) (b : ℕ) → list_all p bytes ≡ true → p b ≡ true → list_all p (bytes ++ b ∷ []) ≡ true
all_one p [] b e one = rw one refl
all_one p (c ∷ bytes) b e one = let both : (p c ≡ true) × (list_all p bytes ≡ true) = and_true (p c) (list_all p bytes) e in let first : p c ≡ true = both.0 in rw first (all_one p bytes b both.1 one)

-- no token is longer than one whose bytes all pass and that a byte follows which doesn't
no_more : (p : ℕ → Bool) (bytes rest more tail : List ℕ) → Stops p rest → 0 < length more → rest ≡ more ++ tail → list_all p (bytes ++ more) ≡ true → ⊥
no_more p bytes rest [] tail stops some is all = omega arith
no_more p bytes rest (b ∷ more) tail stops some is all =
    let stopped : p b ≡ false = subst (Stops p) is stops in
    let both : (p b ≡ true) × (list_all p more ≡ true) = and_true (p b) (list_all p more) (all_behind p bytes (b ∷ more) all) in
    let passes : p b ≡ true = both.0 in cc

pub longest_word : (b : ℕ) (bytes rest : List ℕ) → lead b ≡ Token Word → Stops is_word rest → IsLongest (b ∷ bytes) rest
longest_word b bytes rest leads stops Word more tail some is (l, all) = no_more is_word bytes rest more tail stops some is all
longest_word b bytes rest leads stops Number more tail some is (l, all) = cc
longest_word b bytes rest leads stops Quoted more tail some is (l, all) = cc
longest_word b bytes rest leads stops Symbol more tail some is (l, all) = cc

pub longest_number : (b : ℕ) (bytes rest : List ℕ) → lead b ≡ Token Number → Stops is_number rest → IsLongest (b ∷ bytes) rest
longest_number b bytes rest leads stops Number more tail some is (l, all) = no_more is_number bytes rest more tail stops some is all
longest_number b bytes rest leads stops Word more tail some is (l, all) = cc
longest_number b bytes rest leads stops Quoted more tail some is (l, all) = cc
longest_number b bytes rest leads stops Symbol more tail some is (l, all) = cc

pub longest_symbol : (b : ℕ) (rest : List ℕ) → lead b ≡ Token Symbol → IsLongest (b ∷ []) rest
longest_symbol b rest leads Symbol [] tail some is (l, none) = omega arith
longest_symbol b rest leads Symbol (m ∷ more) tail some is (l, none) = cc
longest_symbol b rest leads Word more tail some is (l, all) = cc
longest_symbol b rest leads Number more tail some is (l, all) = cc
longest_symbol b rest leads Quoted more tail some is (l, all) = cc

pub longest_quoted : (b : ℕ) (bytes rest : List ℕ) → lead b ≡ Token Quoted → Closes b bytes [] → IsLongest (b ∷ bytes) rest
longest_quoted b bytes rest leads closes Quoted more tail some is (l, again) =
    let none : [] ≡ more = one_close b (bytes ++ more) [] more again (closes_more b more closes) in
    let length_none : 0 ≡ length more = ap length none in omega arith
longest_quoted b bytes rest leads closes Word more tail some is (l, all) = cc
longest_quoted b bytes rest leads closes Number more tail some is (l, all) = cc
longest_quoted b bytes rest leads closes Symbol more tail some is (l, all) = cc

-- what a token's length says
record Stands (kind : TokenKind) (b : ℕ) (text : List ℕ) (n : ℕ) : Type 0 where
  inside : n ≤ length text
  token : IsToken kind (b ∷ take n text)
  longest : IsLongest (b ∷ take n text) (drop n text)

ok_is : {A E : Type 0} (x y : A) → ◌≡◌ {A = Result A E} (Ok x) (Ok y) → x ≡ y
ok_is x y e = cc

taken : (n : ℕ) (text body : List ℕ) → n ≤ length text → text ≡ body ++ drop n text → body ≡ take n text
taken n text body inside is =
    let lens : length body ≡ n = omega (arith, ap length is, length-append body (drop n text), length-drop n text) in
    sym (take-append_seam body (drop n text)) ∙ ap (λ m. take m (body ++ drop n text)) lens ∙ ap (take n) (sym is)

stands_quoted : (b at : ℕ) (text : List ℕ) (n : ℕ) (s : Scan) → lead b ≡ Token Quoted → Scanned b 0 text s → quoted_len at s ≡ Ok n → Stands Quoted b text n
stands_quoted b at text n (Closed m) leads (k, counts, inside, closes) e =
    let is : k ≡ n = omega (arith, ok_is m n e) in
    let split : Split b text (drop k text) = closes_split b closes in
    let body : split.body ≡ take n text = taken k text split.body inside split.is ∙ ap (λ l. take l text) is in
    let whole : Closes b (take n text) [] = subst (λ l. Closes b l []) body split.closes in
    record { inside = omega arith; token = (leads, whole); longest = longest_quoted b (take n text) (drop n text) leads whole }
stands_quoted b at text n (Bad m) leads scanned e = absurd cc
stands_quoted b at text n Open leads scanned e = absurd cc

stands : (kind : TokenKind) (b at : ℕ) (text : List ℕ) (n : ℕ) → lead b ≡ Token kind → token_len kind b at text ≡ Ok n → Stands kind b text n
stands Word b at text n leads e =
    let is : prefix_len is_word text ≡ n = ok_is (prefix_len is_word text) n e in
    let f : (list_all is_word (take (prefix_len is_word text) text) ≡ true) × Stops is_word (drop (prefix_len is_word text) text) = front is_word text in
    subst (Stands Word b text) is (record { inside = prefix_len-le-length is_word text; token = (leads, f.0); longest = longest_word b (take (prefix_len is_word text) text) (drop (prefix_len is_word text) text) leads f.1 })
stands Number b at text n leads e =
    let is : prefix_len is_number text ≡ n = ok_is (prefix_len is_number text) n e in
    let f : (list_all is_number (take (prefix_len is_number text) text) ≡ true) × Stops is_number (drop (prefix_len is_number text) text) = front is_number text in
    subst (Stands Number b text) is (record { inside = prefix_len-le-length is_number text; token = (leads, f.0); longest = longest_number b (take (prefix_len is_number text) text) (drop (prefix_len is_number text) text) leads f.1 })
stands Symbol b at text n leads e = subst (Stands Symbol b text) (ok_is 0 n e) (record { inside = omega arith; token = (leads, refl); longest = longest_symbol b text leads })
stands Quoted b at text n leads e = stands_quoted b at text n (scan b 0 0 text) leads (scan_is b 0 0 0 text (omega arith) refl) e

fails_quoted : (b at : ℕ) (text : List ℕ) (f : Fault) (s : Scan) → lead b ≡ Token Quoted → Scanned b 0 text s → quoted_len at s ≡ Err f → BreaksAt at (b ∷ text) f.place f.what
fails_quoted b at text f (Closed m) leads scanned e = absurd cc
fails_quoted b at text f (Bad m) leads (k, counts, bad) e =
    let is : fault (at + 1 + k) BadEscape ≡ f = ap (λ n. fault (at + 1 + n) BadEscape) (omega arith) ∙ (let same : fault (at + 1 + m) BadEscape ≡ f = cc in same) in
    subst (λ g. BreaksAt at (b ∷ text) g.place g.what) is (bad_escape leads bad)
fails_quoted b at text f Open leads never e = let is : fault at OpenString ≡ f = cc in subst (λ g. BreaksAt at (b ∷ text) g.place g.what) is (open_string leads never)

token_fails : (kind : TokenKind) (b at : ℕ) (text : List ℕ) (f : Fault) → lead b ≡ Token kind → token_len kind b at text ≡ Err f → BreaksAt at (b ∷ text) f.place f.what
token_fails Word b at text f leads e = absurd cc
token_fails Number b at text f leads e = absurd cc
token_fails Symbol b at text f leads e = absurd cc
token_fails Quoted b at text f leads e = fails_quoted b at text f (scan b 0 0 text) leads (scan_is b 0 0 0 text (omega arith) refl) e

-- a token has its length
stopped : (p : ℕ → Bool) (rest : List ℕ) → ((b : ℕ) (tail : List ℕ) → rest ≡ b ∷ tail → p b ≡ true → ⊥) → Stops p rest
stopped p [] never = tt
stopped p (b ∷ tail) never = go (p b) refl
  where
    go : (q : Bool) → p b ≡ q → p b ≡ false
    go true e = absurd (never b tail refl e)
    go false e = e

token_len_is : (kind : TokenKind) (b at : ℕ) (bytes rest : List ℕ) → IsToken kind (b ∷ bytes) → IsLongest (b ∷ bytes) rest → token_len kind b at (bytes ++ rest) ≡ Ok (length bytes)
token_len_is Word b at bytes rest (leads, all) longest =
    ap Ok (prefix_all is_word bytes rest all (stopped is_word rest (λ c tail is one. longest Word (c ∷ []) tail (omega arith) is (leads, all_one is_word bytes c all one))))
token_len_is Number b at bytes rest (leads, all) longest =
    ap Ok (prefix_all is_number bytes rest all (stopped is_number rest (λ c tail is one. longest Number (c ∷ []) tail (omega arith) is (leads, all_one is_number bytes c all one))))
token_len_is Symbol b at bytes rest (leads, none) longest = ap (λ l. Ok (length l)) (sym none)
token_len_is Quoted b at bytes rest (leads, closes) longest = ap (quoted_len at) (closes_scan b bytes rest (closes_more b rest closes))

-- a comment has its length
none_all : (body : List ℕ) → list_any is_line_feed body ≡ false → list_all (λ b. not (is_line_feed b)) body ≡ true
none_all [] e = refl
none_all (b ∷ body) e = go (is_line_feed b) e (λ rest. none_all body rest)
  where
    go : (q : Bool) → (q || list_any is_line_feed body) ≡ false → (list_any is_line_feed body ≡ false → list_all (λ c. not (is_line_feed c)) body ≡ true) → (not q && list_all (λ c. not (is_line_feed c)) body) ≡ true
    go true e all = absurd cc
    go false e all = all e

all_none : (body : List ℕ) → list_all (λ b. not (is_line_feed b)) body ≡ true → list_any is_line_feed body ≡ false
all_none [] e = refl
all_none (b ∷ body) e = go (is_line_feed b) e (λ rest. all_none body rest)
  where
    go : (q : Bool) → (not q && list_all (λ c. not (is_line_feed c)) body) ≡ true → (list_all (λ c. not (is_line_feed c)) body ≡ true → list_any is_line_feed body ≡ false) → (q || list_any is_line_feed body) ≡ false
    go true e none = absurd cc
    go false e none = none e

denied : (b : Bool) → not b ≡ false → b ≡ true
denied true e = refl
denied false e = absurd cc

denies : (b : Bool) → b ≡ true → not b ≡ false
denies true e = refl
denies false e = absurd cc

line_ends : (text : List ℕ) → EndsLine (take (comment_len text) text) (drop (comment_len text) text)
line_ends text =
    let f : (list_all (λ b. not (is_line_feed b)) (take (comment_len text) text) ≡ true) × Stops (λ b. not (is_line_feed b)) (drop (comment_len text) text) = front (λ b. not (is_line_feed b)) text in
    record { within = all_none (take (comment_len text) text) f.0; behind = λ b rest is. denied (is_line_feed b) (subst (Stops (λ c. not (is_line_feed c))) is f.1) }

comment_len_is : (body text : List ℕ) → EndsLine body text → comment_len (body ++ text) ≡ length body
comment_len_is body text ends = prefix_all (λ b. not (is_line_feed b)) body text (none_all body ends.within) (stops_at text ends.behind)
  where
    stops_at : (rest : List ℕ) → ((b : ℕ) (tail : List ℕ) → rest ≡ b ∷ tail → is_line_feed b ≡ true) → Stops (λ b. not (is_line_feed b)) rest
    stops_at [] behind = tt
    stops_at (b ∷ tail) behind = denies (is_line_feed b) (behind b tail refl)

-- what has been lexed so far is in front of what the rest gives
behind_front : (at n : ℕ) (front rest : List ℕ) → n ≡ length front → lex n at (front ++ rest) ≡ lex 0 (at + length front) rest
behind_front at n front rest is =
    let inside : n ≤ length (front ++ rest) = omega (arith, length-append front rest) in
    lex_skip n at (front ++ rest) inside ∙ ap (λ m. lex 0 (at + m) (drop m (front ++ rest))) is ∙ ap (λ l. lex 0 (at + length front) l) (drop-append_seam front rest)

pub lexed_lex : {at : ℕ} {text : List ℕ} {found : List Lexeme} {end : ℕ} {rest : List ℕ} → Lexed at text found end rest → lex 0 at text ≡ with_front found (lex 0 end rest)
unfolding lex
lexed_lex (here {at = at} {text = text}) = sym (with_nothing (lex 0 at text))
lexed_lex (blank leads lexed) = rw leads (lexed_lex lexed)
lexed_lex (comment {at = at} {b = b} body text leads ends lexed) =
    rw leads (ap (λ n. lex n (at + 1) (body ++ text)) (comment_len_is body text ends) ∙ behind_front (at + 1) (length body) body text refl ∙ lexed_lex lexed)
lexed_lex (token {at = at} {end = end} {kind = kind} [] text {rest = rest} {found = found} is longest lexed) = absurd is
lexed_lex (token {at = at} {end = end} {kind = kind} (b ∷ bytes) text {rest = rest} {found = found} is longest lexed) =
    let leads : lead b ≡ Token kind = is.0 in
    let len : token_len kind b at (bytes ++ text) ≡ Ok (length bytes) = token_len_is kind b at bytes text is longest in
    let cut : take (length bytes) (bytes ++ text) ≡ bytes = take-append_seam bytes text in
    let behind : lex (length bytes) (at + 1) (bytes ++ text) ≡ with_front found (lex 0 end rest)
    = behind_front (at + 1) (length bytes) bytes text refl ∙ ap (λ n. lex 0 n text) (omega arith) ∙ lexed_lex lexed in
    rw (leads, len, cut, behind) (sym (with_both (lexeme kind at (b ∷ bytes) ∷ []) found (lex 0 end rest)))

pub breaks_lex : {at : ℕ} {text : List ℕ} {p : ℕ} {w : TextWhat} → BreaksAt at text p w → lex 0 at text ≡ Err (fault p w)
unfolding lex
breaks_lex (bad_byte leads) = rw leads refl
breaks_lex (open_string {b = b} leads never) = rw (leads, never_scan b 0 never) refl
breaks_lex (bad_escape {at = at} {b = b} {n = n} leads bad) = rw (leads, bad_scan b 0 bad) (ap (λ m. Err (fault (at + 1 + m) BadEscape)) (omega arith))

-- what the tokens as a function say of the text
pub record Breaking (start : ℕ) (text : List ℕ) (f : Fault) : Type 0 where
  found : List Lexeme
  at : ℕ
  rest : List ℕ
  before : Lexed start text found at rest
  breaks : BreaksAt at rest f.place f.what

abbrev pub Lexing : ℕ → List ℕ → ℕ → Result (List Lexeme) Fault → Type 0
Lexing start text end (Ok found) = Lexed start text found end []
Lexing start text end (Err f) = Breaking start text f

lexing_blank : (start b end : ℕ) (text : List ℕ) (r : Result (List Lexeme) Fault) → lead b ≡ White → Lexing (start + 1) text end r → Lexing start (b ∷ text) end r
lexing_blank start b end text (Ok found) leads lexed = blank leads lexed
lexing_blank start b end text (Err f) leads l = record { found = l.found; at = l.at; rest = l.rest; before = blank leads l.before; breaks = l.breaks }

lexing_comment : (start b end : ℕ) (body text : List ℕ) (r : Result (List Lexeme) Fault) → lead b ≡ Comment → EndsLine body text → Lexing (start + 1 + length body) text end r → Lexing start (b ∷ (body ++ text)) end r
lexing_comment start b end body text (Ok found) leads ends lexed = comment body text leads ends lexed
lexing_comment start b end body text (Err f) leads ends l = record { found = l.found; at = l.at; rest = l.rest; before = comment body text leads ends l.before; breaks = l.breaks }

lexing_token : (start end : ℕ) (kind : TokenKind) (bytes text : List ℕ) (r : Result (List Lexeme) Fault) → IsToken kind bytes → IsLongest bytes text → Lexing (start + length bytes) text end r → Lexing start (bytes ++ text) end (with_front (lexeme kind start bytes ∷ []) r)
lexing_token start end kind bytes text (Ok found) is longest lexed = token bytes text is longest lexed
lexing_token start end kind bytes text (Err f) is longest l = record { found = lexeme kind start bytes ∷ l.found; at = l.at; rest = l.rest; before = token bytes text is longest l.before; breaks = l.breaks }

pub lex_lexing : (k at start end : ℕ) (text : List ℕ) → k ≤ length text → start ≡ at + k → end ≡ at + length text → Lexing start (drop k text) end (lex k at text)
unfolding lex
lex_lexing zero at start end [] h s e = let same : start ≡ end = omega arith in subst (λ n. Lexed start [] [] n []) same here
lex_lexing (suc k) at start end [] h s e = absurd (omega arith)
lex_lexing (suc k) at start end (b ∷ text) h s e = lex_lexing k (at + 1) start end text (omega arith) (omega arith) (omega arith)
lex_lexing zero at start end (b ∷ text) h s e =
    let same : at ≡ start = omega arith in
    subst (λ n. Lexing n (b ∷ text) end (lex_by (lead b) b at text (λ n. lex n (at + 1) text))) same
    (by_lead (lead b) refl (λ n inside. lex_lexing n (at + 1) (at + 1 + n) end text inside refl (omega arith)))
  where
    IsRest : Type 0
    IsRest = (n : ℕ) → n ≤ length text → Lexing (at + 1 + n) (drop n text) end (lex n (at + 1) text)

    by_token : (kind : TokenKind) (r : Result ℕ Fault) → lead b ≡ Token kind → token_len kind b at text ≡ r → ((n : ℕ) → n ≤ length text → Lexing (at + 1 + n) (drop n text) end (lex n (at + 1) text))
        → Lexing at (b ∷ text) end (lex_token kind b at text r (λ n. lex n (at + 1) text))
    by_token kind (Ok n) leads len rest =
        let st : Stands kind b text n = stands kind b at text n leads len in
        let front_len : length (take n text) ≡ n = omega (arith, length-take n text, st.inside) in
        let whole : (b ∷ take n text) ++ drop n text ≡ b ∷ text = ap (λ l. b ∷ l) (take-append-drop n text) in
        subst (λ l. Lexing at l end (with_front (lexeme kind at (b ∷ take n text) ∷ []) (lex n (at + 1) text))) whole
        (lexing_token at end kind (b ∷ take n text) (drop n text) (lex n (at + 1) text) st.token st.longest
        (subst (λ m. Lexing m (drop n text) end (lex n (at + 1) text)) (omega arith) (rest n st.inside)))
    by_token kind (Err f) leads len rest = record { found = []; at = at; rest = b ∷ text; before = here; breaks = token_fails kind b at text f leads len }

    by_lead : (l : Lead) → lead b ≡ l → ((n : ℕ) → n ≤ length text → Lexing (at + 1 + n) (drop n text) end (lex n (at + 1) text)) → Lexing at (b ∷ text) end (lex_by l b at text (λ n. lex n (at + 1) text))
    by_lead White leads rest = lexing_blank at b end text (lex 0 (at + 1) text) leads (subst (λ m. Lexing m text end (lex 0 (at + 1) text)) (omega arith) (rest 0 (omega arith)))
    by_lead Comment leads rest =
        let n : ℕ = comment_len text in
        let inside : n ≤ length text = prefix_len-le-length (λ c. not (is_line_feed c)) text in
        let front_len : length (take n text) ≡ n = omega (arith, length-take n text) in
        let whole : b ∷ (take n text ++ drop n text) ≡ b ∷ text = ap (λ l. b ∷ l) (take-append-drop n text) in
        subst (λ l. Lexing at l end (lex n (at + 1) text)) whole
        (lexing_comment at b end (take n text) (drop n text) (lex n (at + 1) text) leads (line_ends text)
        (subst (λ m. Lexing m (drop n text) end (lex n (at + 1) text)) (ap (λ m. at + 1 + m) (sym front_len)) (rest n inside)))
    by_lead (Token kind) leads rest = by_token kind (token_len kind b at text) leads refl rest
    by_lead Nothing leads rest = record { found = []; at = at; rest = b ∷ text; before = here; breaks = bad_byte leads }

-- tokens of a whole text
pub lex_lexes : (text : List ℕ) (found : List Lexeme) → lex 0 0 text ≡ Ok found → Lexes text found
lex_lexes text found e = subst (Lexing 0 text (length text)) e (lex_lexing 0 0 0 (length text) text (omega arith) refl (omega arith))

pub lex_faults : (text : List ℕ) (f : Fault) → lex 0 0 text ≡ Err f → LexFault text f.place f.what
lex_faults text f e =
    let b : Breaking 0 text f = subst (Lexing 0 text (length text)) e (lex_lexing 0 0 0 (length text) text (omega arith) refl (omega arith)) in
    record { found = b.found; at = b.at; rest = b.rest; before = b.before; breaks = b.breaks }

pub lexes_lex : (text : List ℕ) (found : List Lexeme) → Lexes text found → lex 0 0 text ≡ Ok found
unfolding lex
lexes_lex text found lexes = lexed_lex lexes ∙ ap Ok (append-nil found)

pub faults_lex : (text : List ℕ) (p : ℕ) (w : TextWhat) → LexFault text p w → lex 0 0 text ≡ Err (fault p w)
faults_lex text p w l = lexed_lex l.before ∙ ap (with_front l.found) (breaks_lex l.breaks)

pub one_lexes : (text : List ℕ) (found others : List Lexeme) → Lexes text found → Lexes text others → found ≡ others
one_lexes text found others a b = let x : lex 0 0 text ≡ Ok found = lexes_lex text found a in let y : lex 0 0 text ≡ Ok others = lexes_lex text others b in cc
