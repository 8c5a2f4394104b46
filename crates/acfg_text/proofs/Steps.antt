-- One token at a time: what the lexer has read, and what is left.
use Rattle.std.proofs.Common.{◌≡◌, ℕ, suc, ◌+◌, ◌-◌, ◌<◌, List, [], ◌∷◌, ◌++◌, length, take, drop, get_or, map, Result, Ok, Err, sym, ap, ◌∙◌, arith, add-one, drop-cons, length-drop}
use Rattle.std.specs.Prelude.{◌≤◌}
use Rattle.std.proofs.lemmas.List.{drop-drop, map-append, drop_more, get_or-map, length-map}
use Rattle.std.proofs.lemmas.List.Sums.{prefix_len-le-length}
use Rattle.std.proofs.Math.ListN.{drop_of_length-le}
use Rattle.acfg_text.specs.declared.token.Token.{Token}
use Rattle.acfg_text.specs.declared.token.TokenKind.{TokenKind}
use Rattle.acfg_text.specs.declared.bytes.Lead.TheVariants as leads
use Rattle.acfg_text.specs.declared.fault.TextWhat.TheVariants.{BadByte}
use Rattle.acfg_text.specs.Terminals.{Lexeme, lexeme, lexeme_of}
use Rattle.acfg_text.specs.Lexes.{lead}
use Rattle.acfg_text.specs.Marked.{kind_led, begun_kind, marked}
use Rattle.acfg_text.specs.Machine.{Fault, fault}
use Rattle.acfg_text.specs.Scanning.{token_len, comment_len, with_front, lex_token, lex_by, lex}
use Rattle.acfg_text.proofs.Lexing.{lex_skip, with_both}

module _ (at : ℕ) (source : List ℕ) (inside : at < length source) where
  abbrev byte : ℕ
  byte = get_or source at 0

  abbrev rest : List ℕ
  rest = drop (at + 1) source

  here : drop at source ≡ byte ∷ rest
  here = drop-cons source at 0 inside ∙ ap (λ n. byte ∷ drop n source) (sym (add-one at))

  lex_here : lex 0 at (drop at source) ≡ lex_by (lead byte) byte at rest (λ n. lex n (at + 1) rest)
  unfolding lex
  lex_here = ap (λ l. lex 0 at l) here

  behind : (n : ℕ) → n ≤ length rest → lex n (at + 1) rest ≡ lex 0 (at + 1 + n) (drop (at + 1 + n) source)
  behind n le = lex_skip n (at + 1) rest le ∙ ap (λ l. lex 0 (at + 1 + n) l) (drop-drop n (at + 1) source)

  pub lex_white : lead byte ≡ leads.White → lex 0 at (drop at source) ≡ lex 0 (at + 1) (drop (at + 1) source)
  lex_white e = lex_here ∙ ap (λ l. lex_by l byte at rest (λ n. lex n (at + 1) rest)) e

  pub lex_comment : lead byte ≡ leads.Comment → lex 0 at (drop at source) ≡ lex 0 (at + (1 + comment_len rest)) (drop (at + (1 + comment_len rest)) source)
  lex_comment e =
      lex_here ∙ ap (λ l. lex_by l byte at rest (λ n. lex n (at + 1) rest)) e ∙ behind (comment_len rest) (prefix_len-le-length _ rest)
      ∙ ap (λ n. lex 0 n (drop n source)) (omega arith)

  pub lex_nothing : lead byte ≡ leads.Nothing → lex 0 at (drop at source) ≡ Err (fault at BadByte)
  lex_nothing e = lex_here ∙ ap (λ l. lex_by l byte at rest (λ n. lex n (at + 1) rest)) e

  pub lex_failed : (kind : TokenKind) (f : Fault) → lead byte ≡ leads.Token kind → token_len kind byte at rest ≡ Err f → lex 0 at (drop at source) ≡ Err f
  lex_failed kind f e len = lex_here ∙ ap (λ l. lex_by l byte at rest (λ n. lex n (at + 1) rest)) e ∙ ap (λ r. lex_token kind byte at rest r (λ n. lex n (at + 1) rest)) len

  cut : (end : ℕ) → at < end → end ≤ length source → byte ∷ take (end - (at + 1)) rest ≡ take (end - at) (drop at source)
  cut end above le = ap (λ n. take n (byte ∷ rest)) (let is : suc (end - (at + 1)) ≡ end - at = omega arith in is) ∙ ap (take (end - at)) (sym here)

  pub lex_found : (kind : TokenKind) (end : ℕ) → at < end → end ≤ length source → lead byte ≡ leads.Token kind → token_len kind byte at rest ≡ Ok (end - (at + 1))
      → lex 0 at (drop at source) ≡ with_front (lexeme kind at (take (end - at) (drop at source)) ∷ []) (lex 0 end (drop end source))
  lex_found kind end above le e len =
      lex_here ∙ ap (λ l. lex_by l byte at rest (λ n. lex n (at + 1) rest)) e ∙ ap (λ r. lex_token kind byte at rest r (λ n. lex n (at + 1) rest)) len
      ∙ ap (λ t. with_front (lexeme kind at t ∷ []) (lex (end - (at + 1)) (at + 1) rest)) (cut end above le)
      ∙ ap (with_front (lexeme kind at (take (end - at) (drop at source)) ∷ [])) (behind (end - (at + 1)) (omega (arith, length-drop (at + 1) source)) ∙ ap (λ n. lex 0 n (drop n source)) (omega arith))

  -- the token is the one at its mark
  pub is_marked : (kind : TokenKind) (end : ℕ) → at < end → end ≤ length source → lead byte ≡ leads.Token kind → marked source (at, end) ≡ lexeme kind at (take (end - at) (drop at source))
  is_marked kind end above le e =
      ap (λ text. lexeme (begun_kind text) at text) (sym (cut end above le)) ∙ ap (λ k. lexeme k at (byte ∷ take (end - (at + 1)) rest)) (ap kind_led e) ∙ ap (lexeme kind at) (cut end above le)

-- the invariant goes on behind one more token
pub found_more : (source : List ℕ) (found : List (ℕ × ℕ)) (mark : ℕ × ℕ) (l : Lexeme) (r : Result (List Lexeme) Fault) → marked source mark ≡ l
    → with_front (map (marked source) found) (with_front (l ∷ []) r) ≡ with_front (map (marked source) (found ++ mark ∷ [])) r
found_more source found mark l r is =
    ap (λ x. with_front (map (marked source) found) (with_front (x ∷ []) r)) (sym is)
    ∙ sym (with_both (map (marked source) found) (marked source mark ∷ []) r) ∙ ap (λ front. with_front front r) (sym (map-append (marked source) found (mark ∷ [])))

pub lex_end : (at : ℕ) (source : List ℕ) → length source ≤ at → lex 0 at (drop at source) ≡ Ok []
unfolding lex
lex_end at source over = ap (λ l. lex 0 at l) (drop_of_length-le source over)

-- a token of the list is the one at its mark
pub token_there : (source : List ℕ) (marks : List (ℕ × ℕ)) (tokens : List Lexeme) (at : ℕ) (d : ℕ × ℕ) (token : Token) → tokens ≡ map (marked source) marks → at < length tokens → lexeme_of token ≡ marked source (get_or marks at d) → drop at tokens ≡ lexeme_of token ∷ drop (at + 1) tokens
token_there source marks tokens at d token view inside is =
    let e : Lexeme = lexeme_of token in
    let within : at < length marks = omega (arith, inside, ap length view, length-map marks (marked source)) in
    drop_more tokens at e inside ∙ ap (λ l. l ∷ drop (at + 1) tokens) (ap (λ l. get_or l at e) view ∙ get_or-map (marked source) marks at d e within ∙ sym is)

first_is : (xs ys : List Lexeme) (x y : Lexeme) → x ∷ xs ≡ y ∷ ys → y ≡ x
first_is xs ys x y is = sym (ap (λ l. get_or l 0 x) is)

pub kind_there : (source : List ℕ) (marks : List (ℕ × ℕ)) (tokens : List Lexeme) (at : ℕ) (d : ℕ × ℕ) (l : Lexeme) (rest : List Lexeme) → tokens ≡ map (marked source) marks → at < length tokens → drop at tokens ≡ l ∷ rest → l.kind ≡ (marked source (get_or marks at d)).kind
kind_there source marks tokens at d l rest view inside is =
    let within : at < length marks = omega (arith, inside, ap length view, length-map marks (marked source)) in
    ap (λ x. x.kind) (first_is (drop (at + 1) tokens) rest (get_or tokens at l) l (sym (drop_more tokens at l inside) ∙ is))
    ∙ ap (λ x. x.kind) (ap (λ xs. get_or xs at l) view ∙ get_or-map (marked source) marks at d l within)
