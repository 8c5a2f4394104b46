-- Texts as wholes: one tree or one first fault.
use Rattle.std.proofs.Common.{◌≡◌, ℕ, ◌⊎◌, inl, inr, true, List, length, map, Result, Ok, Err, refl, sym, ap, ◌∙◌, subst}
use Rattle.acfg_text.specs.declared.tree.Tree.{Tree}
use Rattle.acfg_text.specs.declared.tree.Item.{Item}
use Rattle.acfg_text.specs.declared.fault.TextWhat.{TextWhat}
use Rattle.acfg_text.specs.Trees.{tree}
use Rattle.acfg_text.specs.Terminals.{Lexeme, terminal_of}
use Rattle.acfg_text.specs.Grammar.{Derives}
use Rattle.acfg_text.specs.TextFaults.{IsFirst}
use Rattle.acfg_text.specs.Lexes.{Lexes, LexFault}
use Rattle.acfg_text.specs.Spells.{Spells, FirstFault}
use Rattle.acfg_text.specs.Machine.{Fault, fault, run, begin}
use Rattle.acfg_text.specs.Reading.{ReadsAll, FailsAll}
use Rattle.acfg_text.specs.Scanning.{lex}
use Rattle.acfg_text.proofs.Lexing.{lex_lexes, lex_faults, lexes_lex, faults_lex, one_lexes}
use Rattle.acfg_text.proofs.Slices.{lexes_rising}
use Rattle.acfg_text.proofs.Leading.{one_derived}
use Rattle.acfg_text.proofs.Resting.{run_derives}
use Rattle.acfg_text.proofs.Stopping.{apart, first_fault, one_first}

-- what the tokens and their reading say of the text
pub spells : (text : List ℕ) (found : List Lexeme) (items : List Item) (read : Tree) → Lexes text found → ReadsAll found (length text) items → read ≡ tree items (length text) → Spells text read
spells text found items read lexes reads is =
    record {
      found = found;
      items = items;
      lexes = lexes;
      derives = run_derives (length text) (map terminal_of found) items reads;
      is = is;
    }

pub refuses : (text : List ℕ) (found : List Lexeme) (p : ℕ) (w : TextWhat) → Lexes text found → FailsAll found (length text) p w → FirstFault text p w
refuses text found p w lexes fails =
    inr (record {
      found = found;
      lexes = lexes;
      first = first_fault (length text) (map terminal_of found) (fault p w) (lexes_rising text found lexes)
          fails;
    })

-- at most one
pub one_read : (text : List ℕ) (read other : Tree) → Spells text read → Spells text other → read ≡ other
one_read text read other a b =
    let same : a.found ≡ b.found = one_lexes text a.found b.found a.lexes b.lexes in
    let items : a.items ≡ b.items = one_derived (map terminal_of a.found) a.items b.items a.derives (subst (λ f. Derives (map terminal_of f) b.items) (sym same) b.derives) in
    a.is ∙ ap (λ i. tree i (length text)) items ∙ sym b.is

pub lex_apart : (text : List ℕ) (found : List Lexeme) (p : ℕ) (w : TextWhat) → Lexes text found → LexFault text p w → ⊥
lex_apart text found p w lexes fails = let a : lex 0 0 text ≡ Ok found = lexes_lex text found lexes in let b : lex 0 0 text ≡ Err (fault p w) = faults_lex text p w fails in cc

pub refused_apart : (text : List ℕ) (read : Tree) (p : ℕ) (w : TextWhat) → Spells text read → FirstFault text p w → ⊥
refused_apart text read p w a (inl fails) = lex_apart text a.found p w a.lexes fails
refused_apart text read p w a (inr g) =
    let same : g.found ≡ a.found = one_lexes text g.found a.found g.lexes a.lexes in
    apart (length text) (map terminal_of a.found) a.items p w (lexes_rising text a.found a.lexes) a.derives (subst (λ f. IsFirst (map terminal_of f) (length text) p w) same g.first).is

pub one_refused : (text : List ℕ) (p q : ℕ) (w u : TextWhat) → FirstFault text p w → FirstFault text q u → (p ≡ q) × (w ≡ u)
one_refused text p q w u (inl a) (inl b) =
    let x : lex 0 0 text ≡ Err (fault p w) = faults_lex text p w a in let y : lex 0 0 text ≡ Err (fault q u) = faults_lex text q u b in
    let same : fault p w ≡ fault q u = cc in (ap (λ f. f.place) same, ap (λ f. f.what) same)
one_refused text p q w u (inl a) (inr b) = absurd (lex_apart text b.found p w b.lexes a)
one_refused text p q w u (inr a) (inl b) = absurd (lex_apart text a.found q u a.lexes b)
one_refused text p q w u (inr a) (inr b) =
    let same : b.found ≡ a.found = one_lexes text b.found a.found b.lexes a.lexes in
    one_first (length text) (map terminal_of a.found) p q w u (lexes_rising text a.found a.lexes) a.first (subst (λ f. IsFirst (map terminal_of f) (length text) q u) same b.first)

-- there is one
abbrev Outcome : List ℕ → Type 0
Outcome text = ((read : Tree) × Spells text read) ⊎ ((p : ℕ) × (w : TextWhat) × FirstFault text p w)

outcome_of : (text : List ℕ) (found : List Lexeme) → Lexes text found → (r : Result (List Item) Fault) → run true (length text) (map terminal_of found) begin ≡ r → Outcome text
outcome_of text found lexes (Ok items) e = inl (tree items (length text), record { found = found; items = items; lexes = lexes; derives = run_derives (length text) (map terminal_of found) items e; is = refl })
outcome_of text found lexes (Err f) e = inr (f.place, f.what, inr (record { found = found; lexes = lexes; first = first_fault (length text) (map terminal_of found) f (lexes_rising text found lexes) e }))

pub some_outcome : (text : List ℕ) → Outcome text
some_outcome text = go (lex 0 0 text) refl
  where
    go : (r : Result (List Lexeme) Fault) → lex 0 0 text ≡ r → Outcome text
    go (Ok found) e = let lexes : Lexes text found = lex_lexes text found e in outcome_of text found lexes (run true (length text) (map terminal_of found) begin) refl
    go (Err f) e = inr (f.place, f.what, inl (lex_faults text f e))
