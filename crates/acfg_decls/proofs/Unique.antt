-- A text is read in one way or refused with one fault, never both.
use Rattle.std.proofs.Common.{◌≡◌, ℕ, List, [], ◌∷◌, None, Some, refl, sym, ap, ◌∙◌, ◌⊎◌, inl, inr}
use Rattle.acfg_text.specs.declared.tree.Tree.{Tree}
use Rattle.acfg_text.specs.declared.fault.TextWhat.{TextWhat}
use Rattle.acfg_text.specs.Spells.{Spells, FirstFault}
use Rattle.acfg_text.proofs.Wholes.{one_read, one_refused, refused_apart, some_outcome}
use Rattle.acfg_decls.specs.declared.declared.DeclarationsFile.{DeclarationsFile}
use Rattle.acfg_decls.specs.declared.declared.ValuesFile.{ValuesFile}
use Rattle.acfg_decls.specs.declared.faults.DeclWhat.{DeclWhat}
use Rattle.acfg_decls.specs.declared.faults.DeclWhat.TheVariants as what
use Rattle.acfg_decls.specs.declared.messages.Message.{Message}
use Rattle.acfg_decls.specs.Reading.{Declares, Passes, Refuses, Sets, declarations_in, values_in}
use Rattle.acfg_decls.specs.Walk.{depth, first, walk}

pub declares_unique : (source text : List ℕ) (file other : DeclarationsFile) → Declares source text file → Declares source text other → file ≡ other
declares_unique source text file other (tree, passes, is) (second, passes_too, is_too) =
    is ∙ ap (declarations_in source) (one_read text tree second passes.spells passes_too.spells) ∙ sym is_too

pub sets_unique : (source text : List ℕ) (file other : ValuesFile) → Sets source text file → Sets source text other → file ≡ other
sets_unique source text file other (tree, passes, is) (second, passes_too, is_too) =
    is ∙ ap (values_in source) (one_read text tree second passes.spells passes_too.spells) ∙ sym is_too

pub refuses_unique : (message : Message) (text : List ℕ) (place other_place : ℕ) (fault other : DeclWhat) → Refuses message text place fault → Refuses message text other_place other → (place ≡ other_place) × (fault ≡ other)
refuses_unique message text place other_place fault other (inl a) (inl b) =
    let same = one_refused text place other_place a.of b.of a.first b.first in
    (same.0, a.is ∙ ap what.Text same.1 ∙ sym b.is)
refuses_unique message text place other_place fault other (inl a) (inr b) = absurd (refused_apart text b.tree place a.of b.spells a.first)
refuses_unique message text place other_place fault other (inr a) (inl b) = absurd (refused_apart text a.tree other_place b.of a.spells b.first)
refuses_unique message text place other_place fault other (inr a) (inr b) =
    let same : Some (place, fault) ≡ Some (other_place, other) = sym a.first ∙ ap (λ tree. first (walk depth message tree)) (one_read text a.tree b.tree a.spells b.spells) ∙ b.first in
    let pairs : (place, fault) ≡ (other_place, other) = cc in
    (ap (λ (p : ℕ × DeclWhat). p.0) pairs, ap (λ (p : ℕ × DeclWhat). p.1) pairs)

pub passes_apart : (message : Message) (text : List ℕ) (tree : Tree) (place : ℕ) (fault : DeclWhat) → Passes message text tree → Refuses message text place fault → ⊥
passes_apart message text tree place fault passes (inl a) = refused_apart text tree place a.of passes.spells a.first
passes_apart message text tree place fault passes (inr a) =
    let none : first (walk depth message tree) ≡ None = ap first passes.whole in
    let some = ap (λ tree. first (walk depth message tree)) (one_read text tree a.tree passes.spells a.spells) ∙ a.first in
    let contrary : None ≡ Some (place, fault) = sym none ∙ some in
    cc

told : (message : Message) (text : List ℕ) → ((tree : Tree) × Spells text tree) ⊎ ((place : ℕ) × (fault : TextWhat) × FirstFault text place fault)
    → ((tree : Tree) × Passes message text tree) ⊎ ((place : ℕ) × (fault : DeclWhat) × Refuses message text place fault)
told message text (inl (tree, spells)) =
    elim (walk depth message tree) as (λ faults. walk depth message tree ≡ faults → ((tree : Tree) × Passes message text tree) ⊎ ((place : ℕ) × (fault : DeclWhat) × Refuses message text place fault)) [
      | [] ↦ λ whole. inl (tree, record { spells = spells; whole = whole })
      | fault ∷ faults ↦ λ is. inr (fault.0, fault.1, inr (record { tree = tree; spells = spells; first = ap first is }))
    ] refl
told message text (inr (place, fault, first)) = inr (place, what.Text fault, inl (record { of = fault; is = refl; first = first }))

-- each text is read or refused
pub read_or_refused : (message : Message) (text : List ℕ) → ((tree : Tree) × Passes message text tree) ⊎ ((place : ℕ) × (fault : DeclWhat) × Refuses message text place fault)
read_or_refused message text = told message text (some_outcome text)
