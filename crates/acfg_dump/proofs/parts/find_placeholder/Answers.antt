use Rattle.std.proofs.Common.{◌≡◌, ◌∷◌, [], List, ℕ, Bool, true, false, All, length, take, lit<, refl, sym, ap, subst, ◌∙◌, arith}
use Rattle.std.specs.Str.{bytes_eq}
use Rattle.std.proofs.lemmas.Bool.{eq-eqb}
use Rattle.std.proofs.lemmas.List.{take_all}
use Rattle.std.proofs.lemmas.List.Elements.{All-more}
use Rattle.acfg_dump.specs.declared.parts.Placeholder.{Placeholder}
use Rattle.acfg_dump.specs.declared.parts.Placeholder.TheVariants as placeholder
use Rattle.acfg_dump.specs.Parts.{placeholder_name}
use Rattle.acfg_dump.proofs.parts.find_placeholder.Goals as goal

abbrev placeholders : List Placeholder
placeholders =
    placeholder.Package ∷ placeholder.Name ∷ placeholder.FullyQualifiedName ∷ placeholder.Namespace ∷ placeholder.Description ∷ placeholder.Bug
    ∷ placeholder.State ∷ placeholder.StateBool ∷ placeholder.Permission ∷ placeholder.IsFixedReadOnly ∷ placeholder.IsExported
    ∷ placeholder.Container ∷ placeholder.Purpose ∷ placeholder.Trace ∷ []

bytes_same : (xs : List ℕ) → bytes_eq xs xs ≡ true
bytes_same [] = refl
bytes_same (x ∷ xs) = rw (eq-eqb x x refl) (bytes_same xs)

-- what all of them keep, each keeps
listed : (P : Placeholder → Type 0) → All P placeholders → (value : Placeholder) → P value
listed P all placeholder.Package = all 0 placeholder.Package (lit< tt)
listed P all placeholder.Name = all 1 placeholder.Package (lit< tt)
listed P all placeholder.FullyQualifiedName = all 2 placeholder.Package (lit< tt)
listed P all placeholder.Namespace = all 3 placeholder.Package (lit< tt)
listed P all placeholder.Description = all 4 placeholder.Package (lit< tt)
listed P all placeholder.Bug = all 5 placeholder.Package (lit< tt)
listed P all placeholder.State = all 6 placeholder.Package (lit< tt)
listed P all placeholder.StateBool = all 7 placeholder.Package (lit< tt)
listed P all placeholder.Permission = all 8 placeholder.Package (lit< tt)
listed P all placeholder.IsFixedReadOnly = all 9 placeholder.Package (lit< tt)
listed P all placeholder.IsExported = all 10 placeholder.Package (lit< tt)
listed P all placeholder.Container = all 11 placeholder.Package (lit< tt)
listed P all placeholder.Purpose = all 12 placeholder.Package (lit< tt)
listed P all placeholder.Trace = all 13 placeholder.Package (lit< tt)

pub loop-placeholder-preserved : goal.loop-placeholder-preserved
loop-placeholder-preserved c =
    All-more (λ placeholder. c.args.name.now ≡ placeholder_name placeholder → ⊥) placeholders c.loop-placeholder.placeholder-index placeholder.Package
    c.loop-placeholder-test.true c.loop-placeholder.invariant (λ same.
    let one : c.as_bytes.result.now ≡ c.args.name.now = c.as_bytes.ensures.value ∙ c.name.ensures ∙ sym same in
    let no : false ≡ true = c.if-eq.ensures ∙ ap (λ t. bytes_eq t c.args.name.now) one ∙ bytes_same c.args.name.now in cc)

pub returns : goal.returns
returns c =
    let none : (value : Placeholder) → c.args.name.now ≡ placeholder_name value → ⊥ = listed (λ value. c.args.name.now ≡ placeholder_name value → ⊥)
    (subst (λ (values : List Placeholder). All (λ value. c.args.name.now ≡ placeholder_name value → ⊥) values)
    (take_all c.loop-placeholder.placeholder-index placeholders c.loop-placeholder-test.false) c.loop-placeholder.invariant) in
    none
