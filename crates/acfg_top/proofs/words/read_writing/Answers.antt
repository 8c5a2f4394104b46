use Rattle.std.proofs.Common.{rules, ◌≡◌, ◌∷◌, codes, map, string_bytes, subst, sym}
use Rattle.std.specs.Prelude.{MatchOption}
use Rattle.acfg_top.specs.Bodies.{command_of}
use Rattle.acfg_top.specs.Words.{Asks}
use Rattle.acfg_top.proofs.words.read_writing.Goals as goal

pub returns-then-eq : goal.returns-then-eq
returns-then-eq c =
    let same : c.args.name.now ≡ codes "create-cache" = search (rules, c.if-eq.ensures) in
    subst (λ name. MatchOption c.read_create_cache.result ((asked : _) → Asks (name ∷ c.args.first.now ∷ c.args.second.now ∷ map string_bytes c.args.rest.now) asked → ⊥) (λ asked. Asks (name ∷ c.args.first.now ∷ c.args.second.now ∷ map string_bytes c.args.rest.now) (command_of asked))) (sym same) c.read_create_cache.ensures

pub returns-then-eq-2 : goal.returns-then-eq-2
returns-then-eq-2 c =
    let same : c.args.name.now ≡ codes "create-storage" = search (rules, c.if-eq-2.ensures) in
    subst (λ name. MatchOption c.read_create_storage.result ((asked : _) → Asks (name ∷ c.args.first.now ∷ c.args.second.now ∷ map string_bytes c.args.rest.now) asked → ⊥) (λ asked. Asks (name ∷ c.args.first.now ∷ c.args.second.now ∷ map string_bytes c.args.rest.now) (command_of asked))) (sym same) c.read_create_storage.ensures
