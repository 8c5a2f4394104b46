use Rattle.std.proofs.Common.{◌≡◌, List, [], ◌∷◌, ◌++◌, map, length, option_map, refl, sym, ap, ◌∙◌, subst}
use Rattle.std.specs.Prelude.{All, Contains}
use Rattle.std.proofs.lemmas.Iterator.Consumers.{YieldsList-turn, YieldsList-end}
use Rattle.std.proofs.lemmas.Iterator.Adapters.{YieldsList-from_vec}
use Rattle.std.proofs.lemmas.List.{map-id}
use Rattle.acfg_base.specs.declared.releases.Entry.{Entry}
use Rattle.acfg_base.specs.Release.{entries_of, key_of}
use Rattle.acfg_images.specs.Faults.{parts_in}
use Rattle.acfg_images.specs.Laws.{release_of}
use Rattle.acfg_images.specs.Set.{listed}
use Rattle.acfg_lookup.specs.Lookup.{flag_found}
use Rattle.acfg_store.specs.declared.placed.Placed.{Placed}
use Rattle.acfg_store.specs.Placed.{IsTold, placed_key}
use Rattle.acfg_store.proofs.Placing.{flags_found, is_there, one_more}
use Rattle.acfg_store.proofs.placed.place_all.Goals as goal

pub loop-entry-preserved : goal.loop-entry-preserved
loop-entry-preserved g c =
    let e : Placed = record { «package» = c.in-Some.entry.package; flag = c.in-Some.entry.flag; found = c.in-Some-find_flag.found } in
    let told : IsTold (parts_in c.args.set.now) e = sym c.in-Some-find_flag.is ∙ c.find_flag.ensures.found
    ∙ (λ i. option_map flag_found (listed (parts_in c.args.set.now) (c.as_str.ensures.text i) (c.as_str-in-loop-entry.ensures.text i))) in
    let pushed : c.push.new.self.items ≡ c.loop-entry.rows.items ++ e ∷ [] = c.in_ok-push-in-Some-find_flag.ensures.items in
    subst (λ (items : List Placed). (map placed_key items ≡ map key_of (c.loop-entry.yielded ++ c.in-Some.entry ∷ [])) × All (IsTold (parts_in c.args.set.now)) items) (sym pushed)
    (one_more (parts_in c.args.set.now) c.loop-entry.rows.items c.loop-entry.yielded e c.in-Some.entry refl told c.loop-entry.invariant)

pub unreachable-requires : goal.unreachable-requires
unreachable-requires g c =
    let gives = c.into_iter-entry-iterator.ensures.into_iter_gives in
    let y = YieldsList-from_vec {s = c.into_iter-entry-iterator.result} c.args.entries.items gives.0 (gives.1 ∙ c.args.entries.ok.0) in
    let t = YieldsList-turn y c.loop-entry.yielded c.loop-entry.entry-iterator c.loop-entry.yielded_by c.next.result c.next.new.self c.in-Some.entry c.in-Some.is c.next.ensures.steps in
    let there : Contains c.args.entries.items c.in-Some.entry = (length c.loop-entry.yielded, t.0, sym t.1) in
    is_there (parts_in c.args.set.now) c.in-Some.entry (subst (λ (es : List Entry). Contains es c.in-Some.entry) c.requires.entries there)
    (sym c.in-None-find_flag.is ∙ c.find_flag.ensures.found
    ∙ (λ i. option_map flag_found (listed (parts_in c.args.set.now) (c.as_str.ensures.text i) (c.as_str-in-loop-entry.ensures.text i))))

pub returns : goal.returns
returns g c =
    let gives = c.into_iter-entry-iterator.ensures.into_iter_gives in
    let y = YieldsList-from_vec {s = c.into_iter-entry-iterator.result} c.args.entries.items gives.0 (gives.1 ∙ c.args.entries.ok.0) in
    let t = YieldsList-end y c.loop-entry.yielded c.loop-entry.entry-iterator c.loop-entry.yielded_by c.next.result c.next.new.self c.in-None.is c.next.ensures.steps in
    let all : c.loop-entry.yielded ≡ entries_of (release_of c.args.set.now) = sym (map-id c.loop-entry.yielded) ∙ t.0 ∙ c.requires.entries in
    let same : map placed_key c.loop-entry.rows.items ≡ map key_of (entries_of (release_of c.args.set.now)) = c.loop-entry.invariant.0 ∙ ap (map key_of) all in
    flags_found (parts_in c.args.set.now) c.loop-entry.rows.items same c.loop-entry.invariant.1 c.requires.set.1 c.requires.set.0 c.requires.set.2
