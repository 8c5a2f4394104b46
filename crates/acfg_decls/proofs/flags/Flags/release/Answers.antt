use Rattle.std.proofs.Common.{◌≡◌, map, is_some, subst, ap, ◌∙◌, arith}
use Rattle.std.specs.FinMap.{len}
use Rattle.std.proofs.lemmas.Option.{MatchOption-at_some}
use Rattle.acfg_base.specs.Release.{HasTwins, release_of}
use Rattle.acfg_decls.specs.Releases.{entry_of}
use Rattle.acfg_decls.proofs.Distinct.{no_key_twice}
use Rattle.acfg_decls.proofs.Few.{released_few}
use Rattle.acfg_decls.proofs.flags.Flags.release.Goals as goal

pub unreachable-requires : goal.unreachable-requires
unreachable-requires c =
    no_key_twice c.self.inside.list.items c.self.invariant.sorted
    (subst HasTwins (c.in_ok-entries.ensures ∙ ap (map entry_of) c.deref.ensures.value) (c.in_ok-made.ensures.twins.0 (ap is_some c.in-None.is)))

pub returns-clause-few : goal.returns-clause-few
returns-clause-few c =
    let made : c.in-Some.made ≡ release_of c.in_ok-entries.entries.items = MatchOption-at_some _ _ c.in-Some.made c.in-Some.is c.in_ok-made.ensures.flags in
    let entries = c.in_ok-entries.ensures ∙ ap (map entry_of) (c.deref.ensures.value ∙ c.self.view_is) in
    omega (arith, ap len (made ∙ ap release_of entries), released_few c.args.self.now)
