use Rattle.std.proofs.Common.{subst, true≢false, refl}
use Rattle.acfg_base.specs.Places.{AreInOrder, SomeStepDown}
use Rattle.acfg_base.specs.Release.{key_cmp, key_of, AreNamed}
use Rattle.acfg_base.proofs.Keys.{no_twins, twins_found, release_permuted}
use Rattle.acfg_base.proofs.releases.Release.new.Goals as goal

pub returns-then-not-rise-clause-twins : goal.returns-then-not-rise-clause-twins
returns-then-not-rise-clause-twins c =
    let stop = subst (SomeStepDown key_cmp key_of) c.deref.ensures.value c.if-not-rise.ensures in
    (λ _. twins_found _ _ c.sort.ensures.permutation c.sort.ensures.sorted stop, λ _. refl)

pub invariant_of-result : goal.invariant_of-result
invariant_of-result c = record {
  order = subst (AreInOrder key_cmp key_of) c.deref.ensures.value c.if-not-rise.ensures;
  named = subst AreNamed c.deref-2.ensures.value c.are_named.ensures;
}

pub returns-clause-twins : goal.returns-clause-twins
returns-clause-twins c =
    let sorted = subst (AreInOrder key_cmp key_of) c.deref.ensures.value c.if-not-rise.ensures in
    (λ e. absurd (true≢false e), λ twins. absurd (no_twins _ _ c.sort.ensures.permutation sorted twins))

pub returns-clause-flags : goal.returns-clause-flags
returns-clause-flags c =
    let sorted = subst (AreInOrder key_cmp key_of) c.deref.ensures.value c.if-not-rise.ensures in
    release_permuted _ _ c.sort.ensures.permutation sorted
