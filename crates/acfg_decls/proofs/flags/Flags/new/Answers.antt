use Rattle.std.proofs.Common.{inl, subst, All, arith}
use Rattle.std.specs.Ordering.{nat_cmp}
use Rattle.std.specs.Cmp.Lexicographic.{slice_cmp, nat_list_cmp_total}
use Rattle.std.proofs.lemmas.List.Sorted.{All-permutation}
use Rattle.acfg_base.specs.Places.{AreInOrder, SomeStepDown}
use Rattle.acfg_decls.specs.Flags.{full_name, IsLawful}
use Rattle.acfg_decls.proofs.Twins.{twins_found}
use Rattle.acfg_decls.proofs.Blank.{blank}
use Rattle.acfg_decls.proofs.flags.Flags.new.Goals as goal

pub returns-then-not-rise-clause-flags : goal.returns-then-not-rise-clause-flags
returns-then-not-rise-clause-flags c =
    let stop = subst (SomeStepDown (slice_cmp nat_cmp) full_name) c.deref-2.ensures.value c.if-not-rise.ensures in
    inl (_, twins_found nat_list_cmp_total full_name _ _ c.sort.ensures.permutation stop.0 blank stop.1 (stop.2 blank) (c.sort.ensures.sorted stop.0 blank (omega arith) stop.1))

pub invariant_of-result : goal.invariant_of-result
invariant_of-result c = record {
  sorted = subst (AreInOrder (slice_cmp nat_cmp) full_name) c.deref-2.ensures.value c.if-not-rise.ensures;
  each = All-permutation IsLawful _ _ c.sort.ensures.permutation (subst (λ list. All IsLawful list) c.deref.ensures.value c.if-not-are_lawful.ensures);
}
