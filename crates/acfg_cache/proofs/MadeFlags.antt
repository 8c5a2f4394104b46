-- A flag whose tests hold is one that a list of compiled flags may hold.
use Rattle.std.proofs.Common.{◌≡◌, ℕ, ◌<◌, Bool, true, false, not, ◌&&◌, T, List, [], ◌∷◌, length, map, arith}
use Rattle.std.specs.Prelude.{IsTrue}
use Rattle.std.specs.List.{AllByRecursion, list_all}
use Rattle.acfg_base.proofs.Rows.{T_of, first_true, second_true}
use Rattle.acfg_decls.specs.Flags.{IsLawful}
use Rattle.acfg_cache.specs.Counted.{Counting, Leaf}
use Rattle.acfg_cache.specs.Reading.{Holds, flag_of, has_fields, is_empty, is_point, is_whole, made_tests, point}

both : (a b : Bool) → IsTrue a → IsTrue b → IsTrue (a && b)
both true b first second = second
both false b first second = first

some_length : (traces : List (List Leaf)) → T (not (is_empty traces)) → 0 < length (map point traces)
some_length [] some = absurd some
some_length (trace ∷ traces) some = omega arith

pub lawful_made : (i : ℕ) (counts : Counting) → AllByRecursion Holds (made_tests i counts) → IsLawful (flag_of counts)
lawful_made i counts holds = record {
  straight = λ fixed writable. holds.1.1.1.1.1.0 (both _ _ fixed writable);
  traced =
      let whole : is_whole counts ≡ true = holds.0 in
      let rest : T (not (is_empty counts.traces) && list_all is_point counts.traces) = second_true (has_fields counts.said) (not (is_empty counts.traces) && list_all is_point counts.traces) (T_of (is_whole counts) whole) in
      some_length counts.traces (first_true (not (is_empty counts.traces)) (list_all is_point counts.traces) rest);
}
