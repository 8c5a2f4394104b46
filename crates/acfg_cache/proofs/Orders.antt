-- Flags one after another: their tests, and the order that they keep.
use Rattle.std.proofs.Common.{◌≡◌, ℕ, ◌+◌, ◌-◌, ◌<◌, List, [], ◌∷◌, ◌++◌, length, map, drop, get_or, slice_get, filter_map, append_assoc, Option, None, Some, Ordering, Less, Equal, Greater, refl, sym, ap, subst, ◌∙◌, arith, inl, inr}
use Rattle.std.specs.Prelude.{All}
use Rattle.std.specs.List.{AllByRecursion, cons_option, last_or}
use Rattle.std.specs.Ordering.{nat_cmp, ordering_reverse}
use Rattle.std.specs.Cmp.Lexicographic.{slice_cmp}
use Rattle.std.proofs.lemmas.Cmp.{nat_list_cmp_total}
use Rattle.std.proofs.lemmas.Bool.{cases_lt}
use Rattle.std.proofs.lemmas.List.{append-nil, get_or_append_left, get_or_default, get_or_push, length-append}
use Rattle.std.proofs.lemmas.Option.{slice_get-get_or}
use Rattle.acfg_base.proofs.Rows.{AreInOrder-from_steps}
use Rattle.acfg_decls.specs.declared.flags.Flag.{Flag}
use Rattle.acfg_decls.specs.Flags.{AreFlags, IsLawful, full_name}
use Rattle.acfg_cache.specs.declared.fault.CacheFault.{CacheFault}
use Rattle.acfg_wire.specs.declared.field.Field.{Field as PlacedField}
use Rattle.acfg_cache.specs.Reading.{FirstFails, Holds, IfFault, Test, flag_at, flag_in, flag_tests, flags_tests, order_tests}
use Rattle.acfg_cache.specs.Bodies.{Rise, part_read, parts_read}
use Rattle.acfg_cache.proofs.Passed.{PassedIn, front_fails, if_weaker, in_behind, in_front, passed_next}
use Rattle.acfg_cache.proofs.Steps.{next}

-- ---- the last one

last_got : {X : Type 0} (x : X) (xs : List X) → last_or (Some x) xs ≡ slice_get (x ∷ xs) (length xs)
last_got x [] = refl
last_got x (y ∷ ys) = last_got y ys

pub last_is : {X : Type 0} (xs : List X) → last_or None xs ≡ slice_get xs (length xs - 1)
last_is [] = refl
last_is (x ∷ xs) = let n : length xs ≡ length (x ∷ xs) - 1 = omega arith in last_got x xs ∙ ap (slice_get (x ∷ xs)) n

-- ---- the order

turned : (q p : List ℕ) → (slice_cmp nat_cmp q p ≡ Less → ⊥) → (slice_cmp nat_cmp q p ≡ Equal → ⊥) → slice_cmp nat_cmp p q ≡ Less
turned q p less equal = by (slice_cmp nat_cmp q p) refl (nat_list_cmp_total.antisymm p q)
  where
    by : (r : Ordering) → slice_cmp nat_cmp q p ≡ r → slice_cmp nat_cmp p q ≡ ordering_reverse (slice_cmp nat_cmp q p) → slice_cmp nat_cmp p q ≡ Less
    by Less is back = absurd (less is)
    by Equal is back = absurd (equal is)
    by Greater is back = back ∙ ap ordering_reverse is

pub rise_more : (flags : List Flag) (flag : Flag) (i : ℕ) → Rise flags → AllByRecursion Holds (order_tests i (last_or None flags) flag) → Rise (flags ++ flag ∷ [])
rise_more flags flag i rise holds = λ k d within.
    let long = length-append flags (flag ∷ []) in
    elim (cases_lt (k + 1) (length flags)) [
      | inl inside ↦
          let here : get_or (flags ++ flag ∷ []) k d ≡ get_or flags k d = get_or_append_left flags (flag ∷ []) d k (omega arith) in
          let there : get_or (flags ++ flag ∷ []) (k + 1) d ≡ get_or flags (k + 1) d = get_or_append_left flags (flag ∷ []) d (k + 1) inside in
          rw (here, there) (rise k d inside)
      | inr past ↦
          let last : k + 1 ≡ length flags = omega (arith, long, within, past) in
          let place : length flags - 1 ≡ k = omega (arith, last) in
          let room : k < length flags = omega (arith, last) in
          let here : get_or (flags ++ flag ∷ []) k d ≡ get_or flags k d = get_or_append_left flags (flag ∷ []) d k room in
          let there : get_or (flags ++ flag ∷ []) (k + 1) d ≡ flag = get_or_push flags flag d (k + 1) (sym last) in
          let other : last_or None flags ≡ Some (get_or flags k d) = last_is flags ∙ ap (slice_get flags) place ∙ slice_get-get_or flags k d room in
          let tests = subst (λ before. AllByRecursion Holds (order_tests i before flag)) other holds in
          rw (here, there) (turned (full_name flag) (full_name (get_or flags k d)) tests.0 tests.1.0)
    ]

pub are_flags : (flags : List Flag) → Rise flags → All IsLawful flags → AreFlags flags
are_flags flags rise lawful = record { sorted = AreInOrder-from_steps nat_list_cmp_total full_name flags rise; each = lawful }

-- ---- the tests

-- a flag, or none, in front of others
tests_front : (before : List Flag) (o : Option (ℕ × List ℕ)) (rest : List (ℕ × List ℕ))
    → flags_tests before (cons_option o rest) ≡ flags_tests before (cons_option o []) ++ flags_tests (before ++ map flag_in (cons_option o [])) rest
tests_front before None rest = ap (λ flags. flags_tests flags rest) (sym (append-nil before))
tests_front before (Some message) rest =
    ap (λ tests. tests ++ flags_tests (before ++ flag_in message ∷ []) rest) (sym (append-nil (flag_tests (length before) message ++ order_tests (length before) (last_or None before) (flag_in message))))

field_front : (before : List Flag) (fields : List PlacedField) (i : ℕ) (d : PlacedField) → i < length fields
    → flags_tests before (filter_map flag_at (parts_read (drop i fields)))
    ≡ flags_tests before (cons_option (flag_at (part_read (get_or fields i d))) [])
    ++ flags_tests (before ++ map flag_in (cons_option (flag_at (part_read (get_or fields i d))) [])) (filter_map flag_at (parts_read (drop (i + 1) fields)))
field_front before fields i d within =
    let field = get_or fields i d in
    ap (λ fs. flags_tests before (filter_map flag_at (parts_read fs))) (next fields i field within (get_or_default fields i d field within))
    ∙ tests_front before (flag_at (part_read field)) (filter_map flag_at (parts_read (drop (i + 1) fields)))

-- the fault of a field is that of the whole, where those before it passed
pub flag_fails : (before : List Flag) (fields : List PlacedField) (i : ℕ) (d : PlacedField) (whole : List Test) (fault : CacheFault) → i < length fields
    → PassedIn (flags_tests before (filter_map flag_at (parts_read (drop i fields)))) whole
    → IfFault fault (FirstFails (flags_tests before (cons_option (flag_at (part_read (get_or fields i d))) []))) → IfFault fault (FirstFails whole)
flag_fails before fields i d whole fault within passed fails =
    front_fails _ _ whole fault (subst (λ (ts : List Test). PassedIn ts whole) (field_front before fields i d within) passed) fails

pub flag_passes : (before after : List Flag) (fields : List PlacedField) (i : ℕ) (d : PlacedField) (whole : List Test) → i < length fields
    → PassedIn (flags_tests before (filter_map flag_at (parts_read (drop i fields)))) whole
    → after ≡ before ++ map flag_in (cons_option (flag_at (part_read (get_or fields i d))) [])
    → AllByRecursion Holds (flags_tests before (cons_option (flag_at (part_read (get_or fields i d))) []))
    → PassedIn (flags_tests after (filter_map flag_at (parts_read (drop (i + 1) fields)))) whole
flag_passes before after fields i d whole within passed more holds =
    rw more (passed_next _ _ whole holds (subst (λ (ts : List Test). PassedIn ts whole) (field_front before fields i d within) passed))

-- the flags of the first few fields, and of one more
map_front : (o : Option (ℕ × List ℕ)) (rest : List (ℕ × List ℕ)) → map flag_in (cons_option o rest) ≡ map flag_in (cons_option o []) ++ map flag_in rest
map_front None rest = refl
map_front (Some message) rest = refl

pub flags_next : (before after : List Flag) (fields : List PlacedField) (i : ℕ) (d : PlacedField) (all : List Flag) → i < length fields
    → after ≡ before ++ map flag_in (cons_option (flag_at (part_read (get_or fields i d))) [])
    → before ++ map flag_in (filter_map flag_at (parts_read (drop i fields))) ≡ all
    → after ++ map flag_in (filter_map flag_at (parts_read (drop (i + 1) fields))) ≡ all
flags_next before after fields i d all within more so_far =
    let field = get_or fields i d in
    let rest = filter_map flag_at (parts_read (drop (i + 1) fields)) in
    let step = ap (λ fs. map flag_in (filter_map flag_at (parts_read fs))) (next fields i field within (get_or_default fields i d field within)) ∙ map_front (flag_at (part_read field)) rest in
    ap (λ flags. flags ++ map flag_in rest) more ∙ append_assoc before (map flag_in (cons_option (flag_at (part_read field)) [])) (map flag_in rest) ∙ ap (λ flags. before ++ flags) (sym step) ∙ so_far

-- one flag behind others: the tests of it alone, and those of its place
pub one_flag_fails : (before : List Flag) (i : ℕ) (message : ℕ × List ℕ) (fault : CacheFault) → i ≡ length before → IfFault fault (FirstFails (flag_tests i message)) → IfFault fault (FirstFails (flags_tests before (message ∷ [])))
one_flag_fails before i message fault is fails =
    if_weaker fault (FirstFails (flag_tests (length before) message)) (FirstFails (flags_tests before (message ∷ [])))
    (λ told first. in_front (flag_tests (length before) message ++ order_tests (length before) (last_or None before) (flag_in message)) [] told
    (in_front (flag_tests (length before) message) (order_tests (length before) (last_or None before) (flag_in message)) told first))
    (subst (λ n. IfFault fault (FirstFails (flag_tests n message))) is fails)

pub one_place_fails : (before : List Flag) (i : ℕ) (message : ℕ × List ℕ) (flag : Flag) (fault : CacheFault) → i ≡ length before → flag ≡ flag_in message → AllByRecursion Holds (flag_tests i message)
    → IfFault fault (FirstFails (order_tests (length before) (last_or None before) flag)) → IfFault fault (FirstFails (flags_tests before (message ∷ [])))
one_place_fails before i message flag fault is made passed fails =
    if_weaker fault (FirstFails (order_tests (length before) (last_or None before) (flag_in message))) (FirstFails (flags_tests before (message ∷ [])))
    (λ told first. in_front (flag_tests (length before) message ++ order_tests (length before) (last_or None before) (flag_in message)) [] told
    (in_behind (flag_tests (length before) message) (order_tests (length before) (last_or None before) (flag_in message)) told (subst (λ n. AllByRecursion Holds (flag_tests n message)) is passed) first))
    (subst (λ f. IfFault fault (FirstFails (order_tests (length before) (last_or None before) f))) made fails)
