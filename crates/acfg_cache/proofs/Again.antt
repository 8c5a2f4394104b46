-- What is written is read again: the tests of a written cache hold, and its flags are those that were written.
use Rattle.std.proofs.Common.{◌≡◌, ℕ, suc, ◌==◌, ◌+◌, ◌*◌, ◌^◌, ◌<◌, Bool, true, false, cond, ◌&&◌, T, List, [], ◌∷◌, ◌++◌, length, map, filter_map, get_or, Option, None, Some, option_map, Less, Equal, Greater, refl, sym, ap, subst, ◌∙◌, arith, inl, inr}
use Rattle.std.specs.Prelude.{All, IfSome, IsUtf8}
use Rattle.std.specs.List.{AllByRecursion, cons_option, flat_map, last_or}
use Rattle.std.specs.Ordering.{nat_cmp, ordering_reverse}
use Rattle.std.specs.Cmp.Lexicographic.{slice_cmp}
use Rattle.std.specs.FinMap.{is_sorted}
use Rattle.std.specs.FinMap.Entries.{below_all}
use Rattle.std.proofs.lemmas.Bool.{cases_lt}
use Rattle.std.proofs.lemmas.Cmp.{nat_list_cmp_total}
use Rattle.std.proofs.lemmas.List.{get_or_past, length-append}
use Rattle.std.proofs.lemmas.Str.{IsUtf8-from_ascii}
use Rattle.acfg_base.proofs.Rows.{Less_of, T_of, first_true, second_true, true_of}
use Rattle.acfg_base.specs.Names.{AreNames}
use Rattle.acfg_decls.specs.declared.flags.Flag.{Flag}
use Rattle.acfg_decls.specs.declared.flags.Point.{Point}
use Rattle.acfg_decls.specs.declared.flags.Purpose.{Purpose}
use Rattle.acfg_decls.specs.declared.flags.Purpose.TheVariants.{Unspecified, Feature, Bugfix}
use Rattle.acfg_decls.specs.Flags.{AreFlags, IsLawful, full_name}
use Rattle.acfg_wire.specs.Varint.{shortest}
use Rattle.acfg_wire.specs.Fields.{Value, varint, eight, delimited, four, WireField, IsFields, bytes_field, varint_field}
use Rattle.acfg_cache.specs.declared.table.Message.{Message}
use Rattle.acfg_cache.specs.declared.table.Message.TheVariants.{Tracepoint, Metadata}
use Rattle.acfg_cache.specs.declared.table.Form.TheVariants.{State, Permission}
use Rattle.acfg_cache.specs.Table.{may_be}
use Rattle.acfg_cache.specs.Parts.{Part, parts_of}
use Rattle.acfg_cache.specs.Counted.{counting}
use Rattle.acfg_cache.specs.Reading.{Holds, Reads, bytes_at, flag_at, flag_in, flag_tests, flags_tests, made_tests, message_tests, order_tests, own_tests, wire_tests, within_tests}
use Rattle.acfg_cache.specs.Writing.{cache, flag_bytes, last_fields, named_fields, permission_number, point_bytes, purpose_number, state_number}
use Rattle.acfg_cache.specs.Texts.{HasTexts, HaveSources}
use Rattle.acfg_cache.proofs.FlagReading.{flag_made, flag_passes}
use Rattle.acfg_cache.proofs.Passed.{all_joined}
use Rattle.acfg_cache.proofs.Spelled.{bug_fields, cache_fields, cache_spells, end_fields, flag_fields, flag_spells, metadata_fields, number_field, point_fields, point_spells, purpose_fields, purpose_spells, text_field, trace_fields}
use Rattle.acfg_cache.proofs.Bare.{FieldPasses, LeafPasses, bare, counting_bare, fields_pass, leaves_pass, opens, wire_of}
use Rattle.acfg_cache.proofs.Said.{ShortTrace, counting_is, flag_back, flag_counting, small_purpose, whole_back}

-- ---- names are texts

name_text : (text : List ℕ) → AreNames text → IsUtf8 text
name_text text names = IsUtf8-from_ascii text each
  where
    each : (i : ℕ) → get_or text i 0 < 128
    each i = elim (cases_lt i (length text)) [
      | inl within ↦ elim (names.bytes i within) [
        | inl (inl letter) ↦ omega (arith, letter.1)
        | inl (inr (inl digit)) ↦ omega (arith, digit.1)
        | inl (inr (inr low)) ↦ omega (arith, low)
        | inr dot ↦ omega (arith, dot)
      ]
      | inr past ↦ let none = get_or_past text i 0 past in omega (arith, none)
    ]

-- ---- the tests of a flag's fields

state_known : (b : Bool) → may_be State (state_number b) ≡ true
state_known true = refl
state_known false = refl

permission_known : (b : Bool) → may_be Permission (permission_number b) ≡ true
permission_known true = refl
permission_known false = refl

-- an inner message that is opened passes where its fields do
within_passes : (i at : ℕ) (message : Message) (content : List ℕ) (fields : List WireField) → IsFields content fields → AllByRecursion (LeafPasses message) fields → AllByRecursion Holds (within_tests i message at content)
within_passes i at message content fields spelled pass =
    let here = opens at content fields spelled in
    subst (λ read. AllByRecursion Holds (wire_tests read ++ message_tests i message (parts_of read))) (sym here.is) (leaves_pass i message here.parts fields here.are pass)

point_passes : (p : Point) → IsUtf8 p.source → length (point_bytes p) < 2 ^ 64 → FieldPasses (text_field 8 (point_bytes p))
point_passes p source short = λ i at.
    within_passes i at Tracepoint (point_bytes p) (point_fields p) ((point_spells p).are short) (
      (λ j. (source, tt)),
      ((λ j. (state_known p.enabled, tt)), ((λ j. (permission_known p.writable, tt)), tt)),
    )

purpose_known : (p : Purpose) → LeafPasses Metadata (number_field 1 (purpose_number p))
purpose_known Unspecified = λ j. (refl, tt)
purpose_known Feature = λ j. (refl, tt)
purpose_known Bugfix = λ j. (refl, tt)

metadata_passes : (o : Option Purpose) → AllByRecursion FieldPasses (metadata_fields o)
metadata_passes None = tt
metadata_passes (Some p) = (
  (λ i at. within_passes i at Metadata (varint_field 1 (purpose_number p)) (purpose_fields p) ((purpose_spells p).are (small_purpose p)) (purpose_known p, tt)),
  tt,
)

bugs_pass : (bugs : List (List ℕ)) (rest : List WireField) → All IsUtf8 bugs → AllByRecursion FieldPasses rest → AllByRecursion FieldPasses (bug_fields bugs ++ rest)
bugs_pass [] rest texts pass = pass
bugs_pass (bug ∷ bugs) rest texts pass = (
  (λ i at. (texts 0 bug (omega arith), tt)),
  bugs_pass bugs rest (λ k d within. texts (suc k) d (omega (arith, within))) pass,
)

trace_passes : (trace : List Point) (rest : List WireField) → HaveSources trace → ShortTrace trace → AllByRecursion FieldPasses rest → AllByRecursion FieldPasses (trace_fields trace ++ rest)
trace_passes [] rest sources short pass = pass
trace_passes (p ∷ trace) rest sources short pass = (
  point_passes p (sources 0 p (omega arith)) short.0,
  trace_passes trace rest (λ k d within. sources (suc k) d (omega (arith, within))) short.1 pass,
)

end_passes : (flag : Flag) → HasTexts flag → AllByRecursion FieldPasses (end_fields flag)
end_passes flag texts = (
  (λ i at. (refl, tt)),
  ((λ i at. (refl, tt)), ((λ i at. (name_text flag.container texts.of_container.names, tt)), metadata_passes flag.purpose)),
)

flag_fields_pass : (flag : Flag) → HasTexts flag → ShortTrace flag.trace → AllByRecursion FieldPasses (flag_fields flag)
flag_fields_pass flag texts short =
    let end = end_passes flag texts in
    let late : AllByRecursion FieldPasses (number_field 6 (state_number flag.enabled) ∷ number_field 7 (permission_number flag.writable) ∷ (trace_fields flag.trace ++ end_fields flag)) = (
      (λ i at. (state_known flag.enabled, tt)),
      ((λ i at. (permission_known flag.writable, tt)), trace_passes flag.trace (end_fields flag) texts.middle.of_sources short end),
    ) in (
      (λ i at. (name_text flag.package texts.names.of_package.names, tt)),
      (
        (λ i at. (name_text flag.name texts.names.of_name.names, tt)),
        (
          (λ i at. (name_text flag.namespace texts.names.of_namespace.names, tt)),
          ((λ i at. (texts.names.of_description, tt)), bugs_pass flag.bugs _ texts.middle.of_bugs late),
        ),
      ),
    )

-- ---- a flag by itself

-- a flag that is written: it is lawful, has its texts, and its bytes aren't too many
record IsWritten (flag : Flag) : Type 0 where
  lawful : IsLawful flag
  texts : HasTexts flag
  short : length (flag_bytes flag) < 2 ^ 64

-- a field's content is no longer than the field
texts_short : {X : Type 0} (number : ℕ) (f : X → List ℕ) (xs : List X) → length (flat_map (λ x. bytes_field number (f x)) xs) < 2 ^ 64 → AllByRecursion (λ x. length (f x) < 2 ^ 64) xs
texts_short number f [] short = tt
texts_short number f (x ∷ xs) short =
    let here = bytes_field number (f x) in
    let rest : List ℕ = flat_map (λ y. bytes_field number (f y)) xs in
    let both = length-append here rest in
    let key = shortest (number * 8 + 2) in
    let size = shortest (length (f x)) in
    let long = length-append key (size ++ f x) in
    let longer = length-append size (f x) in
    (omega (arith, both, long, longer, short), texts_short number f xs (omega (arith, both, short)))

trace_short : (flag : Flag) → length (flag_bytes flag) < 2 ^ 64 → ShortTrace flag.trace
trace_short flag short =
    let points : List ℕ = flat_map (λ point. bytes_field 8 (point_bytes point)) flag.trace in
    let bugs : List ℕ = flat_map (λ bug. bytes_field 5 bug) flag.bugs in
    let six = varint_field 6 (state_number flag.enabled) in
    let seven = varint_field 7 (permission_number flag.writable) in
    let named = named_fields flag in
    let last = last_fields flag in
    let one = length-append named ((bugs ++ (six ++ (seven ++ points))) ++ last) in
    let two = length-append (bugs ++ (six ++ (seven ++ points))) last in
    let three = length-append bugs (six ++ (seven ++ points)) in
    let four_ = length-append six (seven ++ points) in
    let five = length-append seven points in
    let less : length points < 2 ^ 64 = omega (arith, one, two, three, four_, five, short) in
    texts_short 8 point_bytes flag.trace less

own_pass : (i : ℕ) (flag : Flag) → IsLawful flag → HasTexts flag → AllByRecursion Holds (own_tests i flag)
own_pass i flag lawful texts = (
  texts.names.of_package,
  (texts.names.of_name, (texts.names.of_namespace, (texts.of_container, ((λ both. not_both (T_of (flag.fixed && flag.writable) both)), tt)))),
)
  where
    not_both : T (flag.fixed && flag.writable) → ⊥
    not_both both = lawful.straight (true_of flag.fixed (first_true flag.fixed flag.writable both)) (true_of flag.writable (second_true flag.fixed flag.writable both))

-- the flag of a written message is the one that was written, and its tests hold
record IsAgain (i at : ℕ) (flag : Flag) : Type 0 where
  holds : AllByRecursion Holds (flag_tests i (at, flag_bytes flag))
  is : flag ≡ flag_in (at, flag_bytes flag)

again : (i at : ℕ) (flag : Flag) → IsWritten flag → IsAgain i at flag
again i at flag written =
    let content = flag_bytes flag in
    let trace = trace_short flag written.short in
    let here = opens at content (flag_fields flag) ((flag_spells flag).are written.short) in
    let counted : flag_counting flag ≡ counting here.parts = sym (counting_bare here.parts (flag_fields flag) here.are ∙ counting_is flag trace) in
    let made : AllByRecursion Holds (made_tests i (flag_counting flag)) = (
      whole_back flag written.lawful.traced,
      subst (λ (f : Flag). AllByRecursion Holds (own_tests i f)) (sym (flag_back flag)) (own_pass i flag written.lawful written.texts),
    ) in
    record {
      holds = flag_passes i at content here.parts (flag_counting flag) here.is counted (fields_pass i here.parts (flag_fields flag) here.are (flag_fields_pass flag written.texts trace)) made;
      is = flag_made at content here.parts (flag_counting flag) flag here.is counted (sym (flag_back flag));
    }

-- ---- flags one after another

-- each is behind the one before it
abbrev Chain : Option Flag → List Flag → Type 0
Chain before [] = Unit {0}
Chain before (flag ∷ flags) = IfSome before (λ other. slice_cmp nat_cmp (full_name other) (full_name flag) ≡ Less) × Chain (Some flag) flags

chained : (flag : Flag) (flags : List Flag) → T (below_all (slice_cmp nat_cmp) (full_name flag) (map (λ f. (full_name f, f)) flags)) → T (is_sorted (slice_cmp nat_cmp) (map (λ f. (full_name f, f)) flags)) → Chain (Some flag) flags
chained flag [] below sorted = tt
chained flag (other ∷ flags) below sorted =
    (Less_of (slice_cmp nat_cmp (full_name flag) (full_name other)) (first_true _ _ below), chained other flags (first_true _ _ sorted) (second_true _ _ sorted))

chain : (flags : List Flag) → T (is_sorted (slice_cmp nat_cmp) (map (λ f. (full_name f, f)) flags)) → Chain None flags
chain [] sorted = tt
chain (flag ∷ flags) sorted = (tt, chained flag flags (first_true _ _ sorted) (second_true _ _ sorted))

turned : (other flag : Flag) → slice_cmp nat_cmp (full_name other) (full_name flag) ≡ Less → slice_cmp nat_cmp (full_name flag) (full_name other) ≡ Greater
turned other flag less = nat_list_cmp_total.antisymm (full_name flag) (full_name other) ∙ ap ordering_reverse less

in_order : (i : ℕ) (before : Option Flag) (flag : Flag) → IfSome before (λ other. slice_cmp nat_cmp (full_name other) (full_name flag) ≡ Less) → AllByRecursion Holds (order_tests i before flag)
in_order i None flag less = (tt, (tt, tt))
in_order i (Some other) flag less =
    let up = turned other flag less in (
      (λ under. let e : Less ≡ Greater = sym under ∙ up in cc),
      ((λ same. let e : Equal ≡ Greater = sym same ∙ up in cc), tt),
    )

last_pushed : {X : Type 0} (o : Option X) (xs : List X) (x : X) → last_or o (xs ++ x ∷ []) ≡ Some x
last_pushed o [] x = refl
last_pushed o (y ∷ ys) x = last_pushed (Some y) ys x

record AreAgain (before : List Flag) (found : List (ℕ × List ℕ)) (flags : List Flag) : Type 0 where
  hold : AllByRecursion Holds (flags_tests before found)
  are : flags ≡ map flag_in found

heads_same : {X : Type 0} (x y : X) (xs ys : List X) → x ∷ xs ≡ y ∷ ys → (x ≡ y) × (xs ≡ ys)
heads_same x y xs ys same = (cc, cc)

all_again : (before : List Flag) (found : List (ℕ × List ℕ)) (flags : List Flag) → map (λ (message : ℕ × List ℕ). message.1) found ≡ map flag_bytes flags → AllByRecursion IsWritten flags → Chain (last_or None before) flags
    → AreAgain before found flags
all_again before [] [] same written order = record { hold = tt; are = refl }
all_again before [] (flag ∷ flags) same written order = absurd cc
all_again before (message ∷ found) [] same written order = absurd cc
all_again before (message ∷ found) (flag ∷ flags) same written order =
    let parts = heads_same message.1 (flag_bytes flag) (map (λ (m : ℕ × List ℕ). m.1) found) (map flag_bytes flags) same in
    let here : IsAgain (length before) message.0 flag = again (length before) message.0 flag written.0 in
    let spot : ℕ × List ℕ = (message.0, flag_bytes flag) in
    let whole : spot ≡ message = λ i. (message.0, sym parts.0 i) in
    let holds : AllByRecursion Holds (flag_tests (length before) message) = subst (λ (m : ℕ × List ℕ). AllByRecursion Holds (flag_tests (length before) m)) whole here.holds in
    let is : flag ≡ flag_in message = here.is ∙ ap flag_in whole in
    let next = all_again (before ++ flag ∷ []) found flags parts.1 written.1 (subst (λ (o : Option Flag). Chain o flags) (sym (last_pushed None before flag)) order.1) in
    let placed : AllByRecursion Holds (order_tests (length before) (last_or None before) (flag_in message)) = subst (λ (f : Flag). AllByRecursion Holds (order_tests (length before) (last_or None before) f)) is (in_order (length before) (last_or None before) flag order.0) in
    let behind : AllByRecursion Holds (flags_tests (before ++ flag_in message ∷ []) found) = subst (λ (f : Flag). AllByRecursion Holds (flags_tests (before ++ f ∷ []) found)) is next.hold in
    record {
      hold = all_joined (flag_tests (length before) message ++ order_tests (length before) (last_or None before) (flag_in message)) (flags_tests (before ++ flag_in message ∷ []) found)
          (all_joined (flag_tests (length before) message) (order_tests (length before) (last_or None before) (flag_in message)) holds placed) behind;
      are = ap (λ (f : Flag). f ∷ flags) is ∙ ap (λ (fs : List Flag). flag_in message ∷ fs) next.are;
    }

-- ---- the whole

-- the bytes of a flag's message, wherever it begins
abbrev message_of : WireField → Option (List ℕ)
message_of field = option_map (λ (message : ℕ × List ℕ). message.1) (flag_at (bare field))

content_anywhere : (at : ℕ) (b : Bool) (v : Value) → option_map (λ (message : ℕ × List ℕ). message.1) (cond b (bytes_at at v) None) ≡ option_map (λ (message : ℕ × List ℕ). message.1) (cond b (bytes_at 0 v) None)
content_anywhere at false v = refl
content_anywhere at true (varint n) = refl
content_anywhere at true (eight content) = refl
content_anywhere at true (delimited content) = refl
content_anywhere at true (four content) = refl

mapped_option : (o : Option (ℕ × List ℕ)) (rest : List (ℕ × List ℕ)) → map (λ (message : ℕ × List ℕ). message.1) (cons_option o rest) ≡ cons_option (option_map (λ (message : ℕ × List ℕ). message.1) o) (map (λ (message : ℕ × List ℕ). message.1) rest)
mapped_option None rest = refl
mapped_option (Some message) rest = refl

found_in : (parts : List Part) → map (λ (message : ℕ × List ℕ). message.1) (filter_map flag_at parts) ≡ filter_map message_of (map wire_of parts)
found_in [] = refl
found_in (part ∷ parts) =
    mapped_option (flag_at part) (filter_map flag_at parts)
    ∙ ap (λ (o : Option (List ℕ)). cons_option o (map (λ (message : ℕ × List ℕ). message.1) (filter_map flag_at parts))) (content_anywhere part.begins (part.number == 1) part.value)
    ∙ ap (cons_option (message_of (wire_of part))) (found_in parts)

found_flags : (flags : List Flag) → filter_map message_of (cache_fields flags) ≡ map flag_bytes flags
found_flags [] = refl
found_flags (flag ∷ flags) = ap (λ (rest : List (List ℕ)). flag_bytes flag ∷ rest) (found_flags flags)

all_written : (flags : List Flag) → All IsLawful flags → All HasTexts flags → AllByRecursion (λ flag. length (flag_bytes flag) < 2 ^ 64) flags → AllByRecursion IsWritten flags
all_written [] lawful texts short = tt
all_written (flag ∷ flags) lawful texts short = (
  record { lawful = lawful 0 flag (omega arith); texts = texts 0 flag (omega arith); short = short.0 },
  all_written flags (λ k d within. lawful (suc k) d (omega (arith, within))) (λ k d within. texts (suc k) d (omega (arith, within))) short.1,
)

pub reads_again : (flags : List Flag) → AreFlags flags → All HasTexts flags → length (cache flags) < 2 ^ 64 → Reads (cache flags) flags
reads_again flags are texts short =
    let here = opens 0 (cache flags) (cache_fields flags) ((cache_spells flags).are short) in
    let found : List (ℕ × List ℕ) = filter_map flag_at here.parts in
    let same : map (λ (message : ℕ × List ℕ). message.1) found ≡ map flag_bytes flags = found_in here.parts ∙ ap (filter_map message_of) here.are ∙ found_flags flags in
    let written = all_written flags are.each texts (texts_short 1 flag_bytes flags short) in
    let all : AreAgain [] found flags = all_again [] found flags same written (chain flags (T_of _ are.sorted)) in
    record {
      passed = subst (λ read. AllByRecursion Holds (wire_tests read ++ flags_tests [] (filter_map flag_at (parts_of read)))) (sym here.is) all.hold;
      are = all.are ∙ ap (λ read. map flag_in (filter_map flag_at (parts_of read))) (sym here.is);
    }
