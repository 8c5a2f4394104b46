-- What counts of a written flag is the flag.
use Rattle.std.proofs.Common.{◌≡◌, ℕ, ◌==◌, ◌^◌, ◌<◌, Bool, true, false, not, cond, List, [], ◌∷◌, ◌++◌, length, map, filter_map, Option, None, Some, unwrap_or, refl, ap, ◌∙◌, arith}
use Rattle.std.specs.List.{AllByRecursion, cons_option, last_or, list_all}
use Rattle.acfg_decls.specs.declared.flags.Flag.{Flag}
use Rattle.acfg_decls.specs.declared.flags.Point.{Point}
use Rattle.acfg_decls.specs.declared.flags.Purpose.{Purpose}
use Rattle.acfg_decls.specs.declared.flags.Purpose.TheVariants.{Unspecified, Feature, Bugfix}
use Rattle.acfg_wire.specs.Varint.{shortest}
use Rattle.acfg_wire.specs.Fields.{WireField, varint_field}
use Rattle.acfg_cache.specs.declared.table.Message.TheVariants.{ParsedFlag, Tracepoint, Metadata}
use Rattle.acfg_cache.specs.Counted.{Counting, Leaf, NumberOf, TextOf, counting, leaves, metadata, number, number_at, text, texts, traces}
use Rattle.acfg_cache.specs.Reading.{flag_of, has_number, is_empty, is_point, is_whole, point, purpose_in, text_or_none, truth}
use Rattle.acfg_cache.specs.Writing.{bool_number, permission_number, point_bytes, purpose_number, state_number}
use Rattle.acfg_cache.proofs.Spelled.{bug_fields, end_fields, flag_fields, metadata_fields, number_field, point_fields, point_spells, purpose_fields, purpose_spells, trace_fields}
use Rattle.acfg_cache.proofs.Bare.{bare, leaves_opened}

-- ---- texts and numbers

abbrev pub point_leaves : Point → List Leaf
point_leaves p = TextOf 1 p.source ∷ NumberOf 2 (state_number p.enabled) ∷ NumberOf 3 (permission_number p.writable) ∷ []

abbrev pub bug_leaves : List (List ℕ) → List Leaf
bug_leaves bugs = map (λ bug. TextOf 5 bug) bugs

abbrev pub end_leaves : Flag → List Leaf
end_leaves flag = NumberOf 9 (bool_number flag.fixed) ∷ NumberOf 10 (bool_number flag.exported) ∷ TextOf 11 flag.container ∷ []

abbrev pub late_leaves : Flag → List Leaf
late_leaves flag = NumberOf 6 (state_number flag.enabled) ∷ NumberOf 7 (permission_number flag.writable) ∷ end_leaves flag

abbrev pub flag_leaves : Flag → List Leaf
flag_leaves flag =
    TextOf 1 flag.package ∷ TextOf 2 flag.name ∷ TextOf 3 flag.namespace ∷ TextOf 4 flag.description ∷ (bug_leaves flag.bugs ++ late_leaves flag)

bugs_said : (bugs : List (List ℕ)) (rest : List WireField) → leaves ParsedFlag (map bare (bug_fields bugs ++ rest)) ≡ bug_leaves bugs ++ leaves ParsedFlag (map bare rest)
bugs_said [] rest = refl
bugs_said (bug ∷ bugs) rest = ap (λ (ls : List Leaf). TextOf 5 bug ∷ ls) (bugs_said bugs rest)

trace_unsaid : (trace : List Point) (rest : List WireField) → leaves ParsedFlag (map bare (trace_fields trace ++ rest)) ≡ leaves ParsedFlag (map bare rest)
trace_unsaid [] rest = refl
trace_unsaid (p ∷ trace) rest = trace_unsaid trace rest

metadata_unsaid : (o : Option Purpose) → leaves ParsedFlag (map bare (metadata_fields o)) ≡ []
metadata_unsaid None = refl
metadata_unsaid (Some p) = refl

said_is : (flag : Flag) → leaves ParsedFlag (map bare (flag_fields flag)) ≡ flag_leaves flag
said_is flag =
    let end : List Leaf → List Leaf = λ ls. NumberOf 9 (bool_number flag.fixed) ∷ NumberOf 10 (bool_number flag.exported) ∷ TextOf 11 flag.container ∷ ls in
    let late : List Leaf → List Leaf = λ ls. NumberOf 6 (state_number flag.enabled) ∷ NumberOf 7 (permission_number flag.writable) ∷ ls in
    let front : List Leaf → List Leaf = λ ls. TextOf 1 flag.package ∷ TextOf 2 flag.name ∷ TextOf 3 flag.namespace ∷ TextOf 4 flag.description ∷ ls in
    ap front (bugs_said flag.bugs (number_field 6 (state_number flag.enabled) ∷ number_field 7 (permission_number flag.writable) ∷ (trace_fields flag.trace ++ end_fields flag)))
    ∙ ap (λ (ls : List Leaf). front (bug_leaves flag.bugs ++ late ls)) (trace_unsaid flag.trace (end_fields flag) ∙ ap end (metadata_unsaid flag.purpose))

-- bugs are no other field's texts, and no numbers
texts_past : (field : ℕ) (bugs : List (List ℕ)) (rest : List Leaf) → (5 == field) ≡ false → texts field (bug_leaves bugs ++ rest) ≡ texts field rest
texts_past field [] rest other = refl
texts_past field (bug ∷ bugs) rest other = ap (λ b. cons_option (cond b (Some bug) None) (texts field (bug_leaves bugs ++ rest))) other ∙ texts_past field bugs rest other

numbers_past : (field : ℕ) (bugs : List (List ℕ)) (rest : List Leaf) → filter_map (number_at field) (bug_leaves bugs ++ rest) ≡ filter_map (number_at field) rest
numbers_past field [] rest = refl
numbers_past field (bug ∷ bugs) rest = numbers_past field bugs rest

texts_all : (bugs : List (List ℕ)) (flag : Flag) → texts 5 (bug_leaves bugs ++ late_leaves flag) ≡ bugs
texts_all [] flag = refl
texts_all (bug ∷ bugs) flag = ap (λ (ls : List (List ℕ)). bug ∷ ls) (texts_all bugs flag)

-- what is said of a flag
record Says (flag : Flag) (said : List Leaf) : Type 0 where
  of_package : text 1 said ≡ Some flag.package
  of_name : text 2 said ≡ Some flag.name
  of_namespace : text 3 said ≡ Some flag.namespace
  of_description : text 4 said ≡ Some flag.description
  of_bugs : texts 5 said ≡ flag.bugs
  of_state : number 6 said ≡ Some (state_number flag.enabled)
  of_permission : number 7 said ≡ Some (permission_number flag.writable)
  of_fixed : number 9 said ≡ Some (bool_number flag.fixed)
  of_exported : number 10 said ≡ Some (bool_number flag.exported)
  of_container : text 11 said ≡ Some flag.container

says : (flag : Flag) → Says flag (flag_leaves flag)
says flag =
    let late = late_leaves flag in
    let bugs = flag.bugs in
    record {
      of_package = ap (last_or (Some flag.package)) (texts_past 1 bugs late refl);
      of_name = ap (last_or (Some flag.name)) (texts_past 2 bugs late refl);
      of_namespace = ap (last_or (Some flag.namespace)) (texts_past 3 bugs late refl);
      of_description = ap (last_or (Some flag.description)) (texts_past 4 bugs late refl);
      of_bugs = texts_all bugs flag;
      of_state = ap (last_or None) (numbers_past 6 bugs late);
      of_permission = ap (last_or None) (numbers_past 7 bugs late);
      of_fixed = ap (last_or None) (numbers_past 9 bugs late);
      of_exported = ap (last_or None) (numbers_past 10 bugs late);
      of_container = ap (last_or None) (texts_past 11 bugs late refl);
    }

-- ---- traces and metadata

bugs_untraced : (bugs : List (List ℕ)) (rest : List WireField) → traces (map bare (bug_fields bugs ++ rest)) ≡ traces (map bare rest)
bugs_untraced [] rest = refl
bugs_untraced (bug ∷ bugs) rest = bugs_untraced bugs rest

bugs_plain : (bugs : List (List ℕ)) (rest : List WireField) → metadata (map bare (bug_fields bugs ++ rest)) ≡ metadata (map bare rest)
bugs_plain [] rest = refl
bugs_plain (bug ∷ bugs) rest = bugs_plain bugs rest

trace_plain : (trace : List Point) (rest : List WireField) → metadata (map bare (trace_fields trace ++ rest)) ≡ metadata (map bare rest)
trace_plain [] rest = refl
trace_plain (p ∷ trace) rest = trace_plain trace rest

-- the bytes of each point aren't too many
abbrev pub ShortTrace : List Point → Type 0
ShortTrace trace = AllByRecursion (λ p. length (point_bytes p) < 2 ^ 64) trace

points_traced : (trace : List Point) (rest : List WireField) → ShortTrace trace → traces (map bare (trace_fields trace ++ rest)) ≡ map point_leaves trace ++ traces (map bare rest)
points_traced [] rest short = refl
points_traced (p ∷ trace) rest short =
    ap (λ (ls : List Leaf). ls ∷ traces (map bare (trace_fields trace ++ rest))) (leaves_opened Tracepoint 0 (point_bytes p) (point_fields p) ((point_spells p).are short.0))
    ∙ ap (λ (all : List (List Leaf)). point_leaves p ∷ all) (points_traced trace rest short.1)

metadata_untraced : (o : Option Purpose) → traces (map bare (metadata_fields o)) ≡ []
metadata_untraced None = refl
metadata_untraced (Some p) = refl

append_none : {X : Type 0} (xs ys : List X) → ys ≡ [] → xs ++ ys ≡ xs
append_none [] ys none = none
append_none (x ∷ xs) ys none = ap (λ l. x ∷ l) (append_none xs ys none)

traces_are : (flag : Flag) → ShortTrace flag.trace → traces (map bare (flag_fields flag)) ≡ map point_leaves flag.trace
traces_are flag short =
    bugs_untraced flag.bugs (number_field 6 (state_number flag.enabled) ∷ number_field 7 (permission_number flag.writable) ∷ (trace_fields flag.trace ++ end_fields flag))
    ∙ points_traced flag.trace (end_fields flag) short
    ∙ append_none (map point_leaves flag.trace) (traces (map bare (metadata_fields flag.purpose))) (metadata_untraced flag.purpose)

abbrev purpose_leaves : Option Purpose → List (List Leaf)
purpose_leaves None = []
purpose_leaves (Some p) = (NumberOf 1 (purpose_number p) ∷ []) ∷ []

pub small_purpose : (p : Purpose) → length (varint_field 1 (purpose_number p)) < 2 ^ 64
unfolding shortest
small_purpose Unspecified = omega arith
small_purpose Feature = omega arith
small_purpose Bugfix = omega arith

purpose_said : (o : Option Purpose) → metadata (map bare (metadata_fields o)) ≡ purpose_leaves o
purpose_said None = refl
purpose_said (Some p) =
    ap (λ (ls : List Leaf). ls ∷ []) (leaves_opened Metadata 0 (varint_field 1 (purpose_number p)) (purpose_fields p) ((purpose_spells p).are (small_purpose p)))

metadata_is : (flag : Flag) → metadata (map bare (flag_fields flag)) ≡ purpose_leaves flag.purpose
metadata_is flag =
    bugs_plain flag.bugs (number_field 6 (state_number flag.enabled) ∷ number_field 7 (permission_number flag.writable) ∷ (trace_fields flag.trace ++ end_fields flag))
    ∙ trace_plain flag.trace (end_fields flag) ∙ purpose_said flag.purpose

abbrev pub flag_counting : Flag → Counting
flag_counting flag = record { said = flag_leaves flag; traces = map point_leaves flag.trace; metadata = purpose_leaves flag.purpose }

pub counting_is : (flag : Flag) → ShortTrace flag.trace → counting (map bare (flag_fields flag)) ≡ flag_counting flag
counting_is flag short = λ i. record { said = said_is flag i; traces = traces_are flag short i; metadata = metadata_is flag i }

-- ---- and so the flag

state_back : (b : Bool) → (state_number b == 1) ≡ b
state_back true = refl
state_back false = refl

permission_back : (b : Bool) → (permission_number b == 2) ≡ b
permission_back true = refl
permission_back false = refl

bool_back : (b : Bool) → not (bool_number b == 0) ≡ b
bool_back true = refl
bool_back false = refl

purpose_back : (o : Option Purpose) → purpose_in (purpose_leaves o) ≡ o
purpose_back None = refl
purpose_back (Some Unspecified) = refl
purpose_back (Some Feature) = refl
purpose_back (Some Bugfix) = refl

point_back : (p : Point) → point (point_leaves p) ≡ p
point_back p = λ i. record { source = p.source; enabled = state_back p.enabled i; writable = permission_back p.writable i }

points_back : (trace : List Point) → map point (map point_leaves trace) ≡ trace
points_back [] = refl
points_back (p ∷ trace) = ap (λ (q : Point). q ∷ map point (map point_leaves trace)) (point_back p) ∙ ap (λ (ps : List Point). p ∷ ps) (points_back trace)

pub flag_back : (flag : Flag) → flag_of (flag_counting flag) ≡ flag
flag_back flag =
    let s = says flag in
    let said = flag_leaves flag in
    let e1 : text_or_none 1 said ≡ flag.package = ap (λ (o : Option (List ℕ)). unwrap_or o []) s.of_package in
    let e2 : text_or_none 2 said ≡ flag.name = ap (λ (o : Option (List ℕ)). unwrap_or o []) s.of_name in
    let e3 : text_or_none 3 said ≡ flag.namespace = ap (λ (o : Option (List ℕ)). unwrap_or o []) s.of_namespace in
    let e4 : text_or_none 4 said ≡ flag.description = ap (λ (o : Option (List ℕ)). unwrap_or o []) s.of_description in
    let e6 : has_number 6 1 said ≡ flag.enabled = ap (λ (o : Option ℕ). unwrap_or o 0 == 1) s.of_state ∙ state_back flag.enabled in
    let e7 : has_number 7 2 said ≡ flag.writable = ap (λ (o : Option ℕ). unwrap_or o 0 == 2) s.of_permission ∙ permission_back flag.writable in
    let e9 : truth 9 said ≡ flag.fixed = ap (λ (o : Option ℕ). not (unwrap_or o 0 == 0)) s.of_fixed ∙ bool_back flag.fixed in
    let e10 : truth 10 said ≡ flag.exported = ap (λ (o : Option ℕ). not (unwrap_or o 0 == 0)) s.of_exported ∙ bool_back flag.exported in
    let e11 : text_or_none 11 said ≡ flag.container = ap (λ (o : Option (List ℕ)). unwrap_or o []) s.of_container in
    λ i. record {
      «package» = e1 i;
      name = e2 i;
      namespace = e3 i;
      description = e4 i;
      bugs = s.of_bugs i;
      enabled = e6 i;
      writable = e7 i;
      trace = points_back flag.trace i;
      fixed = e9 i;
      exported = e10 i;
      container = e11 i;
      purpose = purpose_back flag.purpose i;
    }

points_whole : (trace : List Point) → list_all is_point (map point_leaves trace) ≡ true
points_whole [] = refl
points_whole (p ∷ trace) = points_whole trace

some_traced : (trace : List Point) → 0 < length trace → not (is_empty (map point_leaves trace)) ≡ true
some_traced [] some = absurd (omega (arith, some))
some_traced (p ∷ trace) some = refl

pub whole_back : (flag : Flag) → 0 < length flag.trace → is_whole (flag_counting flag) ≡ true
whole_back flag traced =
    let s = says flag in
    rw (s.of_package, s.of_name, s.of_namespace, s.of_description, s.of_container, s.of_state, s.of_permission, some_traced flag.trace traced, points_whole flag.trace) refl
