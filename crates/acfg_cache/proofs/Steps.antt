-- One more element of a list that a loop goes over.
use Rattle.std.proofs.Common.{◌≡◌, ℕ, suc, ◌+◌, ◌<◌, List, [], ◌∷◌, ◌++◌, length, drop, drop-cons, get_or, add-one, append_assoc, filter_map, Option, None, Some, option_and_then, refl, sym, ap, subst, ◌∙◌}
use Rattle.std.specs.List.{AllByRecursion, cons_option, flat_map, last_or}
use Rattle.std.specs.Global.{Vec}
use Rattle.std.proofs.lemmas.List.{get_or_default}
use Rattle.std.proofs.lemmas.List.Elements.{filter_map-append}
use Rattle.acfg_cache.specs.declared.leaves.Leaf.{Leaf as ReadLeaf}
use Rattle.acfg_wire.specs.declared.field.Field.{Field as PlacedField}
use Rattle.acfg_cache.specs.Parts.{Part}
use Rattle.acfg_cache.specs.declared.fault.CacheFault.{CacheFault}
use Rattle.acfg_cache.specs.declared.table.Message.{Message}
use Rattle.acfg_cache.specs.Counted.{Counting, Leaf, counting, held, leaf, leaves, metadata, metadata_in, number_at, trace_in, traces}
use Rattle.acfg_cache.specs.declared.table.Message.TheVariants.{ParsedFlag}
use Rattle.acfg_cache.specs.Reading.{FirstFails, Holds, IfFault, Test}
use Rattle.acfg_cache.specs.Bodies.{behind, leaves_read, messages_read, part_read, parts_read}
use Rattle.acfg_cache.proofs.Passed.{PassedIn, front_fails, passed_next}

-- what is left from a place on is the element there, and what is left behind it
pub next : {X : Type 0} (xs : List X) (i : ℕ) (x : X) → i < length xs → x ≡ get_or xs i x → drop i xs ≡ x ∷ drop (i + 1) xs
next xs i x within is = drop-cons xs i x within ∙ ap (λ y. y ∷ drop (suc i) xs) (sym is) ∙ ap (λ n. x ∷ drop n xs) (sym (add-one i))

pub put_next : {X : Type 0} (f : X → List ℕ) (xs : List X) (i : ℕ) (x : X) (before after whole : List ℕ) → i < length xs → x ≡ get_or xs i x → after ≡ before ++ f x
    → before ++ flat_map f (drop i xs) ≡ whole → after ++ flat_map f (drop (i + 1) xs) ≡ whole
put_next f xs i x before after whole within is added so_far =
    let rest : List ℕ = flat_map f (drop (i + 1) xs) in
    ap (λ (bytes : List ℕ). bytes ++ rest) added ∙ append_assoc before (f x) rest ∙ ap (λ (bytes : List ℕ). before ++ bytes) (sym (ap (flat_map f) (next xs i x within is))) ∙ so_far

-- the tests of a field, and of those behind it
pub fields_next : (tests : Part → List Test) (fields : List PlacedField) (i : ℕ) (field : PlacedField) → i < length fields → field ≡ get_or fields i field
    → flat_map tests (parts_read (drop i fields)) ≡ tests (part_read field) ++ flat_map tests (parts_read (drop (i + 1) fields))
fields_next tests fields i field within is = ap (λ rest. flat_map tests (parts_read rest)) (next fields i field within is)

-- one thing or nothing in front
cons_front : {X : Type 0} (o : Option X) (rest : List X) → cons_option o rest ≡ cons_option o [] ++ rest
cons_front None rest = refl
cons_front (Some x) rest = refl

last_joined : {X : Type 0} (o : Option X) (xs ys : List X) → last_or o (xs ++ ys) ≡ last_or (last_or o xs) ys
last_joined o [] ys = refl
last_joined o (x ∷ xs) ys = last_joined (Some x) xs ys

-- the last number of a message and of those behind it
pub joined_next : (o : Option ℕ) (messages : List (Vec ReadLeaf)) (i : ℕ) (message : Vec ReadLeaf) → i < length messages → message ≡ get_or messages i message
    → last_or (last_or o (filter_map (number_at 1) (leaves_read message.items))) (filter_map (number_at 1) (flat_map (λ fields. fields) (messages_read (drop (i + 1) messages))))
    ≡ last_or o (filter_map (number_at 1) (flat_map (λ fields. fields) (messages_read (drop i messages))))
joined_next o messages i message within is =
    let here = leaves_read message.items in
    let rest = flat_map (λ fields. fields) (messages_read (drop (i + 1) messages)) in
    sym (ap (λ ms. last_or o (filter_map (number_at 1) (flat_map (λ fields. fields) (messages_read ms)))) (next messages i message within is)
    ∙ ap (last_or o) (filter_map-append (number_at 1) here rest)
    ∙ last_joined o (filter_map (number_at 1) here) (filter_map (number_at 1) rest))

-- the fault of a field is that of the whole, where those before it passed
pub field_fails : (tests : Part → List Test) (fields : List PlacedField) (i : ℕ) (d : PlacedField) (whole : List Test) (fault : CacheFault) → i < length fields → PassedIn (flat_map tests (parts_read (drop i fields))) whole
    → IfFault fault (FirstFails (tests (part_read (get_or fields i d)))) → IfFault fault (FirstFails whole)
field_fails tests fields i d whole fault within passed fails =
    let field = get_or fields i d in
    let rest = flat_map tests (parts_read (drop (i + 1) fields)) in
    let step = fields_next tests fields i field within (get_or_default fields i d field within) in
    front_fails (tests (part_read field)) rest whole fault (subst (λ (ts : List Test). PassedIn ts whole) step passed) fails

-- and a field that passes is left behind
pub field_passes : (tests : Part → List Test) (fields : List PlacedField) (i : ℕ) (d : PlacedField) (whole : List Test) → i < length fields → PassedIn (flat_map tests (parts_read (drop i fields))) whole
    → AllByRecursion Holds (tests (part_read (get_or fields i d))) → PassedIn (flat_map tests (parts_read (drop (i + 1) fields))) whole
field_passes tests fields i d whole within passed holds =
    let field = get_or fields i d in
    let rest = flat_map tests (parts_read (drop (i + 1) fields)) in
    let step = fields_next tests fields i field within (get_or_default fields i d field within) in
    passed_next (tests (part_read field)) rest whole holds (subst (λ (ts : List Test). PassedIn ts whole) step passed)

-- what counts of a field, and of those behind it
pub leaves_next : (message : Message) (fields : List PlacedField) (i : ℕ) (d : PlacedField) (before after : List Leaf) → i < length fields
    → after ≡ before ++ cons_option (leaf message (part_read (get_or fields i d))) [] → before ++ leaves message (parts_read (drop i fields)) ≡ leaves message (parts_read fields)
    → after ++ leaves message (parts_read (drop (i + 1) fields)) ≡ leaves message (parts_read fields)
leaves_next message fields i d before after within more so_far =
    let field = get_or fields i d in
    let rest = leaves message (parts_read (drop (i + 1) fields)) in
    let step = ap (λ fs. leaves message (parts_read fs)) (next fields i field within (get_or_default fields i d field within)) in
    ap (λ ls. ls ++ rest) more ∙ append_assoc before (cons_option (leaf message (part_read field)) []) rest ∙ ap (λ ls. before ++ ls) (sym (cons_front (leaf message (part_read field)) rest) ∙ sym step) ∙ so_far

-- fields that count are equal where their parts are
same_counting : (a b : Counting) → a.said ≡ b.said → a.traces ≡ b.traces → a.metadata ≡ b.metadata → a ≡ b
same_counting a b said traces metadata =
    let make : List Leaf → List (List Leaf) → List (List Leaf) → Counting = λ s t m. record { said = s; traces = t; metadata = m } in
    ap (λ (s : List Leaf). make s a.traces a.metadata) said ∙ ap (λ (t : List (List Leaf)). make b.said t a.metadata) traces ∙ ap (λ (m : List (List Leaf)). make b.said b.traces m) metadata

behind_joined : (a b c : Counting) → behind (behind a b) c ≡ behind a (behind b c)
behind_joined a b c = same_counting _ _ (append_assoc a.said b.said c.said) (append_assoc a.traces b.traces c.traces) (append_assoc a.metadata b.metadata c.metadata)

counting_front : (part : Part) (rest : List Part) → counting (part ∷ rest) ≡ behind (counting (part ∷ [])) (counting rest)
counting_front part rest = same_counting _ _ (cons_front (leaf ParsedFlag part) (leaves ParsedFlag rest)) (cons_front (option_and_then (trace_in part.begins) (held ParsedFlag part)) (traces rest)) (cons_front (option_and_then (metadata_in part.begins) (held ParsedFlag part)) (metadata rest))

pub counting_next : (fields : List PlacedField) (i : ℕ) (d : PlacedField) (before after : Counting) → i < length fields
    → after ≡ behind before (counting (part_read (get_or fields i d) ∷ [])) → behind before (counting (parts_read (drop i fields))) ≡ counting (parts_read fields)
    → behind after (counting (parts_read (drop (i + 1) fields))) ≡ counting (parts_read fields)
counting_next fields i d before after within more so_far =
    let field = get_or fields i d in
    let rest = counting (parts_read (drop (i + 1) fields)) in
    let step = ap (λ fs. counting (parts_read fs)) (next fields i field within (get_or_default fields i d field within)) in
    ap (λ (counts : Counting). behind counts rest) more ∙ behind_joined before (counting (part_read field ∷ [])) rest ∙ ap (behind before) (sym (counting_front (part_read field) (parts_read (drop (i + 1) fields))) ∙ sym step) ∙ so_far
