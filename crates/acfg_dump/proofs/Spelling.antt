-- The parts of a template by the bytes that each begins with.
use Rattle.std.proofs.Common.{◌≡◌, ◌≢◌, ℕ, ◌<◌, Bool, true, false, not, ◌&&◌, if◌then◌else◌, List, [], ◌∷◌, ◌++◌, length, codes, refl, sym, ap, ◌∙◌, All, append_assoc, arith}
use Rattle.std.specs.List.{flat_map, list_all}
use Rattle.std.specs.Str.{bytes_eq}
use Rattle.std.proofs.lemmas.Bool.{eq-eqb}
use Rattle.std.proofs.lemmas.List.Sums.{AllPass-from_list_all}
use lib.Dec.{eqb}
use Rattle.acfg_base.specs.Bytes.{open_brace, close_brace}
use Rattle.acfg_dump.specs.declared.parts.Part.{Part}
use Rattle.acfg_dump.specs.declared.parts.Part.TheVariants.{Byte, Value}
use Rattle.acfg_dump.specs.declared.parts.Placeholder.{Placeholder}
use Rattle.acfg_dump.specs.declared.parts.Placeholder.TheVariants as placeholder
use Rattle.acfg_dump.specs.Bodies.{closed_name, BeginsNone, IsCutAt, IsWithout}
use Rattle.acfg_dump.specs.Parts.{is_brace, placeholder_name, spelled}
use Rattle.acfg_dump.specs.Template.{template_of, IsBadPlace, IsTemplate}
use Rattle.acfg_dump.proofs.Firsts.{cut_unique}

-- the placeholder of a name that is one
named : List ℕ → Placeholder
named text =
    if bytes_eq text (codes "package") then placeholder.Package else (
    if bytes_eq text (codes "name") then placeholder.Name else (
    if bytes_eq text (codes "fully_qualified_name") then placeholder.FullyQualifiedName else (
    if bytes_eq text (codes "namespace") then placeholder.Namespace else (
    if bytes_eq text (codes "description") then placeholder.Description else (
    if bytes_eq text (codes "bug") then placeholder.Bug else (
    if bytes_eq text (codes "state") then placeholder.State else (
    if bytes_eq text (codes "state:bool") then placeholder.StateBool else (
    if bytes_eq text (codes "permission") then placeholder.Permission else (
    if bytes_eq text (codes "is_fixed_read_only") then placeholder.IsFixedReadOnly else (
    if bytes_eq text (codes "is_exported") then placeholder.IsExported else (
    if bytes_eq text (codes "container") then placeholder.Container else (
    if bytes_eq text (codes "purpose") then placeholder.Purpose else placeholder.Trace))))))))))))

named_back : (value : Placeholder) → named (placeholder_name value) ≡ value
unfolding named
named_back placeholder.Package = refl
named_back placeholder.Name = refl
named_back placeholder.FullyQualifiedName = refl
named_back placeholder.Namespace = refl
named_back placeholder.Description = refl
named_back placeholder.Bug = refl
named_back placeholder.State = refl
named_back placeholder.StateBool = refl
named_back placeholder.Permission = refl
named_back placeholder.IsFixedReadOnly = refl
named_back placeholder.IsExported = refl
named_back placeholder.Container = refl
named_back placeholder.Purpose = refl
named_back placeholder.Trace = refl

-- placeholders have names of their own
pub one_name : (value other : Placeholder) → placeholder_name value ≡ placeholder_name other → value ≡ other
one_name value other same = sym (named_back value) ∙ ap named same ∙ named_back other

-- whether a name is one without braces
is_plain : List ℕ → Bool
is_plain [] = false
is_plain (first ∷ rest) = not (eqb first open_brace) && list_all (λ byte. not (eqb byte close_brace)) (first ∷ rest)

plain : (value : Placeholder) → is_plain (placeholder_name value) ≡ true
unfolding is_plain
plain placeholder.Package = refl
plain placeholder.Name = refl
plain placeholder.FullyQualifiedName = refl
plain placeholder.Namespace = refl
plain placeholder.Description = refl
plain placeholder.Bug = refl
plain placeholder.State = refl
plain placeholder.StateBool = refl
plain placeholder.Permission = refl
plain placeholder.IsFixedReadOnly = refl
plain placeholder.IsExported = refl
plain placeholder.Container = refl
plain placeholder.Purpose = refl
plain placeholder.Trace = refl

and_left : (a b : Bool) → a && b ≡ true → a ≡ true
and_left true b h = refl
and_left false b h = h

and_right : (a b : Bool) → a && b ≡ true → b ≡ true
and_right true b h = h
and_right false b h = cc

not_equal : (a b : ℕ) → not (eqb a b) ≡ true → a ≢ b
not_equal a b test same = let yes : eqb a b ≡ true = eq-eqb a b same in let no : not true ≡ true = ap not (sym yes) ∙ test in cc

opens_otherwise : (name behind rest : List ℕ) → is_plain name ≡ true → open_brace ∷ rest ≡ name ++ behind → ⊥
unfolding is_plain
opens_otherwise [] behind rest is same = cc
opens_otherwise (first ∷ name) behind rest is same = let one : first ≡ open_brace = cc in not_equal first open_brace (and_left _ _ is) one

without_close : (name : List ℕ) → is_plain name ≡ true → IsWithout close_brace name
unfolding is_plain
without_close [] is = cc
without_close (first ∷ name) is = λ k d within. not_equal _ _ (AllPass-from_list_all (λ byte. not (eqb byte close_brace)) (first ∷ name) (and_right _ _ is) k d within)

-- what a placeholder's name and brace are followed by
closed : (value : Placeholder) (rest : List ℕ) → closed_name value ++ rest ≡ placeholder_name value ++ close_brace ∷ rest
closed value rest = append_assoc (placeholder_name value) (close_brace ∷ []) rest

pub closed_front : (value other : Placeholder) (x y : List ℕ) → closed_name value ++ x ≡ closed_name other ++ y → (value ≡ other) × (x ≡ y)
closed_front value other x y same =
    let cut = cut_unique close_brace (placeholder_name value) (placeholder_name other) x y (without_close _ (plain value)) (without_close _ (plain other)) (sym (closed value x) ∙ same ∙ closed other y) in
    (one_name value other cut.0, cut.1)

-- no placeholder begins with a brace that is given twice
pub apart : (value : Placeholder) (x y : List ℕ) → open_brace ∷ x ≡ closed_name value ++ y → ⊥
apart value x y same = opens_otherwise (placeholder_name value) (close_brace ∷ y) x (plain value) (same ∙ closed value y)

byte_front : (n m : ℕ) (p q : Bool) (x y : List ℕ) → is_brace n ≡ p → is_brace m ≡ q
    → (if p then n ∷ n ∷ [] else n ∷ []) ++ x ≡ (if q then m ∷ m ∷ [] else m ∷ []) ++ y → (n ≡ m) × (x ≡ y)
byte_front n m true true x y one two same = let heads : n ≡ m = cc in let tails : x ≡ y = cc in (heads, tails)
byte_front n m false false x y one two same = let heads : n ≡ m = cc in let tails : x ≡ y = cc in (heads, tails)
byte_front n m true false x y one two same = let heads : n ≡ m = cc in let no : true ≡ false = sym one ∙ ap is_brace heads ∙ two in absurd cc
byte_front n m false true x y one two same = let heads : n ≡ m = cc in let no : true ≡ false = sym two ∙ ap is_brace (sym heads) ∙ one in absurd cc

-- a byte that begins as a placeholder does is a brace that is given twice
byte_or_value : (n : ℕ) (p : Bool) (value : Placeholder) (x y : List ℕ) → is_brace n ≡ p → (if p then n ∷ n ∷ [] else n ∷ []) ++ x ≡ open_brace ∷ closed_name value ++ y → ⊥
byte_or_value n true value x y is same =
    let head : n ≡ open_brace = cc in
    let tail : n ∷ x ≡ closed_name value ++ y = cc in
    apart value x y (ap (λ b. b ∷ x) (sym head) ∙ tail)
byte_or_value n false value x y is same = let head : n ≡ open_brace = cc in let no : true ≡ false = ap is_brace (sym head) ∙ is in absurd cc

-- what a text begins with is one part
pub spelled_front : (part other : Part) (x y : List ℕ) → spelled part ++ x ≡ spelled other ++ y → (part ≡ other) × (x ≡ y)
spelled_front (Byte n) (Byte m) x y same = let both = byte_front n m (is_brace n) (is_brace m) x y refl refl same in (ap Byte both.0, both.1)
spelled_front (Byte n) (Value value) x y same = absurd (byte_or_value n (is_brace n) value x y refl same)
spelled_front (Value value) (Byte m) x y same = absurd (byte_or_value m (is_brace m) value y x refl (sym same))
spelled_front (Value value) (Value other) x y same =
    let tails : closed_name value ++ x ≡ closed_name other ++ y = cc in
    let both = closed_front value other x y tails in
    (ap Value both.0, both.1)

some_spelled : (part : Part) (x : List ℕ) → [] ≡ spelled part ++ x → ⊥
some_spelled (Byte n) x same = some_byte (is_brace n) same
  where
    some_byte : (p : Bool) → [] ≡ (if p then n ∷ n ∷ [] else n ∷ []) ++ x → ⊥
    some_byte true same = cc
    some_byte false same = cc
some_spelled (Value value) x same = cc

-- the parts of a text are one list
pub one_spelling : (parts other : List Part) → flat_map spelled parts ≡ flat_map spelled other → parts ≡ other
one_spelling [] [] same = refl
one_spelling [] (part ∷ other) same = absurd (some_spelled part _ same)
one_spelling (part ∷ parts) [] same = absurd (some_spelled part _ (sym same))
one_spelling (part ∷ parts) (first ∷ other) same =
    let front = spelled_front part first _ _ same in
    let rest = one_spelling parts other front.1 in
    λ j. front.0 j ∷ rest j

-- what parts spell, and then something that begins no part, is no other parts' text
pub bad_place : (parts before : List Part) (behind : List ℕ) → 0 < length behind → BeginsNone spelled behind → flat_map spelled parts ≡ flat_map spelled before ++ behind → ⊥
bad_place [] [] [] more none same = omega arith
bad_place [] [] (b ∷ behind) more none same = cc
bad_place [] (part ∷ before) behind more none same = some_spelled part _ (same ∙ append_assoc (spelled part) (flat_map spelled before) behind)
bad_place (part ∷ parts) [] behind more none same = none part (flat_map spelled parts) (sym same)
bad_place (part ∷ parts) (first ∷ before) behind more none same =
    bad_place parts before behind more none (spelled_front part first _ _ (same ∙ append_assoc (spelled first) (flat_map spelled before) behind)).1

-- and it is at one place
pub one_bad_place : (parts before : List Part) (x behind : List ℕ) → 0 < length x → BeginsNone spelled x → 0 < length behind → BeginsNone spelled behind
    → flat_map spelled parts ++ x ≡ flat_map spelled before ++ behind → parts ≡ before
one_bad_place [] [] x behind some first more none same = refl
one_bad_place [] (part ∷ before) x behind some first more none same = absurd (first part _ (same ∙ append_assoc (spelled part) (flat_map spelled before) behind))
one_bad_place (part ∷ parts) [] x behind some first more none same = absurd (none part _ (sym same ∙ append_assoc (spelled part) (flat_map spelled parts) x))
one_bad_place (part ∷ parts) (one ∷ before) x behind some first more none same =
    let front = spelled_front part one _ _ (sym (append_assoc (spelled part) (flat_map spelled parts) x) ∙ same ∙ append_assoc (spelled one) (flat_map spelled before) behind) in
    let rest = one_bad_place parts before x behind some first more none front.1 in
    λ j. front.0 j ∷ rest j

-- nor does one whose name is none
pub never_named : (text before behind : List ℕ) → IsCutAt close_brace text before behind → ((value : Placeholder) → before ≡ placeholder_name value → ⊥) → BeginsNone closed_name text
never_named text before behind cut none value rest same =
    none value (cut_unique close_brace before (placeholder_name value) behind rest cut.first (without_close _ (plain value)) (sym cut.whole ∙ same ∙ closed value rest)).0
