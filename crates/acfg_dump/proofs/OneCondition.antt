-- A text is that of one condition at most, and a filter's text that of one filter.
use Rattle.std.proofs.Common.{◌≡◌, ◌≢◌, ℕ, ◌<◌, ◌+◌, Bool, true, false, not, if◌then◌else◌, List, [], ◌∷◌, ◌++◌, length, codes, refl, sym, ap, ◌∙◌, subst, ◌⊎◌, inl, inr, All, arith}
use Rattle.std.specs.List.{list_all, AllZip}
use Rattle.std.specs.Prelude.{sum_by}
use Rattle.std.specs.Str.{bytes_eq}
use Rattle.std.proofs.lemmas.Bool.{eq-eqb}
use Rattle.std.proofs.lemmas.List.Elements.{All-cons, All-nil}
use Rattle.std.proofs.lemmas.List.Sums.{AllPass-from_list_all}
use lib.Dec.{eqb}
use Rattle.acfg_base.specs.Bytes.{colon}
use Rattle.acfg_dump.specs.declared.conditions.Condition.{Condition}
use Rattle.acfg_dump.specs.declared.conditions.Condition.TheVariants.{Has, Is}
use Rattle.acfg_dump.specs.declared.conditions.Fact.{Fact}
use Rattle.acfg_dump.specs.declared.conditions.Fact.TheVariants as fact
use Rattle.acfg_dump.specs.declared.conditions.Key.{Key}
use Rattle.acfg_dump.specs.declared.conditions.Key.TheVariants as key
use Rattle.acfg_dump.specs.declared.fault.DumpFault.{DumpFault}
use Rattle.acfg_dump.specs.declared.fault.DumpFault.TheVariants as fault
use Rattle.acfg_dump.specs.Bodies.{AlternativesFail, ConditionsFail, IsCutAt, IsWithout}
use Rattle.acfg_dump.specs.Filter.{condition_text, condition_texts, extent, fact_name, fact_word, key_name, FilterFails, HasValue, IsBadAmong, IsBadCondition, IsCondition, IsFilter, IsFirstBad, IsSome}
use Rattle.acfg_dump.proofs.Firsts.{cut_unique, first_unique, never_cut, All-middle}

-- the key of a name that is one
named : List ℕ → Key ⊎ Fact
named text =
    if bytes_eq text (codes "package") then inl key.Package else (
    if bytes_eq text (codes "name") then inl key.Name else (
    if bytes_eq text (codes "namespace") then inl key.Namespace else (
    if bytes_eq text (codes "container") then inl key.Container else (
    if bytes_eq text (codes "bug") then inl key.Bug else (
    if bytes_eq text (codes "state") then inr fact.State else (
    if bytes_eq text (codes "permission") then inr fact.Permission else (
    if bytes_eq text (codes "is_fixed_read_only") then inr fact.IsFixedReadOnly else inr fact.IsExported)))))))

key_back : (key : Key) → named (key_name key) ≡ inl key
unfolding named
key_back key.Package = refl
key_back key.Name = refl
key_back key.Namespace = refl
key_back key.Container = refl
key_back key.Bug = refl

fact_back : (fact : Fact) → named (fact_name fact) ≡ inr fact
unfolding named
fact_back fact.State = refl
fact_back fact.Permission = refl
fact_back fact.IsFixedReadOnly = refl
fact_back fact.IsExported = refl

abbrev left : Key → Key ⊎ Fact
left it = inl it

abbrev right : Fact → Key ⊎ Fact
right it = inr it

one_key : (key other : Key) → key_name key ≡ key_name other → key ≡ other
one_key key other same = let both : left key ≡ left other = sym (key_back key) ∙ ap named same ∙ key_back other in cc

one_fact : (fact other : Fact) → fact_name fact ≡ fact_name other → fact ≡ other
one_fact fact other same = let both : right fact ≡ right other = sym (fact_back fact) ∙ ap named same ∙ fact_back other in cc

-- no key has a name of both kinds
pub kinds_apart : (key : Key) (fact : Fact) → key_name key ≡ fact_name fact → ⊥
kinds_apart key fact same = let both : left key ≡ right fact = sym (key_back key) ∙ ap named same ∙ fact_back fact in cc

word_back : (it : Fact) (so : Bool) → bytes_eq (fact_word it so) (fact_word it true) ≡ so
word_back fact.State true = refl
word_back fact.State false = refl
word_back fact.Permission true = refl
word_back fact.Permission false = refl
word_back fact.IsFixedReadOnly true = refl
word_back fact.IsFixedReadOnly false = refl
word_back fact.IsExported true = refl
word_back fact.IsExported false = refl

one_word : (it : Fact) (so other : Bool) → fact_word it so ≡ fact_word it other → so ≡ other
one_word it so other same = sym (word_back it so) ∙ ap (λ word. bytes_eq word (fact_word it true)) same ∙ word_back it other

not_equal : (a b : ℕ) → not (eqb a b) ≡ true → a ≢ b
not_equal a b test same = let yes : eqb a b ≡ true = eq-eqb a b same in let no : not true ≡ true = ap not (sym yes) ∙ test in cc

without : (name : List ℕ) → list_all (λ byte. not (eqb byte colon)) name ≡ true → IsWithout colon name
without name test = λ k d within. not_equal _ _ (AllPass-from_list_all (λ byte. not (eqb byte colon)) name test k d within)

key_whole : (key : Key) → IsWithout colon (key_name key)
key_whole key.Package = without (codes "package") refl
key_whole key.Name = without (codes "name") refl
key_whole key.Namespace = without (codes "namespace") refl
key_whole key.Container = without (codes "container") refl
key_whole key.Bug = without (codes "bug") refl

fact_whole : (fact : Fact) → IsWithout colon (fact_name fact)
fact_whole fact.State = without (codes "state") refl
fact_whole fact.Permission = without (codes "permission") refl
fact_whole fact.IsFixedReadOnly = without (codes "is_fixed_read_only") refl
fact_whole fact.IsExported = without (codes "is_exported") refl

-- a condition's key and its value, as texts
abbrev pub name_of : Condition → List ℕ
name_of (Has key value) = key_name key
name_of (Is fact so) = fact_name fact

abbrev pub value_of : Condition → List ℕ
value_of (Has key value) = value
value_of (Is fact so) = fact_word fact so

-- a condition is cut at its first colon
pub condition_cut : (condition : Condition) → IsCutAt colon (condition_text condition) (name_of condition) (value_of condition)
condition_cut (Has key value) = record { first = key_whole key; whole = refl }
condition_cut (Is fact so) = record { first = fact_whole fact; whole = refl }

-- conditions of one key and value are one
pub one_named : (condition other : Condition) → name_of condition ≡ name_of other → value_of condition ≡ value_of other → condition ≡ other
one_named (Has key value) (Has other more) names values = λ j. Has (one_key key other names j) (values j)
one_named (Has key value) (Is fact so) names values = absurd (kinds_apart key fact names)
one_named (Is fact so) (Has key value) names values = absurd (kinds_apart key fact (sym names))
one_named (Is fact so) (Is other more) names values =
    let same = one_fact fact other names in
    let words : fact_word fact so ≡ fact_word fact more = values ∙ ap (λ f. fact_word f more) (sym same) in
    λ j. Is (same j) (one_word fact so more words j)

-- what the key and the value of a text that is a condition's are
pub parts_of : (text before behind : List ℕ) (condition : Condition) → IsCutAt colon text before behind → IsCondition text condition
    → (before ≡ name_of condition) × (behind ≡ value_of condition)
parts_of text before behind condition cut is =
    let own = condition_cut condition in
    cut_unique colon before (name_of condition) behind (value_of condition) cut.first own.first (sym cut.whole ∙ is.same ∙ own.whole)

-- a text without a colon is no condition's
pub none_without : (text : List ℕ) → IsWithout colon text → (condition : Condition) → IsCondition text condition → ⊥
none_without text whole condition is = let own = condition_cut condition in never_cut colon text (name_of condition) (value_of condition) whole (is.same ∙ own.whole)

pub one_condition : (text : List ℕ) (condition other : Condition) → IsCondition text condition → IsCondition text other → condition ≡ other
one_condition text condition other is also =
    let own = condition_cut condition in
    let both = parts_of text (name_of condition) (value_of condition) other (record { first = own.first; whole = is.same ∙ own.whole }) also in
    one_named condition other both.0 both.1

one_zip : {A B : Type 0} (R : A → B → Type 0) → ((a : A) (b c : B) → R a b → R a c → b ≡ c) → (texts : List A) (xs ys : List B) → AllZip R texts xs → AllZip R texts ys → xs ≡ ys
one_zip R one [] [] [] is also = refl
one_zip R one [] [] (y ∷ ys) is also = absurd also
one_zip R one [] (x ∷ xs) ys is also = absurd is
one_zip R one (t ∷ texts) [] ys is also = absurd is
one_zip R one (t ∷ texts) (x ∷ xs) [] is also = absurd also
one_zip R one (t ∷ texts) (x ∷ xs) (y ∷ ys) is also =
    let heads = one t x y is.0 also.0 in
    let tails = one_zip R one texts xs ys is.1 also.1 in
    λ j. heads j ∷ tails j

pub one_filter : (text : List ℕ) (filter other : List (List Condition)) → IsFilter text filter → IsFilter text other → filter ≡ other
one_filter text filter other (inl is) (inl also) = is.1 ∙ sym also.1
one_filter text filter other (inl is) (inr also) = absurd (also.0 is.0)
one_filter text filter other (inr is) (inl also) = absurd (is.0 also.0)
one_filter text filter other (inr is) (inr also) = one_zip (AllZip IsCondition) (one_zip IsCondition one_condition) (condition_texts text) filter other is.1 also.1

zip_all : {A B : Type 0} (R : A → B → Type 0) (P : A → Type 0) → ((a : A) (b : B) → R a b → P a) → (texts : List A) (xs : List B) → AllZip R texts xs → All P texts
zip_all R P each [] xs is = All-nil P
zip_all R P each (t ∷ texts) [] is = absurd is
zip_all R P each (t ∷ texts) (x ∷ xs) is = All-cons P t texts (each t x is.0) (zip_all R P each texts xs is.1)

-- conditions that were read are conditions
pub all_some : (texts : List (List ℕ)) (conditions : List Condition) → AllZip IsCondition texts conditions → All IsSome texts
all_some texts conditions is = zip_all IsCondition IsSome (λ text condition is. (condition, is)) texts conditions is

pub all_alternatives : (texts : List (List (List ℕ))) (filter : List (List Condition)) → AllZip (AllZip IsCondition) texts filter → All (All IsSome) texts
all_alternatives texts filter is = zip_all (AllZip IsCondition) (All IsSome) all_some texts filter is

-- an alternative with a bad condition isn't lawful
first_bad : (texts : List (List ℕ)) (start place : ℕ) → IsFirstBad texts start place → All IsSome texts → ⊥
first_bad texts start place bad all = bad.none (All-middle IsSome bad.before bad.bad bad.behind (subst (All IsSome) bad.cut all))

pub never_both : (text : List ℕ) (filter : List (List Condition)) (place : ℕ) → IsFilter text filter → IsBadCondition text place → ⊥
never_both text filter place (inl is) bad = bad.other is.0
never_both text filter place (inr is) bad =
    let among = bad.among in
    let all = all_alternatives (condition_texts text) filter is.1 in
    first_bad among.bad _ place among.first (All-middle (All IsSome) among.before among.bad among.behind (subst (All (All IsSome)) among.cut all))

one_first : (texts : List (List ℕ)) (start place other : ℕ) → IsFirstBad texts start place → IsFirstBad texts start other → place ≡ other
one_first texts start place other bad also =
    sym bad.at
    ∙ ap (λ before. start + extent before) (first_unique IsSome bad.before also.before bad.bad also.bad bad.behind also.behind bad.lawful also.lawful bad.none also.none (sym bad.cut ∙ also.cut)).0
    ∙ also.at

pub one_bad : (text : List ℕ) (place other : ℕ) → IsBadCondition text place → IsBadCondition text other → place ≡ other
one_bad text place other bad also =
    let this = bad.among in
    let that = also.among in
    let same = first_unique (All IsSome) this.before that.before this.bad that.bad this.behind that.behind this.lawful that.lawful
    (first_bad this.bad _ place this.first) (first_bad that.bad _ other that.first) (sym this.cut ∙ that.cut) in
    one_first that.bad (sum_by extent that.before) place other
    (subst (λ (both : List (List (List ℕ)) × List (List ℕ)). IsFirstBad both.1 (sum_by extent both.0) place) (λ j. (same.0 j, same.1 j)) this.first) that.first

-- nor is one whose key is none
pub never_keyed : (key value : List ℕ) → IsWithout colon key → ((it : Key) → key ≡ key_name it → ⊥) → ((it : Fact) → key ≡ fact_name it → ⊥)
    → (condition : Condition) → IsCondition (key ++ colon ∷ value) condition → ⊥
never_keyed key value whole none apart (Has it text) is = none it (parts_of _ key value (Has it text) (record { first = whole; whole = refl }) is).0
never_keyed key value whole none apart (Is it so) is = apart it (parts_of _ key value (Is it so) (record { first = whole; whole = refl }) is).0

-- a fault among the conditions of an alternative is one among the alternatives
pub fault_among : (texts : List (List (List ℕ))) (before : List (List (List ℕ))) (bad : List (List ℕ)) (behind : List (List (List ℕ))) (start : ℕ)
    → texts ≡ before ++ bad ∷ behind → All (All IsSome) before → sum_by extent before ≡ start → (fault : DumpFault) → ConditionsFail bad start fault → AlternativesFail texts fault
fault_among texts before bad behind start cut lawful at (fault.BadPlaceholder place) fails = fails
fault_among texts before bad behind start cut lawful at (fault.BadFilter place) fails = record {
  before = before;
  bad = bad;
  behind = behind;
  cut = cut;
  lawful = lawful;
  first = subst (λ n. IsFirstBad bad n place) (sym at) fails;
}
fault_among texts before bad behind start cut lawful at fault.OutOfMemory fails = tt

-- and one of the filter
pub filter_fault : (text : List ℕ) (texts : List (List (List ℕ))) → texts ≡ condition_texts text → (text ≡ codes "all" → ⊥)
    → (fault : DumpFault) → AlternativesFail texts fault → FilterFails text fault
filter_fault text texts same other (fault.BadPlaceholder place) fails = fails
filter_fault text texts same other (fault.BadFilter place) fails = record { other = other; among = subst (λ t. IsBadAmong t place) same fails }
filter_fault text texts same other fault.OutOfMemory fails = tt
