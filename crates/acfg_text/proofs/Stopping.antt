-- Every fault of the tokens stops a strict run, at its place or before it.
use Rattle.std.proofs.Common.{◌≡◌, ℕ, ◌+◌, ◌<◌, ◌⊎◌, inl, inr, Bool, true, false, List, [], ◌∷◌, ◌++◌, length, Option, Some, None, Result, Ok, Err, refl, sym, ap, ◌∙◌, subst, arith, append_assoc}
use Rattle.std.specs.Prelude.{◌≤◌, nat_le}
use Rattle.std.proofs.lemmas.Bool.Decides.{nat_tests}
use Rattle.std.specs.Str.{is_utf8}
use Rattle.acfg_text.specs.declared.classes.Class.{Class}
use Rattle.acfg_text.specs.declared.classes.Class.TheVariants as c
use Rattle.acfg_text.specs.declared.tree.Item.{Item}
use Rattle.acfg_text.specs.declared.fault.TextWhat.{TextWhat}
use Rattle.acfg_text.specs.declared.fault.TextWhat.TheVariants.{Unexpected, TooDeep, BadUtf8}
use Rattle.acfg_text.specs.Terminals.{Terminal, terminal}
use Rattle.acfg_text.specs.Escapes.{spelled}
use Rattle.acfg_text.specs.Grammar.{HasForm, Begins, Derives, Texts, last_text, more_texts}
use Rattle.acfg_text.specs.TextFaults.{is_open, is_quoted, nesting, EndsUnquoted, BeginsUnquoted, Faulty, stray, early, deep, bad_text, IsFirst, Rising}
use Rattle.acfg_text.specs.Machine.{Head, Slot, Frame, Mode, at_field, behind_field, behind_name, behind_colon, in_list, at_item, behind_item, in_text, State, st, Fault, fault, plain, refused, text_fault, depth_fault, step_by, step, finish, carry, run, walk, begin}
use Rattle.acfg_text.proofs.Viable.{run_append}
use Rattle.acfg_text.proofs.Leading.{derives_run, first_text}
use Rattle.acfg_text.proofs.Resting.{run_form}
use Rattle.acfg_text.proofs.Ending.{is_text, After, after, BeginsText, begins_text, some_then, read_of, read_step, loosen, NotUtf8, StepFails, step_fails, FinishFails, finish_fails, finish_read, TextInv, Inv, inv_begin, inv_walk, run_walk, free_one, one_free, free_finish, run_fault, unexpected, too_deep, bad_bytes, ends_early, ends_bad}

abbrev pub StopsBy : ℕ → TextWhat → Result (List Item) Fault → Type 0
StopsBy p w (Ok items) = ⊥
StopsBy p w (Err f) = (f.place < p) ⊎ ((f.place ≡ p) × (f.what ≡ w))

abbrev AllBelow : ℕ → List Terminal → Type 0
AllBelow q [] = Unit {0}
AllBelow q (t ∷ ts) = (t.place < q) × AllBelow q ts

rising_from : (from : ℕ) (before : List Terminal) (t : Terminal) (after : List Terminal) (end : ℕ) → Rising from (before ++ t ∷ after) end → from ≤ t.place
rising_from from [] t after end r = r.0
rising_from from (b ∷ before) t after end r = let later : b.place + 1 ≤ t.place = rising_from (b.place + 1) before t after end r.2 in omega (arith, r.0)

rising_below : (from : ℕ) (before : List Terminal) (t : Terminal) (after : List Terminal) (end : ℕ) → Rising from (before ++ t ∷ after) end → AllBelow t.place before
rising_below from [] t after end r = tt
rising_below from (b ∷ before) t after end r = let later : b.place + 1 ≤ t.place = rising_from (b.place + 1) before t after end r.2 in (omega arith, rising_below (b.place + 1) before t after end r.2)

rising_end : (from : ℕ) (ts : List Terminal) (end : ℕ) → Rising from ts end → AllBelow end ts
rising_end from [] end r = tt
rising_end from (t ∷ ts) end r = (r.1, rising_end (t.place + 1) ts end r.2)

-- a text's place is that of an earlier token
abbrev Low : ℕ → Mode → Type 0
Low q (in_text h slot place bytes) = place < q
Low q _ = Unit {0}

low_plain : (q : ℕ) (mode : Mode) → is_text mode ≡ false → Low q mode
low_plain q (in_text h slot place bytes) e = cc
low_plain q _ e = tt

low_begins : (q : ℕ) (mode : Mode) (t : Terminal) (top : List Item) (frames : List Frame) (r : State) → is_text mode ≡ false → t.place < q → plain mode c.Quoted t top frames ≡ Some r → Low q r.mode
low_begins q mode t top frames r other below e =
    let b : BeginsText t r.mode = some_then (plain mode c.Quoted t top frames) (λ s. BeginsText t s.mode) r (begins_text mode t top frames other) e in
    subst (λ m. Low q m) (sym b.is) below

low_quoted : (q : ℕ) (mode : Mode) (t : Terminal) (top : List Item) (frames : List Frame) (r : State) → t.place < q → Low q mode → plain mode c.Quoted t top frames ≡ Some r → Low q r.mode
low_quoted q (in_text h slot place bytes) t top frames r below low e =
    let is : st (in_text h slot place (bytes ++ spelled t.text)) top frames ≡ r = cc in subst (λ z. Low q z.mode) is low
low_quoted q at_field t top frames r below low e = low_begins q at_field t top frames r refl below e
low_quoted q behind_field t top frames r below low e = low_begins q behind_field t top frames r refl below e
low_quoted q (behind_name h) t top frames r below low e = low_begins q (behind_name h) t top frames r refl below e
low_quoted q (behind_colon h) t top frames r below low e = low_begins q (behind_colon h) t top frames r refl below e
low_quoted q (in_list h colon) t top frames r below low e = low_begins q (in_list h colon) t top frames r refl below e
low_quoted q (at_item h colon values) t top frames r below low e = low_begins q (at_item h colon values) t top frames r refl below e
low_quoted q (behind_item h colon values) t top frames r below low e = low_begins q (behind_item h colon values) t top frames r refl below e

low_read : (q : ℕ) (s : State) (class : Class) (p : ℕ) (u : List ℕ) (r : State) → p < q → Low q s.mode → read_of s (terminal class p u) ≡ Some r → Low q r.mode
low_read q s c.Quoted p u r below low e = low_quoted q s.mode (terminal c.Quoted p u) s.top s.frames r below low e
low_read q s class p u r below low e =
    let a : After class s.frames r = some_then (read_of s (terminal class p u)) (After class s.frames) r (after s.mode class (terminal class p u) s.top s.frames) e in
    low_plain q r.mode (a.unquoted refl)

fails_low : (q : ℕ) (s : State) (t : Terminal) (f : Fault) → t.place < q → Low q s.mode → StepFails s t f → f.place < q
fails_low q s t f below low (unexpected none is) = subst (λ n. n < q) (ap (λ g. g.place) (sym is)) below
fails_low q s t f below low (too_deep r read is_deep) = subst (λ n. n < q) (ap (λ g. g.place) (sym is_deep.is)) below
fails_low q s t f below low (bad_bytes bad) = subst (λ n. n < q) (ap (λ g. g.place) (sym bad.is)) (subst (λ m. Low q m) bad.in_it low)

abbrev LowEnd : ℕ → Result State Fault → Type 0
LowEnd q (Ok s) = Low q s.mode
LowEnd q (Err f) = f.place < q

walk_low : (q : ℕ) (ts : List Terminal) (s : State) → AllBelow q ts → Low q s.mode → LowEnd q (walk true ts s)
unfolding walk
walk_low q [] s below low = low
walk_low q (t ∷ ts) s below low = carried (step true s t) refl (λ r e. walk_low q ts r below.1 (low_read q s t.class t.place t.text r below.0 low (read_step true s t r e)))
  where
    carried : (o : Result State Fault) → step true s t ≡ o → ((r : State) → step true s t ≡ Ok r → LowEnd q (walk true ts r)) → LowEnd q (carry o (λ r. walk true ts r))
    carried (Ok r) e go = go r e
    carried (Err f) e go = fails_low q s t f below.0 low (step_fails s t f e)

-- a fault at a terminal's place
stops_there : (end : ℕ) (before : List Terminal) (t : Terminal) (after : List Terminal) (w : TextWhat) → Rising 0 (before ++ t ∷ after) end
    → ((s : State) → walk true before begin ≡ Ok s → Low t.place s.mode → StopsBy t.place w (run true end (t ∷ after) s)) → StopsBy t.place w (run true end (before ++ t ∷ after) begin)
stops_there end before t after w rising go =
    subst (StopsBy t.place w) (sym (run_append true end before (t ∷ after) begin)) (carried (walk true before begin) refl (walk_low t.place before begin (rising_below 0 before t after end rising) tt))
  where
    carried : (o : Result State Fault) → walk true before begin ≡ o → LowEnd t.place o → StopsBy t.place w (carry o (λ r. run true end (t ∷ after) r))
    carried (Ok s) e low = go s e low
    carried (Err f) e low = inl low

stops_step : (end : ℕ) (t : Terminal) (after : List Terminal) (s : State) (w : TextWhat) → ((r : State) → read_of s t ≡ Some r → step true s t ≡ Ok r → StopsBy t.place w (run true end after r))
    → ((f : Fault) → StepFails s t f → (f.place < t.place) ⊎ ((f.place ≡ t.place) × (f.what ≡ w))) → StopsBy t.place w (run true end (t ∷ after) s)
unfolding run
stops_step end t after s w go fails = carried (step true s t) refl
  where
    carried : (o : Result State Fault) → step true s t ≡ o → StopsBy t.place w (carry o (λ r. run true end after r))
    carried (Ok r) e = go r (read_step true s t r e) e
    carried (Err f) e = fails f (step_fails s t f e)

bad_low : (q : ℕ) (mode : Mode) (quoted : Bool) (f : Fault) → Low q mode → NotUtf8 mode quoted f → f.place < q
bad_low q mode quoted f low bad = subst (λ n. n < q) (ap (λ g. g.place) (sym bad.is)) (subst (λ m. Low q m) bad.in_it low)

stops_stray : (end : ℕ) (before : List Terminal) (t : Terminal) (after : List Terminal) → Rising 0 (before ++ t ∷ after) end → (Begins (before ++ t ∷ []) → ⊥) → StopsBy t.place Unexpected (run true end (before ++ t ∷ after) begin)
stops_stray end before t after rising no_more = stops_there end before t after Unexpected rising (λ s w low. stops_step end t after s Unexpected
    (λ r read stepped. absurd (no_more (one_free before t s r w read))) (λ f fails. why s w low f fails))
  where
    why : (s : State) → walk true before begin ≡ Ok s → Low t.place s.mode → (f : Fault) → StepFails s t f → (f.place < t.place) ⊎ ((f.place ≡ t.place) × (f.what ≡ Unexpected))
    why s w low f (unexpected none is) = inr (ap (λ g. g.place) is, ap (λ g. g.what) is)
    why s w low f (too_deep r read is_deep) = absurd (no_more (one_free before t s r w read))
    why s w low f (bad_bytes bad) = inl (bad_low t.place s.mode (is_quoted t.class) f low bad)

never_deep : (told : Option Fault) (read : Option State) (class : Class) (place : ℕ) (frames : List Frame) (s : State) → is_open class ≡ true → 32 ≤ length frames → step_by told read (depth_fault true class place frames) place ≡ Ok s → ⊥
never_deep told read (c.Open b) place frames s opens below e = go told read (nat_le 32 (length frames)) (grind (arith, nat_tests)) e
  where
    go : (told : Option Fault) (read : Option State) (q : Bool) → q ≡ true → step_by told read (refused q place TooDeep) place ≡ Ok s → ⊥
    go (Some f) read q x e = cc
    go None None q x e = cc
    go None (Some r) true x e = cc
    go None (Some r) false x e = cc
never_deep told read c.Word place frames s opens below e = cc
never_deep told read c.Number place frames s opens below e = cc
never_deep told read c.Quoted place frames s opens below e = cc
never_deep told read c.Colon place frames s opens below e = cc
never_deep told read c.Comma place frames s opens below e = cc
never_deep told read c.Semicolon place frames s opens below e = cc
never_deep told read (c.Close b) place frames s opens below e = cc
never_deep told read c.OpenList place frames s opens below e = cc
never_deep told read c.CloseList place frames s opens below e = cc

stops_deep : (end : ℕ) (before : List Terminal) (t : Terminal) (after : List Terminal) → Rising 0 (before ++ t ∷ after) end → Begins (before ++ t ∷ []) → is_open t.class ≡ true → 32 ≤ nesting 0 before → StopsBy t.place TooDeep (run true end (before ++ t ∷ after) begin)
stops_deep end before t after rising begins opens below = stops_there end before t after TooDeep rising (λ s w low. stops_step end t after s TooDeep
    (λ r read stepped. absurd (never_deep (text_fault true s.mode (is_quoted t.class)) (read_of s t) t.class t.place s.frames r opens (open_below s w) stepped)) (λ f fails. why s w low f fails))
  where
    open_below : (s : State) → walk true before begin ≡ Ok s → 32 ≤ length s.frames
    open_below s w = let inv : Inv before s = inv_walk true [] before begin s inv_begin w in subst (λ n. 32 ≤ n) (sym inv.nests) below

    why : (s : State) → walk true before begin ≡ Ok s → Low t.place s.mode → (f : Fault) → StepFails s t f → (f.place < t.place) ⊎ ((f.place ≡ t.place) × (f.what ≡ TooDeep))
    why s w low f (unexpected none is) = let r : (r : State) × (read_of s t ≡ Some r) = free_one before t s w begins in let some : read_of s t ≡ Some r.0 = r.1 in absurd cc
    why s w low f (too_deep r read is_deep) = inr (ap (λ g. g.place) is_deep.is, ap (λ g. g.what) is_deep.is)
    why s w low f (bad_bytes bad) = inl (bad_low t.place s.mode (is_quoted t.class) f low bad)

-- a text that isn't UTF-8
record LastQuoted (ts : List Terminal) : Type 0 where
  front : List Terminal
  t : Terminal
  is : ts ≡ front ++ t ∷ []
  quoted : is_quoted t.class ≡ true

last_quoted : {bytes : List ℕ} {ts rest : List Terminal} → rest ≡ [] → Texts bytes ts rest → LastQuoted ts
last_quoted e (last_text {p = p} {t = u}) = record { front = []; t = terminal c.Quoted p u; is = ap (λ r. terminal c.Quoted p u ∷ r) e; quoted = refl }
last_quoted e (more_texts {p = p} u bytes texts) =
    let last : LastQuoted _ = last_quoted e texts in record { front = terminal c.Quoted p u ∷ last.front; t = last.t; is = ap (λ r. terminal c.Quoted p u ∷ r) last.is; quoted = last.quoted }

not_text : (before : List Terminal) (mode : Mode) → TextInv before mode → EndsUnquoted before → is_text mode ≡ false
not_text before (in_text h slot place bytes) inv unq =
    let last : LastQuoted (inv.first ∷ inv.texts) = last_quoted refl inv.joins in
    let whole : before ≡ (inv.front ++ last.front) ++ last.t ∷ [] = inv.is ∙ ap (λ r. inv.front ++ r) last.is ∙ sym (append_assoc inv.front last.front (last.t ∷ [])) in
    let no_quote : is_quoted last.t.class ≡ false = unq (inv.front ++ last.front) last.t whole in
    absurd (let quote : is_quoted last.t.class ≡ true = last.quoted in cc)
not_text before _ inv unq = refl

texts_more : {bytes : List ℕ} {ts rest : List Terminal} (after : List Terminal) → Texts bytes ts rest → Texts bytes (ts ++ after) (rest ++ after)
texts_more after last_text = last_text
texts_more after (more_texts t bytes texts) = more_texts t bytes (texts_more after texts)

bad_run : (end : ℕ) (h : Head) (slot : Slot) (place : ℕ) (bytes : List ℕ) (top : List Item) (frames : List Frame) (after : List Terminal) → BeginsUnquoted after → is_utf8 bytes ≡ false → run true end after (st (in_text h slot place bytes) top frames) ≡ Err (fault place BadUtf8)
unfolding run
bad_run end h slot place bytes top frames [] unq bad = rw bad refl
bad_run end h slot place bytes top frames (t ∷ ts) unq bad = rw (unq, bad) refl

begins_front : (a b : List Terminal) → Begins (a ++ b) → Begins a
begins_front a b (more, items, form) = (b ++ more, items, subst (λ l. HasForm l items) (append_assoc a b more) form)

stops_quoted : (end : ℕ) (before : List Terminal) (p : ℕ) (u : List ℕ) (texts after : List Terminal) (bytes : List ℕ) → Rising 0 (before ++ terminal c.Quoted p u ∷ (texts ++ after)) end → Begins (before ++ terminal c.Quoted p u ∷ texts) → EndsUnquoted before
    → Texts bytes (terminal c.Quoted p u ∷ texts) [] → BeginsUnquoted after → is_utf8 bytes ≡ false → StopsBy p BadUtf8 (run true end (before ++ terminal c.Quoted p u ∷ (texts ++ after)) begin)
stops_quoted end before p u texts after bytes rising begins unq joins ends bad = stops_there end before (terminal c.Quoted p u) (texts ++ after) BadUtf8 rising
    (λ s w low. stops_step end (terminal c.Quoted p u) (texts ++ after) s BadUtf8 (λ r read stepped. read_on s r (other s w) read) (λ f fails. why s w (other s w) f fails))
  where
    other : (s : State) → walk true before begin ≡ Ok s → is_text s.mode ≡ false
    other s w = let inv : Inv before s = inv_walk true [] before begin s inv_begin w in not_text before s.mode inv.text unq

    read_on : (s r : State) → is_text s.mode ≡ false → read_of s (terminal c.Quoted p u) ≡ Some r → StopsBy p BadUtf8 (run true end (texts ++ after) r)
    read_on s r plain_mode read =
        let b : BeginsText (terminal c.Quoted p u) r.mode = some_then (read_of s (terminal c.Quoted p u)) (λ z. BeginsText (terminal c.Quoted p u) z.mode) r (begins_text s.mode (terminal c.Quoted p u) s.top s.frames plain_mode) read in
        let runs : run true end (texts ++ after) r ≡ Err (fault p BadUtf8)
        = ap (λ m. run true end (texts ++ after) (st m r.top r.frames)) b.is ∙ first_text true end b.h b.slot p r.top r.frames (texts_more after joins) ∙ bad_run end b.h b.slot p bytes r.top r.frames after ends bad in
        subst (StopsBy p BadUtf8) (sym runs) (inr (refl, refl))

    why : (s : State) → walk true before begin ≡ Ok s → is_text s.mode ≡ false → (f : Fault) → StepFails s (terminal c.Quoted p u) f → (f.place < p) ⊎ ((f.place ≡ p) × (f.what ≡ BadUtf8))
    why s w plain_mode f (unexpected none is) =
        let front : Begins (before ++ terminal c.Quoted p u ∷ []) = begins_front (before ++ terminal c.Quoted p u ∷ []) texts (subst Begins (sym (append_assoc before (terminal c.Quoted p u ∷ []) texts)) begins) in
        let r : (r : State) × (read_of s (terminal c.Quoted p u) ≡ Some r) = free_one before (terminal c.Quoted p u) s w front in let some : read_of s (terminal c.Quoted p u) ≡ Some r.0 = r.1 in absurd cc
    why s w plain_mode f (too_deep r read is_deep) = let opens : false ≡ true = is_deep.opens in absurd cc
    why s w plain_mode f (bad_bytes bad_one) = let quoted : true ≡ false = bad_one.ends in absurd cc

stops_text : (end : ℕ) (before : List Terminal) {first : Terminal} {texts : List Terminal} (after : List Terminal) {bytes : List ℕ} → Texts bytes (first ∷ texts) [] → Rising 0 (before ++ ((first ∷ texts) ++ after)) end → Begins (before ++ first ∷ texts) → EndsUnquoted before
    → BeginsUnquoted after → is_utf8 bytes ≡ false → StopsBy first.place BadUtf8 (run true end (before ++ ((first ∷ texts) ++ after)) begin)
stops_text end before after (last_text {p = p} {t = u}) rising begins unq ends bad = stops_quoted end before p u [] after (spelled u) rising begins unq last_text ends bad
stops_text end before after (more_texts {p = p} u bytes {ts = ts} texts) rising begins unq ends bad = stops_quoted end before p u ts after (spelled u ++ bytes) rising begins unq (more_texts u bytes texts) ends bad

stops_early : (end : ℕ) (tokens : List Terminal) → Rising 0 tokens end → ((items : List Item) → HasForm tokens items → ⊥) → StopsBy end Unexpected (run true end tokens begin)
stops_early end tokens rising no_form = subst (StopsBy end Unexpected) (sym (run_walk true end tokens begin)) (carried (walk true tokens begin) refl (walk_low end tokens begin (rising_end 0 tokens end rising) tt))
  where
    finished : (s : State) (o : Result (List Item) Fault) → walk true tokens begin ≡ Ok s → Low end s.mode → finish true end s ≡ o → StopsBy end Unexpected o
    finished s (Ok items) w low e =
        let runs : run false end tokens begin ≡ Ok items = run_walk false end tokens begin ∙ ap (λ q. carry q (λ r. finish false end r)) (loosen tokens begin s w) ∙ free_finish s.mode s.top s.frames end items (finish_read true s end items e) in
        no_form items (run_form end tokens items runs)
    finished s (Err f) w low e = why (finish_fails s end f e)
      where
        why : FinishFails s end f → (f.place < end) ⊎ ((f.place ≡ end) × (f.what ≡ Unexpected))
        why (ends_early none is) = inr (ap (λ g. g.place) is, ap (λ g. g.what) is)
        why (ends_bad bad) = inl (bad_low end s.mode false f low bad)

    carried : (o : Result State Fault) → walk true tokens begin ≡ o → LowEnd end o → StopsBy end Unexpected (carry o (λ r. finish true end r))
    carried (Ok s) e low = finished s (finish true end s) e low refl
    carried (Err f) e low = inl low

pub stops : (end : ℕ) (tokens : List Terminal) (p : ℕ) (w : TextWhat) → Rising 0 tokens end → Faulty tokens end p w → StopsBy p w (run true end tokens begin)
stops end tokens p w rising (stray before t after split begins no_more) =
    subst (λ l. StopsBy t.place Unexpected (run true end l begin)) (sym split) (stops_stray end before t after (subst (λ l. Rising 0 l end) split rising) no_more)
stops end tokens p w rising (early begins no_form) = stops_early end tokens rising no_form
stops end tokens p w rising (deep before t after split begins opens below) =
    subst (λ l. StopsBy t.place TooDeep (run true end l begin)) (sym split) (stops_deep end before t after (subst (λ l. Rising 0 l end) split rising) begins opens below)
stops end tokens p w rising (bad_text before first texts after bytes split begins unq joins ends bad) =
    subst (λ l. StopsBy first.place BadUtf8 (run true end l begin)) (sym split) (stops_text end before after joins (subst (λ l. Rising 0 l end) split rising) begins unq ends bad)

-- what has a derivation has no fault
pub apart : (end : ℕ) (tokens : List Terminal) (items : List Item) (p : ℕ) (w : TextWhat) → Rising 0 tokens end → Derives tokens items → Faulty tokens end p w → ⊥
apart end tokens items p w rising derived faulty = subst (StopsBy p w) (derives_run end tokens items derived) (stops end tokens p w rising faulty)

-- the fault of a strict run is the first
pub first_fault : (end : ℕ) (tokens : List Terminal) (f : Fault) → Rising 0 tokens end → run true end tokens begin ≡ Err f → IsFirst tokens end f.place f.what
first_fault end tokens f rising e = record { is = run_fault end tokens f e; least = λ p w faulty. below p w (subst (StopsBy p w) e (stops end tokens p w rising faulty)) }
  where
    below : (p : ℕ) (w : TextWhat) → (f.place < p) ⊎ ((f.place ≡ p) × (f.what ≡ w)) → f.place ≤ p
    below p w (inl less) = omega arith
    below p w (inr (at, what)) = omega arith

-- there is at most one first fault
pub first_run : (end : ℕ) (tokens : List Terminal) (p : ℕ) (w : TextWhat) → Rising 0 tokens end → IsFirst tokens end p w → run true end tokens begin ≡ Err (fault p w)
first_run end tokens p w rising first = go (run true end tokens begin) refl (stops end tokens p w rising first.is)
  where
    go : (o : Result (List Item) Fault) → run true end tokens begin ≡ o → StopsBy p w o → o ≡ Err (fault p w)
    go (Ok items) e stopped = absurd stopped
    go (Err f) e (inl less) = let other : p ≤ f.place = first.least f.place f.what (run_fault end tokens f e) in absurd (omega arith)
    go (Err f) e (inr (at, what)) = ap Err (ap (λ n. fault n f.what) at ∙ ap (λ x. fault p x) what)

pub one_first : (end : ℕ) (tokens : List Terminal) (p q : ℕ) (w u : TextWhat) → Rising 0 tokens end → IsFirst tokens end p w → IsFirst tokens end q u → (p ≡ q) × (w ≡ u)
one_first end tokens p q w u rising first other =
    let a : run true end tokens begin ≡ Err (fault p w) = first_run end tokens p w rising first in
    let b : run true end tokens begin ≡ Err (fault q u) = first_run end tokens q u rising other in
    let same : fault p w ≡ fault q u = cc in
    (ap (λ f. f.place) same, ap (λ f. f.what) same)
