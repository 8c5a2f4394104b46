-- Files read field by field: what was kept of the fields is what the whole tree has.
use Rattle.std.proofs.Common.{◌≡◌, ℕ, Bool, true, false, List, [], ◌∷◌, ◌++◌, length, codes, Option, None, Some, refl, sym, ap, ◌∙◌, inl, inr}
use Rattle.std.specs.Prelude.{◌&&◌, ◌||◌, if◌then◌else◌}
use Rattle.std.specs.Prelude.{unwrap_or}
use Rattle.std.specs.List.{flat_map, list_all}
use Rattle.std.specs.Option.{option_and_then}
use Rattle.std.specs.Str.{bytes_eq}
use Rattle.std.proofs.lemmas.List.{append_assoc, append-nil}
use Rattle.std.proofs.lemmas.List.Concat.{flat_map-append}
use Rattle.std.proofs.lemmas.Slice.Eq.{bytes_eq-Decides}
use Rattle.acfg_text.specs.declared.tree.Tree.{Tree, out-Tree, out-roll-Tree}
use Rattle.acfg_text.specs.declared.tree.Value.TheOpen.{Tree-F}
use Rattle.acfg_text.specs.declared.tree.Item.{Item, out-Item}
use Rattle.acfg_text.specs.declared.tree.Value.{Value}
use Rattle.acfg_text.specs.declared.fault.TextFault.{TextFault}
use Rattle.acfg_text.specs.declared.fault.TextFault.TheVariants as text_fault
use Rattle.acfg_text.specs.TextFaults.{IfAt as IfTextAt}
use Rattle.acfg_text.specs.Trees.{tree}
use Rattle.acfg_text.specs.Spells.{Spells}
use Rattle.acfg_text.specs.Progress.{Rest, HasRead, Reads, IsAll, IsReadable, Fails}
use Rattle.acfg_decls.specs.declared.declared.DeclarationsFile.{DeclarationsFile}
use Rattle.acfg_decls.specs.declared.declared.DeclaredFlag.{DeclaredFlag}
use Rattle.acfg_decls.specs.declared.declared.FlagValue.{FlagValue}
use Rattle.acfg_decls.specs.declared.declared.ValuesFile.{ValuesFile}
use Rattle.acfg_decls.specs.declared.faults.DeclFault.{DeclFault}
use Rattle.acfg_decls.specs.declared.faults.DeclFault.TheVariants.{At, OutOfMemory}
use Rattle.acfg_decls.specs.declared.faults.DeclWhat.{DeclWhat}
use Rattle.acfg_decls.specs.declared.faults.DeclWhat.TheVariants as what
use Rattle.acfg_decls.specs.declared.faults.DeclWhat.TheVariants.{MissingField}
use Rattle.acfg_decls.specs.declared.messages.Message.{Message}
use Rattle.acfg_decls.specs.declared.messages.Message.TheVariants as message
use Rattle.acfg_decls.specs.declared.messages.Field.{Field}
use Rattle.acfg_decls.specs.declared.messages.Often.TheVariants.{Repeated}
use Rattle.acfg_decls.specs.declared.messages.Form.TheVariants.{Inner}
use Rattle.acfg_decls.specs.Compile.{IfAt}
use Rattle.acfg_decls.specs.Reading.{all_in, declared_by, flag_at, others_in, placed, value_at, value_in, Declares, FailsAt, Refuses, Sets, fault_of_text}
use Rattle.acfg_decls.specs.Walk.{Fault, depth, field_of, first, inside, is_of, is_once, is_whole, item_faults, items_faults, known_faults, stands, walk}

-- ## The walk over fields one behind another

first_some : {X : Type 0} (front rest : List X) (x : X) → first front ≡ Some x → first (front ++ rest) ≡ Some x
first_some [] rest x is = cc
first_some (y ∷ front) rest x is = is

module _ (inner : Message → Tree → List Fault) (of : Message) where
  -- the faults of some fields, and of those behind them
  pub faults_behind : (earlier items more : List Item) → items_faults inner of earlier (items ++ more) ≡ items_faults inner of earlier items ++ items_faults inner of (earlier ++ items) more
  faults_behind earlier [] more = ap (λ e. items_faults inner of e more) (sym (append-nil earlier))
  faults_behind earlier (item ∷ items) more =
      ap (λ l. item_faults inner of earlier item ++ l) (faults_behind (earlier ++ item ∷ []) items more)
      ∙ sym (append_assoc (item_faults inner of earlier item) (items_faults inner of (earlier ++ item ∷ []) items) (items_faults inner of ((earlier ++ item ∷ []) ++ items) more))
      ∙ ap (λ e. items_faults inner of earlier (item ∷ items) ++ items_faults inner of e more) (append_assoc earlier (item ∷ []) items)

  -- one more without a fault
  pub still_sound : (items : List Item) (item : Item) → items_faults inner of [] items ≡ [] → first (item_faults inner of items item) ≡ None → items_faults inner of [] (items ++ item ∷ []) ≡ []
  still_sound items item sound none =
      faults_behind [] items (item ∷ []) ∙ ap (λ l. l ++ (item_faults inner of items item ++ [])) sound ∙ append-nil (item_faults inner of items item) ∙ without (item_faults inner of items item) none
    where
      without : (faults : List Fault) → first faults ≡ None → faults ≡ []
      without [] e = refl
      without (f ∷ fs) e = cc

  -- one with a fault, whatever is behind it
  pub faulty_there : (items more : List Item) (item : Item) (fault : Fault) → items_faults inner of [] items ≡ [] → first (item_faults inner of items item) ≡ Some fault
      → first (items_faults inner of [] ((items ++ item ∷ []) ++ more)) ≡ Some fault
  faulty_there items more item fault sound there =
      let here = item_faults inner of items item in
      let behind = items_faults inner of (items ++ item ∷ []) more in
      ap first (faults_behind [] (items ++ item ∷ []) more ∙ ap (λ l. l ++ behind) (faults_behind [] items (item ∷ []) ∙ ap (λ l. l ++ (here ++ [])) sound))
      ∙ first_some (here ++ []) behind fault (first_some here [] fault there)

-- what is told at a file's end
abbrev missing : Message → List Item → ℕ → List Fault
missing of items end = if is_whole of items then [] else (end, MissingField) ∷ []

-- a tree's fields and the place where they end
out_tree : (items : List Item) (end : ℕ) → out-Tree (tree items end) ≡ record { items = items; end = end }
unfolding tree
out_tree items end = out-roll-Tree (record { items = items; end = end })

-- the walk over a whole file
pub whole_walk : (of : Message) (items : List Item) (end : ℕ) → walk depth of (tree items end) ≡ items_faults (walk 2) of [] items ++ missing of items end
whole_walk of items end = ap (λ (t : Tree-F Value Item Tree). items_faults (walk 2) of [] t.items ++ missing of t.items t.end) (out_tree items end)

-- ## What the fields that aren't flags tell

module _ (name : List ℕ) (apart : bytes_eq (codes "flag") name ≡ false) where
  named_so : (item : Item) → bytes_eq (out-Item item).name (codes "flag") ≡ true → bytes_eq (out-Item item).name name ≡ false
  named_so item is = ap (λ n. bytes_eq n name) ((bytes_eq-Decides (out-Item item).name (codes "flag")).0 is) ∙ apart

  without_flag : (item : Item) (items : List Item) → bytes_eq (out-Item item).name (codes "flag") ≡ true → others_in (item ∷ items) ≡ others_in items
  without_flag item items is = ap (λ (b : Bool). (if b then [] else item ∷ []) ++ others_in items) is

  with_other : (item : Item) (items : List Item) → bytes_eq (out-Item item).name (codes "flag") ≡ false → others_in (item ∷ items) ≡ item ∷ others_in items
  with_other item items is = ap (λ (b : Bool). (if b then [] else item ∷ []) ++ others_in items) is

  pub stands_others : (items : List Item) → stands name (others_in items) ≡ stands name items
  stands_others [] = refl
  stands_others (item ∷ items) = by (stands_others items) (bytes_eq (out-Item item).name (codes "flag")) refl
    where
      by : stands name (others_in items) ≡ stands name items → (b : Bool) → bytes_eq (out-Item item).name (codes "flag") ≡ b → stands name (others_in (item ∷ items)) ≡ stands name (item ∷ items)
      by rest true is = ap (stands name) (without_flag item items is) ∙ rest ∙ sym (ap (λ (b : Bool). b || stands name items) (named_so item is))
      by rest false is = ap (stands name) (with_other item items is) ∙ ap (λ (s : Bool). bytes_eq (out-Item item).name name || s) rest

  pub value_others : (items : List Item) → value_in name (others_in items) ≡ value_in name items
  value_others [] = refl
  value_others (item ∷ items) = by (value_others items) (bytes_eq (out-Item item).name (codes "flag")) refl
    where
      by : value_in name (others_in items) ≡ value_in name items → (b : Bool) → bytes_eq (out-Item item).name (codes "flag") ≡ b → value_in name (others_in (item ∷ items)) ≡ value_in name (item ∷ items)
      by rest true is =
          ap (value_in name) (without_flag item items is) ∙ rest
          ∙ sym (ap (λ (b : Bool). if b then first (out-Item item).values else value_in name items) (named_so item is))
      by rest false is =
          ap (value_in name) (with_other item items is)
          ∙ ap (λ (v : Option Value). if bytes_eq (out-Item item).name name then first (out-Item item).values else v) rest

-- a field's faults depend on earlier fields by its own name alone
known_so : (inner : Message → Tree → List Fault) (earlier others : List Item) (item : Item) (known : Option Field) → stands (out-Item item).name earlier ≡ stands (out-Item item).name others → known_faults inner earlier item known ≡ known_faults inner others item known
known_so inner earlier others item None same = refl
known_so inner earlier others item (Some field) same = ap known_by same
  where
    known_by : Bool → List Fault
    known_by s =
        (if is_once field.often && ((out-Item item).listed || s) then ((out-Item item).place, what.TwiceGiven) ∷ [] else [])
        ++ ((if list_all (is_of field.form) (out-Item item).values then [] else ((out-Item item).place, what.BadScalar) ∷ [])
        ++ flat_map (inside inner field.form) (out-Item item).values)

-- and those of a repeated field don't
repeated_so : (inner : Message → Tree → List Fault) (of : Message) (name : List ℕ) (earlier others : List Item) (item : Item) → bytes_eq (out-Item item).name name ≡ true
    → known_faults inner earlier item (field_of of name) ≡ known_faults inner others item (field_of of name) → item_faults inner of earlier item ≡ item_faults inner of others item
repeated_so inner of name earlier others item is same =
    let named : (out-Item item).name ≡ name = (bytes_eq-Decides (out-Item item).name name).0 is in
    ap (λ n. known_faults inner earlier item (field_of of n)) named ∙ same ∙ sym (ap (λ n. known_faults inner others item (field_of of n)) named)

differ : (a b : List ℕ) → bytes_eq a b ≡ false → bytes_eq b a ≡ false
differ a b is = elim (bytes_eq b a) as (λ t. bytes_eq b a ≡ t → t ≡ false) [
  | true ↦ λ e. sym ((bytes_eq-Decides a b).1 (sym ((bytes_eq-Decides b a).0 e))) ∙ is
  | false ↦ λ e. refl
] refl

pub item_others : (inner : Message → Tree → List Fault) (items : List Item) (item : Item) → item_faults inner message.FlagDeclarations (others_in items) item ≡ item_faults inner message.FlagDeclarations items item
item_others inner items item = by (bytes_eq (out-Item item).name (codes "flag")) refl
  where
    by : (b : Bool) → bytes_eq (out-Item item).name (codes "flag") ≡ b → item_faults inner message.FlagDeclarations (others_in items) item ≡ item_faults inner message.FlagDeclarations items item
    by true is = repeated_so inner message.FlagDeclarations (codes "flag") (others_in items) items item is refl
    by false is = known_so inner (others_in items) items item (field_of message.FlagDeclarations (out-Item item).name) (stands_others (out-Item item).name (differ (out-Item item).name (codes "flag") is) items)

-- the one field of a values file
abbrev value_field : Bool → Option Field
value_field is = if is then Some (record { often = Repeated; form = Inner message.FlagValue }) else None

pub item_values : (inner : Message → Tree → List Fault) (items : List Item) (item : Item) → item_faults inner message.FlagValues [] item ≡ item_faults inner message.FlagValues items item
item_values inner items item = by (bytes_eq (out-Item item).name (codes "flag_value")) refl
  where
    by : (b : Bool) → bytes_eq (out-Item item).name (codes "flag_value") ≡ b → item_faults inner message.FlagValues [] item ≡ item_faults inner message.FlagValues items item
    by true is = repeated_so inner message.FlagValues (codes "flag_value") [] items item is refl
    by false is = ap (λ (b : Bool). known_faults inner [] item (value_field b)) is ∙ sym (ap (λ (b : Bool). known_faults inner items item (value_field b)) is)

pub whole_others : (items : List Item) → is_whole message.FlagDeclarations (others_in items) ≡ is_whole message.FlagDeclarations items
whole_others items = ap (λ (s : Bool). s && true) (stands_others (codes "package") refl items)

-- ## Files

-- fields have been read in which the walk found no fault, and this was kept of them
pub record Declared (text : List ℕ) (rest : Rest) (others : List Item) (flags : List DeclaredFlag) : Type 0 where
  pub items : List Item
  pub read : HasRead text items rest
  pub sound : items_faults (walk 2) message.FlagDeclarations [] items ≡ []
  pub others_are : others ≡ others_in items
  pub flags_are : flags ≡ all_in flag_at (codes "flag") items

pub record ValuesRead (text : List ℕ) (rest : Rest) (values : List FlagValue) : Type 0 where
  pub items : List Item
  pub read : HasRead text items rest
  pub sound : items_faults (walk 2) message.FlagValues [] items ≡ []
  pub values_are : values ≡ all_in value_at (codes "flag_value") items

-- a fault of the text, told as one of the file
pub text_fails : (of : Message) (given : TextFault) (rest : Rest) (text : List ℕ) (items : List Item) → HasRead text items rest → IfTextAt given (Fails rest) → IfAt (fault_of_text given) (Refuses of text)
text_fails of (text_fault.At place cause) rest text items read fails = inl (record { of = cause; is = refl; first = fails text items read })
text_fails of text_fault.OutOfMemory rest text items read fails = tt

pub text_fails_at : (of : Message) (earlier : List Item) (field : Item) (given : TextFault) (rest : Rest) → IfTextAt given (Fails rest) → IfAt (fault_of_text given) (FailsAt of earlier field rest)
text_fails_at of earlier field (text_fault.At place cause) rest fails = λ text items read sound same. inl (record { of = cause; is = refl; first = fails text (items ++ field ∷ []) read })
text_fails_at of earlier field text_fault.OutOfMemory rest fails = tt

-- a fault of the walk at a field, where the text behind it can be read
pub walk_fails : (of : Message) (text : List ℕ) (rest : Rest) (items : List Item) (item : Item) (place : ℕ) (fault : DeclWhat) → HasRead text (items ++ item ∷ []) rest → IsReadable rest
    → items_faults (walk 2) of [] items ≡ [] → first (item_faults (walk 2) of items item) ≡ Some (place, fault) → Refuses of text place fault
walk_fails of text rest items item place fault read readable sound there =
    let more : (m : List Item) × Spells text (tree ((items ++ item ∷ []) ++ m) (length text)) = readable text (items ++ item ∷ []) read in
    let all = (items ++ item ∷ []) ++ more.0 in
    inr (record {
      tree = tree all (length text);
      spells = more.1;
      first = ap first (whole_walk of all (length text)) ∙ first_some (items_faults (walk 2) of [] all) (missing of all (length text)) (place, fault) (faulty_there (walk 2) of items more.0 item (place, fault) sound there);
    })

pub walk_fails_at : (of : Message) (earlier : List Item) (field : Item) (rest : Rest) (place : ℕ) (fault : DeclWhat) → Some (place, fault) ≡ first (item_faults (walk 2) of earlier field) → IsReadable rest → FailsAt of earlier field rest place fault
walk_fails_at of earlier field rest place fault there readable = λ text items read sound same. walk_fails of text rest items field place fault read readable sound (ap first same ∙ sym there)

module _ (text : List ℕ) (rest next : Rest) (item : Item) (reads : Reads rest item next) where
  module _ (others : List Item) (flags : List DeclaredFlag) (d : Declared text rest others flags) where
    same_faults : item_faults (walk 2) message.FlagDeclarations d.items item ≡ item_faults (walk 2) message.FlagDeclarations others item
    same_faults = sym (item_others (walk 2) d.items item) ∙ ap (λ o. item_faults (walk 2) message.FlagDeclarations o item) (sym d.others_are)

    pub declared_more : (more_others : List Item) (more_flags : List DeclaredFlag) → first (item_faults (walk 2) message.FlagDeclarations others item) ≡ None
        → more_others ≡ others ++ others_in (item ∷ []) → more_flags ≡ flags ++ all_in flag_at (codes "flag") (item ∷ []) → Declared text next more_others more_flags
    declared_more more_others more_flags none others_more flags_more = record {
      items = d.items ++ item ∷ [];
      read = reads text d.items d.read;
      sound = still_sound (walk 2) message.FlagDeclarations d.items item d.sound (ap first same_faults ∙ none);
      others_are = others_more ∙ ap (λ o. o ++ others_in (item ∷ [])) d.others_are ∙ sym (flat_map-append _ d.items (item ∷ []));
      flags_are = flags_more ∙ ap (λ f. f ++ all_in flag_at (codes "flag") (item ∷ [])) d.flags_are ∙ sym (flat_map-append _ d.items (item ∷ []));
    }

    pub declared_fails : (given : DeclFault) → IfAt given (FailsAt message.FlagDeclarations others item next) → IfAt given (Refuses message.FlagDeclarations text)
    declared_fails (At place fault) fails = fails text d.items (reads text d.items d.read) d.sound same_faults
    declared_fails OutOfMemory fails = tt

  module _ (values : List FlagValue) (d : ValuesRead text rest values) where
    pub values_more : (more_values : List FlagValue) → first (item_faults (walk 2) message.FlagValues [] item) ≡ None
        → more_values ≡ values ++ all_in value_at (codes "flag_value") (item ∷ []) → ValuesRead text next more_values
    values_more more_values none more = record {
      items = d.items ++ item ∷ [];
      read = reads text d.items d.read;
      sound = still_sound (walk 2) message.FlagValues d.items item d.sound (ap first (sym (item_values (walk 2) d.items item)) ∙ none);
      values_are = more ∙ ap (λ v. v ++ all_in value_at (codes "flag_value") (item ∷ [])) d.values_are ∙ sym (flat_map-append _ d.items (item ∷ []));
    }

    pub values_fail : (given : DeclFault) → IfAt given (FailsAt message.FlagValues [] item next) → IfAt given (Refuses message.FlagValues text)
    values_fail (At place fault) fails = fails text d.items (reads text d.items d.read) d.sound (sym (item_values (walk 2) d.items item))
    values_fail OutOfMemory fails = tt

-- at the end a field is missing
pub declared_lacks : (text : List ℕ) (rest : Rest) (others : List Item) (flags : List DeclaredFlag) → Declared text rest others flags → IsAll rest → is_whole message.FlagDeclarations others ≡ false → Refuses message.FlagDeclarations text (length text) MissingField
declared_lacks text rest others flags d all lacks =
    let lacking : is_whole message.FlagDeclarations d.items ≡ false = sym (whole_others d.items) ∙ ap (is_whole message.FlagDeclarations) (sym d.others_are) ∙ lacks in
    inr (record {
      tree = tree d.items (length text);
      spells = all text d.items d.read;
      first = ap first (whole_walk message.FlagDeclarations d.items (length text) ∙ ap (λ l. l ++ missing message.FlagDeclarations d.items (length text)) d.sound ∙ ap (λ (b : Bool). if b then [] else (length text, MissingField) ∷ []) lacking);
    })

-- or none is
pub declared_all : (source text : List ℕ) (rest : Rest) (others : List Item) (flags : List DeclaredFlag) (file : DeclarationsFile) → Declared text rest others flags → IsAll rest → is_whole message.FlagDeclarations others ≡ true
    → file ≡ declared_by source others flags (length text) → Declares source text file
declared_all source text rest others flags file d all whole is =
    let complete : is_whole message.FlagDeclarations d.items ≡ true = sym (whole_others d.items) ∙ ap (is_whole message.FlagDeclarations) (sym d.others_are) ∙ whole in (
      tree d.items (length text),
      record {
        spells = all text d.items d.read;
        whole = whole_walk message.FlagDeclarations d.items (length text) ∙ ap (λ l. l ++ missing message.FlagDeclarations d.items (length text)) d.sound ∙ ap (λ (b : Bool). if b then [] else (length text, MissingField) ∷ []) complete;
      },
      is ∙ ap (λ o. declared_by source o flags (length text)) d.others_are ∙ ap (λ f. declared_by source (others_in d.items) f (length text)) d.flags_are ∙ same_file source d.items (all_in flag_at (codes "flag") d.items) (length text)
          ∙ sym (ap (λ (t : Tree-F Value Item Tree). declared_by source t.items (all_in flag_at (codes "flag") t.items) t.end) (out_tree d.items (length text))),
    )
  where
    same_file : (source : List ℕ) (items : List Item) (flags : List DeclaredFlag) (end : ℕ) → declared_by source (others_in items) flags end ≡ declared_by source items flags end
    same_file source items flags end = λ i. record {
      source = source;
      «package» = unwrap_or (option_and_then placed (value_others (codes "package") refl items i)) (record { place = 0; text = [] });
      container = option_and_then placed (value_others (codes "container") refl items i);
      flags = flags;
      end = end;
    }

pub values_all : (source text : List ℕ) (rest : Rest) (values : List FlagValue) (file : ValuesFile) → ValuesRead text rest values → IsAll rest → file ≡ record { source = source; values = values } → Sets source text file
values_all source text rest values file d all is = (
  tree d.items (length text),
  record { spells = all text d.items d.read; whole = whole_walk message.FlagValues d.items (length text) ∙ ap (λ l. l ++ missing message.FlagValues d.items (length text)) d.sound },
  is ∙ ap (λ v. record { source = source; values = v }) d.values_are
      ∙ sym (ap (λ (t : Tree-F Value Item Tree). record { source = source; values = all_in value_at (codes "flag_value") t.items }) (out_tree d.items (length text))),
)

-- whether a file is whole is told by a slice of the fields that were kept
pub whole_of : {others items : List Item} {told answer : Bool} → items ≡ others → told ≡ is_whole message.FlagDeclarations items → told ≡ answer → is_whole message.FlagDeclarations others ≡ answer
whole_of same tells is = ap (is_whole message.FlagDeclarations) (sym same) ∙ sym tells ∙ is
