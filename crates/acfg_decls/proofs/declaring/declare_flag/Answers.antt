use Rattle.std.proofs.Common.{◌≡◌, [], ◌∷◌, ◌++◌, length, Some, refl, sym, ap, subst, ◌∙◌, inl, inr, arith}
use Rattle.std.proofs.lemmas.List.{map-append, length-map}
use Rattle.std.proofs.lemmas.List.Elements.{All-push}
use Rattle.acfg_decls.specs.declared.faults.DeclWhat.TheVariants.{Declared, TooMany}
use Rattle.acfg_decls.specs.Compile.{New, Room, own_tests}
use Rattle.acfg_decls.specs.Flags.{IsLawful}
use Rattle.acfg_decls.specs.Places.{Finds, names}
use Rattle.acfg_decls.proofs.Tested.{fails_behind, holds_append}
use Rattle.std.specs.Prelude.{All, Contains}
use Rattle.std.specs.HashMap.{Updates}
use Rattle.acfg_decls.proofs.Named.{text_eq, had, lacked, unknown, finds_next}
use Rattle.acfg_decls.proofs.declaring.declare_flag.Goals as goal

pub returns-then-is_some-clause-err : goal.returns-then-is_some-clause-err
returns-then-is_some-clause-err c =
    let before = names c.args.flags.now.items in
    let stood = had c.args.places.now before c.as_str.result.now c.in_ok-insert.field-0 c.requires c.in_ok-insert.ensures.old (sym c.is_some.ensures ∙ c.if-is_some.true) in
    fails_behind (own_tests c.args.flag.now) (New before c.args.flag.now ∷ Room before c.args.flag.now ∷ []) c.args.flag.now.place Declared c.in_ok-name.ensures.ok
    (inl ((λ new. new (subst (Contains before) c.as_str.ensures stood)), refl, refl))

pub returns-then-len-ge-MOST_FLAGS-clause-err : goal.returns-then-len-ge-MOST_FLAGS-clause-err
returns-then-len-ge-MOST_FLAGS-clause-err c =
    let before = names c.args.flags.now.items in
    let missed = lacked c.args.places.now c.as_str.result.now c.in_ok-insert.field-0 c.in_ok-insert.ensures.old (sym c.is_some.ensures ∙ c.if-is_some.false) in
    fails_behind (own_tests c.args.flag.now) (New before c.args.flag.now ∷ Room before c.args.flag.now ∷ []) c.args.flag.now.place TooMany c.in_ok-name.ensures.ok
    (inr ((λ stood. unknown _ _ _ c.requires missed (subst (Contains before) (sym c.as_str.ensures) stood)), inl ((λ room. omega (arith, length-map c.args.flags.now.items (λ flag. flag.name), c.len-2.ensures, c.if-len-ge-MOST_FLAGS.true)), refl, refl)))

pub returns-clause-finds : goal.returns-clause-finds
returns-clause-finds c =
    let before = names c.args.flags.now.items in
    let missed = lacked c.args.places.now c.as_str.result.now c.in_ok-insert.field-0 c.in_ok-insert.ensures.old (sym c.is_some.ensures ∙ c.if-is_some.false) in
    let count : c.len.result ≡ length before = omega (arith, c.len.ensures, length-map c.args.flags.now.items (λ flag. flag.name)) in
    let next = finds_next c.args.places.now c.insert.new.self before c.as_str.result c.requires missed (subst (λ n. Updates text_eq c.args.places.now c.insert.new.self c.as_str.result (Some n)) count c.in_ok-insert.ensures.updates) in
    let more : names c.push.new.self.items ≡ before ++ c.as_str.result.now ∷ [] =
    ap names c.in_ok-push.ensures.items ∙ map-append (λ flag. flag.name) c.args.flags.now.items _ ∙ ap (λ n. before ++ n ∷ []) (ap (λ flag. flag.name) c.in_ok-make_flag.ensures.flag ∙ sym c.as_str.ensures) in
    subst (Finds c.insert.new.self) (sym more) next

pub returns-clause-lawful : goal.returns-clause-lawful
returns-clause-lawful c = λ lawful. subst (All IsLawful) (sym c.in_ok-push.ensures.items) (All-push IsLawful c.args.flags.now.items c.in_ok-make_flag.field-0 lawful c.in_ok-make_flag.ensures.lawful)

pub returns-clause-passed : goal.returns-clause-passed
returns-clause-passed c =
    let before = names c.args.flags.now.items in
    let missed = lacked c.args.places.now c.as_str.result.now c.in_ok-insert.field-0 c.in_ok-insert.ensures.old (sym c.is_some.ensures ∙ c.if-is_some.false) in
    holds_append (own_tests c.args.flag.now) (New before c.args.flag.now ∷ Room before c.args.flag.now ∷ []) c.in_ok-name.ensures.ok
    ((λ stood. unknown _ _ _ c.requires missed (subst (Contains before) (sym c.as_str.ensures) stood)), (omega (arith, length-map c.args.flags.now.items (λ flag. flag.name), c.len-2.ensures, c.if-len-ge-MOST_FLAGS.false), tt))
