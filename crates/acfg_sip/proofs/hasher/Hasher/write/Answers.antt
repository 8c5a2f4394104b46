use Rattle.std.proofs.Common.{◌≡◌, ◌<◌, ◌≤◌, ◌++◌, ℕ, length, take, get_or, append_assoc, ap, ◌∙◌, subst, arith, lit<}
use Rattle.std.proofs.lemmas.List.{take-append-drop, length-take-le}
use Rattle.std.specs.Int.{w64, from_le_bytes}
use Rattle.acfg_sip.specs.Hasher.{Holds}
use Rattle.acfg_sip.specs.Word.{IsWordOf}
use Rattle.acfg_sip.proofs.Holding.{bounded_front, bounded_back, word_below}
use Rattle.acfg_sip.proofs.hasher.Hasher.write.Goals as goal

pub loop-group-preserved : goal.loop-group-preserved
loop-group-preserved g c =
    let rest = c.loop-group.rest.now in
    let kept = c.loop-group.invariant in
    let cut = c.in-Some.ensures.cases in
    let whole : 8 ≤ length rest = omega (arith, cut.2) in
    let bounded : (place : ℕ) → get_or c.args.bytes.now place 0 < 256 = λ place. omega (arith, c.type_inv.bytes place) in
    let joined : (kept.0 ++ take 8 rest) ++ c.in-Some.behind.now ≡ c.args.bytes.now =
    append_assoc kept.0 (take 8 rest) c.in-Some.behind.now ∙ ap (λ behind. kept.0 ++ (take 8 rest ++ behind)) cut.1
    ∙ ap (λ bytes. kept.0 ++ bytes) (take-append-drop 8 rest) ∙ kept.1 in
    let is : IsWordOf (take 8 rest) 8 c.from_le_bytes.result = record {
      long = length-take-le 8 rest whole;
      bounded = bounded_front 8 rest (bounded_back kept.0 rest c.args.bytes.now kept.1 bounded);
      value = c.from_le_bytes.ensures ∙ ap (from_le_bytes w64) cut.0;
    } in (
      kept.0 ++ take 8 rest,
      joined,
      λ start m held.
          subst (λ bytes. Holds {c = g.row.C} {d = g.row.D} start c.merge.new.self bytes) (append_assoc m kept.0 (take 8 rest))
          (c.merge.ensures (take 8 rest) is start (m ++ kept.0) (kept.2 start m held)),
    )

pub merge-requires-2 : goal.merge-requires-2
merge-requires-2 g c =
    let short : length c.loop-group.rest.now < 8 = c.in_default.ensures.cases in
    (lit< tt, (omega arith, word_below c.loop-group.rest.now (length c.loop-group.rest.now) c.partial_word.result (omega arith) c.partial_word.ensures))

pub returns : goal.returns
returns g c = λ start m held.
    let kept = c.loop-group.invariant in
    let rest = c.loop-group.rest.now in
    subst (λ bytes. Holds {c = g.row.C} {d = g.row.D} start c.merge-2.new.self bytes) (append_assoc m kept.0 rest ∙ ap (λ bytes. m ++ bytes) kept.1)
    (c.merge-2.ensures rest c.partial_word.ensures start (m ++ kept.0) (kept.2 start m held))
