use Rattle.std.proofs.Common.{ℕ, List, ◌≡◌, ◌≤◌, length, map, ◌∙◌, subst, sym}
use Rattle.std.proofs.lemmas.Result.{IfOk-weaker}
use Rattle.acfg_store.specs.Stamped.{IsStamped, info_byte}
use Rattle.acfg_store.proofs.Writing.{all_within, as_many, infos_fit, infos_written}
use Rattle.acfg_store.proofs.stamping.write_infos.Goals as goal

pub stamp-requires-clause-count : goal.stamp-requires-clause-count
stamp-requires-clause-count c =
    subst (λ (file : List ℕ). c.args.count ≤ length file) (sym c.flag_info.ensures) (infos_fit c.args.set.now c.requires.0 c.args.rows.now c.args.indexes.now c.requires.1 c.args.count c.requires.2)

pub stamp-requires-clause-within : goal.stamp-requires-clause-within
stamp-requires-clause-within c = all_within c.args.set.now c.requires.0 c.args.rows.now c.args.indexes.now c.requires.1 c.args.count c.requires.2

pub stamp-requires-clause-each : goal.stamp-requires-clause-each
stamp-requires-clause-each c =
    let bytes : c.as_slice.result.now ≡ map info_byte c.args.rows.now = c.as_slice.ensures.value ∙ c.in_ok-bytes.ensures in
    as_many c.args.set.now c.requires.0 c.args.rows.now c.args.indexes.now c.requires.1 c.args.count c.requires.2 info_byte c.as_slice.result.now bytes

pub returns : goal.returns
returns c =
    let bytes : c.as_slice.result.now ≡ map info_byte c.args.rows.now = c.as_slice.ensures.value ∙ c.in_ok-bytes.ensures in
    IfOk-weaker c.stamp.result _ _ (λ made stamped parts are count_is.
    infos_written c.args.set.now parts c.args.rows.now c.args.indexes.now are c.args.count count_is c.as_slice.result.now made.items bytes
    (subst (λ (file : List ℕ). IsStamped file c.args.count c.args.indexes.now c.as_slice.result.now made.items) c.flag_info.ensures stamped)) c.stamp.ensures
