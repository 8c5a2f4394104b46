use Rattle.std.proofs.Common.{◌-◌, length, drop, set, ap, ◌∙◌, arith}
use Rattle.std.proofs.lemmas.Result.{IfOk-weaker}
use Rattle.acfg_store.proofs.CopyRenewed.{can_restamp, copy_renewed, has_flag, index_below, infos_fit, values_fit}
use Rattle.acfg_store.proofs.renewing.renew_flag.Goals as goal

pub index_in-index-requires : goal.index_in-index-requires
index_in-index-requires c = has_flag c.args.set.now c.in_ok-checked.checked c.in_ok-checked.ensures c.args.key.now c.requires

pub with_byte-requires-clause-count : goal.with_byte-requires-clause-count
with_byte-requires-clause-count c =
    omega (arith, values_fit c.args.set.now c.in_ok-checked.checked c.in_ok-checked.ensures c.args.key.now c.requires, c.count-count.ensures.flags, ap length c.flag_val.ensures)

pub with_byte-requires-clause-within : goal.with_byte-requires-clause-within
with_byte-requires-clause-within c =
    omega (arith, index_below c.args.set.now c.in_ok-checked.checked c.in_ok-checked.ensures c.args.key.now c.requires c.index_in-index.result c.index_in-index.ensures, c.count-count.ensures.flags)

pub with_byte-requires-2-clause-count : goal.with_byte-requires-2-clause-count
with_byte-requires-2-clause-count c =
    omega (arith, infos_fit c.args.set.now c.in_ok-checked.checked c.in_ok-checked.ensures c.args.key.now c.requires, c.count-count.ensures.flags, ap length c.flag_info.ensures)

pub with_byte-requires-2-clause-within : goal.with_byte-requires-2-clause-within
with_byte-requires-2-clause-within c =
    omega (arith, index_below c.args.set.now c.in_ok-checked.checked c.in_ok-checked.ensures c.args.key.now c.requires c.index_in-index.result c.index_in-index.ensures, c.count-count.ensures.flags)

pub restamp-requires : goal.restamp-requires
restamp-requires c =
    can_restamp c.args.set.now c.in_ok-checked.checked c.in_ok-checked.ensures c.args.key.now c.requires c.index_in-index.result c.index_in-index.ensures c.args.row.now c.as_slice.result.now c.as_slice-2.result.now
    (c.as_slice.ensures.value ∙ c.in_ok-values.ensures
    ∙ (λ i. set (drop (length (c.flag_val.ensures i) - c.count-count.ensures.flags i) (c.flag_val.ensures i)) c.index_in-index.result (c.pick_byte.ensures i)))
    (c.as_slice-2.ensures.value ∙ c.in_ok-infos.ensures
    ∙ (λ i. set (drop (length (c.flag_info.ensures i) - c.count-count.ensures.flags i) (c.flag_info.ensures i)) c.index_in-index.result (c.renewed_byte.ensures i)))

pub returns : goal.returns
returns c =
    IfOk-weaker c.restamp.result _ _
    (copy_renewed c.args.set.now c.in_ok-checked.checked c.in_ok-checked.ensures c.args.key.now c.requires c.index_in-index.result c.index_in-index.ensures c.args.row.now c.as_slice.result.now c.as_slice-2.result.now
    (c.as_slice.ensures.value ∙ c.in_ok-values.ensures
    ∙ (λ i. set (drop (length (c.flag_val.ensures i) - c.count-count.ensures.flags i) (c.flag_val.ensures i)) c.index_in-index.result (c.pick_byte.ensures i)))
    (c.as_slice-2.ensures.value ∙ c.in_ok-infos.ensures
    ∙ (λ i. set (drop (length (c.flag_info.ensures i) - c.count-count.ensures.flags i) (c.flag_info.ensures i)) c.index_in-index.result (c.renewed_byte.ensures i)))) c.restamp.ensures.set
