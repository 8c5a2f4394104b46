use Rattle.std.proofs.Common.{◌≡◌, ℕ, List, length, sym, ap, ◌∙◌, subst}
use Rattle.std.proofs.lemmas.Result.{IfOk-weaker}
use Rattle.acfg_images.specs.declared.purpose.Use.TheVariants as purpose
use Rattle.acfg_images.specs.Faults.{parts_in}
use Rattle.acfg_images.specs.Restamp.{CanRestamp, restamped}
use Rattle.acfg_images.specs.Set.{IsSetOf, SetParts, listing}
use Rattle.acfg_images.proofs.Law.{same_as_set}
use Rattle.acfg_store.specs.Picked.{noted_byte, pick_byte}
use Rattle.acfg_store.specs.Stamped.{ArePut}
use Rattle.acfg_store.proofs.Picking.{can_copy, copy_is}
use Rattle.acfg_store.proofs.Writing.{all_within, as_many}
use Rattle.acfg_store.proofs.copying.copy_set.Goals as goal

pub table_of-requires-clause-within : goal.table_of-requires-clause-within
table_of-requires-clause-within c = all_within c.args.set.now c.requires.flags.0 c.args.rows.now c.args.indexes.now c.requires.flags.1 c.args.count c.requires.flags.2

pub table_of-requires-clause-each : goal.table_of-requires-clause-each
table_of-requires-clause-each c =
    as_many c.args.set.now c.requires.flags.0 c.args.rows.now c.args.indexes.now c.requires.flags.1 c.args.count c.requires.flags.2 pick_byte c.as_slice.result.now (c.as_slice.ensures.value ∙ c.in_ok-picks.ensures)

pub table_of-requires-2-clause-within : goal.table_of-requires-2-clause-within
table_of-requires-2-clause-within c = all_within c.args.set.now c.requires.flags.0 c.args.rows.now c.args.indexes.now c.requires.flags.1 c.args.count c.requires.flags.2

pub table_of-requires-2-clause-each : goal.table_of-requires-2-clause-each
table_of-requires-2-clause-each c =
    as_many c.args.set.now c.requires.flags.0 c.args.rows.now c.args.indexes.now c.requires.flags.1 c.args.count c.requires.flags.2 noted_byte c.as_slice-2.result.now (c.as_slice-2.ensures.value ∙ c.in_ok-notes.ensures)

pub restamp-requires : goal.restamp-requires
restamp-requires c =
    let parts : SetParts = c.requires.flags.0 in
    let are = c.requires.flags.1 in
    let opened = c.in_ok-checked.checked in
    let same : parts_in opened ≡ parts = same_as_set purpose.Release c.args.set.now parts are.is_set opened c.in_ok-checked.ensures in
    let indexes : List ℕ = c.args.indexes.now in
    let values : List ℕ = c.as_slice-3.result.now in
    let infos : List ℕ = c.as_slice-4.result.now in
    let puts_values : ArePut indexes c.as_slice.result.now (length indexes) values = subst (ArePut indexes c.as_slice.result.now (length indexes)) (sym c.as_slice-3.ensures.value) c.in_ok-values.ensures.put in
    let puts_infos : ArePut indexes c.as_slice-2.result.now (length indexes) infos = subst (ArePut indexes c.as_slice-2.result.now (length indexes)) (sym c.as_slice-4.ensures.value) c.in_ok-infos.ensures.put in
    let value_size : length values ≡ length (listing parts) = ap length c.as_slice-3.ensures.value ∙ c.in_ok-values.ensures.size ∙ c.requires.flags.2 in
    let info_size : length infos ≡ length (listing parts) = ap length c.as_slice-4.ensures.value ∙ c.in_ok-infos.ensures.size ∙ c.requires.flags.2 in
    subst (λ (p : SetParts). CanRestamp p values infos) (sym same)
    (can_copy c.args.set.now parts c.args.rows.now indexes are c.as_slice.result.now values c.as_slice-2.result.now infos (c.as_slice.ensures.value ∙ c.in_ok-picks.ensures) (c.as_slice-2.ensures.value ∙ c.in_ok-notes.ensures)
    puts_values puts_infos value_size info_size c.requires.writable)

pub returns : goal.returns
returns c =
    let first : SetParts = c.requires.flags.0 in
    let opened = c.in_ok-checked.checked in
    let indexes : List ℕ = c.args.indexes.now in
    let values : List ℕ = c.as_slice-3.result.now in
    let infos : List ℕ = c.as_slice-4.result.now in
    let puts_values : ArePut indexes c.as_slice.result.now (length indexes) values = subst (ArePut indexes c.as_slice.result.now (length indexes)) (sym c.as_slice-3.ensures.value) c.in_ok-values.ensures.put in
    let puts_infos : ArePut indexes c.as_slice-2.result.now (length indexes) infos = subst (ArePut indexes c.as_slice-2.result.now (length indexes)) (sym c.as_slice-4.ensures.value) c.in_ok-infos.ensures.put in
    let value_size : length values ≡ length (listing first) = ap length c.as_slice-3.ensures.value ∙ c.in_ok-values.ensures.size ∙ c.requires.flags.2 in
    let info_size : length infos ≡ length (listing first) = ap length c.as_slice-4.ensures.value ∙ c.in_ok-infos.ensures.size ∙ c.requires.flags.2 in
    let here : parts_in opened ≡ first = same_as_set purpose.Release c.args.set.now first c.requires.flags.1.is_set opened c.in_ok-checked.ensures in
    IfOk-weaker c.restamp.result _ _ (λ made set parts container are has.
    let same : parts_in opened ≡ parts = same_as_set purpose.Release c.args.set.now parts are.is_set opened c.in_ok-checked.ensures in
    let one : first ≡ parts = sym here ∙ same in
    copy_is c.args.set.now parts c.args.rows.now indexes are c.as_slice.result.now values c.as_slice-2.result.now infos (c.as_slice.ensures.value ∙ c.in_ok-picks.ensures) (c.as_slice-2.ensures.value ∙ c.in_ok-notes.ensures)
    puts_values puts_infos (subst (λ (p : SetParts). length values ≡ length (listing p)) one value_size) (subst (λ (p : SetParts). length infos ≡ length (listing p)) one info_size) container has made
    (subst (λ (p : SetParts). IsSetOf made purpose.Copy (restamped p values infos)) same set)) c.restamp.ensures.set
