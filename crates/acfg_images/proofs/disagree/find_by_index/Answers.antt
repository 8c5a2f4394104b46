use Rattle.std.proofs.Common.{◌≡◌, ◌∙◌, None, ap, sym, ℕ, List, length, arith}
use Rattle.std.proofs.Common.{map as mapped}
use Rattle.std.proofs.Math.ListN.{length-map}
use Rattle.acfg_views.specs.Reading.{package_of, flag_of}
use Rattle.acfg_images.specs.Code.{table_index}
use Rattle.acfg_images.specs.Faults.{stray_id}
use Rattle.acfg_images.proofs.Tables.{indexed_first, indexed_result}
use Rattle.acfg_images.proofs.disagree.find_by_index.Goals as goal

pub find_index-requires-clause-few : goal.find_index-requires-clause-few
find_index-requires-clause-few c =
    let size = ap length (c.deref-2.ensures.value ∙ c.in_ok-indexes.ensures) ∙ length-map (mapped flag_of c.args.flags.now) _ ∙ length-map c.args.flags.now flag_of in
    omega (arith, size, c.requires.few)

pub returns-in-Some : goal.returns-in-Some
returns-in-Some c =
    let starts = c.in_ok-starts.starts.items in
    let flags = mapped flag_of c.args.flags.now in
    let known : stray_id (length starts) flags ≡ None = ap (λ (n : ℕ). stray_id n flags) c.in_ok-starts.ensures.size ∙ c.requires.known in
    let indexes = c.deref-2.ensures.value ∙ c.in_ok-indexes.ensures ∙ ap (λ (s : List ℕ). mapped (table_index s) flags) c.deref.ensures.value in
    indexed_first c.args.infos.now starts c.deref-2.result.now (mapped package_of c.args.packages.now) flags c.in_ok-fault.field-0 c.in-Some.fault c.in_ok-starts.ensures.starts known indexes c.in_ok-fault.ensures c.in-Some.is

pub returns-in-None : goal.returns-in-None
returns-in-None c =
    let starts = c.in_ok-starts.starts.items in
    let flags = mapped flag_of c.args.flags.now in
    let known : stray_id (length starts) flags ≡ None = ap (λ (n : ℕ). stray_id n flags) c.in_ok-starts.ensures.size ∙ c.requires.known in
    let indexes = c.deref-2.ensures.value ∙ c.in_ok-indexes.ensures ∙ ap (λ (s : List ℕ). mapped (table_index s) flags) c.deref.ensures.value in
    let count = c.requires.count ∙ sym (length-map c.args.flags.now flag_of) in
    indexed_result c.args.infos.now starts c.deref-in-None.result.now c.deref-2.result.now (mapped package_of c.args.packages.now) flags c.in_ok-fault.field-0 c.find_kind.result c.in_ok-starts.ensures.starts known count indexes c.in_ok-fault.ensures c.in-None.is c.deref-in-None.ensures.value c.find_kind.ensures
