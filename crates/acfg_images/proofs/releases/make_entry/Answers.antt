use Rattle.std.proofs.Common.{◌≡◌, ℕ, List, [], ◌+◌, ◌<◌, Bool, Option, length, drop, get_or, eqb, sym, ap, ◌∙◌, arith}
use Rattle.std.specs.Prelude.{unwrap_or}
use Rattle.std.specs.Option.{option_map}
use Rattle.acfg_base.specs.declared.releases.Entry.{Entry}
use Rattle.acfg_base.specs.declared.releases.Kind.{Kind}
use Rattle.acfg_views.specs.Layout.{Package, flag_val_type}
use Rattle.acfg_views.proofs.FileFacts.{opened_list-header}
use Rattle.acfg_images.proofs.Law.{has_count}
use Rattle.acfg_images.proofs.Listed.{table_start, table_package, value_is}
use Rattle.acfg_images.proofs.releases.make_entry.Goals as goal

pub overflow_add-index : goal.overflow_add-index
overflow_add-index c =
    let opened = c.args.set.now in
    let known = c.requires.listable.known in
    let start = table_start opened c.args.table.now c.requires.table c.args.flag.package_id (omega (arith, known, c.requires.size)) c.package_in-node.result c.package_in-node.ensures in
    let ends = has_count flag_val_type opened.values.file opened.values c.are_open.ensures.values.opened in
    let header = opened_list-header flag_val_type opened.values.file opened.values c.are_open.ensures.values.bytes c.are_open.ensures.values.opened in
    let size = header.size in
    let index = c.requires.listable.index in
    omega (arith, start, ends, size, index, c.from.ensures)

entry_from : List ℕ → List ℕ → Kind → Bool → Entry
entry_from «package» flag kind value = record { «package» = «package»; flag = flag; kind = kind; value = value }

same : (p p' f f' : List ℕ) (kind : Kind) (v v' : Bool) → p ≡ p' → f ≡ f' → v ≡ v' → entry_from p f kind v ≡ entry_from p' f' kind v'
same p p' f f' kind v v' a b d = cc

pub returns : goal.returns
unfolding entry_from
returns c =
    let opened = c.args.set.now in
    let known = c.requires.listable.known in
    let within : c.args.flag.package_id < length c.args.table.now = omega (arith, known, c.requires.size) in
    let found = table_package opened c.args.table.now c.requires.table c.args.flag.package_id within c.package_in-node.result c.package_in-node.ensures in
    let start = table_start opened c.args.table.now c.requires.table c.args.flag.package_id within c.package_in-node.result c.package_in-node.ensures in
    same _ _ _ _ c.args.flag.kind _ _
    (c.in_ok-package_name.ensures ∙ sym (ap (λ (o : Option Package). unwrap_or (option_map (λ node. node.name) o) []) found))
    c.in_ok-flag_name.ensures
    (c.value_at.ensures ∙ value_is opened.values _ ∙ ap (λ (i : ℕ). eqb (get_or (drop opened.values.first_byte opened.values.file) i 0) 1) (ap (λ (n : ℕ). c.package_in-node.result.start + n) c.from.ensures ∙ ap (λ (n : ℕ). n + c.args.flag.index) (sym start)))
