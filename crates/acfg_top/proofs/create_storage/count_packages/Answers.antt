use Rattle.std.proofs.Common.{◌≡◌, true, List, ◌∷◌, ◌+◌, drop, length, map, sym, ap, ◌∙◌, arith}
use Rattle.std.proofs.lemmas.List.{drop_more}
use Rattle.std.specs.Borrow.{Bor}
use Rattle.acfg_decls.specs.declared.flags.Flag.{Flag}
use Rattle.acfg_cache.specs.Merging.{lent}
use Rattle.acfg_images.specs.Build.{compiled_flag}
use Rattle.acfg_images.specs.Image.{Compiled, package_names}
use Rattle.acfg_top.proofs.Packages.{counted_again, counted_on, has, none_seen, seen_added, seen_last}
use Rattle.acfg_top.proofs.create_storage.count_packages.Goals as goal

pub loop-flag-init : goal.loop-flag-init
loop-flag-init c = record {
  counted = omega (arith, c.new-names.ensures.len, ap length (none_seen c.new-names.result c.new-names.ensures.empty (package_names (map compiled_flag (lent c.args.flags.now)))));
  seen = tt;
}

pub loop-flag-preserved-then-is_last : goal.loop-flag-preserved-then-is_last
loop-flag-preserved-then-is_last c =
    let texts = λ (flags : List (Bor Flag)). map (λ (flag : Compiled). flag.package) (map compiled_flag (lent flags)) in
    let flags = c.args.flags.now in
    let i = c.loop-flag.flag-index in
    let left = texts (drop (i + 1) flags) in
    let shows : texts (drop i flags) ≡ c.as_str-name.result.now ∷ left =
    ap texts (drop_more flags i c.flag-item.result c.loop-flag-test.true) ∙ ap (λ text. text ∷ left) (sym (c.as_str-name.ensures.text ∙ ap (λ (flag : Bor Flag). flag.now.package) c.flag-item.is)) in
    let seen : has c.loop-flag.names c.as_str-name.result.now ≡ true =
    seen_last c.loop-flag.names c.loop-flag.last c.as_str-name.result.now (sym c.is_last.ensures ∙ c.if-is_last.true) c.loop-flag.invariant.seen in
    record {
      counted = counted_again c.loop-flag.names c.as_str-name.result.now (length c.loop-flag.names.keys) (length (package_names (map compiled_flag (lent flags)))) (texts (drop i flags)) left seen shows c.loop-flag.invariant.counted;
      seen = c.loop-flag.invariant.seen;
    }

pub loop-flag-preserved : goal.loop-flag-preserved
loop-flag-preserved c =
    let texts = λ (flags : List (Bor Flag)). map (λ (flag : Compiled). flag.package) (map compiled_flag (lent flags)) in
    let flags = c.args.flags.now in
    let i = c.loop-flag.flag-index in
    let left = texts (drop (i + 1) flags) in
    let shows : texts (drop i flags) ≡ c.as_str-name.result.now ∷ left =
    ap texts (drop_more flags i c.flag-item.result c.loop-flag-test.true) ∙ ap (λ text. text ∷ left) (sym (c.as_str-name.ensures.text ∙ ap (λ (flag : Bor Flag). flag.now.package) c.flag-item.is)) in
    record {
      counted = counted_on c.loop-flag.names c.insert.new.self c.as_str-name.result c.in_ok-insert.field-0 (length c.loop-flag.names.keys) (length c.insert.new.self.keys) (length (package_names (map compiled_flag (lent flags)))) (texts (drop i flags)) left
          c.in_ok-insert.ensures.updates.0 c.in_ok-insert.ensures.added c.in_ok-insert.ensures.len shows c.loop-flag.invariant.counted;
      seen = seen_added c.loop-flag.names c.insert.new.self c.as_str-name.result c.in_ok-insert.ensures.updates.0;
    }
