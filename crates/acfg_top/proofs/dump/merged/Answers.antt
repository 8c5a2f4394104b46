use Rattle.std.proofs.Common.{codes, ◌++◌, map, string_bytes, true, [], refl, ap, subst}
use Rattle.acfg_cache.specs.Merging.{IfClash, IsFirstClash, IsMerged}
use Rattle.acfg_dump.specs.Lines.{lines}
use Rattle.acfg_top.specs.Caches.{Clashing}
use Rattle.acfg_top.specs.Dump.{Dumped}
use Rattle.acfg_top.specs.Outcome.{Done}
use Rattle.acfg_top.proofs.Answering.{told_last, told_refused}
use Rattle.acfg_top.proofs.dump.merged.Goals as goal

pub returns-in_ok-dump-in-Ok-clause-told : goal.returns-in_ok-dump-in-Ok-clause-told
returns-in_ok-dump-in-Ok-clause-told c =
    let names = map string_bytes c.args.files.now in
    let lists = c.args.lists.now in
    let template = c.args.template.now in
    let filter = c.args.filter.now in
    told_last (Clashing names lists true) (IsMerged lists true) (Dumped template filter) c.in-Ok.flags c.in-Ok.ensures.ok
    _ (Done (lines template filter c.in-Ok.flags) []) refl (record { ending = refl; text = c.in_ok-dump-in-Ok.ensures; nothing = refl })

pub returns-in_ok-refused-in-Err-Clash-clause-told : goal.returns-in_ok-refused-in-Err-Clash-clause-told
returns-in_ok-refused-in-Err-Clash-clause-told c =
    let names = map string_bytes c.args.files.now in
    let lists = c.args.lists.now in
    told_refused (Clashing names lists true) (IsMerged lists true) (Dumped c.args.template.now c.args.filter.now) c.name_at.result.now (codes "clash " ++ c.as_str.result.now)
    (record {
      list = c.in-Err-Clash.list;
      name = c.in-Err-Clash.name;
      first = subst (λ fault. IfClash fault (IsFirstClash lists true)) c.in-Err-Clash.field-0-is c.in-Err-Clash.ensures.err;
      is_file = c.name_at.ensures;
      is_clash = ap (λ name. codes "clash " ++ name) c.as_str.ensures;
    })
    _ c.in_ok-refused-in-Err-Clash.ensures
