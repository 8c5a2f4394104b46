use Rattle.std.proofs.Common.{codes, ◌++◌, false, ap, subst}
use Rattle.acfg_cache.specs.Merging.{IfClash, IsFirstClash}
use Rattle.acfg_top.proofs.create_storage.merged.Goals as goal

pub returns-in_ok-refused-in-Err-Clash-clause-err : goal.returns-in_ok-refused-in-Err-Clash-clause-err
returns-in_ok-refused-in-Err-Clash-clause-err c =
    let lists = c.args.lists.now in (
      c.input_name_at.result.now,
      codes "clash " ++ c.as_str.result.now,
      record {
        list = c.in-Err-Clash.list;
        name = c.in-Err-Clash.name;
        first = subst (λ fault. IfClash fault (IsFirstClash lists false)) c.in-Err-Clash.field-0-is c.in-Err-Clash.ensures.err;
        is_file = c.input_name_at.ensures;
        is_clash = ap (λ name. codes "clash " ++ name) c.as_str.ensures;
      },
      c.in_ok-refused-in-Err-Clash.ensures,
    )
