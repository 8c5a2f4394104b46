use Rattle.acfg_views.specs.Fields.{number, string}
use Rattle.std.proofs.Common.{length}
use Rattle.acfg_store.proofs.Fronts.{behind_two}
use Rattle.acfg_store.proofs.fields.put_string.Goals as goal

pub returns : goal.returns
unfolding string
returns c = behind_two c.args.out.now.items (number 4 (length c.args.text.now)) c.args.text.now _ _ c.in_ok-put_u32.ensures c.in_ok-put_bytes.ensures
