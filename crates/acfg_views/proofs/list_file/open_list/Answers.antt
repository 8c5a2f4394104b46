use Rattle.std.proofs.Common.{arith}
use Rattle.acfg_views.proofs.Opened.{list_bytes}
use Rattle.acfg_views.proofs.list_file.open_list.Goals as goal

pub returns-clause-bytes : goal.returns-clause-bytes
returns-clause-bytes c = list_bytes c.args.file_type c.args.bytes.now c.read_list.result (λ i. omega (arith, c.type_inv.bytes i)) c.read_list.ensures
