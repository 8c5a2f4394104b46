use Rattle.std.proofs.Common.{arith}
use Rattle.acfg_views.proofs.Opened.{map_bytes}
use Rattle.acfg_views.proofs.map_file.open_map.Goals as goal

pub returns-clause-bytes : goal.returns-clause-bytes
returns-clause-bytes c = map_bytes c.args.file_type c.args.bytes.now c.read_map.result (λ i. omega (arith, c.type_inv.bytes i)) c.read_map.ensures
