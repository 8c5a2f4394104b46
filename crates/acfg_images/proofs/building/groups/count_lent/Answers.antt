use Rattle.std.proofs.Common.{arith, map}
use Rattle.std.proofs.lemmas.List.{length-map}
use Rattle.acfg_decls.specs.declared.flags.Flag.{Flag}
use Rattle.std.specs.Borrow.{Bor}
use Rattle.acfg_images.specs.Build.{compiled_flag}
use Rattle.acfg_images.proofs.building.groups.count_lent.Goals as goal

pub returns : goal.returns
returns c = omega (arith, length-map c.args.flags.now (λ flag. flag.now), length-map (map (λ (flag : Bor Flag). flag.now) c.args.flags.now) compiled_flag)
