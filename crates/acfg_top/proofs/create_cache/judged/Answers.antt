use Rattle.acfg_decls.specs.Compile.{container_read}
use Rattle.acfg_top.specs.Bodies.{inputs_of}
use Rattle.acfg_top.specs.CreateCache.{InputsGive}
use Rattle.acfg_top.proofs.Looking.{product_halted}
use Rattle.acfg_top.proofs.create_cache.judged.Goals as goal

pub returns-in-Err-Refused-clause-told : goal.returns-in-Err-Refused-clause-told
returns-in-Err-Refused-clause-told c =
    let asked = c.args.asked in
    product_halted (InputsGive asked.package.now (container_read asked.container.now) asked.out.now (inputs_of c.args.inputs.now))
    c.in-Err-Refused.field-0 c.in-Err-Refused.told _ c.in-Err-Refused.field-0-is c.in-Err-Refused.told-is c.in-Err-Refused.ensures.err c.only_told.result c.only_told.ensures.of
