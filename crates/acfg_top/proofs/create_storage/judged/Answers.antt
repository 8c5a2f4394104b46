use Rattle.acfg_top.specs.Bodies.{inputs_of}
use Rattle.acfg_top.specs.CreateStorage.{StoredGives}
use Rattle.acfg_top.proofs.Answering.{made_product}
use Rattle.acfg_top.proofs.Looking.{product_halted}
use Rattle.acfg_top.proofs.create_storage.judged.Goals as goal

pub returns-in-Ok-clause-told : goal.returns-in-Ok-clause-told
returns-in-Ok-clause-told c =
    made_product (StoredGives c.args.container.now c.args.dir.now (inputs_of c.args.inputs.now)) c.in-Ok.output c.in-Ok.ensures.ok

pub returns-in-Err-Refused-clause-told : goal.returns-in-Err-Refused-clause-told
returns-in-Err-Refused-clause-told c =
    product_halted (StoredGives c.args.container.now c.args.dir.now (inputs_of c.args.inputs.now))
    c.in-Err-Refused.field-0 c.in-Err-Refused.told _ c.in-Err-Refused.field-0-is c.in-Err-Refused.told-is c.in-Err-Refused.ensures.err c.only_told.result c.only_told.ensures.of
