use Rattle.std.proofs.lemmas.Str.{IsUtf8-from_ascii}
use Rattle.acfg_views.proofs.NameFacts.{AreNames-ascii}
use Rattle.acfg_store.proofs.fields.name_of.Goals as goal

pub returns-in-Err : goal.returns-in-Err
returns-in-Err c = λ lawful. absurd (c.in-Err.ensures.cases.0 (IsUtf8-from_ascii _ (AreNames-ascii c.args.bytes.now lawful.names)))
