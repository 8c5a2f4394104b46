use Rattle.std.proofs.lemmas.Bool.Decides.{same_from_decides}
use Rattle.acfg_views.proofs.NameFacts.{is_container-decides}
use Rattle.acfg_views.proofs.fields.is_container_text.Goals as goal

pub returns : goal.returns
returns c = same_from_decides _ _ c.is_container.ensures (is_container-decides c.args.text.now)
