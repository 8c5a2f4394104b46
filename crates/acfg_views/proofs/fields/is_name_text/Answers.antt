use Rattle.std.proofs.lemmas.Bool.Decides.{same_from_decides}
use Rattle.acfg_views.proofs.NameFacts.{is_name-decides}
use Rattle.acfg_views.proofs.fields.is_name_text.Goals as goal

pub returns : goal.returns
returns c = same_from_decides _ _ c.is_name.ensures (is_name-decides c.args.text.now)
