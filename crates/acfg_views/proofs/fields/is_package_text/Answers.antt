use Rattle.std.proofs.lemmas.Bool.Decides.{same_from_decides}
use Rattle.acfg_views.proofs.NameFacts.{is_package-decides}
use Rattle.acfg_views.proofs.fields.is_package_text.Goals as goal

pub returns : goal.returns
returns c = same_from_decides _ _ c.is_package.ensures (is_package-decides c.args.text.now)
