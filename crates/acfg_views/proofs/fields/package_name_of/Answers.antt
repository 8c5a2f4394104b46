use Rattle.std.proofs.Common.{◌≡◌, true, rules}
use Rattle.acfg_views.specs.Tests.{is_package}
use Rattle.acfg_views.proofs.NameFacts.{is_package-decides, AreNames-ascii}
use Rattle.acfg_views.proofs.fields.package_name_of.Goals as goal

pub ascii_text-requires : goal.ascii_text-requires
ascii_text-requires c =
    let text = c.in_ok-text.text.now in
    let lawful : is_package text ≡ true = search rules in
    AreNames-ascii text ((is_package-decides text).0 lawful).names
