use Rattle.std.proofs.Common.{◌≡◌, true, rules}
use Rattle.acfg_views.specs.Tests.{is_container}
use Rattle.acfg_views.proofs.NameFacts.{is_container-decides, AreNames-ascii}
use Rattle.acfg_views.proofs.fields.container_of.Goals as goal

pub ascii_text-requires : goal.ascii_text-requires
ascii_text-requires c =
    let text = c.in_ok-text.text.now in
    let lawful : is_container text ≡ true = search rules in
    AreNames-ascii text ((is_container-decides text).0 lawful).names
