use Rattle.std.proofs.Common.{◌≡◌, true, rules}
use Rattle.acfg_views.specs.Tests.{is_name}
use Rattle.acfg_views.proofs.NameFacts.{is_name-decides, AreNames-ascii}
use Rattle.acfg_views.proofs.fields.flag_name_of.Goals as goal

pub ascii_text-requires : goal.ascii_text-requires
ascii_text-requires c =
    let text = c.in_ok-text.text.now in
    let lawful : is_name text ≡ true = search rules in
    AreNames-ascii text ((is_name-decides text).0 lawful).names
