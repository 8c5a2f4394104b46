use Rattle.std.proofs.Common.{◌≡◌, subst, sym, ap, ◌∙◌, List, ℕ, Global}
use Rattle.std.specs.Prelude.{IfOk, Option, Some, Vec}
use Rattle.std.specs.Option.{option_map}
use Rattle.acfg_top.specs.Bodies.{IsOf}
use Rattle.acfg_top.specs.Flags.{FlagsGives}
use Rattle.acfg_top.specs.Outcome.{Outcome}
use Rattle.acfg_top.proofs.flags.read_flags.Goals as goal

-- the bytes that were read are those of the file
pub returns-in-Some-clause-told : goal.returns-in-Some-clause-told
returns-in-Some-clause-told g c = λ tells.
    let found : Some c.in-Some.bytes.items ≡ g.P.Panel.files c.args.panel.now c.args.file.now = sym (ap (option_map (λ (bytes : Vec ℕ Global). bytes.items)) c.in-Some.is) ∙ c.in_ok-read.ensures.found tells in
    let same : Some c.deref.result.now ≡ g.P.Panel.files c.args.panel.now c.args.file.now = ap Some c.deref.ensures.value ∙ found in
    subst (λ (file : Option (List ℕ)). IfOk c.listed.result (λ told. (outcome : Outcome) × FlagsGives c.args.file.now file outcome × IsOf outcome told)) same c.listed.ensures.told
