use Rattle.std.proofs.Common.{◌≡◌, rules}
use Rattle.acfg_base.specs.declared.releases.Kind.TheVariants.{ReadWrite}
use Rattle.acfg_base.specs.Release.{Key, key_of}
use Rattle.acfg_model.proofs.Carried.{carried-found, carried-gap}
use Rattle.acfg_model.proofs.containers.FlagState.carried.Goals as goal

pub returns-in-Ok : goal.returns-in-Ok
returns-in-Ok c =
    let kind : c.args.entry.kind ≡ ReadWrite = search rules in
    let key : Key = (c.as_str.result.now, c.as_str-then-eq.result.now) in
    let has : key ≡ key_of c.args.entry = λ i. (c.as_str.ensures.text i, c.as_str-then-eq.ensures.text i) in
    carried-found c.args.old.now c.args.entry kind key has c.requires c.in-Ok.at c.in-Ok.ensures c.index-old-at.result c.index-old-at.is

pub returns-in_default : goal.returns-in_default
returns-in_default c =
    let kind : c.args.entry.kind ≡ ReadWrite = search rules in
    let key : Key = (c.as_str.result.now, c.as_str-then-eq.result.now) in
    let has : key ≡ key_of c.args.entry = λ i. (c.as_str.ensures.text i, c.as_str-then-eq.ensures.text i) in
    carried-gap c.args.old.now c.args.entry kind key has c.in_default.field-0 c.in_default.ensures
