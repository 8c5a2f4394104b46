use Rattle.std.proofs.Common.{◌≡◌, [], ℕ, List, if◌then◌else◌, take, ap, ◌∙◌}
use Rattle.std.specs.List.{flat_map}
use Rattle.std.proofs.lemmas.List.{take_all}
use Rattle.acfg_decls.specs.declared.flags.Flag.{Flag}
use Rattle.acfg_dump.specs.Filter.{lets_through}
use Rattle.acfg_dump.specs.Lines.{line, lines}
use Rattle.acfg_dump.proofs.Joined.{flat_map_filter, flat_map_step}
use Rattle.acfg_dump.proofs.dumping.dump.Goals as goal

pub loop-flag-preserved : goal.loop-flag-preserved
loop-flag-preserved c =
    flat_map_step (λ flag. if lets_through c.args.filter.now flag then line c.args.template.now flag else [])
    c.list-flag-items.result.now c.loop-flag.flag-index c.flag-item.result c.loop-flag.text.items c.put_flag.new.text.items
    c.loop-flag-test.true c.flag-item.is c.loop-flag.invariant c.in_ok-put_flag.ensures

pub returns : goal.returns
returns c =
    let put : Flag → List ℕ = λ flag. if lets_through c.args.filter.now flag then line c.args.template.now flag else [] in
    c.loop-flag.invariant
    ∙ ap (flat_map put) (take_all c.loop-flag.flag-index c.list-flag-items.result.now c.loop-flag-test.false)
    ∙ flat_map_filter (line c.args.template.now) (lets_through c.args.filter.now) c.list-flag-items.result.now
    ∙ ap (lines c.args.template.now c.args.filter.now) c.list-flag-items.ensures.all
