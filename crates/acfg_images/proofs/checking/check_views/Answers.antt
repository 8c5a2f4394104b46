use Rattle.std.proofs.Common.{◌∙◌, length, sym, ap, inr, Ok, Option, arith}
use Rattle.std.proofs.Common.{map as mapped}
use Rattle.std.proofs.lemmas.Result.{err_from_is_err_and}
use Rattle.acfg_views.specs.Reading.{package_of, flag_of}
use Rattle.acfg_images.specs.declared.fault.ImageFault.{ImageFault}
use Rattle.acfg_images.specs.Files.{Files}
use Rattle.acfg_images.specs.Faults.{unless, Opened, checked}
use Rattle.acfg_images.specs.Views.{opened_of}
use Rattle.acfg_images.proofs.Stages.{opened_small, opened_same, goes_on, stops_packages, stops_flags, all_ends, either, behind_same}
use Rattle.acfg_images.proofs.checking.check_views.Goals as goal

pub overflow_cast-size : goal.overflow_cast-size
overflow_cast-size g c =
    let small = opened_small c.args.set.now (opened_of c.args.views) c.requires.opened in
    omega (arith, small, ap length c.package_map.ensures)

pub check_packages-requires-clause-size : goal.check_packages-requires-clause-size
check_packages-requires-clause-size g c =
    let same = opened_same c.args.set.now (opened_of c.args.views) c.requires.opened in
    ap length c.package_map.ensures ∙ ap (λ (f : Files). length f.package_map) (sym same)

pub returns-in_err-packages : goal.returns-in_err-packages
returns-in_err-packages g c =
    let p = err_from_is_err_and c.from_residual.result c.from_residual.ensures.1 in
    let go = goes_on c.args.purpose c.args.set.now (opened_of c.args.views) c.requires.opened in
    rw (p.1, p.2) (either (λ stop. go ∙ stops_packages c.args.purpose (opened_of c.args.views) c.in_err-packages.field-0.0 stop) c.in_err-packages.ensures.nodes)

pub overflow_cast-size-2 : goal.overflow_cast-size-2
overflow_cast-size-2 g c =
    let small = opened_small c.args.set.now (opened_of c.args.views) c.requires.opened in
    omega (arith, small, ap length c.flag_map.ensures)

pub check_flags-requires-clause-size : goal.check_flags-requires-clause-size
check_flags-requires-clause-size g c =
    let same = opened_same c.args.set.now (opened_of c.args.views) c.requires.opened in
    ap length c.flag_map.ensures ∙ ap (λ (f : Files). length f.flag_map) (sym same)

pub returns-in_err-flags : goal.returns-in_err-flags
returns-in_err-flags g c =
    let p = err_from_is_err_and c.from_residual-in_err-flags.result c.from_residual-in_err-flags.ensures.1 in
    let go = goes_on c.args.purpose c.args.set.now (opened_of c.args.views) c.requires.opened in
    rw (p.1, p.2) (either (λ stop. go ∙ stops_flags c.args.purpose (opened_of c.args.views) (mapped package_of c.in_ok-packages.packages.nodes.items) c.in_err-flags.field-0.0 c.in_ok-packages.ensures.nodes stop) c.in_err-flags.ensures.nodes)

pub find_behind_maps-requires-clause-packages : goal.find_behind_maps-requires-clause-packages
find_behind_maps-requires-clause-packages g c = let e = ap length c.deref.ensures.value in omega (arith, e, c.in_ok-packages.ensures.few)

pub find_behind_maps-requires-clause-flags : goal.find_behind_maps-requires-clause-flags
find_behind_maps-requires-clause-flags g c = ap length c.deref-2.ensures.value ∙ c.in_ok-flags.ensures.count

pub find_behind_maps-requires-clause-few : goal.find_behind_maps-requires-clause-few
find_behind_maps-requires-clause-few g c = let e = ap length c.deref-2.ensures.value in omega (arith, e, c.in_ok-flags.ensures.few)

pub returns-in-Some : goal.returns-in-Some
returns-in-Some g c =
    let opened = opened_of c.args.views in
    let packages = mapped package_of c.in_ok-packages.packages.nodes.items in
    let flags = mapped flag_of c.in_ok-flags.flags.nodes.items in
    let is = behind_same c.args.purpose opened _ _ _ _ c.deref.ensures.value c.deref-2.ensures.value c.in_ok-fault.ensures in
    inr (goes_on c.args.purpose c.args.set.now (opened_of c.args.views) c.requires.opened ∙ all_ends c.args.purpose opened packages flags c.in_ok-fault.field-0 c.in_ok-packages.ensures.nodes c.in_ok-flags.ensures.nodes is ∙ ap (λ (o : Option ImageFault). unless o (Ok opened)) c.in-Some.is)

pub new-requires-clause-faultless : goal.new-requires-clause-faultless
new-requires-clause-faultless g c =
    let opened = opened_of c.args.views in
    let packages = mapped package_of c.in_ok-packages.packages.nodes.items in
    let flags = mapped flag_of c.in_ok-flags.flags.nodes.items in
    let is = behind_same c.args.purpose opened _ _ _ _ c.deref.ensures.value c.deref-2.ensures.value c.in_ok-fault.ensures in
    let same = opened_same c.args.set.now opened c.requires.opened in
    (c.args.purpose, ap (checked c.args.purpose) same ∙ goes_on c.args.purpose c.args.set.now (opened_of c.args.views) c.requires.opened ∙ all_ends c.args.purpose opened packages flags c.in_ok-fault.field-0 c.in_ok-packages.ensures.nodes c.in_ok-flags.ensures.nodes is ∙ ap (λ (o : Option ImageFault). unless o (Ok opened)) c.in-None.is)

pub new-requires-clause-files : goal.new-requires-clause-files
new-requires-clause-files g c = sym (opened_same c.args.set.now (opened_of c.args.views) c.requires.opened)

pub returns : goal.returns
returns g c =
    let opened = opened_of c.args.views in
    let packages = mapped package_of c.in_ok-packages.packages.nodes.items in
    let flags = mapped flag_of c.in_ok-flags.flags.nodes.items in
    let is = behind_same c.args.purpose opened _ _ _ _ c.deref.ensures.value c.deref-2.ensures.value c.in_ok-fault.ensures in
    goes_on c.args.purpose c.args.set.now (opened_of c.args.views) c.requires.opened ∙ all_ends c.args.purpose opened packages flags c.in_ok-fault.field-0 c.in_ok-packages.ensures.nodes c.in_ok-flags.ensures.nodes is ∙ ap (λ (o : Option ImageFault). unless o (Ok opened)) c.in-None.is ∙ ap (λ (o : Opened). Ok o) (sym c.new.ensures)
