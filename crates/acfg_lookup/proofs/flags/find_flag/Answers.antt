use Rattle.std.proofs.Common.{◌+◌, ap, ◌∙◌, arith}
use Rattle.acfg_views.specs.Reading.{flag_of}
use Rattle.acfg_lookup.proofs.Listing.{no_package, no_flag, room, value_room, info_room, all_told}
use Rattle.acfg_lookup.proofs.flags.find_flag.Goals as goal

pub returns-in_err-package-clause-found : goal.returns-in_err-package-clause-found
returns-in_err-package-clause-found g c =
    c.from_residual.ensures ∙ no_package c.args.set.now c.known.ensures.no_fault c.args.package.now c.args.flag.now c.in_err-package.ensures.found

pub returns-in_err-node-clause-found : goal.returns-in_err-node-clause-found
returns-in_err-node-clause-found g c =
    c.from_residual-in_err-node.ensures
    ∙ no_flag c.args.set.now c.known.ensures.no_fault c.args.package.now c.args.flag.now c.in_ok-package.package c.in_ok-package.ensures.found c.in_err-node.ensures.found

pub overflow_add-index : goal.overflow_add-index
overflow_add-index g c =
    let less = room c.args.set.now c.known.ensures.no_fault c.args.package.now c.args.flag.now c.in_ok-package.package c.in_ok-package.ensures.found (flag_of c.in_ok-node.node) c.in_ok-node.ensures.found
    (c.in_ok-package.package.start + c.from.result) (ap (λ n. c.in_ok-package.package.start + n) c.from.ensures) in
    omega (arith, less, c.known.ensures.few)

pub value_at-requires : goal.value_at-requires
value_at-requires g c =
    value_room c.args.set.now c.known.ensures.no_fault c.args.package.now c.args.flag.now c.in_ok-package.package c.in_ok-package.ensures.found (flag_of c.in_ok-node.node) c.in_ok-node.ensures.found
    (c.in_ok-package.package.start + c.from.result) (ap (λ n. c.in_ok-package.package.start + n) c.from.ensures)

pub bits_at-requires : goal.bits_at-requires
bits_at-requires g c =
    info_room c.args.set.now c.known.ensures.no_fault c.args.package.now c.args.flag.now c.in_ok-package.package c.in_ok-package.ensures.found (flag_of c.in_ok-node.node) c.in_ok-node.ensures.found
    (c.in_ok-package.package.start + c.from.result) (ap (λ n. c.in_ok-package.package.start + n) c.from.ensures)

pub returns-clause-found : goal.returns-clause-found
returns-clause-found g c =
    all_told c.args.set.now c.known.ensures.no_fault c.args.package.now c.args.flag.now c.in_ok-package.package c.in_ok-package.ensures.found (flag_of c.in_ok-node.node) c.in_ok-node.ensures.found
    (c.in_ok-package.package.start + c.from.result) (ap (λ n. c.in_ok-package.package.start + n) c.from.ensures)
    c.value_at.result c.bits_at.result c.value_at.ensures c.bits_at.ensures
