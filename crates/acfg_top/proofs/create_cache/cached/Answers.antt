use Rattle.std.proofs.Common.{filter, subst, sym}
use Rattle.std.proofs.lemmas.Result.{err_from_is_err_and}
use Rattle.acfg_decls.specs.Compile.{Compiles, container_read}
use Rattle.acfg_top.specs.Bodies.{inputs_of}
use Rattle.acfg_top.specs.CreateCache.{FlagsCached, IsBadDeclarations, IsBadSource, IsBadValues, IsDeclarations, IsValues, SourcesGive, ValuesGive, has_declarations, has_values}
use Rattle.acfg_top.specs.Inputs.{AreAccepted, FirstRefused}
use Rattle.acfg_top.proofs.Answering.{halted_here, halted_next, product_next}
use Rattle.acfg_top.proofs.create_cache.cached.Goals as goal

pub returns-in_err-declarations-clause-err : goal.returns-in_err-declarations-clause-err
returns-in_err-declarations-clause-err c =
    let p = err_from_is_err_and c.from_residual.result c.from_residual.ensures.1 in
    let asked = c.args.asked in
    let inputs = inputs_of c.args.inputs.now in
    let ds = filter has_declarations inputs in
    rw (p.1, p.2) (halted_here (FirstRefused IsDeclarations IsBadDeclarations ds) (AreAccepted IsDeclarations IsBadDeclarations ds) (ValuesGive asked.package.now (container_read asked.container.now) asked.out.now inputs)
    c.in_err-declarations.field-0.0 c.in_err-declarations.ensures.err)

pub returns-in_err-values-clause-err : goal.returns-in_err-values-clause-err
returns-in_err-values-clause-err c =
    let p = err_from_is_err_and c.from_residual-in_err-values.result c.from_residual-in_err-values.ensures.1 in
    let asked = c.args.asked in
    let inputs = inputs_of c.args.inputs.now in
    let ds = filter has_declarations inputs in
    let vs = filter has_values inputs in
    rw (p.1, p.2) (halted_next (FirstRefused IsDeclarations IsBadDeclarations ds) (AreAccepted IsDeclarations IsBadDeclarations ds) (ValuesGive asked.package.now (container_read asked.container.now) asked.out.now inputs)
    c.in_ok-declarations.declarations.items c.in_ok-declarations.ensures.ok c.in_err-values.field-0.0
    (halted_here (FirstRefused IsValues IsBadValues vs) (AreAccepted IsValues IsBadValues vs) (SourcesGive asked.package.now (container_read asked.container.now) asked.out.now c.in_ok-declarations.declarations.items)
    c.in_err-values.field-0.0 c.in_err-values.ensures.err))

pub returns-in_err-flags-clause-err : goal.returns-in_err-flags-clause-err
returns-in_err-flags-clause-err c =
    let p = err_from_is_err_and c.from_residual-in_err-flags.result c.from_residual-in_err-flags.ensures.1 in
    let name = c.args.asked.package.now in
    let container = container_read c.args.asked.container.now in
    let out = c.args.asked.out.now in
    let inputs = inputs_of c.args.inputs.now in
    let ds = filter has_declarations inputs in
    let vs = filter has_values inputs in
    let declarations = c.deref.result.now in
    let values = c.deref-2.result.now in
    let halted = c.in_err-flags.field-0.0 in
    rw (p.1, p.2) (halted_next (FirstRefused IsDeclarations IsBadDeclarations ds) (AreAccepted IsDeclarations IsBadDeclarations ds) (ValuesGive name container out inputs)
    declarations (subst (AreAccepted IsDeclarations IsBadDeclarations ds) (sym c.deref.ensures.value) c.in_ok-declarations.ensures.ok) halted
    (halted_next (FirstRefused IsValues IsBadValues vs) (AreAccepted IsValues IsBadValues vs) (SourcesGive name container out declarations)
    values (subst (AreAccepted IsValues IsBadValues vs) (sym c.deref-2.ensures.value) c.in_ok-values.ensures.ok) halted
    (halted_here (IsBadSource name container declarations values) (Compiles name container declarations values) (FlagsCached out) halted c.in_err-flags.ensures.err)))

pub returns-clause-ok : goal.returns-clause-ok
returns-clause-ok c =
    let name = c.args.asked.package.now in
    let container = container_read c.args.asked.container.now in
    let out = c.args.asked.out.now in
    let inputs = inputs_of c.args.inputs.now in
    let ds = filter has_declarations inputs in
    let vs = filter has_values inputs in
    let declarations = c.deref.result.now in
    let values = c.deref-2.result.now in
    let output = c.in_ok-product.field-0 in
    product_next (FirstRefused IsDeclarations IsBadDeclarations ds) (AreAccepted IsDeclarations IsBadDeclarations ds) (ValuesGive name container out inputs)
    declarations (subst (AreAccepted IsDeclarations IsBadDeclarations ds) (sym c.deref.ensures.value) c.in_ok-declarations.ensures.ok) output
    (product_next (FirstRefused IsValues IsBadValues vs) (AreAccepted IsValues IsBadValues vs) (SourcesGive name container out declarations)
    values (subst (AreAccepted IsValues IsBadValues vs) (sym c.deref-2.ensures.value) c.in_ok-values.ensures.ok) output
    (product_next (IsBadSource name container declarations values) (Compiles name container declarations values) (FlagsCached out) c.in_ok-flags.flags c.in_ok-flags.ensures.ok output c.in_ok-product.ensures.ok))
