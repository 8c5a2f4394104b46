use Rattle.std.proofs.Common.{[], ◌∷◌, refl, sym, subst, inl, inr, arith}
use Rattle.acfg_base.specs.Names.{IsPackage}
use Rattle.acfg_decls.specs.declared.faults.DeclWhat.TheVariants.{BadName}
use Rattle.acfg_decls.specs.Compile.{Compiles}
use Rattle.acfg_daemon.proofs.sources.load_declared.Goals as goal

-- the package is no lawful name: the first test of the file fails
pub returns-in_default-clause-loaded : goal.returns-in_default-clause-loaded
returns-in_default-clause-loaded c =
    let unlawful = rw c.in_default.is at c.in_ok-package.ensures in
    let file = c.args.declarations.now in
    inr (file, BadName, c.requires, record { number = 0; place = file.package.place; first = inl (refl, inl ((λ lawful. unlawful (subst IsPackage (sym c.package.ensures) lawful)), refl, refl)) }, (λ same. cc))

pub returns-in-Ok-clause-fits : goal.returns-in-Ok-clause-fits
returns-in-Ok-clause-fits c =
    let file = c.args.declarations.now in
    let compiles = subst (λ files. Compiles c.in-Some.package c.args.container.now files [] c.in-Ok.flags) c.from_ref.ensures.value c.in-Ok.ensures.ok in
    omega (arith, c.in_ok-release-in-Ok.ensures.few, c.one_compiling.ensures.few c.in-Some.package c.args.container.now (file ∷ []) [] c.in-Ok.flags compiles)
