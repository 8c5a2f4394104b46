use Rattle.acfg_tests.proofs.views.read_package.Given as goal

abbrev pub ghosts-package_at : goal.ghosts-package_at
ghosts-package_at a = record { name = a.blank.name; parts = a.blank.parts }
