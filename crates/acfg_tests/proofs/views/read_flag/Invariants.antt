use Rattle.acfg_tests.proofs.views.read_flag.Given as goal

abbrev pub ghosts-flag_at : goal.ghosts-flag_at
ghosts-flag_at a = record { name = a.blank.name; parts = a.blank.parts }
