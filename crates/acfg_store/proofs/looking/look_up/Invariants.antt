use Rattle.acfg_store.proofs.looking.look_up.Given as goal

abbrev pub ghosts-look_within : goal.ghosts-look_within
ghosts-look_within a = record { name = a.blank.name; parts = a.blank.parts }
