use Rattle.acfg_top.proofs.query.look_up.Given as goal

abbrev pub ghosts-look_up_counted : goal.ghosts-look_up_counted
ghosts-look_up_counted a = record { name = a.blank.name; parts = a.blank.parts }
