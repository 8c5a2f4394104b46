use Rattle.acfg_store.proofs.placed.flags_in.Given as goal

abbrev pub ghosts-place_all : goal.ghosts-place_all
ghosts-place_all a = record { name = a.blank.name; parts = a.blank.parts }
