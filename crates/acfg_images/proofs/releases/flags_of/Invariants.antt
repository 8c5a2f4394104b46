use Rattle.acfg_images.proofs.releases.flags_of.Given as goal

abbrev pub ghosts-read_release : goal.ghosts-read_release
ghosts-read_release a = record { name = a.blank.name; parts = a.blank.parts }
