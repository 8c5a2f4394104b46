use Rattle.std.proofs.Common.{length}
use Rattle.acfg_hostdev.proofs.files.+make_folder.Given as goal

abbrev pub decreases-make_folder : goal.decreases-make_folder
decreases-make_folder g l = length l.name.now
