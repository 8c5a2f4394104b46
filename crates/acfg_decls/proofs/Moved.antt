-- Flags moved twice.
use Rattle.std.proofs.Common.{List, IsPermutation}
use Rattle.std.proofs.lemmas.List.Sorted.{IsPermutation-trans}
use Rattle.acfg_decls.specs.declared.flags.Flag.{Flag}

pub moved_on : (flags next last : List Flag) → IsPermutation flags next → IsPermutation next last → IsPermutation flags last
moved_on = IsPermutation-trans
