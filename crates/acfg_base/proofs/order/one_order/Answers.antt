use Rattle.acfg_base.proofs.Sorting.{sorted_texts_unique}
use Rattle.acfg_base.proofs.order.one_order.Goals as goal

pub returns : goal.returns
returns c = sorted_texts_unique
