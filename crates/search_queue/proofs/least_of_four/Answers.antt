use Rattle.search_queue.proofs.Eights.{four_is}
use Rattle.search_queue.proofs.least_of_four.Goals as goal

pub returns : goal.returns
returns c = four_is _ _ _ _ _ c.min-pair.ensures c.min.ensures c.min-2.ensures
