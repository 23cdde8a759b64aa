use Rattle.search_queue.proofs.Eights.{eight_is}
use Rattle.search_queue.proofs.least_of_eight.Goals as goal

pub returns : goal.returns
returns c = eight_is _ _ _ _ _ c.least_of_four.ensures c.least_of_four-2.ensures c.min.ensures
