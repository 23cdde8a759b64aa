use Rattle.search_inner.proofs.Queueing.{key_of_lem}
use Rattle.search_inner.proofs.key.Goals as goal

pub returns : goal.returns
returns c = key_of_lem _ _ _ _ _ _ _ _ _ c.region_bound-x.ensures c.max.ensures
