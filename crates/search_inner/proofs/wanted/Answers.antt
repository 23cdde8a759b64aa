use Rattle.search_inner.proofs.Queueing.{wanted_of}
use Rattle.search_inner.proofs.wanted.Goals as goal

pub returns : goal.returns
returns c = wanted_of _ _ _ _ _ c.fields-f.ensures c.shares.ensures
