use Rattle.search_bounds.proofs.Bounding.{mark_bound_made}
use Rattle.search_bounds.proofs.regions.mark_bound.Goals as goal

pub returns : goal.returns
returns c = mark_bound_made _ _ _ _ _ _ _ c.lower-lb.ensures c.upper-ub.ensures c.crew_bound.ensures
