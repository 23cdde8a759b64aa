use Rattle.search_bounds.proofs.Combining.{combined-sum, combined-most}
use Rattle.search_bounds.proofs.numbers.combine64.Goals as goal

pub returns-in-Sum : goal.returns-in-Sum
returns-in-Sum c = combined-sum _ _ _ _ c.of.ensures c.in-Sum.is

pub returns-in-Furthest : goal.returns-in-Furthest
returns-in-Furthest c = combined-most _ _ _ _ c.of.ensures _ c.in-Furthest.is c.max.ensures
