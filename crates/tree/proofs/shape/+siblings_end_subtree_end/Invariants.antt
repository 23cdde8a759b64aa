-- The cycle of calls {siblings_end, subtree_end}: each answers as the definition does, which descends the same way. The
-- measure is the levels that are left; along siblings, at one level, it is how many of them are left, of which there
-- are fewer than a thousand.
use Rattle.std.proofs.Common.{◌+◌, ◌*◌}
use Rattle.tree.proofs.shape.+siblings_end_subtree_end.Given as goal

abbrev pub decreases-siblings_end : goal.decreases-siblings_end
decreases-siblings_end l = l.levels * 1000 + (l.n + 1)

abbrev pub decreases-subtree_end : goal.decreases-subtree_end
decreases-subtree_end l = l.levels * 1000
