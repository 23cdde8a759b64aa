use native.Mathlib.Omega.{arith}
use Rattle.search_leaf.proofs.Nexts.{again_end, again_on}
use Rattle.search_leaf.proofs.queueing.again_key.Goals as goal

pub returns-in-None : goal.returns-in-None
returns-in-None c = again_end _ _ c.in-None.is

pub returns-in-Some : goal.returns-in-Some
returns-in-Some c = again_on _ _ _ _ c.in-Some.is (omega arith) (omega arith) c.max.ensures
