use mathlib.Core.Path.{refl, sym, ◌∙◌}
use Prim.Native.Nat.{◌≤◌, ◌<◌}
use native.Mathlib.Omega.{arith}
use lib.ListN.{length}
use Rattle.yard.specs.Yards.{yards_of}
use Rattle.yard.proofs.YardLayout.{yards-length}
use Rattle.check_tree.proofs.Knowing.{has-found, has-next, has-none}
use Rattle.check_tree.proofs.yards.has_yard.Goals.{After-loop-k, In-loop-k}
use Rattle.check_tree.proofs.yards.has_yard.Goals as goal

-- in the loop a yard is left, and after it none
left : (c : In-loop-k) → c.loop-k.k < length (yards_of c.args.yard.now)
left c = omega (arith, c.loop-k-test.true, c.count-k-end.ensures, yards-length c.args.yard.now)

done : (c : After-loop-k) → length (yards_of c.args.yard.now) ≤ c.loop-k.k
done c = omega (arith, c.loop-k-test.false, c.count-k-end.ensures, yards-length c.args.yard.now)

pub loop-k-init : goal.loop-k-init
loop-k-init c = refl

pub returns-then-yard_at-y : goal.returns-then-yard_at-y
returns-then-yard_at-y c =
    sym (has-found _ _ _ _ (left (goal.at.returns-then-yard_at-y c).In-loop-k) c.yard_at.ensures c.if-yard_at-y.true) ∙ c.loop-k.invariant

pub loop-k-preserved : goal.loop-k-preserved
loop-k-preserved c =
    has-next _ _ _ _ (left (goal.at.loop-k-preserved c).In-loop-k) c.yard_at.ensures c.if-yard_at-y.false ∙ c.loop-k.invariant

pub returns : goal.returns
returns c = sym (has-none _ _ _ (done c)) ∙ c.loop-k.invariant
