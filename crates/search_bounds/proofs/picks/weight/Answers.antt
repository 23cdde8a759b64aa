use mathlib.Core.Path.{refl, ◌∙◌}
use native.Mathlib.Omega.{arith}
use Rattle.search_rules.proofs.Equations.{combine-sum}
use Rattle.search_bounds.proofs.Folds.{summed_none, summed_room, summed_turn, summed_all}
use Rattle.search_bounds.proofs.Bounding.{crew-there, weight_made}
use Rattle.search_bounds.proofs.picks.weight.Goals as goal

pub loop-q-init : goal.loop-q-init
loop-q-init c = summed_none _ _ _ _

pub lower-requires : goal.lower-requires
lower-requires c =
    (c.requires.0, c.requires.2, crew-there _ c.requires.1 _ c.loop-q-test.true)

pub overflow_add-x : goal.overflow_add-x
overflow_add-x c = omega (arith, summed_room _ _ _ _ _ _ c.loop-q.invariant c.requires.1.few c.loop-q-test.true c.from-x.result (omega (arith, c.from-x.ensures)))

pub loop-q-preserved : goal.loop-q-preserved
loop-q-preserved c =
    let e = c.from-x.ensures in
    summed_turn _ _ _ _ _ _ c.loop-q.invariant c.loop-q-test.true _ _ (omega (arith, e))
    (e ∙ c.lower.ensures) (combine-sum _ _ _ refl)

pub returns : goal.returns
returns c = weight_made _ _ _ _ _ (summed_all _ _ _ _ _ _ c.loop-q.invariant c.loop-q-test.false)
