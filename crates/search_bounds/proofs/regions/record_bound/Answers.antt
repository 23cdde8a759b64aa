use mathlib.Core.Path.{◌∙◌}
use native.Mathlib.Omega.{arith}
use Rattle.search_bounds.proofs.Folds.{summed_none, summed_room, summed_turn, summed_all}
use Rattle.search_bounds.proofs.Bounding.{crew-there, bound_made}
use Rattle.search_bounds.proofs.regions.record_bound.Goals as goal

pub loop-q-init : goal.loop-q-init
loop-q-init c = summed_none _ _ _ _

pub crew_region-requires : goal.crew_region-requires
crew_region-requires c =
    (c.requires.0, c.requires.1, crew-there _ c.requires.2 _ c.loop-q-test.true)

pub combine64-x-requires : goal.combine64-x-requires
combine64-x-requires c =
    omega (arith, summed_room _ _ _ _ _ _ c.loop-q.invariant c.requires.2.few c.loop-q-test.true c.from-w.result (omega (arith, c.from-w.ensures)))

pub loop-q-preserved : goal.loop-q-preserved
loop-q-preserved c =
    let e = c.from-w.ensures in
    summed_turn _ _ _ _ _ _ c.loop-q.invariant c.loop-q-test.true _ _ (omega (arith, e))
    (e ∙ c.crew_region.ensures) c.combine64-x.ensures

pub returns : goal.returns
returns c = bound_made _ _ _ _ _ _ (summed_all _ _ _ _ _ _ c.loop-q.invariant c.loop-q-test.false)
