use mathlib.Core.Path.{◌≡◌, ◌∙◌}
use native.Mathlib.Omega.{arith}
use lib.ListN.{get_or}
use Rattle.search_rules.specs.Bounds.{abs_diff}
use Rattle.search_bounds.proofs.Cells.{abs_diff_is}
use Rattle.search_bounds.proofs.Folds.{summed_none, summed_room, summed_turn, summed_all}
use Rattle.search_bounds.proofs.Aggregating.{f-all, diff_short}
use Rattle.search_bounds.proofs.yards.f_of.Goals.{After-abs_diff}
use Rattle.search_bounds.proofs.yards.f_of.Goals as goal

-- the crew's difference
difference : (c : After-abs_diff) → c.abs_diff.result ≡ abs_diff (get_or c.args.out.now c.loop-d.d-index 0) c.args.distance
difference c = c.abs_diff.ensures ∙ abs_diff_is _ _

pub loop-d-init : goal.loop-d-init
loop-d-init c = summed_none _ _ _ _

pub combine-total-requires : goal.combine-total-requires
combine-total-requires c =
    let less = c.loop-d-test.true in
    omega (arith, summed_room _ _ _ _ _ _ c.loop-d.invariant c.requires.0 less _ (diff_short _ _ _ _ c.requires.1 c.requires.2 less (difference (goal.at.combine-total-requires c).After-abs_diff)))

pub loop-d-preserved : goal.loop-d-preserved
loop-d-preserved c =
    let less = c.loop-d-test.true in
    let e = difference (goal.at.loop-d-preserved c).After-abs_diff in
    summed_turn _ _ _ _ _ _ c.loop-d.invariant less _ _ (diff_short _ _ _ _ c.requires.1 c.requires.2 less e) e c.combine-total.ensures

pub returns : goal.returns
returns c = f-all _ _ _ _ (summed_all _ _ _ _ _ _ c.loop-d.invariant c.loop-d-test.false)
