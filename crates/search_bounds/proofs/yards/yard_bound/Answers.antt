use native.Mathlib.Omega.{arith}
use Rattle.search_bounds.proofs.Aggregating.{crew-short, bounding_none, bounding_more, bounding_all}
use Rattle.search_bounds.proofs.yards.yard_bound.Goals as goal

pub loop-j-init : goal.loop-j-init
loop-j-init c = bounding_none _ _ _ _ _ _ _

pub combine-total-requires : goal.combine-total-requires
combine-total-requires c =
    let less = c.loop-j-test.true in
    let short = crew-short _ _ _ _ _ _ _ _ c.crew_abs_diff-x.ensures c.requires.4 c.requires.5 c.requires.6 c.requires.2 less in
    omega (arith, short, c.loop-j.invariant.low, c.requires.1.few)

pub loop-j-preserved : goal.loop-j-preserved
loop-j-preserved c =
    let less = c.loop-j-test.true in
    let e = c.crew_abs_diff-x.ensures in
    let short = crew-short _ _ _ _ _ _ _ _ e c.requires.4 c.requires.5 c.requires.6 c.requires.2 less in
    bounding_more _ _ _ _ _ _ _ _ _ c.loop-j.invariant _ _ less e short c.combine-total.ensures

pub returns : goal.returns
returns c = bounding_all _ _ _ _ _ _ _ _ _ c.loop-j.invariant (omega arith)
