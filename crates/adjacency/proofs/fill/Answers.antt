use native.Mathlib.Omega.{arith}
use Rattle.road_layout.proofs.Layouts.{passing_layout}
use Rattle.adjacency.proofs.Linking.{none-holds, road-ready, road_put, all_put}
use Rattle.adjacency.proofs.fill.Goals as goal

pub junction_count-requires : goal.junction_count-requires
junction_count-requires c = omega (arith, (passing_layout _ c.requires.0).opens.headed)

pub road_count-count-requires : goal.road_count-count-requires
road_count-count-requires c = omega (arith, (passing_layout _ c.requires.0).opens.headed)

pub loop-k-init : goal.loop-k-init
loop-k-init c = none-holds _ _ _ _ (omega arith) c.junction_count.ensures c.clear.ensures

pub push_road-requires : goal.push_road-requires
push_road-requires c =
    let r = road-ready _ _ _ c.requires.0 c.road_count-count.ensures c.loop-k-test.true in
    (r.place, r.few, r.low, r.high, c.loop-k.invariant.size)

pub loop-k-preserved : goal.loop-k-preserved
loop-k-preserved c =
    let r = road-ready _ _ _ c.requires.0
    c.road_count-count.ensures c.loop-k-test.true in
    road_put _ _ _ _ r c.push_road.ensures c.loop-k.invariant

pub returns : goal.returns
returns c =
    all_put _ _ _ c.requires.0 c.road_count-count.ensures _ (omega arith) c.loop-k.invariant
