use borrow.Author.Tests.{not-true, not-false}
use Rattle.road_layout.proofs.Rising.{goes_on, stops, ends}
use mathlib.Core.Path.{sym, ◌∙◌}
use native.Mathlib.Nat.{sub-zero}
use Rattle.road_layout.proofs.roads_ok.Goals as goal

pub loop-k-init : goal.loop-k-init
loop-k-init c = simp sub-zero

pub returns-then-not-road_ok : goal.returns-then-not-road_ok
returns-then-not-road_ok c =
    let r = c.road_at-road.ensures in
    let t = c.loop-k-test.true in
    let e = sym c.road_ok.ensures ∙ not-true _ c.if-not-road_ok.true-raw in
    sym (stops _ _ _ _ _ _ _ _ _ r.0 r.1 r.2 t e) ∙ c.loop-k.invariant

pub loop-k-preserved : goal.loop-k-preserved
loop-k-preserved c =
    let r = c.road_at-road.ensures in
    let t = c.loop-k-test.true in
    let e = sym c.road_ok.ensures ∙ not-false _ c.if-not-road_ok.false-raw in
    goes_on _ _ _ _ _ _ _ _ _ r.0 r.1 r.2 t e ∙ c.loop-k.invariant

pub returns : goal.returns
returns c = sym (ends _ _ _ _ _ _ c.loop-k-test.false) ∙ c.loop-k.invariant
