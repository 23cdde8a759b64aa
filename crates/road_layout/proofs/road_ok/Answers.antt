use native.Mathlib.Omega.{arith}
use borrow.Author.Tests.{lt-ltb, le-ltb, le-leb, lt-leb, eq-eqb, ne_eqb}
use Rattle.road_layout.specs.Layout.{road_ok, after}
use Rattle.road_layout.proofs.road_ok.Goals as goal

pub returns-then-high-low : goal.returns-then-high-low
unfolding road_ok
returns-then-high-low c = simp (le-ltb, c.if-high-low.true)

pub returns-then-n-high : goal.returns-then-n-high
unfolding road_ok
returns-then-n-high c = simp (lt-ltb, le-ltb, c.if-high-low.false, c.if-n-high.true)

pub returns-then-road-lt1 : goal.returns-then-road-lt1
unfolding road_ok
returns-then-road-lt1 c = simp (lt-ltb, lt-leb, c.if-high-low.false, c.if-n-high.false, c.if-road-lt1.true)

pub returns-then-l-low : goal.returns-then-l-low
unfolding road_ok after
returns-then-l-low c =
    let few = le-leb c.args.road.seconds 65535 (omega arith) in
    simp (lt-ltb, le-leb, few, c.if-high-low.false, c.if-n-high.false, c.if-road-lt1.false, c.if-l-low.true)

pub returns-then-l-low-2 : goal.returns-then-l-low-2
unfolding road_ok after
returns-then-l-low-2 c =
    let few = le-leb c.args.road.seconds 65535 (omega arith) in
    let one = c.if-high-low.false in
    let two = c.if-n-high.false in
    simp (lt-ltb, le-ltb, le-leb, few, ne_eqb, one, two, c.if-road-lt1.false, c.if-l-low.false, c.if-l-low-2.true)

pub returns : goal.returns
unfolding road_ok after
returns c =
    let few = le-leb c.args.road.seconds 65535 (omega arith) in
    let one = c.if-high-low.false in
    let two = c.if-n-high.false in
    simp (lt-ltb, le-ltb, le-leb, few, eq-eqb _ _ c.if-l-low-2.false, one, two, c.if-road-lt1.false, c.if-l-low.false)
