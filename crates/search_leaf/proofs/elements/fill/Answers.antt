use native.Mathlib.Omega.{arith}
use lib.ListN.{length-set}
use Rattle.search_leaf.proofs.Numbering.{element-fits}
use Rattle.search_leaf.proofs.Filling.{yard-near, distance-short, lower-short, filled_none, filled_more, filled-all}
use Rattle.search_leaf.proofs.elements.fill.Goals as goal

pub loop-k-init : goal.loop-k-init
loop-k-init c = filled_none _ _ _ _ _ _

pub element-e-requires : goal.element-e-requires
element-e-requires c =
    element-fits _ c.args.list.now _ _ c.loop-k-test.true c.requires.0.0 c.requires.0.1

pub f_of-f-requires : goal.f_of-f-requires
f_of-f-requires c =
    (omega (arith, c.requires.2.few, c.requires.3), c.requires.4, distance-short _ _ _ _ _ _ _ _ c.loop-k-test.true c.element-e.ensures c.requires.6)

pub yard_bound-bound-requires : goal.yard_bound-bound-requires
yard_bound-bound-requires c =
    let less = c.loop-k-test.true in
    let e = c.element-e.ensures in (
      c.requires.1,
      c.requires.2,
      c.requires.3,
      yard-near _ _ _ _ _ _ less e c.requires.5,
      c.requires.4,
      distance-short _ _ _ _ _ _ _ _ less e c.requires.6,
      lower-short _ _ _ _ _ _ _ _ less e c.requires.6,
    )

pub bounds-values-f_place : goal.bounds-values-f_place
bounds-values-f_place c =
    omega (arith, c.requires.7, c.loop-k.invariant.same, c.f_at-f_place.ensures, yard-near _ _ _ _ _ _ c.loop-k-test.true c.element-e.ensures c.requires.5)

pub bounds-values-bound_place : goal.bounds-values-bound_place
bounds-values-bound_place c =
    simp length-set (omega (arith, c.requires.7, c.loop-k.invariant.same, c.bound_at-bound_place.ensures, yard-near _ _ _ _ _ _ c.loop-k-test.true c.element-e.ensures c.requires.5))

pub loop-k-preserved : goal.loop-k-preserved
loop-k-preserved c =
    filled_more _ _ _ _ _ _ _ _ c.loop-k.invariant c.loop-k-test.true _ c.element-e.ensures _ _ _ _ c.f_of-f.ensures c.yard_bound-bound.ensures
    c.f_at-f_place.ensures c.bound_at-bound_place.ensures

pub shape_of-values : goal.shape_of-values
shape_of-values c = c.loop-k.invariant.same

pub returns : goal.returns
returns c = filled-all _ _ _ _ _ _ _ _ c.loop-k.invariant c.loop-k-test.false
