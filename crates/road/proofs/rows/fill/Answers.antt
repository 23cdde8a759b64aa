use mathlib.Core.Path.{refl, ◌∙◌}
use Prim.Native.Nat.{◌+◌, ◌*◌, ◌≤◌}
use native.Mathlib.Omega.{arith}
use lib.ListN.{length}
use Rattle.book.proofs.Lists.{get_d_mem}
use Rattle.road.proofs.Filling.{row_inside, part-size, put_size, rowed_none, rowed_more, rowed_all}
use Rattle.road.proofs.rows.fill.Goals as goal

pub loop-r-init : goal.loop-r-init
loop-r-init c = (refl, λ road ad. rowed_none road _ _)

pub distances-requires : goal.distances-requires
distances-requires c =
    let p = c.requires in
    let i = c.loop-r.invariant in (
      p.0,
      part-size _ _ (row_inside _ _ _ c.loop-r-test.true (omega (arith, i.0, p.2))),
      p.1 _ (get_d_mem _ _ _ c.loop-r-test.true),
    )

pub loop-r-preserved : goal.loop-r-preserved
loop-r-preserved c =
    let l = c.loop-r in
    let p = c.requires in
    let w = c.distances in
    let h : l.r * 1024 + 1024 ≤ length l.rows = omega (arith, c.loop-r-test.true, l.invariant.0, p.2) in
    let z = w.auto.row ∙ part-size _ _ h in (
      put_size _ w.new.row _ h z ∙ l.invariant.0,
      λ road ad. rowed_more road _ _ _ _ _ _ refl (omega arith) z (w.ensures.row road ad) (l.invariant.1 road ad),
    )

pub shape_of-rows : goal.shape_of-rows
shape_of-rows c = c.loop-r.invariant.0

pub returns : goal.returns
returns c =
    let i = c.loop-r.invariant in
    λ road ad. rowed_all road _ _ _ c.loop-r-test.false (omega (arith, i.0, c.requires.2)) (i.1 road ad)
