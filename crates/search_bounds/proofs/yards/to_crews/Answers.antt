use mathlib.Core.Path.{sym, ◌∙◌}
use Prim.Native.Nat.{◌<◌}
use native.Mathlib.Omega.{arith}
use lib.ListN.{length, length-set}
use Rattle.search_bounds.proofs.ToCrews.{towards_none, towards-more, towards-all}
use Rattle.search_bounds.proofs.Driving.{cell-inside, cell-to}
use Rattle.search_bounds.proofs.yards.to_crews.Goals as goal

pub loop-j-init : goal.loop-j-init
loop-j-init c = let e = c.requires.1 in (e, λ road d h. towards_none _ _ _ _ e)

pub cell-requires : goal.cell-requires
cell-requires c = let s = c.requires.0 in cell-inside s.driven _ s.junction _ (omega (arith, c.requires.1, c.loop-j-test.true))

pub loop-j-preserved : goal.loop-j-preserved
loop-j-preserved c =
    let t : c.loop-j.j < length c.args.crews.now = omega (arith, c.requires.1, c.loop-j-test.true) in
    let inv = c.loop-j.invariant in
    (simp length-set inv.0, λ road d h. towards-more _ _ _ _ _ (inv.1 road d h) _ t (cell-to d _ h _ t _ c.cell.ensures))

pub shape_of-out : goal.shape_of-out
shape_of-out c = c.loop-j.invariant.0 ∙ sym c.requires.1

pub returns : goal.returns
returns c = λ road d h. towards-all _ _ _ _ _ (c.loop-j.invariant.1 road d h) (omega (arith, c.requires.1, c.loop-j-test.false))
