use mathlib.Core.Path.{◌≡◌, ap, ◌∙◌}
use native.Mathlib.Omega.{arith}
use lib.ListN.{length-take}
use Rattle.eccentricity.specs.Rows.{furthest_of}
use Rattle.eccentricity.proofs.Adding.{none-far, further}
use Rattle.eccentricity.proofs.furthest.Goals as goal

pub loop-d-init : goal.loop-d-init
loop-d-init c = none-far _

pub loop-d-preserved : goal.loop-d-preserved
loop-d-preserved c = further _ c.args.n _ _ _ (omega (arith, length-take c.args.n c.args.ds.now)) c.from.ensures _ c.loop-d.invariant c.max-most.ensures

pub returns : goal.returns
returns c =
    let all : c.loop-d.d-index ≡ c.args.n = omega (arith, length-take c.args.n c.args.ds.now) in
    c.loop-d.invariant ∙ ap (furthest_of _) all
