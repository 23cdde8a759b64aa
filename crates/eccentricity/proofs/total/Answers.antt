use mathlib.Core.Path.{◌≡◌, ap, ◌∙◌}
use native.Mathlib.Omega.{arith}
use lib.ListN.{length-take}
use Rattle.eccentricity.specs.Rows.{row_total}
use Rattle.eccentricity.proofs.Adding.{none-sum, more}
use Rattle.eccentricity.proofs.total.Goals as goal

pub loop-d-init : goal.loop-d-init
loop-d-init c = (omega arith, none-sum _)

pub loop-d-preserved : goal.loop-d-preserved
loop-d-preserved c = (omega arith, more _ _ _ _ _ (omega (arith, length-take c.args.n c.args.ds.now)) c.from-sum.ensures c.loop-d.invariant.1)

pub returns : goal.returns
returns c =
    let all : c.loop-d.d-index ≡ c.args.n = omega (arith, length-take c.args.n c.args.ds.now) in
    c.loop-d.invariant.1 ∙ ap (row_total _) all
