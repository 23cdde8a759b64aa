use mathlib.Core.Path.{refl}
use native.Mathlib.Omega.{arith}
use lib.ListN.{length-set}
use Rattle.query.proofs.CrewList.{copied_next, copied_all}
use Rattle.query.proofs.Reading.{its_crews}
use Rattle.query.proofs.crews.Goals as goal

pub loop-i-init : goal.loop-i-init
loop-i-init c = (its_crews _ _ c.header-n.ensures, refl, λ j h. absurd (omega arith))

pub loop-i-preserved : goal.loop-i-preserved
loop-i-preserved c =
    let l = c.loop-i in
    (l.invariant.0, simp length-set l.invariant.1, copied_next _ l.out l.i _ (omega arith) c.crew_at.ensures l.invariant.2)

pub shape_of-out : goal.shape_of-out
shape_of-out c = c.loop-i.invariant.1

pub returns : goal.returns
returns c =
    let l = c.loop-i in
    record { count = l.invariant.0; crews = copied_all _ _ _ _ l.invariant.0 (omega arith) l.invariant.2 (omega (arith, c.loop-i-test.false)) }
