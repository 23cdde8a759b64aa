use native.Mathlib.Omega.{arith}
use lib.Dec.{ltb→lt, leb→le, nltb→le, nleb→lt}
use Rattle.search_measure.proofs.Deciding.{none-exceeds, seconds_exceed}
use Rattle.search_measure.proofs.exceeds.Goals as goal

pub returns-in-None : goal.returns-in-None
returns-in-None c = none-exceeds _ _ c.in-None.is

pub returns-in-Some : goal.returns-in-Some
returns-in-Some c = seconds_exceed _ _ _ _ c.in-Some.is (λ t. omega (arith, ltb→lt, leb→le)) (λ t. omega (arith, nltb→le, nleb→lt))
