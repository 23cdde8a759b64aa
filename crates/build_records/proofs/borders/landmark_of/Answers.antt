use mathlib.Core.Path.{refl}
use native.Mathlib.Omega.{arith}
use Rattle.build_records.proofs.Scanning.{landmark-from, landmark-at}
use Rattle.build_records.proofs.borders.landmark_of.Goals as goal

pub returns-then-c-eq0 : goal.returns-then-c-eq0
returns-then-c-eq0 c = landmark-from c.args.list.now _ _ _ _ _ (omega (arith, c.if-c-eq0.true)) refl

pub returns-else-c-eq0 : goal.returns-else-c-eq0
returns-else-c-eq0 c = landmark-at _ _ _ _ _ _ c.if-c-eq0.false refl
