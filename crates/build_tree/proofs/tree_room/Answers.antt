use native.Mathlib.Omega.{arith}
use Rattle.tree_encode.proofs.Sizes.{room-one, room-two}
use Rattle.build_tree.proofs.tree_room.Goals as goal

pub returns-then-version-eq1 : goal.returns-then-version-eq1
returns-then-version-eq1 c = omega (arith, room-one _ c.if-version-eq1.true)

pub returns : goal.returns
returns c = omega (arith, room-two _ c.if-version-eq1.false)
