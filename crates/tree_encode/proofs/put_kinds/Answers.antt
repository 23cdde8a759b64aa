use native.Mathlib.Omega.{arith}
use Rattle.kinds.proofs.Reading.{size-one}
use Rattle.tree_encode.proofs.KindBytes.{kind-written, kind_unwritten}
use Rattle.tree_encode.proofs.put_kinds.Goals as goal

pub bounds-tree-at : goal.bounds-tree-at
bounds-tree-at c = omega (arith, c.requires, size-one c.args.v (λ e. omega (arith, e, c.if-v-ne1.true)))

pub returns-then-v-ne1 : goal.returns-then-v-ne1
returns-then-v-ne1 c = kind-written _ _ _ _ (λ e. omega (arith, e, c.if-v-ne1.true))

pub returns-else-v-ne1 : goal.returns-else-v-ne1
returns-else-v-ne1 c = kind_unwritten _ _ _ _ (omega (arith, c.if-v-ne1.false))
