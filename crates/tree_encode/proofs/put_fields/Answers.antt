use mathlib.Core.Path.{refl, ◌∙◌}
use Prim.Native.Nat.{◌+◌, ◌≤◌}
use native.Mathlib.Omega.{arith}
use lib.ListN.{length, length-set}
use Rattle.kinds.specs.Kinds.{kind_size}
use Rattle.tree_layout.proofs.Sizes.{fields_are}
use Rattle.tree_encode.proofs.Parts.{fields_written}
use Rattle.tree_encode.proofs.put_fields.Goals.{Start}
use Rattle.tree_encode.proofs.put_fields.Goals as goal

-- the fields lie in the book
room : (c : Start) → c.args.f.at + (7 + kind_size c.args.v) ≤ length c.args.tree.now
room c = omega (arith, c.requires, fields_are c.args.v)

pub put_u16-requires : goal.put_u16-requires
put_u16-requires c = omega (arith, room (goal.at.put_u16-requires c).Start)

pub overflow_add-at : goal.overflow_add-at
overflow_add-at c = omega (arith, room (goal.at.overflow_add-at c).Start)

pub put_u16-requires-2 : goal.put_u16-requires-2
put_u16-requires-2 c = omega (arith, room (goal.at.put_u16-requires-2 c).Start, c.put_u16.auto.d)

pub overflow_add-tree : goal.overflow_add-tree
overflow_add-tree c = omega (arith, room (goal.at.overflow_add-tree c).Start)

pub bounds-tree-at : goal.bounds-tree-at
bounds-tree-at c = omega (arith, room (goal.at.bounds-tree-at c).Start, c.put_u16-2.auto.d, c.put_u16.auto.d)

pub overflow_add-at-2 : goal.overflow_add-at-2
overflow_add-at-2 c = omega (arith, room (goal.at.overflow_add-at-2 c).Start)

pub put_u16-requires-3 : goal.put_u16-requires-3
put_u16-requires-3 c = simp length-set (omega (arith, room (goal.at.put_u16-requires-3 c).Start, c.put_u16-2.auto.d, c.put_u16.auto.d))

pub overflow_add-at-3 : goal.overflow_add-at-3
overflow_add-at-3 c = omega (arith, room (goal.at.overflow_add-at-3 c).Start)

pub put_kinds-requires : goal.put_kinds-requires
put_kinds-requires c = omega (arith, room (goal.at.put_kinds-requires c).Start, simp length-set at c.put_u16-3.auto.d, c.put_u16-2.auto.d, c.put_u16.auto.d)

pub shape_of-tree : goal.shape_of-tree
shape_of-tree c = c.put_kinds.auto.tree ∙ c.put_u16-3.auto.d ∙ simp length-set (c.put_u16-2.auto.d ∙ c.put_u16.auto.d)

pub returns : goal.returns
returns c = fields_written _ _ _ _ _ _ _ _ _ _ _ _ _ c.put_u16.ensures c.put_u16-2.ensures refl c.put_u16-3.ensures c.put_kinds.ensures
