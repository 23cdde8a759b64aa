use mathlib.Core.Path.{◌∙◌}
use Prim.Native.Nat.{◌+◌, ◌≤◌}
use native.Mathlib.Omega.{arith}
use lib.ListN.{length}
use Rattle.kinds.specs.Kinds.{kind_size}
use Rattle.tree_layout.proofs.Sizes.{element_are}
use Rattle.tree_encode.proofs.Parts.{element-written}
use Rattle.tree_encode.proofs.put_element.Goals.{Start}
use Rattle.tree_encode.proofs.put_element.Goals as goal

-- the element lies in the book
room : (c : Start) → c.args.at + (6 + kind_size c.args.v) ≤ length c.args.tree.now
room c = omega (arith, c.requires, element_are c.args.v)

pub put_u32-requires : goal.put_u32-requires
put_u32-requires c = omega (arith, room (goal.at.put_u32-requires c).Start)

pub overflow_add-at : goal.overflow_add-at
overflow_add-at c = omega (arith, room (goal.at.overflow_add-at c).Start)

pub put_u16-requires : goal.put_u16-requires
put_u16-requires c = omega (arith, room (goal.at.put_u16-requires c).Start, c.put_u32.auto.d)

pub overflow_add-at-2 : goal.overflow_add-at-2
overflow_add-at-2 c = omega (arith, room (goal.at.overflow_add-at-2 c).Start)

pub put_kinds-requires : goal.put_kinds-requires
put_kinds-requires c = omega (arith, room (goal.at.put_kinds-requires c).Start, c.put_u16.auto.d, c.put_u32.auto.d)

pub shape_of-tree : goal.shape_of-tree
shape_of-tree c = c.put_kinds.auto.tree ∙ c.put_u16.auto.d ∙ c.put_u32.auto.d

pub returns : goal.returns
returns c = element-written _ _ _ _ _ _ _ _ _ c.put_u32.ensures c.put_u16.ensures c.put_kinds.ensures
