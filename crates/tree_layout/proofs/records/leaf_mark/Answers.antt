use native.Mathlib.Omega.{arith}
use Rattle.tree_layout.proofs.Sizes.{list-most, leaf_mark_are}
use Rattle.tree_layout.proofs.records.leaf_mark.Goals as goal

pub overflow_add-result : goal.overflow_add-result
overflow_add-result c =
    let s = c.args in
    omega (arith, c.requires, c.list_size.ensures, list-most s.v s.yards)

pub returns : goal.returns
returns c =
    let s = c.args in
    omega (arith, c.list_size.ensures, leaf_mark_are s.v s.yards)
