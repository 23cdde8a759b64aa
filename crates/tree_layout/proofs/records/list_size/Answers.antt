use native.Mathlib.Omega.{arith}
use Rattle.kinds.proofs.Reading.{size-most}
use Rattle.tree_layout.proofs.Sizes.{list_by, list-most}
use Rattle.tree_layout.proofs.records.list_size.Goals as goal

pub overflow_add-result : goal.overflow_add-result
overflow_add-result c = omega (arith, c.size.ensures, size-most c.args.v)

pub overflow_mul-result : goal.overflow_mul-result
overflow_mul-result c =
    let s = c.args in
    omega (arith, c.requires, list_by s.v s.n c.size.result c.size.ensures, list-most s.v s.n)

pub returns : goal.returns
returns c = list_by _ _ _ c.size.ensures
