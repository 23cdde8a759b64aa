use native.Mathlib.Omega.{arith}
use Rattle.kinds.proofs.Reading.{size-most}
use Rattle.tree_layout.proofs.Sizes.{fields_are}
use Rattle.tree_layout.proofs.records.fields_size.Goals as goal

pub overflow_add-result : goal.overflow_add-result
overflow_add-result c = omega (arith, c.size.ensures, size-most c.args.v)

pub returns : goal.returns
returns c = omega (arith, c.size.ensures, fields_are c.args.v)
