use native.Mathlib.Omega.{arith}
use Rattle.tree_layout.proofs.records.marks_at.Goals as goal

pub overflow_add-result : goal.overflow_add-result
overflow_add-result c = omega (arith, c.requires, c.fields_size.ensures)

pub returns : goal.returns
returns c = omega (arith, c.fields_size.ensures)
