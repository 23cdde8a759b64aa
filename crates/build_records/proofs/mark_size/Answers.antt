use mathlib.Core.Path.{sym, ◌∙◌}
use native.Mathlib.Omega.{arith}
use Rattle.tree_layout.proofs.Places.{mark_size-leaf, mark_size-inner}
use Rattle.build_records.proofs.mark_size.Goals as goal

pub returns-then-children-eq0 : goal.returns-then-children-eq0
returns-then-children-eq0 c = c.leaf_mark.ensures ∙ sym (mark_size-leaf _ _ _ c.if-children-eq0.true)

pub returns-else-children-eq0 : goal.returns-else-children-eq0
returns-else-children-eq0 c = sym (mark_size-inner _ _ _ (omega (arith, c.if-children-eq0.false)))
