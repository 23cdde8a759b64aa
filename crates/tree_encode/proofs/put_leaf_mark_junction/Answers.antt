use mathlib.Core.Path.{◌∙◌}
use Rattle.book.proofs.Writing.{write_u16}
use Rattle.tree_encode.proofs.put_leaf_mark_junction.Goals as goal

pub returns : goal.returns
returns c = c.put_u16.ensures ∙ write_u16 _ _ _
