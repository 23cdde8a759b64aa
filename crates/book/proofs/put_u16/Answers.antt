use mathlib.Core.Path.{◌∙◌}
use native.Mathlib.Omega.{arith}
use Rattle.book.proofs.Writing.{copied_u16}
use Rattle.book.proofs.put_u16.Goals as goal

pub returns : goal.returns
returns c = copied_u16 _ _ _ _ c.requires (omega arith) (c.copy_from_slice.ensures.after ∙ c.to_be_bytes.ensures)
