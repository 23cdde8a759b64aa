use borrow.Author.Rules.{rules}
use Rattle.book.specs.Bytes.{u8_at}
use Rattle.book.proofs.u8_at.Goals as goal

pub returns : goal.returns
unfolding u8_at
returns c = search rules
