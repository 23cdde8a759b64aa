use borrow.Author.Rules.{rules}
use Rattle.book.specs.Open.{version}
use Rattle.book.proofs.version.Goals as goal

pub returns : goal.returns
unfolding version
returns c = search rules
