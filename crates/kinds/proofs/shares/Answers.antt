use borrow.Author.Rules.{rules}
use Rattle.kinds.specs.Kinds.{shares}
use Rattle.kinds.proofs.shares.Goals as goal

pub returns : goal.returns
unfolding shares
returns c = search rules
