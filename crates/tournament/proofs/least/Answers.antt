use borrow.Author.Rules.{rules}
use Rattle.tournament.specs.code.Tournament.{top}
use Rattle.tournament.proofs.least.Goals as goal

pub returns : goal.returns
unfolding top
returns c = search rules
