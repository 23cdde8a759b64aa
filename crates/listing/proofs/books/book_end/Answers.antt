use borrow.Author.Rules.{rules}
use Rattle.listing.specs.Input.{book_end}
use Rattle.listing.proofs.books.book_end.Goals as goal

pub returns-then-n-lt4 : goal.returns-then-n-lt4
unfolding book_end
returns-then-n-lt4 c = search rules

pub returns-then-n-count : goal.returns-then-n-count
unfolding book_end
returns-then-n-count c = search rules

pub returns : goal.returns
unfolding book_end
returns c = search rules
