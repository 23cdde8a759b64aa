use borrow.Author.Rules.{rules}
use Rattle.work_area.proofs.Zeroing.{zeroed_part}
use Rattle.work_area.proofs.zero_words.Goals as goal

pub returns : goal.returns
returns c = search (rules, zeroed_part, c.fill.ensures.after (λ y e. e))
