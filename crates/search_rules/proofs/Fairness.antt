-- Ties go to the fairer yard: the laws together. Assumes nothing.
use Rattle.search_rules.specs.Fairness.{TiesFair}
use Rattle.search_rules.proofs.Order.{total-order}
use Rattle.search_rules.proofs.SameSteps.{same-steps}
use Rattle.search_rules.proofs.AsBefore.{as_before}
use Rattle.search_rules.proofs.WereListed.{were_listed}

pub ties_fair : TiesFair
ties_fair = (total-order, same-steps, as_before, were_listed)
