use Rattle.std.proofs.Common.{ap, rules}
use Rattle.search_measure.specs.code.Cases.{measured_of}
use Rattle.search_measure.proofs.Totals.{answer-exact, answer-above}
use Rattle.search_state.proofs.Newest.{newest_put}
use Rattle.search_yard.proofs.Numbered.{held-exact, held-above}
use Rattle.search_yard.proofs.take.Goals as goal

pub returns-in_default-clause-measured : goal.returns-in_default-clause-measured
returns-in_default-clause-measured c = newest_put c.args.progress.now.yards c.args.progress.now.measured c.args.y.number (search rules)

pub returns-in_default-clause-held : goal.returns-in_default-clause-held
returns-in_default-clause-held c road k =
    held-above _ _ _ _ _ _ c.requires.2 (answer-above k (c.under_ceiling-answer.ensures.measures road k) (ap measured_of c.in_default.is))

pub returns-clause-measured : goal.returns-clause-measured
returns-clause-measured c = newest_put c.args.progress.now.yards c.args.progress.now.measured c.args.y.number (search rules)

pub returns-clause-held : goal.returns-clause-held
returns-clause-held c road k =
    let exact = ap measured_of c.in-Some.is in
    held-exact _ road _ _ _ _ _ _ _ (answer-exact k (c.under_ceiling-answer.ensures.measures road k) _ _ exact) c.keep.ensures.held
