use mathlib.Core.Path.{◌∙◌}
use Rattle.search_rules.proofs.Equations.{crew-near, crew-far}
use Rattle.search_bounds.proofs.rows.crew_bound.Goals as goal

pub returns-then-b-lb : goal.returns-then-b-lb
returns-then-b-lb c = crew-near _ _ _ _ c.if-b-lb.true

pub returns : goal.returns
returns c = c.beyond.ensures ∙ crew-far _ _ _ _ c.if-b-lb.false
