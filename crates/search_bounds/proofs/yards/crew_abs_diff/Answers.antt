use mathlib.Core.Path.{◌∙◌}
use native.Mathlib.Omega.{arith}
use Rattle.book.proofs.Lists.{get_d_mem}
use Rattle.search_bounds.proofs.Cells.{abs_diff_is}
use Rattle.search_bounds.proofs.Aggregating.{crew_abs_diff_lem}
use Rattle.search_bounds.proofs.yards.crew_abs_diff.Goals as goal

pub lower-lb-requires : goal.lower-lb-requires
lower-lb-requires c = (c.requires.0, c.requires.3, c.requires.1.there _ (get_d_mem _ c.args.j 0 c.requires.4))

pub bounds-out-j : goal.bounds-out-j
bounds-out-j c = omega (arith, c.requires.2, c.requires.4)

pub returns : goal.returns
returns c = crew_abs_diff_lem _ _ _ _ _ _ _ _ _ _ c.lower-lb.ensures (c.abs_diff.ensures ∙ abs_diff_is _ _) c.max.ensures
