use native.Mathlib.Omega.{arith}
use Rattle.tree_layout.specs.code.Marks.{marks_at}
use Rattle.search_bounds.proofs.Folds.{greatest_start, greatest-turn, greatest-all}
use Rattle.search_bounds.proofs.Bounding.{count_read, count-marks, place-there, mark_read, crew_made}
use Rattle.search_bounds.proofs.regions.crew_region.Goals as goal

pub header-h-requires : goal.header-h-requires
header-h-requires c = omega (arith, c.requires.0.header)

pub loop-j-init : goal.loop-j-init
loop-j-init c = greatest_start _ (marks_at c.args.tree.now c.args.at)

pub landmark-k-requires : goal.landmark-k-requires
landmark-k-requires c =
    (c.requires.0, omega (arith, count_read _ _ c.header-h.ensures))

pub mark_bound-requires : goal.mark_bound-requires
mark_bound-requires c =
    (c.requires.1, place-there _ _ c.requires.0 _ (omega (arith, count_read _ _ c.header-h.ensures)) _ c.landmark-k.ensures, c.requires.2)

pub loop-j-preserved : goal.loop-j-preserved
loop-j-preserved c =
    greatest-turn _ _ _ _ c.loop-j.invariant
    (omega (arith, count-marks _ _ c.header-h.ensures c.args.at)) _ _
    (mark_read _ _ _ _ _ _ c.landmark-k.ensures c.mark_bound.ensures) c.max-x.ensures

pub returns : goal.returns
returns c =
    crew_made _ _ _ _ _
    (greatest-all _ _ _ _ c.loop-j.invariant (omega (arith, count-marks _ _ c.header-h.ensures c.args.at)))
