use native.Mathlib.Omega.{arith}
use Rattle.search_bounds.proofs.Picking.{picked_first, picked_greater, picked_same}
use Rattle.search_bounds.proofs.Bounding.{count_read, count-marks, chosen_made}
use Rattle.search_bounds.proofs.picks.pick_at.Goals.{then-best-w, else-best-w}
use Rattle.search_bounds.proofs.picks.pick_at.Goals as goal

pub header-h-requires : goal.header-h-requires
header-h-requires c = omega (arith, c.requires.0.header)

pub mark_weight-best-requires : goal.mark_weight-best-requires
mark_weight-best-requires c =
    (c.requires.0, omega (arith, c.requires.0.landmarks.0), c.requires.1, c.requires.2)

pub loop-j-init : goal.loop-j-init
loop-j-init c = picked_first _ _ c.mark_weight-best.ensures

pub mark_weight-w-requires : goal.mark_weight-w-requires
mark_weight-w-requires c =
    (c.requires.0, omega (arith, count_read _ _ c.header-h.ensures), c.requires.1, c.requires.2)

pub loop-j-preserved : goal.loop-j-preserved
loop-j-preserved c =
    let i = c.loop-j.invariant in
    let e = c.mark_weight-w.ensures in
    elim c.if-best-w.branch [ then-best-w w ↦ rw (w.p-is, w.best-is) (picked_greater _ _ _ _ _ i e (omega (arith, w.if-best-w.true))) | else-best-w w ↦ rw (w.p-is, w.best-is) (picked_same _ _ _ _ _ i e (omega (arith, w.if-best-w.false))) ]

pub returns : goal.returns
returns c =
    let k = count-marks _ _ c.header-h.ensures c.args.at in
    chosen_made _ _ _ _ _ _ (omega (arith, k, c.requires.0.landmarks.0, count_read _ _ c.header-h.ensures)) c.loop-j.invariant.place
