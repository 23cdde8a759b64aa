use native.Mathlib.Omega.{arith}
use Rattle.road.proofs.Stepping.{walking-sizes, walking-near, walking-above, walking_on, walking_rests}
use Rattle.road.proofs.walk.round.Goals as goal

pub least-t-requires : goal.least-t-requires
least-t-requires c =
    let i = c.requires.0 in
    let w = c.requires.1 in
    (walking-sizes _ _ _ _ _ _ w.below w.walking i).words

pub walk_on-requires : goal.walk_on-requires
walk_on-requires c =
    let i = c.requires.0 in
    let w = c.requires.1 in
    let e = c.least-t.ensures in
    let t = c.if-t-lt-ABSENT.true in (
      i,
      walking-sizes _ _ _ _ _ _ w.below w.walking i,
      omega arith,
      walking-near _ _ _ _ _ _ w.below w.walking _ e i t w.unfinished,
      walking-above _ _ _ _ _ _ w.below w.walking _ e i t,
    )

pub returns-then-t-lt-ABSENT : goal.returns-then-t-lt-ABSENT
returns-then-t-lt-ABSENT c =
    let on = c.walk_on.ensures in
    λ source k below w. walking_on _ source k _ _ _ below w _ c.least-t.ensures _ _ _ c.if-t-lt-ABSENT.true on.0 on.1

pub returns-else-t-lt-ABSENT : goal.returns-else-t-lt-ABSENT
returns-else-t-lt-ABSENT c = λ source k below w. walking_rests _ source k _ _ _ below w _ c.least-t.ensures c.if-t-lt-ABSENT.false
