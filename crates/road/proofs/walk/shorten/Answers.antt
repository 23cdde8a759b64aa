use native.Mathlib.Omega.{arith}
use Rattle.road.proofs.Shortening.{shortened, short-enough, word-falls}
use Rattle.road.proofs.walk.shorten.Goals as goal

pub lower-requires : goal.lower-requires
lower-requires c =
    let p = c.requires in
    (p.1, p.2, p.3.tournament, word-falls _ _ _ _ p.2 p.0 p.3 (omega arith))

pub returns-then-x-row : goal.returns-then-x-row
returns-then-x-row c = shortened _ _ _ _ (omega arith) _ (omega arith) c.lower.ensures

pub returns-else-x-row : goal.returns-else-x-row
returns-else-x-row c = short-enough _ _ _ _ (omega arith) (omega arith)
