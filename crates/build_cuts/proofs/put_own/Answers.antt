use native.Mathlib.Omega.{arith}
use Rattle.yard.proofs.Listing.{from-length}
use Rattle.build_cuts.proofs.Records.{own_kept, own_written}
use Rattle.build_cuts.proofs.put_own.Goals as goal

pub returns-then-r-eq1 : goal.returns-then-r-eq1
returns-then-r-eq1 c = λ road limit a. own_kept _ _ _ _ _ _ _ _ _ _ (omega (arith, c.if-r-eq1.true))

pub returns : goal.returns
returns c =
    let w = c.put_record-end.ensures in
    λ road limit a. own_written _ _ _ _ _ _ _ _ _ _ _ _ _ c.if-r-eq1.false (from-length _ _ _) w.place (w.tree road limit a)
