-- Whether all of the first distances are reached. Assumes nothing.
use mathlib.Core.Path.{◌≡◌, refl, sym}
use mathlib.Core.Bool.{Bool}
use mathlib.Core.List.{List}
use Prim.Native.Nat.{ℕ, zero, suc, ◌≤◌}
use native.Mathlib.Numerals.{add-one}
use native.Mathlib.Omega.{arith}
use lib.ListN.{length, take}
use lib.Dec.{ltb}
use Rattle.std.specs.List.{list_all}
use Rattle.std.proofs.lemmas.List.Folds.{list_all_more}
use Rattle.road.specs.Dijkstra.{far}
use Rattle.road.specs.Refusal.{all_reached}
use Rattle.road.proofs.Shortening.{at-inside}

-- they are where each of the first n passes the test
pub reached-all : (ds : List ℕ) (n : ℕ) → n ≤ length ds → all_reached ds n ≡ list_all (λ d. ltb d far) (take n ds)
unfolding all_reached
reached-all ds zero h = refl
reached-all ds (suc n) h =
    let rest = reached-all ds n (omega arith) in
    rw (rest, ← at-inside ds n (omega arith), ← add-one n) (sym (list_all_more (λ d. ltb d far) ds n 0 (omega arith)))

-- the answer by the distances and the count that were used
pub reached_by : (r : Bool) (ds es : List ℕ) (n m : ℕ) → r ≡ all_reached ds n → ds ≡ es → n ≡ m → r ≡ all_reached es m
reached_by r ds es n m e f g = rw (← f, ← g) e
