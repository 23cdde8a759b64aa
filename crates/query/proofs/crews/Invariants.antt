use mathlib.Core.Path.{◌≡◌}
use Prim.Native.Nat.{ℕ, ◌<◌}
use lib.ListN.{length, get_or}
use Rattle.query.specs.Query.{crew_count, crew_at}
use Rattle.query.proofs.crews.Given as goal

abbrev pub invariant-loop-i : goal.invariant-loop-i
invariant-loop-i l = (l.n ≡ crew_count l.b) × (length l.out ≡ length l.initial.out) × ((j : ℕ) → j < l.i → get_or l.out j 0 ≡ crew_at l.b j)
