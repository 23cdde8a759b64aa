use mathlib.Core.Path.{◌≡◌}
use Prim.Native.Nat.{◌-◌, ◌<◌}
use lib.ListN.{length}
use Rattle.tournament.specs.code.Tournament.{queue_words}
use Rattle.tournament.proofs.Lowering.{lowered}
use Rattle.tournament.proofs.lower.Given as goal

abbrev pub invariant-loop : goal.invariant-loop
invariant-loop l = (l.i < queue_words) × (length l.tree ≡ queue_words) × (lowered (5 - l.counter) l.tree l.i l.x ≡ lowered 5 l.initial.tree l.initial.i l.x)
