use Rattle.adjacency.specs.Adjacency.{count_in}
use mathlib.Core.Path.{◌≡◌}
use Prim.Native.Nat.{ℕ, ◌<◌}
use lib.ListN.{length}
use Rattle.tournament.specs.code.Tournament.{queue_words}
use Rattle.road.specs.code.Queue.{WalkingIn}
use Rattle.road.proofs.walk.distances.Given as goal

abbrev pub invariant-loop : goal.invariant-loop
invariant-loop l = (length l.row ≡ 1024) × (length l.done ≡ 1024) × (length l.queue ≡ queue_words)
    × ((source : ℕ) → source < count_in l.adj → WalkingIn l.adj source 0 l.initial.row l.initial.done l.initial.queue → WalkingIn l.adj source l.counter l.row l.done l.queue)
