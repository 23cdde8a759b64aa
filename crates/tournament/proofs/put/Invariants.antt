use mathlib.Core.Path.{◌≡◌}
use Prim.Native.Nat.{◌-◌, ◌<◌}
use lib.ListN.{length, get_or}
use Rattle.tournament.specs.code.Tournament.{queue_words, repair}
use Rattle.tournament.proofs.put.Given as goal

abbrev pub invariant-loop : goal.invariant-loop
invariant-loop l = (l.i < queue_words) × (length l.tree ≡ queue_words) × (l.word ≡ get_or l.tree l.i 0) × (repair (5 - l.counter) l.tree l.i ≡ repair 5 l.initial.tree l.initial.i)
