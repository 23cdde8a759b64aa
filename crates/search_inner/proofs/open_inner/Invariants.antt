use lib.ListN.{length}
use Rattle.tree_layout.specs.Decode.{junction_count, landmark_count}
use Rattle.search_inner.specs.code.Children.{wanted_in, key_of}
use Rattle.search_inner.proofs.Queueing.{Counted, Queueing}
use Rattle.search_inner.proofs.open_inner.Given as goal

abbrev pub invariant-loop : goal.invariant-loop
invariant-loop l = Counted l.tree l.places l.rows l.firsts
    × Queueing (wanted_in l.tree l.asked.wanted) (key_of l.tree l.table (landmark_count l.tree) l.asked.aggregate l.crews l.a) l.tree (length l.places) (junction_count l.tree) l.i l.end l.counter l.c l.initial.words l.words
