-- A search: steps up to a limit, and its answer. Assumes nothing: these are definitions.
use Rattle.std.specs.Prelude.{Bool, true, false, List, [], ◌∷◌, ℕ, zero, suc, length}
use Rattle.book.specs.Choose.{choose}
use Rattle.search_rules.specs.Order.{Entry}
use Rattle.search_rules.specs.Instance.{Instance}
use Rattle.search_rules.specs.Step.{SearchState, step, settled, start_search}

-- a search's state and the number of steps taken
pub record Outcome : Type 0 where
  pub state : SearchState
  pub taken : ℕ

-- What a search answers: whether it is settled (else it is spent), the yards listed with their aggregates, the steps
-- taken, and the number of yards measured.
pub record Answer : Type 0 where
  pub settled : Bool
  pub listed : List Entry
  pub taken : ℕ
  pub measured : ℕ

-- "(yard, distance) words": those of a list of yards
unfoldable pub words : List Entry → List ℕ
words [] = []
words (e ∷ es) = e.yard ∷ e.distance ∷ words es

module _ (i : Instance) where
  -- one more step, unless it is settled, which is asked before each step
  unfoldable pub advance : Outcome → Outcome
  advance o = let s = step i o.state in choose (settled i o.state) o (record {
    state = s;
    taken = suc o.taken;
  })

  -- a search under a step limit
  unfoldable pub run : ℕ → Outcome
  run zero = record { state = start_search i; taken = 0 }
  run (suc limit) = let o = run limit in advance o

  -- "Settled writes (yard, distance) words ..; spent writes nothing there. Both return taken and measured, and settled
  -- also the number of yards listed.": of the outcome, asked once more whether it is settled
  unfoldable pub report : Outcome → Answer
  report o =
      let s = settled i o.state in
      record {
        settled = s;
        listed = choose s o.state.held [];
        taken = o.taken;
        measured = length o.state.measured;
      }

  unfoldable pub answer : ℕ → Answer
  answer limit = let o = run limit in report o
