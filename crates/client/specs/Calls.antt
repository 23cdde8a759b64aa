-- Searches as their caller has them: the books and the areas that are lent, and what two in turn give on the same
-- areas. Assumes nothing: these are definitions.
use Rattle.std.specs.Prelude.{◌≡◌, List, [], ◌∷◌, ℕ}
use Rattle.search_call.specs.Call.{Want, Call, Areas, Found, searches, found_on, call_on, areas_after}
use Rattle.search_call.specs.Demand.{Promised, settled_lists, overwritten}

abbrev pub call_of : (road tree query : List ℕ) → (want : Want) → Call
call_of road tree query want = record { road = road; tree = tree; query = query; want = want }

abbrev pub areas_of : (work results : List ℕ) → Areas
areas_of work results = record { work = work; results = results }

-- two calls, each with its own books, on areas that hold anything at first: what each returned, and both areas at the
-- end
pub record InTurn (c d : Call) (a : Areas) (first second : Found) (last : Areas) : Type 0 where
  -- the second is given both areas as the first left them
  pub one : first ≡ found_on c a
  pub other : second ≡ found_on d (call_on c a)
  pub left : last ≡ areas_after (c ∷ d ∷ []) a
  -- demand 3, of the list of both
  pub promised : Promised (c ∷ d ∷ []) a
  -- "at the end the result area is what it held at first with all the settled lists written over its start in turn"
  pub written : last.results ≡ overwritten (settled_lists (searches (c ∷ d ∷ []) a)) a.results
