-- A search's state in an array of words, its yards' values in another, and when it is settled. Assumes nothing: these
-- are definitions.
use Rattle.std.specs.Prelude.{◌≡◌, Bool, not, ◌||◌, List, [], ◌∷◌, ℕ, zero, suc, ◌+◌, ◌*◌, get_or, take, drop, T, eqb}
use Rattle.search_rules.specs.Instance.{Instance}
use Rattle.search_rules.specs.Queue.{queued}
use Rattle.search_rules.specs.Rule.{Rule}
use Rattle.search_rules.specs.Keeping.{enough_by}
use Rattle.search_rules.specs.Step.{SearchState, settled}
use Rattle.search_rules.specs.Run.{run}
use Rattle.search_rules.specs.Order.{Entry}

-- The words of a search of r regions and n junctions, each part one word for each of them, one part after the other:
-- regions' keys, yards' keys, regions' first keys, the landmarks that leaves picked, and which yards have left (0 if
-- so).
abbrev pub word_count : ℕ → ℕ → ℕ
word_count r n = 3 * r + 2 * n

-- where each part begins
abbrev pub yard_keys_at : ℕ → ℕ → ℕ
yard_keys_at r n = r

abbrev pub firsts_at : ℕ → ℕ → ℕ
firsts_at r n = r + n

abbrev pub picks_at : ℕ → ℕ → ℕ
picks_at r n = 2 * r + n

abbrev pub gone_at : ℕ → ℕ → ℕ
gone_at r n = 3 * r + n

-- The values of its yards, of 32 bits each: the f of each of up to 1,024 junctions, and then their bounds.
abbrev pub value_count : ℕ
value_count = 2048

abbrev pub bounds_at : ℕ
bounds_at = 1024

-- n words from a place on
unfoldable pub part : List ℕ → ℕ → ℕ → List ℕ
part ws at n = take n (drop at ws)

-- each word is 0
unfoldable pub zeros : List ℕ → List Bool
zeros [] = []
zeros (w ∷ ws) = eqb w 0 ∷ zeros ws

module _ (r n : ℕ) (ws : List ℕ) where
  abbrev pub region_keys_in : List ℕ
  region_keys_in = part ws 0 r

  abbrev pub yard_keys_in : List ℕ
  yard_keys_in = part ws (yard_keys_at r n) n

  abbrev pub firsts_in : List ℕ
  firsts_in = part ws (firsts_at r n) r

  abbrev pub picks_in : List ℕ
  picks_in = part ws (picks_at r n) r

  abbrev pub gone_in : List Bool
  gone_in = zeros (part ws (gone_at r n) n)

-- of n junctions
module _ (n : ℕ) (vs : List ℕ) where
  abbrev pub fs_in : List ℕ
  fs_in = part vs 0 n

  abbrev pub bounds_in : List ℕ
  bounds_in = part vs bounds_at n

-- the first n numbers of an array, the last one first
unfoldable pub newest : List ℕ → ℕ → List ℕ
newest l zero = []
newest l (suc n) = get_or l n 0 ∷ newest l n

-- the state of a search of r regions and n junctions: its words, the held yards, and the measured yards with their
-- number
unfoldable pub state_of : (r n : ℕ) → (ws : List ℕ) → (held : List Entry) → (measured : List ℕ) → ℕ → SearchState
state_of r n ws held measured count = record {
  region_keys = region_keys_in r n ws;
  yard_keys = yard_keys_in r n ws;
  firsts = firsts_in r n ws;
  gone = gone_in r n ws;
  held = held;
  measured = newest measured count;
}

-- "The search is settled when the queue is empty, or", by its rule, what is held is enough: by the least key
unfoldable pub settled_by : Rule → (least : ℕ) → List Entry → Bool
settled_by rule least held = not (queued least) || enough_by rule held least

-- a search has come to a state by a number of steps, and isn't settled
pub record Unsettled (i : Instance) (st : SearchState) : Type 0 where
  pub steps : ℕ
  pub is : st ≡ (run i steps).state
  pub unsettled : T (not (settled i st))
