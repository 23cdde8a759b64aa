-- A yard with its numbers by a road book. Assumes nothing: these are definitions.
use Rattle.std.specs.Prelude.{List, ℕ}
use Rattle.search_rules.specs.Order.{Entry, entry_of}
use Rattle.search_measure.specs.code.Cases.{total_of, furthest_of}

-- yard y with its aggregate and the distance of its furthest crew
unfoldable pub entry_on : (road : List ℕ) → (code : ℕ) → (crews : List ℕ) → (y : ℕ) → Entry
entry_on road code crews y = entry_of (total_of road code crews y) (furthest_of road crews y) y
