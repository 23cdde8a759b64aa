-- What a search keeps of the yards that it measures, and when that is enough: the rule beside the queue. Assumes
-- nothing: these are definitions.
use Rattle.std.specs.Prelude.{Bool, ◌&&◌, List, [], ◌∷◌, ℕ, length, take, ltb, leb, eqb}
use Rattle.book.specs.Choose.{choose}
use Rattle.search_rules.specs.Order.{Entry}
use Rattle.search_rules.specs.Rule.{Rule, nearest, in_drive}
use Rattle.search_rules.specs.Instance.{Instance}
use Rattle.search_rules.specs.Held.{insert, hold, greatest_held, entry}

-- what is held once one more yard is measured: "the k least so far in yard order are held"; of a drive search each yard
-- "whose aggregate is at most" the seconds, and a yard above them is measured and not held
unfoldable pub keep_by : Rule → Entry → List Entry → List Entry
keep_by (nearest k) e held = hold k e held
keep_by (in_drive seconds) e held = choose (leb e.distance seconds) (insert e held) held

-- what is held is enough, by the least queued key: "k are held and every queued key is above the greatest held
-- distance"; of a drive search "every queued key is above the seconds"
unfoldable pub enough_by : Rule → List Entry → ℕ → Bool
enough_by (nearest k) held key = eqb (length held) k && ltb (greatest_held held) key
enough_by (in_drive seconds) held key = ltb seconds key

module _ (i : Instance) where
  -- what is held once yard y is measured
  unfoldable pub keep : ℕ → List Entry → List Entry
  keep y held = keep_by i.rule (entry i y) held

  -- whether that is enough
  unfoldable pub enough : List Entry → ℕ → Bool
  enough held key = enough_by i.rule held key

-- ---- what that comes to, of all yards in yard order

-- the yards at the front that are within the seconds
unfoldable pub up_to : ℕ → List Entry → List Entry
up_to seconds [] = []
up_to seconds (e ∷ es) = choose (leb e.distance seconds) (e ∷ up_to seconds es) []

-- those that a rule asks for: the first k, or all within the seconds
unfoldable pub front : Rule → List Entry → List Entry
front (nearest k) es = take k es
front (in_drive seconds) es = up_to seconds es
