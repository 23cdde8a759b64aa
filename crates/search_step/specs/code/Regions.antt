-- What a step takes. Assumes nothing: these are statements.
use Rattle.std.specs.Prelude.{◌≡◌, List, ℕ, ◌+◌, ◌<◌, length}
use Rattle.search_rules.specs.Instance.{Instance, size}
use Rattle.search_rules.specs.Queue.{pick}
use Rattle.search_rules.specs.Step.{SearchState}
use Rattle.search_state.specs.code.State.{word_count, value_count, part, picks_in, fs_in, bounds_in, Unsettled}
use Rattle.search_leaf.specs.code.Ready.{Cached}

-- of a search of r regions and n junctions: v is a region, and the words and the yards' values keep what was taken
-- before
pub record RegionQueued (i : Instance) (r n : ℕ) (words values : List ℕ) (v : ℕ) : Type 0 where
  pub count : length words ≡ word_count r n
  pub value-count : length values ≡ value_count
  pub cached : Cached i (picks_in r n words) (fs_in n values) (bounds_in n values)
  pub inside : v < size i

-- the search isn't settled in its state, and the words and the yards' values keep what was taken before
pub record Going (i : Instance) (r n : ℕ) (words values : List ℕ) (st : SearchState) : Type 0 where
  pub value-count : length values ≡ value_count
  pub cached : Cached i (picks_in r n words) (fs_in n values) (bounds_in n values)
  pub unsettled : Unsettled i st

-- number p is that of the least of the queue's words, the regions' and then the yards'
abbrev pub FirstLeast : (r n : ℕ) → (words : List ℕ) → ℕ → Type 0
FirstLeast r n words p = p ≡ pick (part words 0 (r + n)) (r + n)
