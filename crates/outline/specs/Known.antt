-- What writing an outline knows of the arrays that reading a tree book fills in. Assumes nothing: these are
-- definitions.
use Rattle.std.specs.Prelude.{◌≡◌, List, ℕ, ◌<◌, length, get_or}
use Rattle.tree_layout.specs.Decode.{decode}
use Rattle.tree.specs.Yards.{end_of}
use Rattle.tree.specs.Arrays.{Laid}

-- the place of each region's record, and the region after its subtree
pub record Known (b places ends : List ℕ) : Type 0 where
  pub laid : Laid b places
  pub count : length ends ≡ length places
  pub ended : (i : ℕ) → i < length ends → get_or ends i 0 ≡ end_of (decode b).regions i
