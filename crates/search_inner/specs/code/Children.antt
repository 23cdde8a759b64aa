-- The keys of a region's children, by a search's words. Assumes nothing: these are definitions.
use Rattle.std.specs.Prelude.{◌≡◌, Bool, ℕ, ◌+◌, ◌<◌, max, length, get_or, set}
use mathlib.Core.List.{List, [], ◌∷◌, Memᴰ as Mem}
use Rattle.kinds.specs.Kinds.{shares}
use Rattle.tree_layout.specs.Values.{region_at}
use Rattle.tree_layout.specs.Decode.{decode, region_count}
use Rattle.tree.specs.Yards.{end_of, children_of}
use Rattle.search_bounds.specs.code.Bounds.{rows_bound}
use Rattle.search_state.specs.code.State.{word_count, firsts_at}

-- region c's byte shares a bit with the wanted byte
unfoldable pub wanted_in : (tree : List ℕ) → (wanted c : ℕ) → Bool
wanted_in tree wanted c = shares wanted (region_at (decode tree).regions c).kinds

-- "A region's key is the greater of this and its parent's key.": region c's, by the landmark table's rows
unfoldable pub key_of : (tree table : List ℕ) → (rows code : ℕ) → (crews : List ℕ) → (parent c : ℕ) → ℕ
key_of tree table rows code crews parent c =
    max (rows_bound table rows code crews (region_at (decode tree).regions c).marks) parent

-- the words of a search of r regions and n junctions with the keys and the first keys of some regions set
unfoldable pub put_keys : (ℕ → ℕ) → (r n : ℕ) → List ℕ → List ℕ → List ℕ
put_keys g r n [] ws = ws
put_keys g r n (c ∷ cs) ws = put_keys g r n cs (set (set ws c (g c)) (firsts_at r n + c) (g c))

-- for each region the number of the region after its subtree
pub record Ended (tree ends : List ℕ) : Type 0 where
  pub count : length ends ≡ region_count tree
  pub held : (j : ℕ) → j < length ends → get_or ends j 0 ≡ end_of (decode tree).regions j

-- region v and its children have words in those of a search of r regions and n junctions
pub record Slots (tree : List ℕ) (r n : ℕ) (words : List ℕ) (v : ℕ) : Type 0 where
  pub count : length words ≡ word_count r n
  pub self : v < r
  pub children : (c : ℕ) → Mem c (children_of (decode tree).regions v) → c < r
