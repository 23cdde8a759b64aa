-- What stays the same during a search, and what is kept of the leaves that were taken. Assumes nothing: these are
-- statements.
use Rattle.std.specs.Prelude.{◌≡◌, ◌≢◌, Bool, List, ℕ, ◌<◌, length, get_or, T}
use Rattle.road.specs.code.Rows.{Rowed}
use Rattle.tree_layout.specs.Decode.{landmark_count}
use Rattle.tree.specs.Arrays.{Laid}
use Rattle.search_rules.specs.Rule.{Asking}
use Rattle.search_rules.specs.Instance.{Instance, size, marks, leaf}
use Rattle.search_rules.specs.Books.{search_of, Passed}
use Rattle.search_rules.specs.Bounds.{chosen}
use Rattle.tree_layout.specs.Values.{no_mark}
use Rattle.search_bounds.specs.code.Tables.{LandmarkTable}
use Rattle.search_state.specs.code.State.{word_count, region_keys_in, yard_keys_in, firsts_in, picks_in}
use Rattle.search_state.specs.code.State.{gone_in, value_count, fs_in, bounds_in}
use Rattle.search_leaf.specs.code.Leaves.{Opened}

-- number p is that of the landmark that region r picks, among its own
pub record IsPick (i : Instance) (r p : ℕ) : Type 0 where
  pub inside : p < length (marks i r)
  pub is : get_or (marks i r) p no_mark ≡ chosen i r

-- the books and the crews are accepted, each crew has its row of distances, the places are the tree book's, and the
-- landmark table is filled
pub record Ready (road tree : List ℕ) (a : Asking) (crews drives places table : List ℕ) : Type 0 where
  pub passed : Passed road tree crews
  pub driven : Rowed road crews drives
  pub laid : Laid tree places
  pub tableed : LandmarkTable (search_of road tree a crews) (landmark_count tree) table

-- beside some road book
pub record Readied (tree : List ℕ) (a : Asking) (crews drives places table : List ℕ) : Type 0 where
  pub road : List ℕ
  pub ready : Ready road tree a crews drives places table

-- the mark of a leaf that was never taken
abbrev pub unopened : ℕ
unopened = 18446744073709551615

-- for each leaf that was taken the number of its landmark, and at its yards' junctions their f, if they are wanted, and
-- their bounds
pub record Cached (i : Instance) (picks fs bounds : List ℕ) : Type 0 where
  pub picks_count : length picks ≡ size i
  pub fs-count : length fs ≡ i.tree.junctions
  pub bounds-count : length bounds ≡ i.tree.junctions
  pub picked : (r : ℕ) → r < size i → T (leaf i r) → get_or picks r 0 ≢ unopened → IsPick i r (get_or picks r 0)
  pub opened : (r : ℕ) → r < size i → T (leaf i r) → get_or picks r 0 ≢ unopened → Opened i (chosen i r) fs bounds

-- region r is a leaf
pub record IsLeaf (i : Instance) (r : ℕ) : Type 0 where
  pub inside : r < size i
  pub is : T (leaf i r)

-- leaf r is open: p is the number of its landmark, and its yards have their f and their bounds
pub record OpenLeaf (i : Instance) (picks fs bounds : List ℕ) (r p : ℕ) : Type 0 where
  pub cached : Cached i picks fs bounds
  pub pick : IsPick i r p
  pub opened : Opened i (chosen i r) fs bounds

-- there is a word for each region and for each junction
pub record Counted (i : Instance) (keys yards firsts : List ℕ) (gone : List Bool) : Type 0 where
  pub keys-count : length keys ≡ size i
  pub firsts-count : length firsts ≡ size i
  pub yards-count : length yards ≡ i.tree.junctions
  pub gone-count : length gone ≡ i.tree.junctions

-- of a search of r regions and n junctions: region l is a leaf, and the words and the yards' values keep what was taken
-- before
pub record Leafed (i : Instance) (r n : ℕ) (words values : List ℕ) (l : ℕ) : Type 0 where
  pub count : length words ≡ word_count r n
  pub value-count : length values ≡ value_count
  pub cached : Cached i (picks_in r n words) (fs_in n values) (bounds_in n values)
  pub is_leaf : IsLeaf i l
  pub counted : Counted i (region_keys_in r n words) (yard_keys_in r n words) (firsts_in r n words) (gone_in r n words)

-- of the words before and after, the keys, the first keys and which yards have left are the same
pub record SameQueue (r n : ℕ) (before after : List ℕ) : Type 0 where
  pub keys : region_keys_in r n after ≡ region_keys_in r n before
  pub yards : yard_keys_in r n after ≡ yard_keys_in r n before
  pub firsts : firsts_in r n after ≡ firsts_in r n before
  pub gone : gone_in r n after ≡ gone_in r n before
