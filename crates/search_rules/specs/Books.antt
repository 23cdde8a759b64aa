-- The search of a road book and a tree book, and what the tests give of them. Assumes nothing: these are definitions.
use Rattle.std.specs.Prelude.{◌≡◌, false, ℕ, ◌≤◌, ◌<◌, length}
use mathlib.Core.List.{List, [], Memᴰ as Mem}
use Rattle.book.specs.Bytes.{Bytes}
use Rattle.road_layout.specs.Road.{junctions}
use Rattle.road.specs.Dijkstra.{dist}
use Rattle.road.specs.Facts.{Passing}
use Rattle.kinds.specs.Kinds.{shares}
use Rattle.tree_layout.specs.Values.{region_at}
use Rattle.tree_layout.specs.Decode.{decode, junction_count}
use Rattle.tree.specs.Shape.{tree_refusal}
use Rattle.tree.specs.Yards.{kinds_of}
use Rattle.search_rules.specs.Rule.{Asking}
use Rattle.search_rules.specs.Instance.{Instance}

-- of the tree book's tree, with the road book's distances, for yards of some wanted kinds: "a yard is wanted if its
-- byte in its leaf's first list shares a bit"
unfoldable pub search_of : (road tree : List ℕ) → Asking → (crews : List ℕ) → Instance
search_of road tree a crews = record {
  code = a.code;
  rule = a.rule;
  crews = crews;
  tree = decode tree;
  d = dist road;
  admits = λ r. shares a.wanted (region_at (decode tree).regions r).kinds;
  wants = λ y. shares a.wanted (kinds_of (decode tree) y);
  one_way = false;
  towards = λ r. [];
  back = λ y. 0;
}

-- what the tests give of the two books and the crews
pub record Passed (road tree crews : List ℕ) : Type 0 where
  pub roads : Passing road
  pub bytes : Bytes tree
  pub shaped : tree_refusal tree ≡ 0
  -- "Junction counts .. disagree between books"
  pub counts : junctions road ≡ junction_count tree
  -- "Crews are none, more than 16, or at no junction of the road book."
  pub few : length crews ≤ 16
  pub there : (q : ℕ) → Mem q crews → q < junctions road
