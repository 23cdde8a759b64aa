-- "the one tree that the stated cuts give", of a road book and a yard book. Assumes nothing: these are definitions.
use Rattle.std.specs.Prelude.{◌≡◌, List, ℕ}
use Rattle.book.specs.Open.{version}
use Rattle.road_layout.specs.Road.{junctions, roads}
use Rattle.adjacency.specs.Arcs.{net}
use Rattle.road.specs.Walk.{Least}
use Rattle.yard.specs.Yards.{yard_count, yards_of, HasKinds}
use Rattle.tree_layout.specs.Values.{Tree}
use Rattle.build_rules.specs.Cuts.{Terms, CutRange}

-- "Given m (1 to 4) and a leaf limit (1 to 256).", with the road book's roads and the yard book's kinds; "Distance
-- d(u, v) is the least total of seconds over all walks from u to v"
abbrev pub book_terms : (road yard : List ℕ) (m limit : ℕ) → Terms
book_terms road yard m limit = record {
  roads = roads road;
  Distance = Least (net road);
  Kinds = HasKinds yard;
  landmarks = m;
  limit = limit;
}

-- t is a tree that the stated cuts give
pub record BuiltFrom (road yard : List ℕ) (m limit : ℕ) (t : Tree) : Type 0 where
  -- "a build writes its yard book's version"
  pub same_version : t.version ≡ version yard
  -- "junctions u16 .., yards u16 .., landmarks per region m u8": those of the books, and the given m
  pub all-junctions : t.junctions ≡ junctions road
  pub all-yards : t.yards ≡ yard_count yard
  pub per_region : t.landmarks ≡ m
  -- "The first range is all junctions.", with the yard book's yards; its regions are cut as "Building" says
  pub cuts : CutRange (book_terms road yard m limit) 0 (junctions road) (yards_of yard) t.regions
