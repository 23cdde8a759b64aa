-- What holds of an accepted search call. Assumes nothing: these are statements.
use Rattle.std.specs.Prelude.{◌≡◌, List, ℕ, ◌*◌, ◌≤◌}
use Rattle.book.specs.Bytes.{Bytes}
use Rattle.work_area.specs.Work.{work_words}
use Rattle.road_layout.specs.Road.{junctions}
use Rattle.road.specs.Refusal.{road_refusal}
use Rattle.tree_layout.specs.Decode.{junction_count}
use Rattle.tree.specs.Shape.{tree_refusal}
use Rattle.query.specs.Query.{crews_of, QueryLayout}
use Rattle.search_rules.specs.Books.{Passed}
use Rattle.search_call.specs.Call.{Want, most_yards}

pub record AcceptedSearch (road tree query : List ℕ) (want : Want) (work results : ℕ) : Type 0 where
  pub roads : road_refusal road ≡ 0
  pub shape : tree_refusal tree ≡ 0
  pub counts : junction_count tree ≡ junctions road
  pub asked : QueryLayout query (junctions road)
  pub books : Bytes tree → Passed road tree (crews_of query)
  pub some-kind : 1 ≤ want.kinds
  pub work-full : work_words ≤ work
  pub results-full : 2 * most_yards tree query want ≤ results
