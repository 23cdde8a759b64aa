-- What the readers of the books answer: "Where an answer is an enum, a definition lists this paper's number and values
-- for each case. The promises use that definition." Assumes nothing: these are statements.
use Rattle.std.specs.Prelude.{◌≡◌, List, [], ◌∷◌, ℕ}
use Rattle.book.specs.Tests.{Test, FirstFailing}
use Rattle.book.specs.Cases.{Case, case_of}
use Rattle.road_layout.specs.Road.{junctions, road_count}
use Rattle.road_layout.specs.Layout.{told, road_case}
use Rattle.road.specs.Refusal.{road_refusal}
use Rattle.road.specs.Tests.{road_tests}
use Rattle.yard.specs.Yards.{yard_count, yard_refusal_in, yard_book, yard_case}
use Rattle.yard.specs.Tests.{yard_tests_in}
use Rattle.tree_layout.specs.Reading.{header_of, header_values}
use Rattle.tree.specs.Answer.{tree_of, tree_case}
use Rattle.tree.specs.Tests.{tree_tests}
use Rattle.query.specs.Query.{query_refusal, query_of, query_book, query_case, query_values}
use Rattle.query.specs.Tests.{query_tests}

-- an answer's case: its number is that of the first test that fails; 0 comes with the book's own values, and any other
-- number with as many zeros
pub record Tells (tests : List Test) (values : List ℕ) (c : Case) : Type 0 where
  pub first : FirstFailing tests c.number
  pub others : c ≡ case_of c.number values

-- the contracts of `road::read`, `yard::read_in`, `tree::read` and `query::read` say that these are their answers
pub record ReadersTell : Type 0 where
  pub roads : (b : List ℕ) → Tells (road_tests b) (junctions b ∷ road_count b ∷ [])
      (road_case (told (road_refusal b) (junctions b) (road_count b)))
  pub yards : (b : List ℕ) (n : ℕ) → Tells (yard_tests_in b n) (yard_count b ∷ [])
      (yard_case (yard_book (yard_refusal_in b n) (yard_count b)))
  pub trees : (b : List ℕ) → Tells (tree_tests b) (header_values (header_of b)) (tree_case (tree_of b))
  pub queries : (b : List ℕ) (n : ℕ) → Tells (query_tests b n) (query_values (query_of b))
      (query_case (query_book (query_refusal b n) (query_of b)))
