-- The examples' trees pass beside their roads, and searches on the same two areas in turn: so that demand 3 says
-- something of them. Assumes nothing: these are statements.
use Rattle.std.specs.Prelude.{◌≡◌, List, [], ◌∷◌, ◌++◌, ℕ, drop, replicate}
use Rattle.check_tree.specs.Check.{check_answer}
use Rattle.search_call.specs.Call.{Call, areas_after}
use Rattle.search_call.specs.Demand.{Promised}
use Rattle.examples.specs.Books.{road_n, tree_n, road_one, tree_one, road_three, tree_three, tree_kinds, asking}
use Rattle.examples.specs.Books.{on_n, on_three, on_kinds, lent, refused_row, settled_row, row}

-- a yard book of "yards 1, 3, 4", of "yard 0" and of "yards 0 and 2"
unfoldable pub yard_n : List ℕ
yard_n = 0 ∷ 0 ∷ 0 ∷ 9 ∷ 1 ∷ 0 ∷ 3 ∷ 0 ∷ 1 ∷ 0 ∷ 3 ∷ 0 ∷ 4 ∷ []

unfoldable pub yard_one : List ℕ
yard_one = 0 ∷ 0 ∷ 0 ∷ 5 ∷ 1 ∷ 0 ∷ 1 ∷ 0 ∷ 0 ∷ []

unfoldable pub yard_three : List ℕ
yard_three = 0 ∷ 0 ∷ 0 ∷ 7 ∷ 1 ∷ 0 ∷ 2 ∷ 0 ∷ 0 ∷ 0 ∷ 2 ∷ []

-- the yards of net N with kinds 1, 2 and both
unfoldable pub yard_kinds : List ℕ
yard_kinds = 0 ∷ 0 ∷ 0 ∷ 12 ∷ 2 ∷ 0 ∷ 3 ∷ 0 ∷ 1 ∷ 1 ∷ 0 ∷ 3 ∷ 2 ∷ 0 ∷ 4 ∷ 3 ∷ []

-- the listing; a crew at no junction; limit 3; the chain of three
unfoldable pub four : List Call
four = on_n (asking 0 2 4 (0 ∷ 2 ∷ [])) ∷ on_n (asking 0 2 4 (0 ∷ 5 ∷ [])) ∷ on_n (asking 0 2 3 (0 ∷ 2 ∷ [])) ∷ on_three
    (asking 0 1 6 (1 ∷ [])) ∷ []

pub record InTurn : Type 0 where
  pub passes-N : check_answer road_n yard_n tree_n 16384 ≡ 0
  pub passes-one : check_answer road_one yard_one tree_one 16384 ≡ 0
  pub passes-three : check_answer road_three yard_three tree_three 16384 ≡ 0
  -- with kinds: the tree passes beside its own yard book; beside the one without, whose kinds are 255, it is a 9
  pub passes-kinds : check_answer road_n yard_kinds tree_kinds 16384 ≡ 0
  pub other-kinds : check_answer road_n yard_n tree_kinds 16384 ≡ 9
  -- yards 3 and 4 have kind 2; by hand: the leaf at 2, yard 3 at 13, the leaf again at 15, yard 4 at 15
  pub wanted_2 : row (on_kinds 2 (asking 0 2 6 (0 ∷ 2 ∷ []))) ≡ settled_row 2 4 (3 ∷ 13 ∷ 4 ∷ 15 ∷ [])
  -- no yard has kind 4: "such a root settles empty with 0 taken"; "13, the wanted byte is 0"
  pub wanted_4 : row (on_kinds 4 (asking 0 2 6 (0 ∷ 2 ∷ []))) ≡ settled_row 0 0 []
  pub wanted_0 : row (on_kinds 0 (asking 0 2 6 (0 ∷ 2 ∷ []))) ≡ refused_row 13
  -- 10: "at no junction of the road book"
  pub refused : row (on_n (asking 0 2 4 (0 ∷ 5 ∷ []))) ≡ refused_row 10
  -- the listing's words are written, then the chain's yard over their start; the two others write nothing
  pub results : (areas_after four lent).results ≡ (0 ∷ 1 ∷ 3 ∷ 13 ∷ []) ++ drop 4 (replicate 128 7)
  pub promised : Promised four lent
