-- Bounds by two landmarks of a region, each value computed by hand from the paper. Assumes nothing: these are
-- definitions and statements.
use Rattle.std.specs.Prelude.{◌≡◌, List, [], ◌∷◌, ℕ}
use Rattle.tree_layout.specs.Values.{leaf_mark, inner_mark}
use Rattle.search_rules.specs.Instance.{Instance}
use Rattle.search_rules.specs.Bounds.{lower, upper, bound, weight, chosen}
use Rattle.search_rules.specs.Examples.{on_chain, at, leaf_of}

-- The chain of six, junctions at 0, 2, 6, 10, 12 and 20, with two landmarks for each region: the root's are junctions 0
-- and 3, those of the leaf with yards 3 and 4 are junctions 4 and 2, and junction 5 is both of the other's, whose yard
-- it is.
unfoldable pub twice : (code : ℕ) → (crews : List ℕ) → Instance
twice code crews = on_chain (0 ∷ 2 ∷ 6 ∷ 10 ∷ 12 ∷ 20 ∷ []) code 1 crews 3
    (record { first = 0; after = 6; children = 2; yards = 3; kinds = 255; marks = inner_mark 0 10 20 ∷ inner_mark 3 0 10 ∷ [] }
    ∷ leaf_of 0 5 (leaf_mark 4 (at 0 4 ∷ at 2 3 ∷ []) ∷ leaf_mark 2 (at 4 3 ∷ at 6 4 ∷ []) ∷ []) (at 0 4 ∷ at 2 3 ∷ [])
    ∷ leaf_of 5 6 (leaf_mark 5 (at 0 5 ∷ []) ∷ leaf_mark 5 (at 0 5 ∷ []) ∷ []) (at 0 5 ∷ []) ∷ [])

unfoldable pub twice_from : (crew : ℕ) → Instance
twice_from crew = twice 0 (crew ∷ [])

pub record WorkedBounds : Type 0 where
  -- "LB(l, q) is the greatest difference": of junctions 2 and 4 |6 − 12| and |4 − 2|; of 1 and 4 |2 − 12| and |8 − 2|;
  -- of 3 and 5 |10 − 20| and |0 − 10|; of 2 and 3 |6 − 10| and |4 − 0|
  pub lowers : lower (twice_from 1) 2 4 ∷ lower (twice_from 1) 1 4 ∷ lower (twice_from 1) 3 5 ∷ lower (twice_from 1) 2 3 ∷ []
      ≡ 6 ∷ 10 ∷ 10 ∷ 4 ∷ []
  -- "UB(l, q) the least sum": of junctions 0 and 1 0 + 2 and 10 + 8, the first's; of 4 and 5 12 + 20 and 2 + 10, the
  -- second's
  pub uppers : upper (twice_from 1) 0 1 ∷ upper (twice_from 1) 4 5 ∷ [] ≡ 2 ∷ 12 ∷ []
  -- "The greatest over the region's landmarks is taken". The root, for the crew at 1: by junction 0, UB 2 and A 10, 8;
  -- by junction 3, UB 8 and A 0, LB 8 and B 10, 0. By the greatest sum UB would be 18, and the bound 0.
  pub by_the_first : bound (twice_from 1) 0 ≡ 8
  -- The first leaf, for the crew at 5: by junction 4, LB 8 and B 2, 6; by junction 2, LB 14 and B 6, 8.
  pub by_the_second : bound (twice_from 5) 1 ≡ 8
  -- The first leaf, for the crew at 1: by junction 4, LB 10 and B 2, 8; by junction 2, LB 4 and B 6, UB 8 and A 4, 0.
  -- So "then the aggregate over crews": 8 and 8.
  pub over-crews : bound (twice 0 (1 ∷ 5 ∷ [])) 1 ∷ bound (twice 1 (1 ∷ 5 ∷ [])) 1 ∷ [] ≡ 16 ∷ 8 ∷ []
  -- "greatest sum of LB over crews", for the crew at 5: of junction 4 |12 − 20| and |2 − 10|, of junction 2 |6 − 20| and
  -- |4 − 10|; the second is picked. UB would be 12 and 14.
  pub weights : weight (twice_from 5) (leaf_mark 4 []) ∷ weight (twice_from 5) (leaf_mark 2 []) ∷ [] ≡ 8 ∷ 14 ∷ []
  pub second_picked : (chosen (twice_from 5) 1).place ≡ 2
