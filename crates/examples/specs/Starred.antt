-- The paper's starred examples, as the rows of one result. Assumes nothing: these are statements.
use Rattle.std.specs.Prelude.{◌≡◌, true, false, List, [], ◌∷◌, ℕ, ◌≤◌}
use Rattle.tree_layout.specs.Values.{Element}
use Rattle.search_rules.specs.Rule.{nearest}
use Rattle.search_rules.specs.Instance.{Instance}
use Rattle.search_rules.specs.Bounds.{crew_bound, f}
use Rattle.tree_layout.specs.Values.{no_mark}
use Rattle.examples.specs.Books.{asking, on_n, on_one, on_three, row, settled_row, spent_row}

-- crews whose distance from a landmark is their own number
unfoldable pub valued : List ℕ → Instance
valued crews = record {
  code = 0;
  rule = nearest 1;
  crews = crews;
  tree = record {
    version = 1;
    junctions = 0;
    yards = 0;
    landmarks = 0;
    regions = [];
  };
  d = λ l q. q;
  admits = λ r. true;
  wants = λ y. true;
  one_way = false;
  towards = λ r. [];
  back = λ y. 0;
}

-- a list's element at a distance
unfoldable pub example_list : ℕ → Element
example_list distance = record { distance = distance; yard = 0; kinds = 255 }

-- "For N, sum, k 2, limit 4, crews 0 and 2"; "Below, values not named are the listing's, with limit 6."
pub record Starred : Type 0 where
  -- "The listing above.": "1 5", "3 13", "measured 2 taken 4"
  pub listing : row (on_n (asking 0 2 4 (0 ∷ 2 ∷ []))) ≡ settled_row 2 4 (1 ∷ 5 ∷ 3 ∷ 13 ∷ [])
  -- "Limit 3 is spent.": "spent measured 1 taken 3"
  pub limit_3 : row (on_n (asking 0 2 3 (0 ∷ 2 ∷ []))) ≡ spent_row 1 3
  -- "Maximum, k 1: yard 1, 3."
  pub maximum : row (on_n (asking 1 1 6 (0 ∷ 2 ∷ []))) ≡ settled_row 1 2 (1 ∷ 3 ∷ [])
  -- "Crews 0, 0, sum, k 1: yard 1, 4."
  pub both_count : row (on_n (asking 0 1 6 (0 ∷ 0 ∷ []))) ≡ settled_row 1 2 (1 ∷ 4 ∷ [])
  -- "k 64: three yards."
  pub all-yards : row (on_n (asking 0 64 6 (0 ∷ 2 ∷ []))) ≡ settled_row 3 6 (1 ∷ 5 ∷ 3 ∷ 13 ∷ 4 ∷ 15 ∷ [])
  -- "One junction, no road, yard 0, crew 0: distance 0, taken 2."
  pub one-junction : row (on_one (asking 0 2 6 (0 ∷ []))) ≡ settled_row 1 2 (0 ∷ 0 ∷ [])
  -- "LB 12, B 9: bound 3."
  pub near-bound : (ub a : ℕ) → crew_bound 12 ub a 9 ≡ 3
  -- "UB 4, A 9: bound 5.": LB is at most UB, and B at least A
  pub far-bound : (lb b : ℕ) → lb ≤ 4 → 9 ≤ b → crew_bound lb 4 9 b ≡ 5
  -- "LB 5, UB 20, A 9, B 12: bound 0."
  pub no_bound : crew_bound 5 20 9 12 ≡ 0
  -- "Crew values 5, 5, 10 and list 4, 7: f is 8 and 7."
  pub far_side : (f (valued (5 ∷ 5 ∷ 10 ∷ [])) no_mark (example_list 4) ≡ 8)
      × (f (valued (5 ∷ 5 ∷ 10 ∷ [])) no_mark (example_list 7) ≡ 7)
  -- "Chain of three, seconds 1 and 1, yards 0 and 2, crew 1, k 1: yard 0."
  pub tied : row (on_three (asking 0 1 6 (1 ∷ []))) ≡ settled_row 2 4 (0 ∷ 1 ∷ [])
