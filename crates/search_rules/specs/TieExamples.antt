-- Worked examples of ties, each value computed by hand. Assumes nothing: these are definitions and statements.
use Rattle.std.specs.Prelude.{◌≡◌, Bool, true, false, [], ◌∷◌, ◌++◌, ℕ, ltb}
use Rattle.tree_layout.specs.Values.{leaf_mark}
use Rattle.search_rules.specs.Instance.{Instance}
use Rattle.search_rules.specs.Examples.{on_chain, at, found, leaf_of, driven, wanting, measured_after, counts, lists, ended}

-- A chain of five, seconds 2, 3, 3, 2: junctions at 0, 2, 5, 8 and 10. The crews stand at its ends, and yards 1, 2 and
-- 3 between them: each has the sum 10, and its furthest crew is 8, 5 and 8 away. One leaf, its landmark at junction 0;
-- an aggregate's code, k and some wanted yards.
unfoldable pub between : (code k : ℕ) → (wants : ℕ → Bool) → Instance
between code k wants =
    let list = at 2 1 ∷ at 5 2 ∷ at 8 3 ∷ [] in
    wanting (λ r. true) wants
    (on_chain (0 ∷ 2 ∷ 5 ∷ 8 ∷ 10 ∷ []) code k (0 ∷ 4 ∷ []) 3 (leaf_of 0 5 (leaf_mark 0 list ∷ []) list ∷ []))

-- all three wanted
unfoldable pub three_way : (code k : ℕ) → Instance
three_way code k = between code k (λ y. true)

pub record WorkedTies : Type 0 where
  -- Of yards 1 and 2 the fairer has the higher number, of yards 2 and 3 the lower: yard 2 comes first.
  pub higher_number : lists (between 0 2 (λ y. ltb y 3)) 9 ≡ found 10 5 2 ∷ found 10 8 1 ∷ []
  pub lower-number : lists (between 0 2 (λ y. ltb 1 y)) 9 ≡ found 10 5 2 ∷ found 10 8 3 ∷ []
  -- Three tie across the k-th place: yard 2, then yards 1 and 3, whose furthest crews are as far, by number.
  pub first_of_three : lists (three_way 0 1) 9 ≡ found 10 5 2 ∷ []
  pub two_of_three : lists (three_way 0 2) 9 ≡ found 10 5 2 ∷ found 10 8 1 ∷ []
  pub all_three : lists (three_way 0 3) 9 ≡ found 10 5 2 ∷ found 10 8 1 ∷ found 10 8 3 ∷ []
  -- A tie at a step limit, for one yard. The leaf's first key is 4, the three f and bounds are 10: steps 1 to 3 take
  -- the leaf, step 4 measures yard 1, step 5 yard 2, whose aggregate is the ceiling, and step 6 yard 3; then the queue
  -- is empty. A limit of 5 is spent and lists nothing, though yard 2 is held by then.
  pub in_turn_lem : measured_after (three_way 0 1) 5 ++ measured_after (three_way 0 1) 6 ≡ (2 ∷ 1 ∷ []) ++ 3 ∷ 2 ∷ 1 ∷ []
  pub at_the_limit : ended (three_way 0 1) 5 ∷ ended (three_way 0 1) 6 ∷ [] ≡ false ∷ true ∷ []
  pub spent : lists (three_way 0 1) 5 ≡ []
  pub taken : counts (three_way 0 1) 5 ++ counts (three_way 0 1) 6 ≡ (5 ∷ 2 ∷ []) ++ 6 ∷ 3 ∷ []
  -- Within 10 seconds all three, in the same order; within 9 none.
  pub within_10 : lists (driven 10 (three_way 0 1)) 9 ≡ found 10 5 2 ∷ found 10 8 1 ∷ found 10 8 3 ∷ []
  pub within_9 : lists (driven 9 (three_way 0 1)) 9 ≡ []
  -- Under the maximum the aggregates are 8, 5 and 8.
  pub maximum : lists (three_way 1 3) 9 ≡ found 5 5 2 ∷ found 8 8 1 ∷ found 8 8 3 ∷ []
