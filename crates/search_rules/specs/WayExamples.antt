-- Searches of roads that have a direction, each value computed by hand from the request. Assumes nothing: these are
-- definitions and statements.
use Rattle.std.specs.Prelude.{◌≡◌, Bool, true, false, not, List, [], ◌∷◌, ◌++◌, ℕ, ◌+◌, ◌-◌, get_or, leb, eqb}
use Rattle.book.specs.Choose.{choose}
use Rattle.tree_layout.specs.Values.{Mark, Region, leaf_mark, inner_mark}
use Rattle.search_rules.specs.Rule.{Rule, nearest, in_drive}
use Rattle.search_rules.specs.Instance.{Instance}
use Rattle.search_rules.specs.Bounds.{point_bound, lower_to, upper_from, bound, chosen, yard_bound}
use Rattle.search_rules.specs.Keys.{first_key, yard_key}
use Rattle.search_rules.specs.Queue.{unqueued}
use Rattle.search_rules.specs.Run.{run}
use Rattle.search_rules.specs.Theorems.{allowance}
use Rattle.search_rules.specs.Examples.{at, found, leaf_of, region_keys_after, yard_keys_after, counts, lists, ended}

-- Six junctions of a ring of one-way roads, 1, 2, 3, 4, 5 and 6 seconds: each stands so far from junction 0, and once
-- round takes 21.
unfoldable pub placed : ℕ → ℕ
placed v = get_or (0 ∷ 1 ∷ 3 ∷ 6 ∷ 10 ∷ 15 ∷ []) v 0

-- d(u, v): how far v is ahead of u
unfoldable pub ahead : ℕ → ℕ → ℕ
ahead u v = choose (leb (placed u) (placed v)) (placed v - placed u) (21 + placed v - placed u)

-- Yards 0, 2, 3 and 4, two landmarks for each region. The root's are junctions 1 and 3; the first leaf, with yards 0
-- and 2, has junctions 2 and 1, the second, with yards 3 and 4, junctions 5 and 3. Their distances away ..
unfoldable pub regions : List Region
regions = record {
  first = 0;
  after = 6;
  children = 2;
  yards = 4;
  kinds = 255;
  marks = inner_mark 1 2 20 ∷ inner_mark 3 0 18 ∷ [];
}
    ∷ leaf_of 0 3 (leaf_mark 2 (at 0 2 ∷ at 18 0 ∷ []) ∷ leaf_mark 1 (at 2 2 ∷ at 20 0 ∷ []) ∷ []) (at 0 2 ∷ at 18 0 ∷ [])
    ∷ leaf_of 3 6 (leaf_mark 5 (at 12 3 ∷ at 16 4 ∷ []) ∷ leaf_mark 3 (at 0 3 ∷ at 4 4 ∷ []) ∷ []) (at 12 3 ∷ at 16 4 ∷ [])
    ∷ []

-- .. and towards
unfoldable pub inwards : List (List Mark)
inwards = (inner_mark 1 1 19 ∷ inner_mark 3 0 17 ∷ [])
    ∷ (leaf_mark 2 (at 0 2 ∷ at 3 0 ∷ []) ∷ leaf_mark 1 (at 1 0 ∷ at 19 2 ∷ []) ∷ [])
    ∷ (leaf_mark 5 (at 5 4 ∷ at 9 3 ∷ []) ∷ leaf_mark 3 (at 0 3 ∷ at 17 4 ∷ []) ∷ []) ∷ []

-- the search for some crews, by a rule and an aggregate's code, of some wanted yards
unfoldable pub ring_for : (wants : ℕ → Bool) → Rule → (code : ℕ) → (crews : List ℕ) → Instance
ring_for wants rule code crews = record {
  code = code;
  rule = rule;
  crews = crews;
  tree = record { version = 3; junctions = 6; yards = 4; landmarks = 2; regions = regions };
  d = ahead;
  admits = λ r. true;
  wants = wants;
  one_way = true;
  towards = λ r. get_or inwards r [];
  -- to junction 2 from yards 0 and 2, to junction 5 from yards 3 and 4
  back = λ y. get_or (3 ∷ 0 ∷ 0 ∷ 9 ∷ 5 ∷ []) y 0;
}

unfoldable pub ring : Rule → (code : ℕ) → (crews : List ℕ) → Instance
ring rule code crews = ring_for (λ y. true) rule code crews

-- all but yard 3
unfoldable pub without_three : (crews : List ℕ) → Instance
without_three crews = ring_for (λ y. not (eqb y 3)) (nearest 3) 0 crews

-- for the crew at junction 1, and for the one at junction 0
unfoldable pub from_one : (k : ℕ) → Instance
from_one k = ring (nearest k) 0 (1 ∷ [])

unfoldable pub from_zero : Instance
from_zero = ring (nearest 1) 0 (0 ∷ [])

pub record WorkedWays : Type 0 where
  -- "the greatest of 0, d(l, p) − d(l, q) and d(q, l) − d(p, l)", of these four: each is the greatest once
  pub points : point_bound 9 2 3 1 ∷ point_bound 4 2 7 1 ∷ point_bound 1 2 3 4 ∷ [] ≡ 7 ∷ 6 ∷ 0 ∷ []
  -- "For the way from q to l, LB is ..", to junctions 5, 3, 2 and 1 from the crew at 1: by the root's junction 1 these
  -- are d(1, l) − 0; by its junction 3, 5 and 2 of junctions 3 and 2, and 0 else
  pub lowers : lower_to (from_one 1) 5 1 ∷ lower_to (from_one 1) 3 1 ∷ lower_to (from_one 1) 2 1 ∷ lower_to (from_one 1) 1 1 ∷ []
      ≡ 14 ∷ 5 ∷ 2 ∷ 0 ∷ []
  -- from the crew at 0 to junction 5 both landmarks lie on the way, and it is 0; to junction 3 the second gives
  -- d(0, 3) − 0
  pub lowers_on_the_way : lower_to from_zero 5 0 ∷ lower_to from_zero 3 0 ∷ [] ≡ 0 ∷ 6 ∷ []
  -- "For the way from l to q, UB is the least d(l, r) + d(r, q)": from junction 5 to the crew at 1 7 + 0 and 12 + 16,
  -- from 2 to it 19 + 0 and 3 + 16, from 3 to the crew at 0 16 + 20 and 0 + 15
  pub uppers : upper_from (from_one 1) 5 1 ∷ upper_from (from_one 1) 2 1 ∷ upper_from from_zero 3 0 ∷ [] ≡ 7 ∷ 19 ∷ 15 ∷ []
  -- "A region's bound by l is the greatest of 0, its least distance away minus UB, and LB minus its greatest distance
  -- towards." For the crew at 1. Root: by junction 1, 2 − 0. First leaf: by junction 2, 0 − 19 and 2 − 3; by junction
  -- 1, 2 − 0. Second leaf: by junction 5, 12 − 7 and 14 − 9; by junction 3, 0 − 16 and 5 − 17.
  pub bounds : bound (from_one 1) 0 ∷ bound (from_one 1) 1 ∷ bound (from_one 1) 2 ∷ [] ≡ 2 ∷ 2 ∷ 5 ∷ []
  -- For the crew at 4 the first leaf's is by the distances towards alone: by junction 2, LB 14 and 3, 11, and A 0; by
  -- junction 1, A 2 and UB 9, LB 12 and 19. For the crew at 0, which stands at its yard, it is 0: by junction 1, A 2 and
  -- UB 20, where LB is 1.
  pub one-part : bound (ring (nearest 1) 0 (4 ∷ [])) 1 ∷ bound from_zero 1 ∷ [] ≡ 11 ∷ 0 ∷ []
  -- over two crews, at 1 and 2: the sum and the maximum of 5 and 3
  pub over-crews : bound (ring (nearest 1) 0 (1 ∷ 2 ∷ [])) 2 ∷ bound (ring (nearest 1) 1 (1 ∷ 2 ∷ [])) 2 ∷ [] ≡ 8 ∷ 5 ∷ []
  -- "its leaf's first"
  pub firsts : (chosen (from_one 1) 1).place ∷ (chosen (from_one 1) 2).place ∷ [] ≡ 2 ∷ 5 ∷ []
  -- "on a version 3 tree a yard's bound uses the sheet's landmarks and its leaf's first": for the crew at 0 the sheet
  -- says 6 of yard 3 and nothing of yard 4; the leaf's first, junction 5, says 16 − 6 and 15 − 5 of yard 4
  pub yard-bounds : yard_bound from_zero (chosen from_zero 2) (at 12 3) ∷ yard_bound from_zero (chosen from_zero 2) (at 16 4) ∷ []
      ≡ 6 ∷ 10 ∷ []
  pub keys : first_key (from_one 1) 1 ∷ yard_key (from_one 1) 0 ∷ yard_key (from_one 1) 2 ∷ yard_key (from_one 1) 3
      ∷ yard_key (from_one 1) 4 ∷ [] ≡ 2 ∷ 20 ∷ 2 ∷ 5 ∷ 9 ∷ []
  -- The root's key is 2, its children's are 2 and 5. Step 2 takes the first leaf, which "queues all its wanted yards
  -- and not itself": yards 0 and 2 with 20 and 2.
  pub step_1 : region_keys_after (from_one 1) 1 ≡ unqueued ∷ 2 ∷ 5 ∷ []
  pub step_2 : region_keys_after (from_one 1) 2 ++ yard_keys_after (from_one 1) 2
      ≡ (unqueued ∷ unqueued ∷ 5 ∷ []) ++ 20 ∷ unqueued ∷ 2 ∷ unqueued ∷ unqueued ∷ unqueued ∷ []
  pub both_left : (run (from_one 1) 2).state.gone ≡ true ∷ false ∷ true ∷ false ∷ false ∷ false ∷ []
  -- Step 3 measures yard 2, which is 2 ahead, and what is queued is above that.
  pub nearest-yard : lists (from_one 1) 9 ≡ found 2 2 2 ∷ []
  pub nearest-counts : counts (from_one 1) 9 ≡ 3 ∷ 1 ∷ []
  -- without yard 3 the second leaf queues yard 4 alone, with 9
  pub wanted-alone : region_keys_after (without_three (1 ∷ [])) 4 ++ yard_keys_after (without_three (1 ∷ [])) 4
      ≡ (unqueued ∷ unqueued ∷ unqueued ∷ []) ++ 20 ∷ unqueued ∷ unqueued ∷ unqueued ∷ 9 ∷ unqueued ∷ []
  -- all four, of which yard 0 is furthest, nearly once round
  pub all-yards : lists (from_one 4) 9 ≡ found 2 2 2 ∷ found 5 5 3 ∷ found 9 9 4 ∷ found 20 20 0 ∷ []
  -- "regions plus yards is the limit promised to settle": 3 and 4, and one step less is spent; 3 and 3 of the wanted
  pub limits : allowance (from_one 4) (0 ∷ 2 ∷ 3 ∷ 4 ∷ []) ∷ allowance (without_three (1 ∷ [])) (0 ∷ 2 ∷ 4 ∷ []) ∷ []
      ≡ 7 ∷ 6 ∷ []
  pub ends : ended (from_one 4) 6 ∷ ended (from_one 4) 7 ∷ ended (without_three (1 ∷ [])) 5
      ∷ ended (without_three (1 ∷ [])) 6 ∷ [] ≡ false ∷ true ∷ false ∷ true ∷ []
  -- Crews at 1 and 0: yards 2, 3, 4 and 0 are 2 + 3, 5 + 6, 9 + 10 and 20 + 0 from them, and all but yard 0 within 19.
  pub drive_of_19 : lists (ring (in_drive 19) 0 (1 ∷ 0 ∷ [])) 9 ≡ found 5 3 2 ∷ found 11 6 3 ∷ found 19 10 4 ∷ []
  pub by_maximum : lists (ring (nearest 4) 1 (1 ∷ 0 ∷ [])) 9 ≡ found 3 3 2 ∷ found 6 6 3 ∷ found 10 10 4 ∷ found 20 20 0 ∷ []
