-- Worked examples of rules that only their definitions fix, each value computed by hand from the paper. Assumes
-- nothing: these are definitions and statements.
use Rattle.std.specs.Prelude.{◌≡◌, Bool, true, false, not, List, [], ◌∷◌, ◌++◌, ℕ, length, get_or, ltb, eqb}
use Rattle.tree_layout.specs.Values.{Element, Mark, Region, leaf_mark, inner_mark}
use Rattle.search_rules.specs.Rule.{nearest, in_drive}
use Rattle.search_rules.specs.Instance.{Instance}
use Rattle.search_rules.specs.Order.{Entry}
use Rattle.search_rules.specs.Bounds.{abs_diff, bound, weight, chosen, f, yard_bound}
use Rattle.search_rules.specs.Queue.{unqueued}
use Rattle.search_rules.specs.Run.{run, answer}
use Rattle.search_rules.specs.Theorems.{barrens}

-- ---- junctions in a chain

-- A search on a chain of junctions, given by each one's distance from junction 0, for yards of any kind. No rule reads
-- the tree's version or its count of landmarks.
unfoldable pub on_chain : List ℕ → (code k : ℕ) → (crews : List ℕ) → (yards : ℕ) → List Region → Instance
on_chain along code k crews yards regions = record {
  code = code;
  rule = nearest k;
  crews = crews;
  tree = record { version = 1; junctions = length along; yards = yards; landmarks = 1; regions = regions };
  d = λ u v. abs_diff (get_or along u 0) (get_or along v 0);
  admits = λ r. true;
  wants = λ y. true;
  one_way = false;
  towards = λ r. [];
  back = λ y. 0;
}

-- a list's element
unfoldable pub at : (distance yard : ℕ) → Element
at distance yard = record { distance = distance; yard = yard; kinds = 255 }

-- a yard with its aggregate and the distance of its furthest crew
unfoldable pub found : (distance furthest yard : ℕ) → Entry
found distance furthest yard = record { distance = distance; furthest = furthest; yard = yard }

-- a leaf of junctions from first up to after
unfoldable pub leaf_of : (first after : ℕ) → List Mark → List Element → Region
leaf_of first after marks list = record {
  first = first;
  after = after;
  children = 0;
  yards = length list;
  kinds = 255;
  marks = marks;
}

-- "Chain of three, seconds 1 and 1, yards 0 and 2, crew 1, k 1", one leaf with some landmarks
unfoldable pub three : List Mark → Instance
three marks = on_chain (0 ∷ 1 ∷ 2 ∷ []) 0 1 (1 ∷ []) 2 (leaf_of 0 3 marks (at 0 0 ∷ at 2 2 ∷ []) ∷ [])

-- its landmarks at junction 0 and at junction 2
unfoldable pub from0 : Mark
from0 = leaf_mark 0 (at 0 0 ∷ at 2 2 ∷ [])

unfoldable pub from2 : Mark
from2 = leaf_mark 2 (at 0 2 ∷ at 2 0 ∷ [])

-- A chain of three, seconds 6 and 4, yards 1 and 2, two crews at junction 0 and one at junction 2; one leaf with
-- landmarks at junction 0 and at junction 1.
unfoldable pub heavy : (code : ℕ) → Instance
heavy code = on_chain (0 ∷ 6 ∷ 10 ∷ []) code 1 (0 ∷ 0 ∷ 2 ∷ []) 2
    (leaf_of 0 3 (leaf_mark 0 (at 6 1 ∷ at 10 2 ∷ []) ∷ leaf_mark 1 (at 0 1 ∷ at 4 2 ∷ []) ∷ []) (at 6 1 ∷ at 10 2 ∷ [])
    ∷ [])

-- A chain of six, seconds 2, 4, 4, 2, 8: junctions at 0, 2, 6, 10, 12 and 20. One crew, sum, k 1. The root's landmark
-- is junction 0, with some A, truly 10, and B 20; its children are a leaf with yards 3 and 4, whose landmark is
-- junction 2, and a leaf with yard 5, its own landmark.
unfoldable pub near : Mark
near = leaf_mark 2 (at 4 3 ∷ at 6 4 ∷ [])

unfoldable pub six_for : (crew least : ℕ) → Instance
six_for crew least = on_chain (0 ∷ 2 ∷ 6 ∷ 10 ∷ 12 ∷ 20 ∷ []) 0 1 (crew ∷ []) 3
    (record { first = 0; after = 6; children = 2; yards = 3; kinds = 255; marks = inner_mark 0 least 20 ∷ [] }
    ∷ leaf_of 0 5 (near ∷ []) (at 4 3 ∷ at 6 4 ∷ []) ∷ leaf_of 5 6 (leaf_mark 5 (at 0 5 ∷ []) ∷ []) (at 0 5 ∷ []) ∷ [])

-- for crew 1, with the true A
unfoldable pub six : Instance
six = six_for 1 10

-- A chain of three, seconds 1 and 1, the crew at one end and the one yard at the other, the landmark between them: the
-- yard's bound is |1 − 1|, and its aggregate 2.
unfoldable pub across : Instance
across = on_chain (0 ∷ 1 ∷ 2 ∷ []) 0 1 (0 ∷ []) 1 (leaf_of 0 3 (leaf_mark 1 (at 1 2 ∷ []) ∷ []) (at 1 2 ∷ []) ∷ [])

-- the search for all yards within a drive of so many seconds, of the same tree and crews
unfoldable pub driven : (seconds : ℕ) → Instance → Instance
driven seconds i = record {
  code = i.code;
  rule = in_drive seconds;
  crews = i.crews;
  tree = i.tree;
  d = i.d;
  admits = i.admits;
  wants = i.wants;
  one_way = i.one_way;
  towards = i.towards;
  back = i.back;
}

-- the search with other regions that may enter the queue and other wanted yards
unfoldable pub wanting : (admits wants : ℕ → Bool) → Instance → Instance
wanting admits wants i = record {
  code = i.code;
  rule = i.rule;
  crews = i.crews;
  tree = i.tree;
  d = i.d;
  admits = admits;
  wants = wants;
  one_way = i.one_way;
  towards = i.towards;
  back = i.back;
}

-- the chain of six with yard 4 alone wanted: the root and the first leaf may enter the queue
unfoldable pub four_only : Instance
four_only = wanting (λ r. ltb r 2) (λ y. eqb y 4) six

-- with yard 5 alone wanted: the root and the second leaf may enter
unfoldable pub five_only : Instance
five_only = wanting (λ r. not (eqb r 1)) (λ y. eqb y 5) six

-- with yard 4 alone wanted, where the second leaf may enter too, though its yard isn't wanted
unfoldable pub in_vain : Instance
in_vain = wanting (λ r. true) (λ y. eqb y 4) six

-- no yard is wanted, and no region may enter
unfoldable pub none_wanted : Instance
none_wanted = wanting (λ r. false) (λ y. false) six

-- Net N, "junctions 0 to 4 in a chain, seconds 2, 3, 4, 1; yards 1, 3, 4; m 1, leaf limit 3", crews 0 and 2, k 2, sum,
-- with some wanted yards
unfoldable pub net_for : (wants : ℕ → Bool) → Instance
net_for wants =
    let list = at 2 1 ∷ at 9 3 ∷ at 10 4 ∷ [] in
    wanting (λ r. true) wants
    (on_chain (0 ∷ 2 ∷ 5 ∷ 9 ∷ 10 ∷ []) 0 2 (0 ∷ 2 ∷ []) 3 (leaf_of 0 5 (leaf_mark 0 list ∷ []) list ∷ []))

-- ---- what is seen of a search after some steps

-- the regions' words
unfoldable pub region_keys_after : Instance → ℕ → List ℕ
region_keys_after i n = (run i n).state.region_keys

-- the yards' words, by junction
unfoldable pub yard_keys_after : Instance → ℕ → List ℕ
yard_keys_after i n = (run i n).state.yard_keys

-- the measured yards
unfoldable pub measured_after : Instance → ℕ → List ℕ
measured_after i n = (run i n).state.measured

-- the steps taken and the number of the measured yards, under a limit
unfoldable pub counts : Instance → ℕ → List ℕ
counts i n = (answer i n).taken ∷ (answer i n).measured ∷ []

-- the listed yards, under a limit
unfoldable pub lists : Instance → ℕ → List Entry
lists i n = (answer i n).listed

-- whether it is settled, under a limit
unfoldable pub ended : Instance → ℕ → Bool
ended i n = (answer i n).settled

-- ---- the values

pub record Worked : Type 0 where
  -- "its landmark with greatest sum of LB over crews, ties to the first": on the chain of three both landmarks are 1
  -- from the crew
  pub tied-weights : weight (three (from0 ∷ from2 ∷ [])) from0 ∷ weight (three (from0 ∷ from2 ∷ [])) from2 ∷ []
      ≡ 1 ∷ 1 ∷ []
  pub first-landmark : (chosen (three (from0 ∷ from2 ∷ [])) 0).place ∷ (chosen (three (from2 ∷ from0 ∷ [])) 0).place ∷ []
      ≡ 0 ∷ 2 ∷ []
  -- By the sum also under the maximum (code 1): junction 0 has LB 0, 0, 10, sum 10; junction 1 has 6, 6, 4, sum 16. By
  -- the maximum, 10 against 6, it would be junction 0.
  pub by_sum : (chosen (heavy 1) 0).place ∷ (chosen (heavy 0) 0).place ∷ [] ≡ 1 ∷ 1 ∷ []
  -- The regions' bounds on the chain of six. Root: LB 2, UB 2, A 10: 10 − 2. First leaf: LB 4, UB 8, A 4, B 6: 0.
  -- Second leaf: LB 18, B 0: 18.
  pub bounds : bound six 0 ∷ bound six 1 ∷ bound six 2 ∷ [] ≡ 8 ∷ 0 ∷ 18 ∷ []
  -- "f, the aggregate of |d(l, q) − d(l, p)|": |4 − 4| and |4 − 6|
  pub by_landmark : f six near (at 4 3) ∷ f six near (at 6 4) ∷ [] ≡ 0 ∷ 2 ∷ []
  -- "A yard's bound takes per crew the greatest of these differences over the sheet's landmarks and l": the sheet's
  -- landmark, junction 0, gives |10 − 2| and |12 − 2|, more than l's 0 and 2
  pub by_table : yard_bound six near (at 4 3) ∷ yard_bound six near (at 6 4) ∷ [] ≡ 8 ∷ 10 ∷ []
  -- "The queue starts with the root." Step 1 takes it: "A region's key is the greater of this and its parent's key":
  -- 8 and 18
  pub step_1 : region_keys_after six 1 ≡ unqueued ∷ 8 ∷ 18 ∷ []
  -- Step 2 takes the first leaf: yard 3 has the least f, and key 8. "itself, with the greater of its first key and the
  -- next f": of 8 and 2.
  pub step_2 : region_keys_after six 2 ++ yard_keys_after six 2
      ≡ (unqueued ∷ 8 ∷ 18 ∷ []) ++ unqueued ∷ unqueued ∷ unqueued ∷ 8 ∷ unqueued ∷ unqueued ∷ []
  -- "at equal keys a region precedes a yard": step 3 takes the leaf, and not yard 3, both at 8; yard 4 gets the greater
  -- of its bound 10 and 8, and none remains
  pub step_3 : region_keys_after six 3 ++ yard_keys_after six 3
      ≡ (unqueued ∷ unqueued ∷ 18 ∷ []) ++ unqueued ∷ unqueued ∷ unqueued ∷ 8 ∷ 10 ∷ unqueued ∷ []
  pub none-measured : measured_after six 3 ≡ []
  -- Step 4 measures yard 3.
  pub step_4 : measured_after six 4 ≡ 3 ∷ []
  -- Where the next f is the greater: on the chain of three the first key is 0, and both f are 1.
  pub by_next : region_keys_after (three (from0 ∷ [])) 1 ++ yard_keys_after (three (from0 ∷ [])) 1
      ≡ (1 ∷ []) ++ 1 ∷ unqueued ∷ unqueued ∷ []
  -- "each yard whose aggregate is at most a given number of seconds": on the chain of six yards 3, 4 and 5 are 8, 10
  -- and 18 from the crew. Within 10: a key that equals the seconds is taken, and an aggregate that does is listed.
  pub drive_of_10 : lists (driven 10 six) 9 ≡ found 8 8 3 ∷ found 10 10 4 ∷ []
  -- "settled when the queue is empty or every queued key is above the seconds": within 9 after step 4, when yard 4 is
  -- queued at 10; within 7 before the first step, the root's key being 8
  pub drive_of_9 : lists (driven 9 six) 9 ≡ found 8 8 3 ∷ []
  pub stops_above : counts (driven 9 six) 9 ++ counts (driven 7 six) 9 ≡ (4 ∷ 1 ∷ []) ++ 0 ∷ 0 ∷ []
  -- a yard measured above the seconds is measured and not held
  pub measured-above : lists (driven 1 across) 9 ≡ []
  pub counted-above : counts (driven 1 across) 9 ≡ 2 ∷ 1 ∷ []
  -- "Regions and yards without a wanted bit never enter the queue": step 1 of the search for yard 4 alone queues the
  -- first leaf and not the second
  pub wanted_1 : region_keys_after four_only 0 ++ region_keys_after four_only 1
      ≡ (8 ∷ unqueued ∷ unqueued ∷ []) ++ unqueued ∷ 8 ∷ unqueued ∷ []
  -- it queues the second and not the first in the search for yard 5 alone
  pub wanted-beside : region_keys_after five_only 0 ++ region_keys_after five_only 1
      ≡ (8 ∷ unqueued ∷ unqueued ∷ []) ++ unqueued ∷ unqueued ∷ 18 ∷ []
  -- "A leaf, when taken, passes over its unwanted elements": step 2 queues yard 4 with the greater of its bound 10 and
  -- 8, though yard 3 has the lesser f, and no wanted one remains
  pub wanted_2 : region_keys_after four_only 2 ++ yard_keys_after four_only 2
      ≡ (unqueued ∷ unqueued ∷ unqueued ∷ []) ++ unqueued ∷ unqueued ∷ unqueued ∷ unqueued ∷ 10 ∷ unqueued ∷ []
  -- Step 3 measures it, and the queue is empty.
  pub wanted_3 : measured_after four_only 3 ++ counts four_only 9 ≡ (4 ∷ []) ++ 3 ∷ 1 ∷ []
  pub wanted-list : lists four_only 9 ≡ found 10 10 4 ∷ []
  -- "its next yard, the next f and whether any remain concern wanted ones alone": on net N the leaf's first key is 2,
  -- and yards 1, 3 and 4 have the f 5, 13 and 15. Yard 1 leaves; the leaf is queued again at 13, or at 15 without yard
  -- 3.
  pub next-wanted : region_keys_after (net_for (λ y. true)) 1 ++ region_keys_after (net_for (λ y. not (eqb y 3))) 1
      ++ yard_keys_after (net_for (λ y. not (eqb y 3))) 1
      ≡ (13 ∷ []) ++ (15 ∷ []) ++ unqueued ∷ 5 ∷ unqueued ∷ unqueued ∷ unqueued ∷ []
  -- "while its list's first and last in the bound are still those of the whole list": without yard 1 the leaf's first
  -- key is still 2; by yards 3 and 4 alone, A 9 and B 10, it would be 9 of the first crew and 4 of the second
  pub whole-list : region_keys_after (net_for (λ y. not (eqb y 1))) 0 ≡ 2 ∷ []
  -- "A leaf without any wanted yard queues nothing when taken": within 18 step 4 takes the second leaf, at 18, and
  -- nothing is queued any more; for the nearest yard alone it isn't taken
  pub vain_3 : region_keys_after (driven 18 in_vain) 3 ++ yard_keys_after (driven 18 in_vain) 3
      ≡ (unqueued ∷ unqueued ∷ 18 ∷ []) ++ unqueued ∷ unqueued ∷ unqueued ∷ unqueued ∷ unqueued ∷ unqueued ∷ []
  pub vain_4 : region_keys_after (driven 18 in_vain) 4 ++ yard_keys_after (driven 18 in_vain) 4
      ≡ (unqueued ∷ unqueued ∷ unqueued ∷ []) ++ unqueued ∷ unqueued ∷ unqueued ∷ unqueued ∷ unqueued ∷ unqueued ∷ []
  pub vain_counts : counts (driven 18 in_vain) 9 ++ counts in_vain 9 ≡ (4 ∷ 1 ∷ []) ++ 3 ∷ 1 ∷ []
  pub vain_list : lists (driven 18 in_vain) 9 ≡ found 10 10 4 ∷ []
  pub vain_leaves : barrens in_vain ∷ barrens four_only ∷ barrens six ∷ [] ≡ 1 ∷ 0 ∷ 0 ∷ []
  -- "such a root settles empty with 0 taken", under the limit 0 too
  pub none-queued : region_keys_after none_wanted 0 ≡ unqueued ∷ unqueued ∷ unqueued ∷ []
  pub none-settled : ended none_wanted 0 ∷ ended none_wanted 9 ∷ [] ≡ true ∷ true ∷ []
  pub none-counts : counts none_wanted 0 ++ counts none_wanted 9 ≡ (0 ∷ 0 ∷ []) ++ 0 ∷ 0 ∷ []
  pub none_list : lists none_wanted 9 ≡ []
