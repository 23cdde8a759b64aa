-- Keys and measured yards of small districts, each value computed by hand from the paper. Assumes nothing: these are
-- definitions and statements.
use Rattle.std.specs.Prelude.{◌≡◌, [], ◌∷◌, ◌++◌}
use Rattle.tree_layout.specs.Values.{inner_mark, leaf_mark}
use Rattle.search_rules.specs.Instance.{Instance}
use Rattle.search_rules.specs.Bounds.{bound}
use Rattle.search_rules.specs.Keys.{first_key, home, yard_key}
use Rattle.search_rules.specs.Queue.{unqueued}
use Rattle.search_rules.specs.Examples.{on_chain, at, found, leaf_of, three, from0, near, six_for, six, driven}
use Rattle.search_rules.specs.Examples.{region_keys_after, yard_keys_after, measured_after, lists}

-- A chain of seven, the chain of six and ten seconds more. Crew 1, sum, k 1. The root has an inner region and a leaf
-- with yard 6; the inner region, its landmark junction 2, has the two leaves of the chain of six.
unfoldable pub seven : Instance
seven = on_chain (0 ∷ 2 ∷ 6 ∷ 10 ∷ 12 ∷ 20 ∷ 30 ∷ []) 0 1 (1 ∷ []) 4
    (record { first = 0; after = 7; children = 2; yards = 4; kinds = 255; marks = inner_mark 0 10 30 ∷ [] }
    ∷ record { first = 0; after = 6; children = 2; yards = 3; kinds = 255; marks = inner_mark 2 4 14 ∷ [] }
    ∷ leaf_of 0 5 (near ∷ []) (at 4 3 ∷ at 6 4 ∷ []) ∷ leaf_of 5 6 (leaf_mark 5 (at 0 5 ∷ []) ∷ []) (at 0 5 ∷ [])
    ∷ leaf_of 6 7 (leaf_mark 6 (at 0 6 ∷ []) ∷ []) (at 0 6 ∷ []) ∷ [])

pub record WorkedKeys : Type 0 where
  -- "the greatest bound on the way from the root": the bounds are 8, 0 and 18, the first leaf's alone would be 0
  pub first-keys : first_key six 0 ∷ first_key six 1 ∷ first_key six 2 ∷ [] ≡ 8 ∷ 8 ∷ 18 ∷ []
  -- yards 3 and 4 are the first leaf's, yard 5 the second's
  pub homes : home six 3 ∷ home six 4 ∷ home six 5 ∷ [] ≡ 1 ∷ 1 ∷ 2 ∷ []
  -- "the greater of its bound and its leaf's first key": of 8 and 8, of 10 and 8, of 18 and 18
  pub keys : yard_key six 3 ∷ yard_key six 4 ∷ yard_key six 5 ∷ [] ≡ 8 ∷ 10 ∷ 18 ∷ []
  -- On the chain of seven the bounds of the inner region and of its first leaf are 0, and the root's is 8: the greatest
  -- on the way goes to them all.
  pub bounds_of_seven : bound seven 0 ∷ bound seven 1 ∷ bound seven 2 ∷ bound seven 3 ∷ bound seven 4 ∷ []
      ≡ 8 ∷ 0 ∷ 0 ∷ 18 ∷ 28 ∷ []
  pub first-keys_of_seven : first_key seven 0 ∷ first_key seven 1 ∷ first_key seven 2 ∷ first_key seven 3
      ∷ first_key seven 4 ∷ [] ≡ 8 ∷ 8 ∷ 8 ∷ 18 ∷ 28 ∷ []
  -- For a crew at junction 5 the first leaf's bound is 14 − 6, and the root's and the second leaf's are 0: what stands
  -- beside the way, though before it, doesn't count.
  pub beside_the_way : first_key (six_for 5 10) 0 ∷ first_key (six_for 5 10) 1 ∷ first_key (six_for 5 10) 2 ∷ []
      ≡ 0 ∷ 8 ∷ 0 ∷ []
  pub keys-beside : yard_key (six_for 5 10) 3 ∷ yard_key (six_for 5 10) 4 ∷ yard_key (six_for 5 10) 5 ∷ [] ≡ 10 ∷ 8 ∷ 0 ∷ []
  -- Where the leaf's first key is the greater, in a tree that check refuses by 9: the root's least distance is said to
  -- be 15, so that its bound is 15 − 2, and the yards' are 8, 10 and 18 as before.
  pub false_keys : yard_key (six_for 1 15) 3 ∷ yard_key (six_for 1 15) 4 ∷ yard_key (six_for 1 15) 5 ∷ [] ≡ 13 ∷ 13 ∷ 18 ∷ []
  -- and with these a run queues them: step 2 takes the first leaf, step 3 takes it again
  pub false_queue : yard_keys_after (six_for 1 15) 3 ≡ unqueued ∷ unqueued ∷ unqueued ∷ 13 ∷ 13 ∷ unqueued ∷ []
  -- On the chain of three the leaf's first key is 0, and it is queued again at 1, its current key; so are its yards,
  -- by their bounds.
  pub first-not_current : first_key (three (from0 ∷ [])) 0 ∷ region_keys_after (three (from0 ∷ [])) 1 ≡ 0 ∷ 1 ∷ []
  pub equal_keys : yard_key (three (from0 ∷ [])) 0 ∷ yard_key (three (from0 ∷ [])) 2 ∷ [] ≡ 1 ∷ 1 ∷ []
  -- k is 1 and yard 0 is listed at 1: yard 2, whose key is 1 too, is measured, though it is not listed
  pub equal_measured : measured_after (three (from0 ∷ [])) 9 ≡ 2 ∷ 0 ∷ []
  pub equal_list : lists (three (from0 ∷ [])) 9 ≡ found 1 1 0 ∷ []
  -- on the chain of six yard 3 is listed at 8, and yard 4, whose key is 10, isn't measured; within 10 it is
  pub above-left : measured_after six 9 ++ measured_after (driven 10 six) 9 ≡ (3 ∷ []) ++ 4 ∷ 3 ∷ []
