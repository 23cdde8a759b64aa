-- The bytes of a region's record: its fields, and how many they are. Assumes nothing.
use mathlib.Core.Path.{◌≡◌}
use mathlib.Core.List.{List, ◌++◌, map}
use Prim.Native.Nat.{ℕ, ◌+◌, ◌<◌}
use native.Mathlib.Omega.{arith}
use lib.ListN.{length}
use Rattle.kinds.specs.Kinds.{together}
use Rattle.tree_layout.specs.Values.{leaf_mark, inner_mark}
use Rattle.tree_layout.specs.Decode.{record_size}
use Rattle.tree_encode.specs.Encode.{encode_marks, encode_region}
use Rattle.tree_encode.specs.code.Parts.{encode_fields}
use Rattle.tree_encode.proofs.Sizes.{region_size}
use Rattle.tree_encode.proofs.Parts.{region_is}
use Rattle.check_rules.specs.Truth.{least, greatest}
use Rattle.build_rules.specs.Cut.{Given, landmarks_of, ranked_list, leaf_region, inner_region}
use Rattle.build_rules.proofs.Regions.{leaf-count, leaf_long, inner-count}

-- in a version v book
module _ (g : Given) (v a s : ℕ) where
  -- a leaf's record
  pub leaf_record : (ys : List ℕ) → encode_region v (leaf_region g a s ys)
      ≡ encode_fields v a (a + s) 0 (length ys) (together g.kinds ys) ++ encode_marks v 0 (map (λ l. leaf_mark l (ranked_list g l ys)) (landmarks_of g a s))
  unfolding leaf_region
  leaf_record ys = region_is v (leaf_region g a s ys)

  pub leaf-size : (ys : List ℕ) → length (encode_region v (leaf_region g a s ys)) ≡ record_size v g.landmarks 0 (length ys)
  unfolding leaf_region
  leaf-size ys = region_size v g.landmarks (leaf_region g a s ys) (leaf-count g a s ys) (λ e k i. leaf_long g a s ys k i)

  -- an inner region's
  pub inner_record : (q : ℕ) (ys : List ℕ) → encode_region v (inner_region g a s q ys)
      ≡ encode_fields v a (a + s) q (length ys) (together g.kinds ys) ++ encode_marks v q (map (λ l. inner_mark l (least (g.d l) ys) (greatest (g.d l) ys))
      (landmarks_of g a s))
  unfolding inner_region
  inner_record q ys = region_is v (inner_region g a s q ys)

  pub inner-size : (q : ℕ) (ys : List ℕ) → 0 < q → length (encode_region v (inner_region g a s q ys)) ≡ record_size v g.landmarks q (length ys)
  unfolding inner_region
  inner-size q ys h = region_size v g.landmarks (inner_region g a s q ys) (inner-count g a s q ys) (λ e k i. absurd (omega arith))
