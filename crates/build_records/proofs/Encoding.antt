-- The landmarks' bytes are what `encode` writes of a region's landmarks. Assumes nothing.
use mathlib.Core.Path.{◌≡◌, sym}
use mathlib.Core.List.{List, map}
use Prim.Native.Nat.{ℕ, zero, suc, ◌-◌, ◌<◌}
use Rattle.yard.specs.Yards.{yards_from}
use Rattle.tree_layout.specs.Values.{Mark, leaf_mark, inner_mark}
use Rattle.check_rules.specs.Truth.{least, greatest}
use Rattle.tree_encode.specs.Encode.{encode_mark, encode_marks}
use Rattle.tree_encode.proofs.Sizes.{marks-none, marks-next}
use Rattle.build_rules.specs.Cut.{Given, landmark, landmarks_from, ranked_list}
use Rattle.build_rules.proofs.Landmarks.{landmarks-none, landmarks-next}
use Rattle.build_records.specs.code.Marks.{mark_bytes, landmark_bytes}
use Rattle.build_records.proofs.Writing.{mark_leaf_encoded, mark_inner_encoded}

-- one landmark's bytes at a time
marks-bytes : (v : ℕ) (f : ℕ → List ℕ) (k : ℕ → Mark) (c : ℕ) → ((l : ℕ) → encode_mark v c (k l) ≡ f l) → (m a s : ℕ) (bs : List ℕ) (n j : ℕ)
    → landmark_bytes f m a s bs n j ≡ encode_marks v c (map k (landmarks_from m a s bs n j))
unfolding landmark_bytes
marks-bytes v f k c e m a s bs zero j = rw (landmarks-none m a s bs j) (sym (marks-none v c))
marks-bytes v f k c e m a s bs (suc n) j =
    rw (landmarks-next m a s bs n j) (rw (marks-bytes v f k c e m a s bs n (suc j), ← e (landmark m a s bs j)) (sym (marks-next v c (k (landmark m a s bs j))
    (map k (landmarks_from m a s bs n (suc j))))))

module _ (g : Given) (yb : List ℕ) (from to q m a s : ℕ) (bs : List ℕ) where
  abbrev zs : List ℕ
  zs = yards_from yb (to - from) from

  -- a leaf's landmarks
  pub leaf-marks_encoded : q ≡ 0 → landmark_bytes (mark_bytes g yb from to q) m a s bs m 0
      ≡ encode_marks g.version 0 (map (λ l. leaf_mark l (ranked_list g l (yards_from yb (to - from) from))) (landmarks_from m a s bs m 0))
  leaf-marks_encoded e =
      marks-bytes g.version (mark_bytes g yb from to q) (λ l. leaf_mark l (ranked_list g l zs)) 0 (λ l. mark_leaf_encoded g yb from to q l e) m a s bs m 0

  -- an inner region's
  pub inner-marks_encoded : 0 < q → landmark_bytes (mark_bytes g yb from to q) m a s bs m 0
      ≡ encode_marks g.version q (map (λ l. inner_mark l (least (g.d l) (yards_from yb (to - from) from)) (greatest (g.d l) (yards_from yb (to - from) from)))
      (landmarks_from m a s bs m 0))
  inner-marks_encoded h =
      marks-bytes g.version (mark_bytes g yb from to q) (λ l. inner_mark l (least (g.d l) zs) (greatest (g.d l) zs)) q (λ l. mark_inner_encoded g yb from to q
      l h) m a s bs m 0
