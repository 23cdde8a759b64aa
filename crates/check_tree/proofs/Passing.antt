-- What a check that answers 0 has found of its books. Assumes nothing.
use mathlib.Core.Path.{◌≡◌, ◌∙◌}
use mathlib.Core.List.{List, Memᴰ as Mem}
use Prim.Native.Nat.{ℕ}
use native.Mathlib.Omega.{arith}
use lib.Dec.{eqb→eq}
use Rattle.book.proofs.Choosing.{passed, first-none, T_true}
use Rattle.work_area.proofs.Zeroing.{enough-work}
use Rattle.road_layout.specs.Road.{junctions}
use Rattle.road.specs.Dijkstra.{dist}
use Rattle.yard.specs.Yards.{yards_of, kind_of}
use Rattle.tree_layout.specs.Values.{region_at}
use Rattle.tree_layout.specs.Decode.{junction_count, decode}
use Rattle.tree_layout.proofs.Formed.{decode-formed, at_mem}
use Rattle.tree_layout.proofs.Places.{decode-landmarks}
use Rattle.tree_leaf.proofs.Named.{first_mark_lem}
use Rattle.tree.specs.Yards.{tree_yards, kinds_of}
use Rattle.tree.proofs.Theorems.{tree-facts, accepted-whole}
use Rattle.tree.proofs.YardKinds.{yard-element, accepted-kinds}
use Rattle.check_rules.specs.Facts.{TrueNumbers, TrueKinds, Same}
use Rattle.check_rules.proofs.Theorems.{tested}
use Rattle.check_tree.specs.Check.{tree_refusal_beside, check_answer}
use Rattle.check_tree.specs.Facts.{SoundBeside}
use Rattle.check_tree.proofs.Sets.{set_same}

module _ (road yard tree : List ℕ) (words : ℕ) (e : check_answer road yard tree words ≡ 0) where
  -- the books are sound, the tree is of sound layout and shape and of the road book's junction count, and the work area is full
  pub passed-laid : SoundBeside road yard tree words
  unfolding check_answer tree_refusal_beside
  passed-laid =
      let a = first-none _ _ e in
      let b = first-none _ _ a.1 in
      let c = first-none _ _ b.1 in
      let d = first-none _ _ c.0 in
      let f = passed _ _ _ d.1 (omega arith) in
      record { roads = a.0; yards = b.0; shape = d.0; counts = eqb→eq (junction_count tree) (junctions road) f.0; full = enough-work words c.1 }

  -- the tree's yards are the yard book's
  pub passed-yards : Same (tree_yards (decode tree)) (yards_of yard)
  unfolding check_answer tree_refusal_beside
  passed-yards =
      let d = first-none _ _ (first-none _ _ (first-none _ _ (first-none _ _ e).1).1).0 in
      let f = passed _ _ _ d.1 (omega arith) in
      set_same (tree_yards (decode tree)) (yards_of yard) (passed _ _ _ f.1 (omega arith)).0

  -- the tree's numbers are true
  pub passed_true : TrueNumbers (dist road) (decode tree)
  unfolding check_answer tree_refusal_beside
  passed_true =
      let d = first-none _ _ (first-none _ _ (first-none _ _ (first-none _ _ e).1).1).0 in
      let f = passed _ _ _ d.1 (omega arith) in
      let g = passed _ _ _ f.1 (omega arith) in
      ((tested tree d.0).exact (dist road)).0 (T_true _ (passed _ _ _ g.1 (omega arith)).0)

  -- and so are its kinds
  pub passed-kinds : TrueKinds (kind_of yard) (decode tree)
  unfolding check_answer tree_refusal_beside
  passed-kinds =
      let d = first-none _ _ (first-none _ _ (first-none _ _ (first-none _ _ e).1).1).0 in
      let f = passed _ _ _ d.1 (omega arith) in
      let g = passed _ _ _ f.1 (omega arith) in
      let h = passed _ _ _ g.1 (omega arith) in
      ((tested tree d.0).kinds (kind_of yard)).0 (T_true _ (passed _ _ _ h.1 (omega arith)).0)

  -- a yard's byte in its leaf's first list is the yard book's
  pub passed_own : (y : ℕ) → Mem y (tree_yards (decode tree)) → kinds_of (decode tree) y ≡ kind_of yard y
  passed_own y k =
      let ok = passed-laid.shape in
      let (j, g, h, c, i, q) = yard-element (decode tree) (accepted-whole tree ok) y k in
      let few = (tree-facts tree ok).layout.landmarks.0 in
      let (m, n, f) = first_mark_lem (region_at (decode tree).regions j).marks
      (omega (arith, (decode-formed tree (region_at (decode tree).regions j) (at_mem (decode tree).regions j h)).count, decode-landmarks tree, few)) in
      rw (← q) (accepted-kinds tree ok j h c g i ∙ passed-kinds.lists j h m n g (rw f at i))
