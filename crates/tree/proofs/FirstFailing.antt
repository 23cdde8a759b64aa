-- The refusal of a tree book is the number of the first of its tests that fails, and 7 is that of its shape. Assumes nothing.
use mathlib.Core.Path.{◌≡◌}
use mathlib.Core.Logic.{◌↔◌}
use mathlib.Core.List.{List, []}
use Prim.Native.Nat.{ℕ}
use native.Mathlib.Omega.{arith}
use Rattle.book.specs.Tests.{FirstFailing}
use Rattle.book.proofs.FirstFailing.{first-end, first-test, first_join, first-exact, first-at}
use Rattle.tree_layout.specs.Decode.{decode}
use Rattle.tree_layout.specs.Refusal.{tree_layout_refusal}
use Rattle.tree_layout.specs.Facts.{TreeLayout}
use Rattle.tree_layout.specs.Tests.{tree_layout_tests}
use Rattle.tree_layout.proofs.Accepting.{layout-facts, facts-layout}
use Rattle.tree_layout.proofs.FirstFailing.{tree-layout_tests}
use Rattle.tree.specs.Shape.{shaped, tree_refusal}
use Rattle.tree.specs.Facts.{TreeShape}
use Rattle.tree.specs.Tests.{tree_tests}
use Rattle.tree.proofs.Shaping.{shape-facts, facts-shaped}
use Rattle.tree.proofs.Theorems.{layout_sane, layout-there}

module _ (b : List ℕ) where
  pub tree_tests_lem : FirstFailing (tree_tests b) (tree_refusal b)
  unfolding tree_refusal
  tree_tests_lem =
      first_join (tree_layout_tests b) _ (tree_layout_refusal b) _ tt (tree-layout_tests b) (λ e.
      let l = layout-facts b e in
      first-test (shaped (decode b)) 7 0 _ (shape-facts (decode b) (layout_sane b l) (layout-there b l)) (facts-shaped (decode b)) (λ _. first-end))

  -- no test of the layout fails exactly if the layout is sound
  pub layout-none : FirstFailing (tree_layout_tests b) 0 ↔ TreeLayout b
  layout-none =
      let x = first-exact (tree_layout_tests b) (tree_layout_refusal b) (tree-layout_tests b) 0 in
      ((λ f. layout-facts b (x.1 f)), (λ l. x.0 (facts-layout b l)))

  -- 7 exactly if the layout is sound and the shape's rules don't hold
  pub shape-exact : (tree_refusal b ≡ 7) ↔ (TreeLayout b × (TreeShape (decode b) → ⊥))
  shape-exact =
      let x = first-exact (tree_tests b) (tree_refusal b) tree_tests_lem 7 in
      let y = first-at (tree_layout_tests b) [] 7 (TreeShape (decode b)) (omega arith) tt tt tt in (
        (λ e. let z = y.0 (x.0 e) in (layout-none.0 z.0, z.1)),
        (λ s. x.1 (y.1 (layout-none.1 s.0, s.1))),
      )
