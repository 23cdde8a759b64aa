-- What is found beside a list of a tree's yards is test 9, of an accepted tree. Assumes nothing.
use mathlib.Core.Path.{◌≡◌, refl, sym}
use mathlib.Core.Bool.{Bool, true, false}
use mathlib.Core.List.Memᴰ.{head}
use mathlib.Core.List.Memᴰ.{not-nil}
use mathlib.Core.List.{List, [], ◌∷◌, Memᴰ as Mem}
use Prim.Native.Nat.{ℕ, ◌<◌}
use native.Mathlib.Omega.{arith}
use lib.ListN.{length}
use Rattle.tree_layout.specs.Values.{Region, region_at}
use Rattle.tree_layout.specs.Decode.{decode}
use Rattle.tree_layout.proofs.Formed.{at_mem}
use Rattle.tree_layout.proofs.Rising.{region_mem}
use Rattle.tree.specs.Shape.{tree_refusal}
use Rattle.tree.specs.Yards.{yards_below, tree_yards}
use Rattle.tree.specs.Theorems.{Whole}
use Rattle.tree.proofs.Ranges.{below-tree}
use Rattle.tree.proofs.Theorems.{tree-facts, accepted-whole}
use Rattle.check_rules.specs.Truth.{true_tree, within, true_beside, kinds_tree, kinds_beside}
use Rattle.check_rules.specs.Facts.{Same}
use Rattle.check_rules.proofs.Within.{mem-within}
use Rattle.check_rules.proofs.Theorems.{tested}

some_member : (l : List ℕ) (y : ℕ) → Mem y l → 0 < length l
some_member [] y k = absurd (not-nil k)
some_member (x ∷ xs) y k = omega arith

first_member : (l : List ℕ) → 0 < length l → (y : ℕ) × Mem y l
first_member [] h = absurd (omega arith)
first_member (x ∷ xs) h = (x, head refl)

-- both answers hold, or neither
same_answer : (a b : Bool) → (a ≡ true → b ≡ true) → (b ≡ true → a ≡ true) → a ≡ b
same_answer true b f g = sym (f refl)
same_answer false true f g = g refl
same_answer false false f g = refl

module _ (tree ys : List ℕ) (ok : tree_refusal tree ≡ 0) (same : Same (tree_yards (decode tree)) ys) where
  abbrev rs : List Region
  rs = (decode tree).regions

  whole : Whole (decode tree)
  whole = accepted-whole tree ok

  range-some : (j : ℕ) → j < length rs → 0 < length (within (region_at rs j).first (region_at rs j).after ys)
  range-some j h =
      let v = (tree-facts tree ok).layout.values (region_at rs j) (at_mem rs j h) in
      let p : 0 < length (yards_below rs j) = omega (arith, whole.holdings.count j h, v.some) in
      let (y, k) = first_member (yards_below rs j) p in
      let i = whole.holdings.inside j y h k in
      some_member (within (region_at rs j).first (region_at rs j).after ys) y
      (mem-within (region_at rs j).first (region_at rs j).after ys y (same.to y (below-tree tree ok j y h k)) i.0 i.1)

  -- in each region's range lies a yard of the list
  pub ranges-held : (r : Region) → Mem r rs → 0 < length (within r.first r.after ys)
  ranges-held r k = go (region_mem rs r k)
    where
      go : (j : ℕ) × (j < length rs) × (r ≡ region_at rs j) → 0 < length (within r.first r.after ys)
      go (j, h, e) = rw e (range-some j h)

  -- what is found beside the list is what test 9 says
  pub beside_true : (d : ℕ → ℕ → ℕ) → true_beside d ys (decode tree) ≡ true_tree d (decode tree)
  beside_true d =
      same_answer (true_beside d ys (decode tree)) (true_tree d (decode tree))
      (λ e. ((tested tree ok).exact d).1 (((tested tree ok).beside d ys same).0 e))
      (λ e. ((tested tree ok).beside d ys same).1 (((tested tree ok).exact d).0 e))

  pub beside-kinds : (kinds : ℕ → ℕ) → kinds_beside kinds ys (decode tree) ≡ kinds_tree kinds (decode tree)
  beside-kinds kinds =
      same_answer (kinds_beside kinds ys (decode tree)) (kinds_tree kinds (decode tree))
      (λ e. ((tested tree ok).kinds kinds).1 (((tested tree ok).kinds-beside kinds ys same).0 e))
      (λ e. ((tested tree ok).kinds-beside kinds ys same).1 (((tested tree ok).kinds kinds).0 e))
