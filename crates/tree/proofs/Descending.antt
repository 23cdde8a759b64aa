-- The descent, one region and one sibling at a time, as the recursion takes them. Assumes nothing.
use mathlib.Core.Path.{◌≡◌, refl, ap, ◌∙◌}
use mathlib.Core.Bool.{true, false}
use mathlib.Core.List.{List}
use Prim.Native.Nat.{ℕ, zero, suc, ◌-◌, ◌≤◌, ◌<◌}
use native.Mathlib.Omega.{arith}
use borrow.Author.Tests.{le-leb, lt-leb}
use lib.ListN.{length}
use lib.Dec.{ltb, leb, eqb, not_T, ltb→lt, lt→ltb, leb→le}
use Rattle.std.specs.Prelude.{None}
use Rattle.book.proofs.Choosing.{choose_case, choose_no, choose_yes, true_T, false_T, and_right}
use Rattle.book.proofs.Lists.{eq→eqb, ne→neqb}
use Rattle.tree_layout.specs.Values.{Region, region_at}
use Rattle.tree_leaf.specs.Leaf.{leaf_ok}
use Rattle.tree.specs.Shape.{End, end_at, onward, child_fits, siblings, subtree}
use Rattle.tree.proofs.Forest.{siblings-end, subtree-leaf, subtree-inner}

-- ---- a child's fields

module _ (low high left first after yards : ℕ) where
  pub fits_low : first < low → child_fits low high left first after yards ≡ false
  unfolding child_fits
  fits_low h = simp (lt-leb _ _ h)

  pub fits-high : low ≤ first → high < after → child_fits low high left first after yards ≡ false
  unfolding child_fits
  fits-high h k = simp (le-leb _ _ h, lt-leb _ _ k)

  pub fits-left : low ≤ first → after ≤ high → child_fits low high left first after yards ≡ leb yards left
  unfolding child_fits
  fits-left h k = simp (le-leb _ _ h, le-leb _ _ k)

  pub fits-yards : child_fits low high left first after yards ≡ true → yards ≤ left
  unfolding child_fits
  fits-yards t = leb→le yards left (and_right (leb after high) _ (and_right (leb low first) _ (true_T t)))

module _ (rs : List Region) where
  -- ---- a region

  pub no_levels : (i : ℕ) → subtree rs 0 i ≡ None
  unfolding subtree
  no_levels i = refl

  pub no_number : (l i : ℕ) → length rs ≤ i → subtree rs l i ≡ None
  unfolding subtree
  no_number zero i h = refl
  no_number (suc l) i h = choose_no (ltb i (length rs)) _ None (not_T (ltb i (length rs)) (λ t. omega (arith, ltb→lt i (length rs) t)))

  -- levels that are left: l is 1 and so many more
  module _ (l k i : ℕ) (some : l ≡ suc k) (inside : i < length rs) where
    pub inner-end : (first after children yards : ℕ) → (region_at rs i).first ≡ first → (region_at rs i).after ≡ after → (region_at rs i).children ≡ children
        → (region_at rs i).yards ≡ yards → (children ≡ 0 → ⊥)
        → subtree rs l i ≡ siblings rs (subtree rs k) children (suc i) first after yards
    inner-end first after children yards p q r s z = rw (some, ← p, ← q, ← r, ← s) (subtree-inner rs k i inside (omega (arith, r, z)))

    pub leaf_bad : (region_at rs i).children ≡ 0 → leaf_ok (region_at rs i) ≡ false → subtree rs l i ≡ None
    unfolding subtree
    leaf_bad c e = rw some (choose_yes (ltb i (length rs)) _ None (lt→ltb i (length rs) inside)
        ∙ (choose_yes (eqb (region_at rs i).children 0) _ _ (eq→eqb (region_at rs i).children 0 c) ∙ choose_no (leaf_ok (region_at rs i)) (end_at (suc i)) None
        (false_T e)))

    pub leaf_good : (region_at rs i).children ≡ 0 → leaf_ok (region_at rs i) ≡ true → subtree rs l i ≡ end_at (suc i)
    leaf_good c e = rw some (subtree-leaf rs k i inside c (true_T e))

  -- ---- siblings

  module _ (f : ℕ → End) (n i low high left : ℕ) where
    pub last_left : n ≡ 0 → (left ≡ 0 → ⊥) → siblings rs f n i low high left ≡ None
    unfolding siblings
    last_left e h = rw e (choose_no (eqb left 0) (end_at i) None (ne→neqb left 0 h))

    pub last_none : n ≡ 0 → left ≡ 0 → siblings rs f n i low high left ≡ end_at i
    last_none e h = rw e (siblings-end rs f i low high left h)

    module _ (k : ℕ) (more : n ≡ suc k) where
      pub next_bad : child_fits low high left (region_at rs i).first (region_at rs i).after (region_at rs i).yards ≡ false
          → siblings rs f n i low high left ≡ None
      unfolding siblings
      next_bad t = rw more (choose_no (child_fits low high left (region_at rs i).first (region_at rs i).after (region_at rs i).yards) _ None (false_T t))

      pub next-none : f i ≡ None → siblings rs f n i low high left ≡ None
      unfolding siblings
      next-none e = rw more (choose_case (λ (x : End). x ≡ None) (child_fits low high left (region_at rs i).first (region_at rs i).after (region_at rs i).yards)
          (λ t. ap (λ (o : End). onward o (λ m. siblings rs f k m (region_at rs i).after high (left - (region_at rs i).yards))) e) (λ t. refl))

      pub next_good : child_fits low high left (region_at rs i).first (region_at rs i).after (region_at rs i).yards ≡ true → (m : ℕ) → f i ≡ end_at m
          → siblings rs f n i low high left ≡ siblings rs f k m (region_at rs i).after high (left - (region_at rs i).yards)
      unfolding siblings
      next_good t m e = rw more (choose_yes (child_fits low high left (region_at rs i).first (region_at rs i).after (region_at rs i).yards) _ None (true_T t)
          ∙ ap (λ (o : End). onward o (λ m. siblings rs f k m (region_at rs i).after high (left - (region_at rs i).yards))) e)
