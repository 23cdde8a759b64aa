-- Cutting, step by step, for code that goes by ranges of a list of all yards. Assumes nothing.
use mathlib.Core.Path.{◌≡◌, refl, sym, ap, ◌∙◌}
use mathlib.Core.Logic.{◌≢◌}
use mathlib.Core.Bool.{Bool, true, false, not, ◌&&◌}
use mathlib.Core.List.Memᴰ.{head}
use mathlib.Core.List.Memᴰ.{tail}
use mathlib.Core.List.{List, [], ◌∷◌, ◌++◌, Memᴰ as Mem}
use Prim.Native.Nat.{ℕ, zero, suc, ◌+◌, ◌-◌, ◌*◌, ◌≤◌, ◌<◌}
use native.Mathlib.Decide.{dec_lt}
use native.Mathlib.Omega.{arith}
use lib.ListN.{length, take, drop}
use lib.Seq.{slice}
use lib.Dec.{T, ltb, leb, eqb, le→leb, lt→ltb, not_T, ltb→lt, leb→le}
use Rattle.book.specs.Choose.{choose}
use Rattle.book.proofs.Choosing.{choose_case, choose_yes, choose_no}
use Rattle.book.proofs.Lists.{eq→eqb, ne→neqb}
use Rattle.tree_layout.specs.Values.{Region, Tree}
use Rattle.check_rules.specs.Truth.{within}
use Rattle.check_rules.proofs.Within.{within_yes, within_no, within_empty}
use Rattle.build_rules.specs.Cut.{Given, leaf_region, inner_region, cut_at, cut_part, part_count, part_regions, cut, cut_tree}
use Rattle.build_rules.specs.code.Facts.{count_below}
use Rattle.build_rules.proofs.Parts.{Rising, within_none, cut-first, cut-rise, cut-top, part-is}

-- ---- the yards of a range are neighbours in a rising list

count_none : (x : ℕ) (ys : List ℕ) → ((y : ℕ) → Mem y ys → x ≤ y) → count_below x ys ≡ 0
unfolding count_below
count_none x [] f = refl
count_none x (y ∷ ys) f = choose_no (ltb y x) _ _ (not_T (ltb y x) (λ t. omega (arith, ltb→lt y x t, f y (head refl))))

pub count_yes : (x y : ℕ) (ys : List ℕ) → y < x → count_below x (y ∷ ys) ≡ suc (count_below x ys)
unfolding count_below
count_yes x y ys h = choose_yes (ltb y x) _ _ (lt→ltb y x h)

pub count_no : (x y : ℕ) (ys : List ℕ) → x ≤ y → count_below x (y ∷ ys) ≡ 0
unfolding count_below
count_no x y ys h = choose_no (ltb y x) _ _ (not_T (ltb y x) (λ t. omega (arith, ltb→lt y x t)))

pub count_empty : (x : ℕ) → count_below x [] ≡ 0
unfolding count_below
count_empty x = refl

-- no more than all, and no fewer below a higher number
pub count_most : (x : ℕ) (ys : List ℕ) → count_below x ys ≤ length ys
unfolding count_below
count_most x [] = omega arith
count_most x (y ∷ ys) = choose_case (λ (n : ℕ). n ≤ suc (length ys)) (ltb y x) (λ t. omega (arith, count_most x ys)) (λ t. omega arith)

pub count-rise : (low high : ℕ) (ys : List ℕ) → low ≤ high → count_below low ys ≤ count_below high ys
count-rise low high [] h = omega (arith, count_empty low)
count-rise low high (y ∷ ys) h = go (dec_lt y low) (count-rise low high ys h)
  where
    go : Dec (y < low) → count_below low ys ≤ count_below high ys → count_below low (y ∷ ys) ≤ count_below high (y ∷ ys)
    go (yes p) r = omega (arith, count_yes low y ys p, count_yes high y ys (omega arith))
    go (no p) r = omega (arith, count_no low y ys (omega arith))

pub within_slice : (low high : ℕ) (ys : List ℕ) → Rising ys → low ≤ high → within low high ys ≡ slice (count_below low ys) (count_below high ys) ys
unfolding count_below
within_slice low high [] r h = within_empty low high
within_slice low high (y ∷ ys) r h = go (dec_lt y low) (dec_lt y high) (within_slice low high ys r.1 h)
  where
    go : Dec (y < low) → Dec (y < high) → within low high ys ≡ slice (count_below low ys) (count_below high ys) ys
        → within low high (y ∷ ys) ≡ slice (count_below low (y ∷ ys)) (count_below high (y ∷ ys)) (y ∷ ys)
    go (yes p) q e = rw (count_yes low y ys p, count_yes high y ys (omega arith), within_no low high y ys (λ a b. omega arith)) e
    go (no p) (yes q) e =
        let z = count_none low ys (λ x k. omega (arith, r.0 x k)) in
        rw (count_no low y ys (omega arith), count_yes high y ys q, within_yes low high y ys (omega arith) q) (ap (λ (l : List ℕ). y ∷ l) (rw z at e))
    go (no p) (no q) e =
        rw (count_no low y ys (omega arith), count_no high y ys (omega arith)) (within_none low high (y ∷ ys) (λ x k a b. omega (arith, above x k)))
      where
        above : (x : ℕ) → Mem x (y ∷ ys) → y ≤ x
        above x (head e) = omega arith
        above x (tail k) = omega (arith, r.0 x k)

-- and a part of a range has the range's yards there
pub within_nested : (low high a top : ℕ) (ys : List ℕ) → a ≤ low → high ≤ top → within low high (within a top ys) ≡ within low high ys
within_nested low high a top [] p q = rw (within_empty a top) refl
within_nested low high a top (y ∷ ys) p q = go (dec_lt y low) (dec_lt y high) (dec_lt y a) (dec_lt y top) (within_nested low high a top ys p q)
  where
    go : Dec (y < low) → Dec (y < high) → Dec (y < a) → Dec (y < top) → within low high (within a top ys) ≡ within low high ys
        → within low high (within a top (y ∷ ys)) ≡ within low high (y ∷ ys)
    go (yes b) c (yes d) f e = rw (within_no a top y ys (λ u v. omega arith), within_no low high y ys (λ u v. omega arith)) e
    go (yes b) c (no d) (yes f) e = rw (
      within_yes a top y ys (omega arith) f,
      within_no low high y (within a top ys) (λ u v. omega arith),
      within_no low high
          y ys (λ u v. omega arith),
    ) e
    go (yes b) c (no d) (no f) e = rw (within_no a top y ys (λ u v. omega arith), within_no low high y ys (λ u v. omega arith)) e
    go (no b) (yes c) d f e = rw (
      within_yes a top y ys (omega arith) (omega arith),
      within_yes low high y (within a top ys) (omega arith) c,
      within_yes low
          high y ys (omega arith) c,
    ) (ap (λ (l : List ℕ). y ∷ l) e)
    go (no b) (no c) d (yes f) e = rw (
      within_yes a top y ys (omega arith) f,
      within_no low high y (within a top ys) (λ u v. omega arith),
      within_no low high y
          ys (λ u v. omega arith),
    ) e
    go (no b) (no c) d (no f) e = rw (within_no a top y ys (λ u v. omega arith), within_no low high y ys (λ u v. omega arith)) e

pub part-within : (a s : ℕ) (ys : List ℕ) (i : ℕ) → i < 4 → cut_part a s (within a (a + s) ys) i ≡ within (cut_at a s i) (cut_at a s (suc i)) ys
part-within a s ys i h =
    part-is a s (within a (a + s) ys) i
    ∙ within_nested (cut_at a s i) (cut_at a s (suc i)) a (a + s) ys (low i) (cut-top a s (suc i) (3 - i) (omega arith))
  where
    low : (i : ℕ) → a ≤ cut_at a s i
    low zero = omega (arith, cut-first a s)
    low (suc i) = omega (arith, low i, cut-rise a s i)

-- ---- the cases of cutting

module _ (g : Given) (k a s : ℕ) (ys : List ℕ) where
  pub cut-none : cut g 0 a s ys ≡ leaf_region g a s ys ∷ []
  unfolding cut
  cut-none = refl

  pub cut-leaf : length ys ≤ g.limit → cut g (suc k) a s ys ≡ leaf_region g a s ys ∷ []
  unfolding cut
  cut-leaf h = choose_yes (leb (length ys) g.limit) _ _ (le→leb (length ys) g.limit h)

  cut_parts : g.limit < length ys → cut g (suc k) a s ys
      ≡ choose (eqb (part_count a s ys 4 0) 1) (part_regions (cut g k) a s ys 4 0) (inner_region g a s (part_count a s ys 4 0) ys ∷ part_regions (cut g k) a s ys 4
      0)
  unfolding cut
  cut_parts h = choose_no (leb (length ys) g.limit) _ _ (not_T (leb (length ys) g.limit) (λ t. omega (arith, leb→le (length ys) g.limit t)))

  pub cut-one : g.limit < length ys → part_count a s ys 4 0 ≡ 1 → cut g (suc k) a s ys ≡ part_regions (cut g k) a s ys 4 0
  cut-one h e = cut_parts h ∙ choose_yes (eqb (part_count a s ys 4 0) 1) _ _ (eq→eqb (part_count a s ys 4 0) 1 e)

  pub cut_many : g.limit < length ys → part_count a s ys 4 0 ≢ 1
      → cut g (suc k) a s ys ≡ inner_region g a s (part_count a s ys 4 0) ys ∷ part_regions (cut g k) a s ys 4 0
  cut_many h e = cut_parts h ∙ choose_no (eqb (part_count a s ys 4 0) 1) _ _ (ne→neqb (part_count a s ys 4 0) 1 e)

-- ---- the tree's fields

module _ (g : Given) (junctions : ℕ) (ys : List ℕ) where
  pub tree-version : (cut_tree g junctions ys).version ≡ g.version
  unfolding cut_tree
  tree-version = refl

  pub tree-junctions : (cut_tree g junctions ys).junctions ≡ junctions
  unfolding cut_tree
  tree-junctions = refl

  pub tree-yards : (cut_tree g junctions ys).yards ≡ length ys
  unfolding cut_tree
  tree-yards = refl

  pub tree-landmarks : (cut_tree g junctions ys).landmarks ≡ g.landmarks
  unfolding cut_tree
  tree-landmarks = refl

  pub tree-regions : (cut_tree g junctions ys).regions ≡ cut g 5 0 junctions ys
  unfolding cut_tree
  tree-regions = refl
