-- The regions that are reached from the root, those on the way to one, and their levels. Assumes nothing.
use mathlib.Core.Path.{◌≡◌, refl, sym, ap, ◌∙◌}
use mathlib.Core.List.{List, ◌∷◌, ◌++◌}
use Prim.Native.Nat.{ℕ, zero, suc, ◌+◌, ◌-◌, ◌≤◌, ◌<◌}
use native.Mathlib.Decide.{ℕ_discrete, dec_lt}
use native.Mathlib.Omega.{arith}
use lib.ListN.{length}
use lib.Dec.{T, ltb, leb, not_T, ltb→lt, lt→ltb, leb→le, le→leb}
use Rattle.book.specs.Choose.{choose}
use Rattle.book.proofs.Choosing.{choose_case, choose_yes, choose_no, and_left, and_right, and_both}
use Rattle.tree_layout.specs.Values.{Region}
use Rattle.tree.specs.Yards.{end_of, hops, gather, regions_reached, numbers, holders, level_by, level_of, on_way}
use Rattle.tree.specs.Facts.{Preorder, none as ended, tree}
use Rattle.tree.proofs.Shaping.{EndsMeet, placed, children_are}

-- a + b numbers are the first a, then b from there on
numbers-add : (a b i : ℕ) → numbers (a + b) i ≡ numbers a i ++ numbers b (i + a)
unfolding numbers
numbers-add zero b i = rw (let e : 0 + b ≡ b = omega arith in e, let e : i + 0 ≡ i = omega arith in e) refl
numbers-add (suc a) b i = rw (
  let e : suc a + b ≡ suc (a + b) = omega arith in e,
  let e : i + suc a ≡ suc i + a = omega arith in
      e,
) (ap (λ (l : List ℕ). i ∷ l) (numbers-add a b (suc i)))

-- a region's number, those of its subtree, and those after it
numbers_split : (i m e : ℕ) → suc i ≤ m → m ≤ e → i ∷ (numbers (m - suc i) (suc i) ++ numbers (e - m) m) ≡ numbers (e - i) i
unfolding numbers
numbers_split i m e h k =
    let x : e - i ≡ suc ((m - suc i) + (e - m)) = omega arith in
    let y : suc i + (m - suc i) ≡ m = omega arith in
    rw x (ap (λ (l : List ℕ). i ∷ l) (sym (numbers-add (m - suc i) (e - m) (suc i) ∙ rw y refl)))

module _ (rs : List Region) where
  -- a region is on the way to those of its subtree
  pub on_way_lem : (s r : ℕ) → s ≤ r → r < end_of rs s → T (on_way rs s r)
  unfolding on_way
  on_way_lem s r p q = and_both (leb s r) _ (le→leb s r p) (lt→ltb r (end_of rs s) q)

  pub way_is : (s r : ℕ) → T (on_way rs s r) → (s ≤ r) × (r < end_of rs s)
  unfolding on_way
  way_is s r t = (leb→le s r (and_left (leb s r) _ t), ltb→lt r (end_of rs s) (and_right (leb s r) _ t))

  pub up : {l i e : ℕ} {ks : List ℕ} → Preorder rs l i ks e → i + length ks ≤ e
  up ended = omega arith
  up (tree h c g k) = omega (arith, up g, up k)

  -- what is reached from subtrees' roots are the numbers from the first root up to the next after them
  pub reached-all : EndsMeet rs → {l i e : ℕ} {ks : List ℕ} → Preorder rs l i ks e → gather (regions_reached rs l) ks ≡ numbers (e - i) i
  unfolding gather regions_reached numbers
  reached-all f (ended {i = i}) = rw (let z : i - i ≡ 0 = omega arith in z) refl
  reached-all f (tree {levels = l} {i = i} {m = m} {next = e} {children = cs} {roots = ks} h c g k) =
      let z = children_are rs f i cs (record { count = c; levels = l; next = m; subtrees = g }) in
      rw (← z, reached-all f g, reached-all f k) (numbers_split i m e (omega (arith, up g)) (omega (arith, up k)))

  -- ---- levels

  holders-add : (a b j i : ℕ) → holders (end_of rs) (a + b) j i ≡ holders (end_of rs) a j i + holders (end_of rs) b (j + a) i
  unfolding holders
  holders-add zero b j i = rw (let e : 0 + b ≡ b = omega arith in e, let e : j + 0 ≡ j = omega arith in e) (omega arith)
  holders-add (suc a) b j i = rw (
    let e : suc a + b ≡ suc (a + b) = omega arith in e,
    let e : j + suc a ≡ suc j + a = omega arith in
        e,
  ) (omega (arith, holders-add a b (suc j) i))

  -- subtrees that end at or before i do not hold it
  holders-none : (n j i : ℕ) → ((r : ℕ) → j ≤ r → r < j + n → end_of rs r ≤ i) → holders (end_of rs) n j i ≡ 0
  unfolding holders
  holders-none zero j i f = refl
  holders-none (suc n) j i f = rw (
    choose_no {A = ℕ} (ltb i (end_of rs j)) 1 0 (not_T (ltb i (end_of rs j)) (λ t. omega (
      arith,
      ltb→lt i (end_of rs j) t,
      f j
          (omega arith) (omega arith),
    ))),
    holders-none n (suc j) i (λ r p q. f r (omega arith) (omega arith)),
  ) (omega arith)

  one_at_most : (j i : ℕ) → choose (ltb i (end_of rs j)) 1 0 ≤ 1
  one_at_most j i = choose_case (λ (x : ℕ). x ≤ 1) (ltb i (end_of rs j)) (λ t. omega arith) (λ t. omega arith)

  -- a region of a subtree has its own in it
  abbrev pub Nested : Type 0
  Nested = (i j : ℕ) → i < length rs → i ≤ j → j < end_of rs i → end_of rs j ≤ end_of rs i

  levels_in : EndsMeet rs → Nested → {l i e : ℕ} {ks : List ℕ} → Preorder rs l i ks e → (x : ℕ) → i ≤ x → x < e → holders (end_of rs) (suc x - i) i x ≤ l
  unfolding holders
  levels_in f g ended x p q = absurd (omega arith)
  levels_in f g (tree {levels = l} {i = i} {m = m} {next = e} {children = cs} {roots = ks} h c a b) x p q =
      go (ℕ_discrete i x) (dec_lt x m) (λ w v. levels_in f g a x w v) (λ w. levels_in f g b x w q)
    where
      z : m ≡ end_of rs i
      z = (placed rs f a).next-is ∙ (ap (λ (n : ℕ). hops (end_of rs) n (suc i)) c ∙ sym (f i h))

      go : Dec (i ≡ x) → Dec (x < m) → (suc i ≤ x → x < m → holders (end_of rs) (suc x - suc i) (suc i) x ≤ l) → (m ≤ x
          → holders (end_of rs) (suc x - m) m x ≤ suc l) → holders (end_of rs) (suc x - i) i x ≤ suc l
      go (yes w) v r s = rw (let y : suc x - i ≡ suc 0 = omega arith in y) (omega (arith, one_at_most i x))
      go (no w) (yes v) r s = rw (let y : suc x - i ≡ suc (suc x - suc i) = omega arith in y) (omega (arith, one_at_most i x, r (omega arith) v))
      go (no w) (no v) r s =
          let y : suc x - i ≡ (m - i) + (suc x - m) = omega (arith, up a) in
          let u : i + (m - i) ≡ m = omega (arith, up a) in
          let d = holders-none (m - i) i x (λ j k n. omega (arith, g i j h k (omega (arith, z)), z)) in
          let t = holders-add (m - i) (suc x - m) i x in
          rw (y, t, u, d) (omega (arith, s (omega arith)))

  pub level_high : EndsMeet rs → Nested → {l e : ℕ} {ks : List ℕ} → Preorder rs l 0 ks e → (x : ℕ) → x < e → level_of rs x ≤ l
  unfolding level_of level_by
  level_high f g p x h = let y : suc x - 0 ≡ suc x = omega arith in rw y at (levels_in f g p x (omega arith) h)

  pub level_is : (x : ℕ) → level_of rs x ≡ level_by (end_of rs) x
  unfolding level_of
  level_is x = refl

  pub level_low : (x : ℕ) → x < end_of rs 0 → 1 ≤ level_of rs x
  unfolding level_of level_by holders
  level_low x h = rw (choose_yes {A = ℕ} (ltb x (end_of rs 0)) 1 0 (lt→ltb x (end_of rs 0) h)) (omega arith)
