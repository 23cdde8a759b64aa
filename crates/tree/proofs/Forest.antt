-- What the descent finds: some trees side by side, as one inductive type, and that the descent finds it. Assumes nothing.
use mathlib.Core.Path.{◌≡◌, refl, ap, ◌∙◌}
use mathlib.Core.List.{List}
use Prim.Native.Nat.{ℕ, zero, suc, ◌+◌, ◌-◌, ◌≤◌, ◌<◌}
use native.Mathlib.Omega.{arith}
use lib.ListN.{length}
use lib.Dec.{T, ltb, leb, eqb, eqb→eq, leb→le, ltb→lt, le→leb, lt→ltb}
use Rattle.std.specs.Prelude.{None}
use Rattle.book.proofs.Choosing.{choose_case, choose_yes, choose_no, and_left, and_right, and_both}
use Rattle.book.proofs.Lists.{eq→eqb, ne→neqb, neqb→ne}
use Rattle.tree_layout.specs.Values.{Region, region_at}
use Rattle.tree_leaf.specs.Leaf.{leaf_ok}
use Rattle.tree.specs.Shape.{End, end_at, onward, child_fits, siblings, subtree, levels}
use Rattle.tree.specs.Yards.{number_or, end_of}
use Rattle.tree.proofs.Onward.{same_region, never, kept, went_on}

-- n trees side by side: the first of number i, the number after the last region e; their ranges rise from low on up to high; their yards sum to left.
pub data Forest (rs : List Region) : ℕ → ℕ → ℕ → ℕ → ℕ → ℕ → Type 0 where
  none : {i low high left : ℕ} → i ≤ length rs → left ≡ 0 → Forest rs 0 i low high left i
  leaf : {i : ℕ} → i < length rs → (region_at rs i).children ≡ 0 → T (leaf_ok (region_at rs i)) → end_of rs i ≡ suc i
      → Forest rs 1 i (region_at rs i).first (region_at rs i).after (region_at rs i).yards (suc i)
  wrap : {n i e : ℕ} → i < length rs → (region_at rs i).children ≡ n → 0 < n → end_of rs i ≡ e
      → Forest rs n (suc i) (region_at rs i).first (region_at rs i).after (region_at rs i).yards e
      → Forest rs 1 i (region_at rs i).first (region_at rs i).after (region_at rs i).yards e
  join : {n i m low high left e : ℕ} → low ≤ (region_at rs i).first → (region_at rs i).after ≤ high → (region_at rs i).yards ≤ left → end_of rs i ≡ m
      → Forest rs 1 i (region_at rs i).first (region_at rs i).after (region_at rs i).yards m
      → Forest rs n m (region_at rs i).after high (left - (region_at rs i).yards) e → Forest rs (suc n) i low high left e

-- ---- more levels find the same

module _ (rs : List Region) where
  -- What a step of the sibling walk asks, and what it goes on with.
  pub record Next (f : ℕ → End) (n i low high left e : ℕ) : Type 0 where
    pub low_ok : low ≤ (region_at rs i).first
    pub high_ok : (region_at rs i).after ≤ high
    pub left_ok : (region_at rs i).yards ≤ left
    pub next : ℕ
    pub found : f i ≡ end_at next
    pub rest : siblings rs f n next (region_at rs i).after high (left - (region_at rs i).yards) ≡ end_at e

  pub siblings-next : (f : ℕ → End) (n i low high left e : ℕ) → siblings rs f (suc n) i low high left ≡ end_at e → Next f n i low high left e
  unfolding siblings child_fits
  siblings-next f n i low high left e h =
      let p = kept (child_fits low high left (region_at rs i).first (region_at rs i).after (region_at rs i).yards) _ e h in
      let q = went_on (f i) _ e p.1 in
      let t = and_right (leb low (region_at rs i).first) _ p.0 in
      record {
        low_ok = leb→le low (region_at rs i).first (and_left (leb low (region_at rs i).first) _ p.0);
        high_ok = leb→le (region_at rs i).after high (and_left (leb (region_at rs i).after high) _ t);
        left_ok = leb→le (region_at rs i).yards left (and_right (leb (region_at rs i).after high) _ t);
        next = q.0;
        found = q.1;
        rest = q.2;
      }

  -- one step of the walk along siblings
  pub siblings-step : (f : ℕ → End) (n i low high left m : ℕ) → low ≤ (region_at rs i).first → (region_at rs i).after ≤ high → (region_at rs i).yards ≤ left
      → f i ≡ end_at m → siblings rs f (suc n) i low high left ≡ siblings rs f n m (region_at rs i).after high (left - (region_at rs i).yards)
  unfolding siblings child_fits
  siblings-step f n i low high left m a b c d =
      choose_yes (child_fits low high left (region_at rs i).first (region_at rs i).after (region_at rs i).yards) _ None (and_both (leb low (region_at rs i
      ).first) _ (le→leb low (region_at rs i).first a) (and_both (leb (region_at rs i).after high) _ (le→leb (region_at rs i).after high b) (le→leb (region_at
      rs i).yards left c)))
      ∙ ap (λ (o : End). onward o (λ e. siblings rs f n e (region_at rs i).after high (left - (region_at rs i).yards))) d

  -- no sibling is left
  pub siblings-end : (f : ℕ → End) (i low high left : ℕ) → left ≡ 0 → siblings rs f 0 i low high left ≡ end_at i
  unfolding siblings
  siblings-end f i low high left e = choose_yes (eqb left 0) (end_at i) None (eq→eqb left 0 e)

  pub siblings-ended : (f : ℕ → End) (i low high left e : ℕ) → siblings rs f 0 i low high left ≡ end_at e → (left ≡ 0) × (i ≡ e)
  unfolding siblings
  siblings-ended f i low high left e h = let p = kept (eqb left 0) (end_at i) e h in (eqb→eq left 0 p.0, same_region i e p.1)

  siblings_again : (f g : ℕ → End) → ((i e : ℕ) → f i ≡ end_at e → g i ≡ end_at e) → (n i low high left e : ℕ) → siblings rs f n i low high left ≡ end_at e
      → siblings rs g n i low high left ≡ end_at e
  siblings_again f g h zero i low high left e p =
      let z = siblings-ended f i low high left e p in
      siblings-end g i low high left z.0 ∙ ap end_at z.1
  siblings_again f g h (suc n) i low high left e p =
      let x = siblings-next f n i low high left e p in
      siblings-step g n i low high left x.next x.low_ok x.high_ok x.left_ok (h i x.next x.found)
      ∙ siblings_again f g h n x.next (region_at rs i).after high (left - (region_at rs i).yards) e x.rest

  -- What a descent to region i asks.
  pub data Found (f : ℕ → End) (i : ℕ) : ℕ → Type 0 where
    at_leaf : i < length rs → (region_at rs i).children ≡ 0 → T (leaf_ok (region_at rs i)) → Found f i (suc i)
    at_inner : {e : ℕ} → i < length rs → 0 < (region_at rs i).children
        → siblings rs f (region_at rs i).children (suc i) (region_at rs i).first (region_at rs i).after (region_at rs i).yards ≡ end_at e → Found f i e

  pub subtree-found : (l i e : ℕ) → subtree rs (suc l) i ≡ end_at e → Found (subtree rs l) i e
  unfolding subtree
  subtree-found l i e h =
      let p = kept (ltb i (length rs)) _ e h in
      let inside = ltb→lt i (length rs) p.0 in
      choose_case (λ (x : End). x ≡ end_at e → Found (subtree rs l) i e) (eqb (region_at rs i).children 0)
      (λ c q. let k = kept (leaf_ok (region_at rs i)) (end_at (suc i)) e q in rw (← same_region (suc i) e k.1) (at_leaf inside (eqb→eq (region_at rs i).children
      0 c) k.0))
      (λ c q. at_inner inside (omega (arith, neqb→ne (region_at rs i).children 0 c)) q) p.1

  pub subtree-leaf : (l i : ℕ) → i < length rs → (region_at rs i).children ≡ 0 → T (leaf_ok (region_at rs i)) → subtree rs (suc l) i ≡ end_at (suc i)
  unfolding subtree
  subtree-leaf l i h c k = choose_yes (ltb i (length rs)) _ None (lt→ltb i (length rs) h)
      ∙ (choose_yes (eqb (region_at rs i).children 0) _ _ (eq→eqb (region_at rs i).children 0 c) ∙ choose_yes (leaf_ok (region_at rs i)) (end_at (suc i)) None k)

  pub subtree-inner : (l i : ℕ) → i < length rs → 0 < (region_at rs i).children
      → subtree rs (suc l) i ≡ siblings rs (subtree rs l) (region_at rs i).children (suc i) (region_at rs i).first (region_at rs i).after (region_at rs i).yards
  unfolding subtree
  subtree-inner l i h c = choose_yes (ltb i (length rs)) _ None (lt→ltb i (length rs) h)
      ∙ choose_no (eqb (region_at rs i).children 0) _ _ (ne→neqb (region_at rs i).children 0 (omega arith))

  -- no level is left
  pub nowhere : (i e : ℕ) → subtree rs 0 i ≡ end_at e → ⊥
  unfolding subtree
  nowhere i e p = never e p

  one_more : (l i e : ℕ) → subtree rs l i ≡ end_at e → subtree rs (suc l) i ≡ end_at e
  one_more zero i e p = absurd (nowhere i e p)
  one_more (suc l) i e p = go e (subtree-found l i e p) (λ j k q. one_more l j k q)
    where
      go : (e : ℕ) → Found (subtree rs l) i e → ((j k : ℕ) → subtree rs l j ≡ end_at k → subtree rs (suc l) j ≡ end_at k) → subtree rs (suc (suc l)) i ≡ end_at e
      go _ (at_leaf h c k) rec = subtree-leaf (suc l) i h c k
      go e (at_inner h c q) rec = subtree-inner (suc l) i h c
          ∙ siblings_again (subtree rs l) (subtree rs (suc l)) rec (region_at rs i).children (suc i) (region_at rs i).first (region_at rs i).after (region_at rs i
          ).yards e q

  pub more : (k l i e : ℕ) → subtree rs l i ≡ end_at e → subtree rs (k + l) i ≡ end_at e
  more zero l i e p = rw (let z : 0 + l ≡ l = omega arith in z) p
  more (suc k) l i e p = let z : suc k + l ≡ suc (k + l) = omega arith in rw z (one_more (k + l) i e (more k l i e p))

  -- the number after a subtree is what a descent of all levels finds
  pub end_is : (i e : ℕ) → subtree rs levels i ≡ end_at e → end_of rs i ≡ e
  unfolding end_of
  end_is i e p = ap (number_or (length rs)) p

  pub ends : (l i e : ℕ) → l ≤ levels → subtree rs l i ≡ end_at e → end_of rs i ≡ e
  ends l i e h p = let z : levels ≡ (levels - l) + l = omega arith in end_is i e (rw z (more (levels - l) l i e p))

  -- ---- the descent finds a forest

  pub rise : {n i low high left e : ℕ} → Forest rs n i low high left e → n + i ≤ e
  rise (none h z) = omega arith
  rise (leaf h c k q) = omega arith
  rise (wrap h c p q g) = omega (arith, rise g)
  rise (join a b c q g k) = omega (arith, rise g, rise k)

  pub fits : {n i low high left e : ℕ} → Forest rs n i low high left e → e ≤ length rs
  fits (none h z) = h
  fits (leaf h c k q) = h
  fits (wrap h c p q g) = fits g
  fits (join a b c q g k) = fits k

  -- The forest of one region.
  abbrev pub Rooted : ℕ → ℕ → Type 0
  Rooted i e = Forest rs 1 i (region_at rs i).first (region_at rs i).after (region_at rs i).yards e

  siblings_forest : (f : ℕ → End) → ((j k : ℕ) → f j ≡ end_at k → Rooted j k) → ((j k : ℕ) → f j ≡ end_at k → end_of rs j ≡ k)
      → (n i low high left e : ℕ) → i ≤ length rs → siblings rs f n i low high left ≡ end_at e → Forest rs n i low high left e
  siblings_forest f t z zero i low high left e h p = let x = siblings-ended f i low high left e p in rw (← x.1) (none h x.0)
  siblings_forest f t z (suc n) i low high left e h p =
      let x = siblings-next f n i low high left e p in
      let g = t i x.next x.found in
      join x.low_ok x.high_ok x.left_ok (z i x.next x.found) g (siblings_forest f t z n x.next (region_at rs i).after high (left - (region_at
      rs i).yards) e (fits g) x.rest)

  pub tree_forest : (l i e : ℕ) → l ≤ levels → subtree rs l i ≡ end_at e → Rooted i e
  tree_forest zero i e h p = absurd (nowhere i e p)
  tree_forest (suc l) i e h p = go e (ends (suc l) i e h p) (subtree-found l i e p) (λ j k q. tree_forest l j k (omega arith) q)
    where
      go : (e : ℕ) → end_of rs i ≡ e → Found (subtree rs l) i e → ((j k : ℕ) → subtree rs l j ≡ end_at k → Rooted j k) → Rooted i e
      go _ z (at_leaf h c k) rec = leaf h c k z
      go e z (at_inner h' c q) rec = wrap h' refl c z (siblings_forest (subtree rs l) rec (λ j k x. ends l j k (omega arith) x) (region_at rs i).children (suc i)
          (region_at rs i).first (region_at rs i).after (region_at rs i).yards e h' q)
