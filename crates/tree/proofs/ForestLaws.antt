-- What holds of a forest: its regions' places, children, ranges, yards and numbers. Assumes nothing.
use mathlib.Core.Path.{◌≡◌, refl, sym, ap, ◌∙◌}
use mathlib.Core.Logic.{◌⊎◌, inl, inr}
use mathlib.Core.List.Memᴰ.{head}
use mathlib.Core.List.Memᴰ.{tail}
use mathlib.Core.List.{List, [], ◌∷◌, ◌++◌, append_assoc, append-nil, Memᴰ as Mem}
use mathlib.Core.List.Memᴰ.{append_left}
use mathlib.Core.List.Memᴰ.{append_right}
use mathlib.Core.List.Memᴰ.{cases_cons}
use mathlib.Core.List.Memᴰ.{not-nil}
use mathlib.Core.List.Memᴰ.{append_cases}
use Prim.Native.Nat.{ℕ, zero, suc, ◌+◌, ◌-◌, ◌≤◌, ◌<◌}
use native.Mathlib.Decide.{ℕ_discrete, dec_lt}
use native.Mathlib.Omega.{arith}
use lib.ListN.{length, length-append}
use lib.Dec.{T, eqb}
use Rattle.book.specs.Lists.{Distinct}
use Rattle.book.proofs.Choosing.{choose_yes, choose_no}
use Rattle.book.proofs.Lists.{eq→eqb, ne→neqb, distinct_append}
use Rattle.tree_layout.specs.Values.{Region, region_at}
use Rattle.tree_leaf.specs.Leaf.{leaf_ok, first_list}
use Rattle.tree_leaf.specs.Leaf.{yards_in}
use Rattle.tree.specs.Yards.{end_of, starts, hops, children_of, own_yards, leaf_yards_from, yards_below, sum_from, one_leaf, one_inner}
use Rattle.tree_leaf.proofs.Named.{yards-length, first_range, first-once}
use Rattle.tree.proofs.Forest.{Forest, none, leaf, wrap, join, rise, fits, Rooted}

-- What the values' test and the layout give for the regions.
pub record Sane (rs : List Region) : Type 0 where
  pub range : (j : ℕ) → j < length rs → (region_at rs j).first < (region_at rs j).after
  pub many : (j : ℕ) → j < length rs → 0 < (region_at rs j).children → 2 ≤ (region_at rs j).children
  pub some : (j : ℕ) → j < length rs → 1 ≤ (region_at rs j).yards
  pub listed : (j : ℕ) → j < length rs → (region_at rs j).children ≡ 0 → length (first_list (region_at rs j).marks) ≡ (region_at rs j).yards

-- ---- intervals of regions

module _ (rs : List Region) where
  -- The yards of the leaves from number i up to e.
  unfoldable pub span : ℕ → ℕ → List ℕ
  span i e = leaf_yards_from rs (e - i) i

  -- the yards below a region are those of the leaves of its subtree
  pub below_span : (r : ℕ) → yards_below rs r ≡ span r (end_of rs r)
  unfolding yards_below span
  below_span r = refl

  yards-add : (a b i : ℕ) → leaf_yards_from rs (a + b) i ≡ leaf_yards_from rs a i ++ leaf_yards_from rs b (i + a)
  unfolding leaf_yards_from
  yards-add zero b i = rw (let e : 0 + b ≡ b = omega arith in e, let e : i + 0 ≡ i = omega arith in e) refl
  yards-add (suc a) b i =
      rw (let e : suc a + b ≡ suc (a + b) = omega arith in e, let e : i + suc a ≡ suc i + a = omega arith in e)
      (ap (λ l. own_yards (region_at rs i) ++ l) (yards-add a b (suc i))
      ∙ sym (append_assoc (own_yards (region_at rs i)) (leaf_yards_from rs a (suc i)) (leaf_yards_from rs b (suc i + a))))

  pub span_split : (i m e : ℕ) → i ≤ m → m ≤ e → span i e ≡ span i m ++ span m e
  unfolding span
  span_split i m e h k =
      let x : e - i ≡ (m - i) + (e - m) = omega arith in
      let y : i + (m - i) ≡ m = omega arith in
      rw x (yards-add (m - i) (e - m) i ∙ rw y refl)

  pub span_none : (i : ℕ) → span i i ≡ []
  unfolding span leaf_yards_from
  span_none i = rw (let e : i - i ≡ 0 = omega arith in e) refl

  pub span-first : (i e : ℕ) → i < e → span i e ≡ own_yards (region_at rs i) ++ span (suc i) e
  unfolding span leaf_yards_from
  span-first i e h = rw (let x : e - i ≡ suc (e - suc i) = omega arith in x) refl

  pub span-mem : (i e c m : ℕ) (y : ℕ) → i ≤ c → c ≤ m → m ≤ e → Mem y (span c m) → Mem y (span i e)
  span-mem i e c m y h k l x = rw (span_split i c e h (omega arith), span_split c m e k l) (append_right (span i c) (append_left (span m e) x))

  sum-add : (f : Region → ℕ) (a b i : ℕ) → sum_from rs f (a + b) i ≡ sum_from rs f a i + sum_from rs f b (i + a)
  unfolding sum_from
  sum-add f zero b i = rw (let e : 0 + b ≡ b = omega arith in e, let e : i + 0 ≡ i = omega arith in e) (omega arith)
  sum-add f (suc a) b i = rw (
    let e : suc a + b ≡ suc (a + b) = omega arith in e,
    let e : i + suc a ≡ suc i + a = omega arith in
        e,
  ) (omega (arith, sum-add f a b (suc i)))

  -- The sum of a number for each region from number i up to e.
  unfoldable pub sum : (Region → ℕ) → ℕ → ℕ → ℕ
  sum f i e = sum_from rs f (e - i) i

  pub sum_split : (f : Region → ℕ) (i m e : ℕ) → i ≤ m → m ≤ e → sum f i e ≡ sum f i m + sum f m e
  unfolding sum
  sum_split f i m e h k =
      let x : e - i ≡ (m - i) + (e - m) = omega arith in
      let y : i + (m - i) ≡ m = omega arith in
      rw x (sum-add f (m - i) (e - m) i ∙ rw y refl)

  pub sum-none : (f : Region → ℕ) (i : ℕ) → sum f i i ≡ 0
  unfolding sum sum_from
  sum-none f i = rw (let e : i - i ≡ 0 = omega arith in e) refl

  pub sum_first : (f : Region → ℕ) (i e : ℕ) → i < e → sum f i e ≡ f (region_at rs i) + sum f (suc i) e
  unfolding sum sum_from
  sum_first f i e h = rw (let x : e - i ≡ suc (e - suc i) = omega arith in x) refl

-- ---- places

module _ (rs : List Region) (sane : Sane rs) where
  -- Region j among others: in range, inside what lies around it.
  pub record Visit (low high e j : ℕ) : Type 0 where
    pub inside : j < length rs
    pub low_ok : low ≤ (region_at rs j).first
    pub high_ok : (region_at rs j).after ≤ high
    pub up : j < end_of rs j
    pub down : end_of rs j ≤ e

  pub visit : {n i low high left e : ℕ} → Forest rs n i low high left e → (j : ℕ) → i ≤ j → j < e → Visit low high e j
  visit (none h z) j p q = absurd (omega arith)
  visit (leaf {i = i} h c k z) j p q = let x : i ≡ j = omega arith in
      rw (← x) (record { inside = h; low_ok = omega arith; high_ok = omega arith; up = omega arith; down = omega arith })
  visit (wrap {n = n} {i = i} {e = e} h c k z g) j p q = go (ℕ_discrete i j) (λ r. visit g j r q)
    where
      go : Dec (i ≡ j) → (suc i ≤ j → Visit (region_at rs i).first (region_at rs i).after e j) → Visit (region_at rs i).first (region_at rs i).after e j
      go (yes x) rec = rw (← x) (record { inside = h; low_ok = omega arith; high_ok = omega arith; up = omega (arith, rise rs g); down = omega arith })
      go (no x) rec = rec (omega arith)
  visit (join {n = n} {i = i} {m = m} {low = low} {high = high} {left = left} {e = e} a b c z g k) j p q = go (dec_lt j m) (λ x. visit g j p x) (λ x. visit k j
      x q)
    where
      go : Dec (j < m) → (j < m → Visit (region_at rs i).first (region_at rs i).after m j) → (m ≤ j → Visit (region_at rs i).after high e j)
          → Visit low high e j
      go (yes x) r s = let v = r x in record { inside = v.inside; low_ok = omega arith; high_ok = omega arith; up = v.up; down = omega (arith, rise rs k) }
      go (no x) r s = let v = s (omega arith) in record {
        inside = v.inside;
        low_ok = omega (arith, sane.range i (omega (arith, rise rs g, fits rs g)));
        high_ok = v.high_ok;
        up = v.up;
        down = v.down;
      }

  -- ---- children

  -- Of one root there is none before it.
  only : {i : ℕ} (c s : ℕ) → (c ≡ i) ⊎ Mem c [] → i ≤ s → s < c → ⊥
  only c s (inl w) p q = omega arith
  only c s (inr w) p q = not-nil w

  pub starts_in : {n i low high left e : ℕ} → Forest rs n i low high left e → (c : ℕ) → Mem c (starts (end_of rs) n i) → (i ≤ c) × (c < e)
  unfolding starts
  starts_in (none h z) c k = absurd (not-nil k)
  starts_in (leaf {i = i} h x y z) c k = go (cases_cons k)
    where
      go : (c ≡ i) ⊎ Mem c [] → (i ≤ c) × (c < suc i)
      go (inl p) = (omega arith, omega arith)
      go (inr p) = absurd (not-nil p)
  starts_in (wrap {i = i} {e = e} h x y z g) c k = go (cases_cons k)
    where
      go : (c ≡ i) ⊎ Mem c [] → (i ≤ c) × (c < e)
      go (inl p) = (omega arith, omega (arith, rise rs g))
      go (inr p) = absurd (not-nil p)
  starts_in (join {n = n} {i = i} {m = m} {e = e} a b d z g t) c k = go (cases_cons k) (λ j. starts_in t c (rw z at j))
    where
      go : (c ≡ i) ⊎ Mem c (starts (end_of rs) n (end_of rs i)) → (Mem c (starts (end_of rs) n (end_of rs i)) → (m ≤ c) × (c < e)) → (i ≤ c) × (c < e)
      go (inl p) rec = (omega arith, omega (arith, rise rs g, rise rs t))
      go (inr p) rec = let r = rec p in (omega (arith, rise rs g), r.1)

  -- A region before one of the trees' roots ends its subtree before it.
  pub before_start : {n i low high left e : ℕ} → Forest rs n i low high left e → (c s : ℕ) → Mem c (starts (end_of rs) n i) → i ≤ s → s < c → end_of rs s ≤ c
  unfolding starts
  before_start (none h z) c s k p q = absurd (not-nil k)
  before_start (leaf h x y z) c s k p q = absurd (only c s (cases_cons k) p q)
  before_start (wrap h x y z g) c s k p q = absurd (only c s (cases_cons k) p q)
  before_start (join {n = n} {i = i} {m = m} a b d z g t) c s k p q = go (cases_cons k) (dec_lt s m) (λ j w. before_start t c s (rw z at j) w q)
    where
      go : (c ≡ i) ⊎ Mem c (starts (end_of rs) n (end_of rs i)) → Dec (s < m) → (Mem c (starts (end_of rs) n (end_of rs i)) → m ≤ s → end_of rs s ≤ c) → end_of rs s ≤ c
      go (inl w) v rec = absurd (omega arith)
      go (inr w) (yes v) rec = omega (arith, (visit g s p v).down, (starts_in t c (rw z at w)).0)
      go (inr w) (no v) rec = rec w (omega arith)

  no_children_of : (i c : ℕ) → (region_at rs i).children ≡ 0 → Mem c (children_of rs i) → ⊥
  unfolding children_of starts
  no_children_of i c x k = not-nil (rw x at k)

  -- A child's number is above its parent's and below the end of its parent's subtree.
  pub child : {n i low high left e : ℕ} → Forest rs n i low high left e → (r c : ℕ) → i ≤ r → r < e → Mem c (children_of rs r) → (r < c) × (c < end_of rs r)
  unfolding children_of
  child (none h z) r c p q k = absurd (omega arith)
  child (leaf {i = i} h x y z) r c p q k = absurd (no_children_of i c x (rw (let w : r ≡ i = omega arith in w) at k))
  child (wrap {n = n} {i = i} {e = e} h x y z g) r c p q k = go (ℕ_discrete i r) (λ w. child g r c w q k)
    where
      go : Dec (i ≡ r) → (suc i ≤ r → (r < c) × (c < end_of rs r)) → (r < c) × (c < end_of rs r)
      go (yes w) rec = let v = starts_in g c (rw (← w, x) at k) in rw (← w) (v.0, omega (arith, v.1))
      go (no w) rec = rec (omega arith)
  child (join {m = m} a b d z g t) r c p q k = go (dec_lt r m) (λ w. child g r c p w k) (λ w. child t r c w q k)
    where
      go : Dec (r < m) → (r < m → (r < c) × (c < end_of rs r)) → (m ≤ r → (r < c) × (c < end_of rs r)) → (r < c) × (c < end_of rs r)
      go (yes w) f s = f w
      go (no w) f s = s (omega arith)

  -- None of the trees' roots is a child of a region among them.
  not_start : {n i low high left e : ℕ} → Forest rs n i low high left e → (s c : ℕ) → i ≤ s → s < e → Mem c (children_of rs s)
      → Mem c (starts (end_of rs) n i) → ⊥
  unfolding starts
  not_start (none h z) s c p q k j = omega arith
  not_start (leaf {i = i} h x y z) s c p q k j = go (cases_cons j)
    where
      go : (c ≡ i) ⊎ Mem c [] → ⊥
      go (inl w) = omega (arith, (child (leaf h x y z) s c p q k).0)
      go (inr w) = not-nil w
  not_start (wrap {i = i} h x y z g) s c p q k j = go (cases_cons j)
    where
      go : (c ≡ i) ⊎ Mem c [] → ⊥
      go (inl w) = omega (arith, (child (wrap h x y z g) s c p q k).0)
      go (inr w) = not-nil w
  not_start (join {n = n} {i = i} {m = m} a b d z g t) s c p q k j = go (cases_cons j) (dec_lt s m) (λ w v. not_start t s c w q k (rw z at v))
    where
      go : (c ≡ i) ⊎ Mem c (starts (end_of rs) n (end_of rs i)) → Dec (s < m) → (m ≤ s → Mem c (starts (end_of rs) n (end_of rs i)) → ⊥) → ⊥
      go (inl w) v rec = omega (arith, (child (join a b d z g t) s c p q k).0)
      go (inr w) (yes v) rec = omega (arith, (child g s c p v k).1, (visit g s p v).down, (starts_in t c (rw z at w)).0)
      go (inr w) (no v) rec = rec (omega arith) w

  -- No region is a child of two.
  pub parent : {n i low high left e : ℕ} → Forest rs n i low high left e → (r s c : ℕ) → i ≤ r → r < e → i ≤ s → s < e → Mem c (children_of rs r)
      → Mem c (children_of rs s) → r ≡ s
  unfolding children_of
  parent (none h z) r s c p q u v k j = absurd (omega arith)
  parent (leaf h x y z) r s c p q u v k j = omega arith
  parent (wrap {n = n} {i = i} h x y z g) r s c p q u v k j = go (ℕ_discrete i r) (ℕ_discrete i s) (λ a b. parent g r s c a q b v k j)
    where
      go : Dec (i ≡ r) → Dec (i ≡ s) → (suc i ≤ r → suc i ≤ s → r ≡ s) → r ≡ s
      go (yes a) (yes b) rec = omega arith
      go (yes a) (no b) rec = absurd (not_start g s c (omega arith) v j (rw (← a, x) at k))
      go (no a) (yes b) rec = absurd (not_start g r c (omega arith) q k (rw (← b, x) at j))
      go (no a) (no b) rec = rec (omega arith) (omega arith)
  parent (join {m = m} a b d z g t) r s c p q u v k j = go (dec_lt r m) (dec_lt s m) (λ x y. parent g r s c p x u y k j) (λ x y. parent t r s c x q y v k j)
    where
      go : Dec (r < m) → Dec (s < m) → (r < m → s < m → r ≡ s) → (m ≤ r → m ≤ s → r ≡ s) → r ≡ s
      go (yes x) (yes y) f h = f x y
      go (yes x) (no y) f h = absurd (omega (arith, (child g r c p x k).1, (visit g r p x).down, (child t s c (omega arith) v j).0))
      go (no x) (yes y) f h = absurd (omega (arith, (child g s c u y j).1, (visit g s u y).down, (child t r c (omega arith) q k).0))
      go (no x) (no y) f h = h (omega arith) (omega arith)

  -- Every region but the roots is the child of one.
  pub adopted : {n i low high left e : ℕ} → Forest rs n i low high left e → (j : ℕ) → i ≤ j → j < e
      → Mem j (starts (end_of rs) n i) ⊎ ((r : ℕ) × (i ≤ r) × (r < e) × Mem j (children_of rs r))
  unfolding starts children_of
  adopted (none h z) j p q = absurd (omega arith)
  adopted (leaf {i = i} h x y z) j p q = let w : j ≡ i = omega arith in inl (head w)
  adopted (wrap {n = n} {i = i} {e = e} h x y z g) j p q = go (ℕ_discrete i j) (λ w. adopted g j w q)
    where
      step : Mem j (starts (end_of rs) n (suc i)) ⊎ ((r : ℕ) × (suc i ≤ r) × (r < e) × Mem j (children_of rs r))
          → Mem j (i ∷ []) ⊎ ((r : ℕ) × (i ≤ r) × (r < e) × Mem j (children_of rs r))
      step (inl k) = inr (i, omega arith, omega arith, rw x k)
      step (inr k) = inr (k.0, omega arith, k.2, k.3)

      go : Dec (i ≡ j) → (suc i ≤ j → Mem j (starts (end_of rs) n (suc i)) ⊎ ((r : ℕ) × (suc i ≤ r) × (r < e) × Mem j (children_of rs r)))
          → Mem j (i ∷ []) ⊎ ((r : ℕ) × (i ≤ r) × (r < e) × Mem j (children_of rs r))
      go (yes w) rec = inl (head (sym w))
      go (no w) rec = step (rec (omega arith))
  adopted (join {n = n} {i = i} {m = m} {e = e} a b d z g t) j p q = go (dec_lt j m) (λ w. adopted g j p w) (λ w. adopted t j w q)
    where
      one : Mem j (i ∷ []) ⊎ ((r : ℕ) × (i ≤ r) × (r < m) × Mem j (children_of rs r))
          → Mem j (i ∷ starts (end_of rs) n (end_of rs i)) ⊎ ((r : ℕ) × (i ≤ r) × (r < e) × Mem j (children_of rs r))
      one (inl (head k)) = inl (head k)
      one (inl (tail k)) = absurd (not-nil k)
      one (inr k) = inr (k.0, k.1, omega (arith, rise rs t, k.2), k.3)

      rest : Mem j (starts (end_of rs) n m) ⊎ ((r : ℕ) × (m ≤ r) × (r < e) × Mem j (children_of rs r))
          → Mem j (i ∷ starts (end_of rs) n (end_of rs i)) ⊎ ((r : ℕ) × (i ≤ r) × (r < e) × Mem j (children_of rs r))
      rest (inl k) = let w : Mem j (starts (end_of rs) n (end_of rs i)) = rw z k in inl (tail w)
      rest (inr k) = inr (k.0, omega (arith, rise rs g, k.1), k.2, k.3)

      go : Dec (j < m) → (j < m → Mem j (i ∷ []) ⊎ ((r : ℕ) × (i ≤ r) × (r < m) × Mem j (children_of rs r))) → (m ≤ j
          → Mem j (starts (end_of rs) n m) ⊎ ((r : ℕ) × (m ≤ r) × (r < e) × Mem j (children_of rs r)))
          → Mem j (i ∷ starts (end_of rs) n (end_of rs i)) ⊎ ((r : ℕ) × (i ≤ r) × (r < e) × Mem j (children_of rs r))
      go (yes w) f s = one (f w)
      go (no w) f s = rest (s (omega arith))

  -- Each of the regions is the root of a tree.
  pub sub : {n i low high left e : ℕ} → Forest rs n i low high left e → (r : ℕ) → i ≤ r → r < e → Rooted rs r (end_of rs r)
  sub (none h z) r p q = absurd (omega arith)
  sub (leaf {i = i} h x y z) r p q = let w : r ≡ i = omega arith in rw (w, z) (leaf h x y z)
  sub (wrap {n = n} {i = i} {e = e} h x y z g) r p q = go (ℕ_discrete i r) (λ w. sub g r w q)
    where
      go : Dec (i ≡ r) → (suc i ≤ r → Rooted rs r (end_of rs r)) → Rooted rs r (end_of rs r)
      go (yes w) rec = rw (← w, z) (wrap h x y z g)
      go (no w) rec = rec (omega arith)
  sub (join {m = m} a b d z g t) r p q = go (dec_lt r m) (λ w. sub g r p w) (λ w. sub t r w q)
    where
      go : Dec (r < m) → (r < m → Rooted rs r (end_of rs r)) → (m ≤ r → Rooted rs r (end_of rs r)) → Rooted rs r (end_of rs r)
      go (yes w) f s = f w
      go (no w) f s = s (omega arith)

  -- A subtree ends where its last child's does.
  hops-end : {n i low high left e : ℕ} → Forest rs n i low high left e → hops (end_of rs) n i ≡ e
  unfolding hops
  hops-end (none h z) = refl
  hops-end (leaf h x y z) = z
  hops-end (wrap h x y z g) = z
  hops-end (join {n = n} a b d z g t) = ap (hops (end_of rs) n) z ∙ hops-end t

  pub end-hops : {n i low high left e : ℕ} → Forest rs n i low high left e → (r : ℕ) → i ≤ r → r < e
      → end_of rs r ≡ hops (end_of rs) (region_at rs r).children (suc r)
  unfolding hops
  end-hops (none h z) r p q = absurd (omega arith)
  end-hops (leaf {i = i} h x y z) r p q = rw (let w : r ≡ i = omega arith in w, x) z
  end-hops (wrap {n = n} {i = i} h x y z g) r p q = go (ℕ_discrete i r) (λ w. end-hops g r w q)
    where
      go : Dec (i ≡ r) → (suc i ≤ r → end_of rs r ≡ hops (end_of rs) (region_at rs r).children (suc r))
          → end_of rs r ≡ hops (end_of rs) (region_at rs r).children (suc r)
      go (yes w) rec = rw (← w, x) (z ∙ sym (hops-end g))
      go (no w) rec = rec (omega arith)
  end-hops (join {m = m} a b d z g t) r p q = go (dec_lt r m) (λ w. end-hops g r p w) (λ w. end-hops t r w q)
    where
      go : Dec (r < m) → (r < m → end_of rs r ≡ hops (end_of rs) (region_at rs r).children (suc r)) → (m ≤ r
          → end_of rs r ≡ hops (end_of rs) (region_at rs r).children (suc r)) → end_of rs r ≡ hops (end_of rs) (region_at rs r).children (suc r)
      go (yes w) f s = f w
      go (no w) f s = s (omega arith)

  -- ---- leaves

  pub leaf_ok_lem : {n i low high left e : ℕ} → Forest rs n i low high left e → (j : ℕ) → i ≤ j → j < e → (region_at rs j).children ≡ 0 → T (leaf_ok (region_at rs j))
  leaf_ok_lem (none h z) j p q c = absurd (omega arith)
  leaf_ok_lem (leaf {i = i} h x y z) j p q c = rw (let w : i ≡ j = omega arith in w) at y
  leaf_ok_lem (wrap {i = i} h x y z g) j p q c = go (ℕ_discrete i j) (λ w. leaf_ok_lem g j w q c)
    where
      go : Dec (i ≡ j) → (suc i ≤ j → T (leaf_ok (region_at rs j))) → T (leaf_ok (region_at rs j))
      go (yes w) rec = let v : (region_at rs i).children ≡ 0 = rw w c in absurd (omega arith)
      go (no w) rec = rec (omega arith)
  leaf_ok_lem (join {m = m} a b d z g t) j p q c = go (dec_lt j m) (λ w. leaf_ok_lem g j p w c) (λ w. leaf_ok_lem t j w q c)
    where
      go : Dec (j < m) → (j < m → T (leaf_ok (region_at rs j))) → (m ≤ j → T (leaf_ok (region_at rs j))) → T (leaf_ok (region_at rs j))
      go (yes w) f s = f w
      go (no w) f s = s (omega arith)

  -- Of two leaves the later one's range is higher.
  pub leaf-order : {n i low high left e : ℕ} → Forest rs n i low high left e → (j k : ℕ) → i ≤ j → j < k → k < e → (region_at rs j).children ≡ 0
      → (region_at rs j).after ≤ (region_at rs k).first
  leaf-order (none h z) j k p q u c = absurd (omega arith)
  leaf-order (leaf {i = i} h x y z) j k p q u c = absurd (omega arith)
  leaf-order (wrap {i = i} h x y z g) j k p q u c = go (ℕ_discrete i j) (λ w. leaf-order g j k w q u c)
    where
      go : Dec (i ≡ j) → (suc i ≤ j → (region_at rs j).after ≤ (region_at rs k).first) → (region_at rs j).after ≤ (region_at rs k).first
      go (yes w) rec = let v : (region_at rs i).children ≡ 0 = rw w c in absurd (omega arith)
      go (no w) rec = rec (omega arith)
  leaf-order (join {m = m} a b d z g t) j k p q u c = go (dec_lt j m) (dec_lt k m) (λ w. leaf-order g j k p q w c) (λ w. leaf-order t j k w q u c)
    where
      go : Dec (j < m) → Dec (k < m) → (k < m → (region_at rs j).after ≤ (region_at rs k).first) → (m ≤ j → (region_at rs j).after ≤ (region_at rs k).first)
          → (region_at rs j).after ≤ (region_at rs k).first
      go (yes w) (yes v) f s = f v
      go (yes w) (no v) f s = omega (arith, (visit g j p w).high_ok, (visit t k (omega arith) u).low_ok)
      go (no w) v f s = s (omega arith)

  -- ---- yards

  pub own_leaf : (i : ℕ) → (region_at rs i).children ≡ 0 → own_yards (region_at rs i) ≡ yards_in (first_list (region_at rs i).marks)
  unfolding own_yards
  own_leaf i c = choose_yes (eqb (region_at rs i).children 0) _ _ (eq→eqb (region_at rs i).children 0 c)

  pub own_inner : (i : ℕ) → 0 < (region_at rs i).children → own_yards (region_at rs i) ≡ []
  unfolding own_yards
  own_inner i c = choose_no (eqb (region_at rs i).children 0) _ _ (ne→neqb (region_at rs i).children 0 (omega arith))

  pub span-leaf : (i : ℕ) → (region_at rs i).children ≡ 0 → span rs i (suc i) ≡ yards_in (first_list (region_at rs i).marks)
  span-leaf i c = span-first rs i (suc i) (omega arith) ∙ rw (own_leaf i c, span_none rs (suc i)) (append-nil (yards_in (first_list (region_at rs i).marks)))

  pub span-inner : (i e : ℕ) → i < e → 0 < (region_at rs i).children → span rs i e ≡ span rs (suc i) e
  span-inner i e h c = span-first rs i e h ∙ rw (own_inner i c) refl

  -- A forest's yards are as many as it says,
  pub yard-count : {n i low high left e : ℕ} → Forest rs n i low high left e → length (span rs i e) ≡ left
  yard-count (none {i = i} h z) = rw (span_none rs i) (omega arith)
  yard-count (leaf {i = i} h x y z) = rw (span-leaf i x) (yards-length (first_list (region_at rs i).marks) ∙ sane.listed i h x)
  yard-count (wrap {i = i} {e = e} h x y z g) = rw (span-inner i e (omega (arith, rise rs g)) (omega arith)) (yard-count g)
  yard-count (join {n = n} {i = i} {m = m} {left = left} {e = e} a b d z g t) =
      rw (span_split rs i m e (omega (arith, rise rs g)) (omega (arith, rise rs t)), length-append (span rs i m) (span rs m e), yard-count g, yard-count t)
      (omega arith)

  -- lie in its range,
  pub yard-range : {n i low high left e : ℕ} → Forest rs n i low high left e → (y : ℕ) → Mem y (span rs i e) → (low ≤ y) × (y < high)
  yard-range (none {i = i} h z) y k = absurd (not-nil (rw (span_none rs i) at k))
  yard-range (leaf {i = i} h x w z) y k = first_range (region_at rs i) w y (rw (span-leaf i x) at k)
  yard-range (wrap {i = i} {e = e} h x w z g) y k = yard-range g y (rw (span-inner i e (omega (arith, rise rs g)) (omega arith)) at k)
  yard-range (join {n = n} {i = i} {m = m} {low = low} {high = high} {e = e} a b d z g t) y k =
      go (append_cases (span rs i m) (rw (span_split rs i m e (omega (arith, rise rs g)) (omega (arith, rise rs t))) at k)) (λ j. yard-range g y j) (λ j.
      yard-range t y j)
    where
      go : Mem y (span rs i m) ⊎ Mem y (span rs m e) → (Mem y (span rs i m) → ((region_at rs i).first ≤ y) × (y < (region_at rs i).after))
          → (Mem y (span rs m e) → ((region_at rs i).after ≤ y) × (y < high)) → (low ≤ y) × (y < high)
      go (inl j) f s = let v = f j in (omega (arith, v.0), omega (arith, v.1))
      go (inr j) f s = let v = s j in (omega (arith, v.0, sane.range i (omega (arith, rise rs g, fits rs g))), v.1)

  -- and stand in it once.
  pub yard-once : {n i low high left e : ℕ} → Forest rs n i low high left e → Distinct (span rs i e)
  yard-once (none {i = i} h z) = rw (span_none rs i) tt
  yard-once (leaf {i = i} h x y z) = rw (span-leaf i x) (first-once (region_at rs i) y)
  yard-once (wrap {i = i} {e = e} h x y z g) = rw (span-inner i e (omega (arith, rise rs g)) (omega arith)) (yard-once g)
  yard-once (join {n = n} {i = i} {m = m} {e = e} a b d z g t) =
      rw (span_split rs i m e (omega (arith, rise rs g)) (omega (arith, rise rs t)))
      (distinct_append (span rs i m) (span rs m e) (yard-once g) (yard-once t) (λ y k j. omega (arith, (yard-range g y k).1, (yard-range t y j).0)))

  -- ---- numbers

  pub leaf-one : (i : ℕ) → (region_at rs i).children ≡ 0 → (one_leaf (region_at rs i) ≡ 1) × (one_inner (region_at rs i) ≡ 0)
  unfolding one_leaf one_inner
  leaf-one i c = (
    choose_yes (eqb (region_at rs i).children 0) _ _ (eq→eqb (region_at rs i).children 0 c),
    choose_yes (eqb (region_at rs i).children 0) _ _
        (eq→eqb (region_at rs i).children 0 c),
  )

  pub inner-one : (i : ℕ) → 0 < (region_at rs i).children → (one_leaf (region_at rs i) ≡ 0) × (one_inner (region_at rs i) ≡ 1)
  unfolding one_leaf one_inner
  inner-one i c = (
    choose_no (eqb (region_at rs i).children 0) _ _ (ne→neqb (region_at rs i).children 0 (omega arith)),
    choose_no (eqb (region_at rs i
        ).children 0) _ _ (ne→neqb (region_at rs i).children 0 (omega arith)),
  )

  -- There are no more leaves than yards,
  pub leaf-count : {n i low high left e : ℕ} → Forest rs n i low high left e → sum rs one_leaf i e ≤ left
  leaf-count (none {i = i} h z) = omega (arith, sum-none rs one_leaf i)
  leaf-count (leaf {i = i} h x y z) = omega (arith, sum_first rs one_leaf i (suc i) (omega arith), sum-none rs one_leaf (suc i), (leaf-one i x).0, sane.some i h)
  leaf-count (wrap {i = i} {e = e} h x y z g) = omega (arith, sum_first rs one_leaf i e (omega (arith, rise rs g)), (inner-one i (omega arith)).0, leaf-count g)
  leaf-count (join {i = i} {m = m} {e = e} a b d z g t) = omega (
    arith,
    sum_split rs one_leaf i m e (omega (arith, rise rs g)) (omega (arith, rise rs t)),
    leaf-count g,
    leaf-count t,
  )

  -- and fewer inner regions than leaves, by one for each tree.
  pub inner-count : {n i low high left e : ℕ} → Forest rs n i low high left e → n + sum rs one_inner i e ≤ sum rs one_leaf i e
  inner-count (none {i = i} h z) = omega (arith, sum-none rs one_inner i)
  inner-count (leaf {i = i} h x y z) = omega (
    arith,
    sum_first rs one_leaf i (suc i) (omega arith),
    sum-none rs one_leaf (suc i),
    sum_first rs one_inner i (suc i)
        (omega arith),
    sum-none rs one_inner (suc i),
    (leaf-one i x).0,
    (leaf-one i x).1,
  )
  inner-count (wrap {i = i} {e = e} h x y z g) =
      omega (
        arith,
        sum_first rs one_leaf i e (omega (arith, rise rs g)),
        sum_first rs one_inner i e (omega (arith, rise rs g)),
        (inner-one i (omega arith)).0,
        (inner-one i (omega arith)).1,
        inner-count g,
        sane.many i h (omega arith),
      )
  inner-count (join {i = i} {m = m} {e = e} a b d z g t) =
      omega (
        arith,
        sum_split rs one_leaf i m e (omega (arith, rise rs g)) (omega (arith, rise rs t)),
        sum_split rs one_inner i m e (omega (arith, rise rs g))
            (omega (arith, rise rs t)),
        inner-count g,
        inner-count t,
      )
