-- The descent of test 7 goes through the trees of a cut forest; their yards, and what holds of each region with those below it. Assumes nothing.
use mathlib.Core.Path.{◌≡◌, refl, sym, ap, ◌∙◌}
use mathlib.Core.Logic.{◌⊎◌, inl, inr}
use mathlib.Core.List.Memᴰ.{append_cases}
use mathlib.Core.List.Memᴰ.{append_left}
use mathlib.Core.List.{List, [], ◌∷◌, ◌++◌, append_assoc, Memᴰ as Mem}
use mathlib.Core.List.Memᴰ.{append_right}
use Prim.Native.Nat.{ℕ, zero, suc, ◌+◌, ◌-◌, ◌≤◌, ◌<◌}
use native.Mathlib.Decide.{ℕ_discrete, dec_lt}
use native.Mathlib.Omega.{arith}
use lib.ListN.{length, length-append}
use lib.Dec.{T}
use Rattle.tree_layout.specs.Values.{Region, region_at}
use Rattle.tree_layout.proofs.MarkFields.{region_seam}
use Rattle.tree.specs.Shape.{End, end_at, siblings, subtree, levels}
use Rattle.tree.specs.Yards.{end_of, yards_below}
use Rattle.tree.proofs.Forest.{siblings-next, siblings-step, siblings-end, siblings-ended, subtree-leaf, subtree-inner, end_is}
use Rattle.tree.proofs.ForestLaws.{Sane, span, span_split, span_none, span-leaf, span-inner, below_span}
use Rattle.check_rules.specs.Facts.{Same}
use Rattle.check_rules.proofs.Extremes.{same_swap}
use Rattle.build_rules.specs.Cut.{Given, leaf_region, inner_region}
use Rattle.build_rules.proofs.Cutting.{CutForest, none, leaf, inner, widen, join}
use Rattle.build_rules.proofs.Regions.{leaf-passes, leaf-same}

-- ---- a region between two lists

record Stands (rs before : List Region) (r : Region) : Type 0 where
  pub here : region_at rs (length before) ≡ r
  pub inside : length before < length rs

stands : (rs before after : List Region) (r : Region) → rs ≡ before ++ (r ∷ after) → Stands rs before r
stands rs before after r e = record { here = rw e (region_seam before r after); inside = rw e (omega (arith, length-append before (r ∷ after))) }

next-length : (before : List Region) (r : Region) → length (before ++ (r ∷ [])) ≡ suc (length before)
next-length before r = omega (arith, length-append before (r ∷ []))

next-is : (rs before after : List Region) (r : Region) → rs ≡ before ++ (r ∷ after) → rs ≡ (before ++ (r ∷ [])) ++ after
next-is rs before after r e = e ∙ sym (append_assoc before (r ∷ []) after)

-- one sibling
siblings-one : (rs : List Region) (f : ℕ → End) (i low high left e : ℕ) → low ≤ (region_at rs i).first → (region_at rs i).after ≤ high
    → (region_at rs i).yards ≡ left → f i ≡ end_at e → siblings rs f 1 i low high left ≡ end_at e
siblings-one rs f i low high left e a b c z =
    siblings-step rs f 0 i low high left e a b (omega arith) z ∙ siblings-end rs f e (region_at rs i).after high (left - (region_at rs i).yards) (omega arith)

same-append : (a b c e : List ℕ) → Same a b → Same c e → Same (a ++ c) (b ++ e)
same-append a b c e s t = record { to = λ y k. go (append_cases a k); from = λ y k. back (append_cases b k) }
  where
    go : {y : ℕ} → Mem y a ⊎ Mem y c → Mem y (b ++ e)
    go {y} (inl k) = append_left e (s.to y k)
    go {y} (inr k) = append_right b (t.to y k)

    back : {y : ℕ} → Mem y b ⊎ Mem y e → Mem y (a ++ c)
    back {y} (inl k) = append_left c (s.from y k)
    back {y} (inr k) = append_right a (t.from y k)

module _ (g : Given) (junctions : ℕ) (m-low : 1 ≤ g.landmarks) where
  -- ---- the descent

  pub forest_siblings : {k n low high : ℕ} {ys : List ℕ} {rs : List Region} → CutForest g junctions k n low high ys rs → (R before after : List Region)
      → R ≡ before ++ (rs ++ after) → (l : ℕ) → k ≤ l → (low' high' : ℕ) → low' ≤ low → high ≤ high'
      → siblings R (subtree R l) n (length before) low' high' (length ys) ≡ end_at (length before + length rs)
  unfolding leaf_region inner_region
  forest_siblings (none h) R before after e l q low' high' a b = siblings-end R (subtree R l) (length before) low' high' 0 refl
      ∙ ap end_at (let z : length before ≡ length before + 0 = omega arith in z)
  forest_siblings (leaf {k = k} {a = a} {s = s} {ys = ys} v c w) R before after e l q low' high' x y = go (stands R before after (leaf_region g a s ys) e) l q
    where
      go : Stands R before (leaf_region g a s ys) → (l : ℕ) → suc k ≤ l → siblings R (subtree R l) 1 (length before) low' high' (length ys) ≡ end_at (length before
          + 1)
      go z zero q = absurd (omega arith)
      go z (suc l) q =
          let first : low' ≤ (region_at R (length before)).first = rw z.here x in
          let last : (region_at R (length before)).after ≤ high' = rw z.here y in
          let yards : (region_at R (length before)).yards ≡ length ys = rw z.here refl in
          siblings-one R (subtree R (suc l)) (length before) low' high' (length ys) (length before + 1) first last yards
          (subtree-leaf R l (length before) z.inside (rw z.here refl) (rw z.here (leaf-passes g a s ys v))
          ∙ ap end_at (let n : suc (length before) ≡ length before + 1 = omega arith in n))
  forest_siblings (inner {k = k} {a = a} {s = s} {q = n} {ys = ys} {rs = rs} v c w u f) R before after e l q low' high' x y =
      go (stands R before (rs ++ after) (inner_region g a s n ys) e) l q (λ l' h. forest_siblings f R (before ++ (inner_region g a s n ys ∷ [])) after (next-is R
      before (rs ++ after) (inner_region g a s n ys) e) l' h a (a + s) (omega arith) (omega arith))
    where
      go : Stands R before (inner_region g a s n ys) → (l : ℕ) → suc k ≤ l
          → ((l' : ℕ) → k ≤ l' → siblings R (subtree R l') n (length (before ++ (inner_region g a s n ys ∷ []))) a (a + s) (length ys)
          ≡ end_at (length (before ++ (inner_region g a s n ys ∷ [])) + length rs))
          → siblings R (subtree R l) 1 (length before) low' high' (length ys) ≡ end_at (length before + suc (length rs))
      go z zero q rec = absurd (omega arith)
      go z (suc l) q rec =
          let first : low' ≤ (region_at R (length before)).first = rw z.here x in
          let last : (region_at R (length before)).after ≤ high' = rw z.here y in
          let yards : (region_at R (length before)).yards ≡ length ys = rw z.here refl in
          let down : subtree R (suc l) (length before)
          ≡ siblings R (subtree R l) n (suc (length before)) a (a + s) (length ys) = rw z.here at (subtree-inner R l (length before) z.inside (rw z.here (omega arith))) in
          let deep = rw (next-length before (inner_region g a s n ys)) at (rec l (omega arith)) in
          siblings-one R (subtree R (suc l)) (length before) low' high' (length ys) (length before + suc (length rs)) first last yards (down ∙ (deep
          ∙ ap end_at (let n : suc (length before) + length rs ≡ length before + suc (length rs) = omega arith in n)))
  forest_siblings (widen a b c f) R before after e l q low' high' x y = forest_siblings f R before after e l (omega arith) low' high' (omega arith) (omega
      arith)
  forest_siblings (join {n = n} {low = low} {mid = mid} {high = high} {ys = ys} {zs = zs} {rs = rs} {ss = ss} h f t) R before after e l q low' high' x y =
      go (forest_siblings f R before (ss ++ after) first-at l q low' mid x (omega arith)) (λ low'' le. forest_siblings t R (before ++ rs) after second_at l q
      low'' high' le y)
    where
      first-at : R ≡ before ++ (rs ++ (ss ++ after))
      first-at = e ∙ ap (λ (z : List Region). before ++ z) (append_assoc rs ss after)

      second_at : R ≡ (before ++ rs) ++ (ss ++ after)
      second_at = first-at ∙ sym (append_assoc before rs (ss ++ after))

      go : siblings R (subtree R l) 1 (length before) low' mid (length ys) ≡ end_at (length before + length rs)
          → ((low'' : ℕ) → low'' ≤ mid → siblings R (subtree R l) n (length (before ++ rs)) low'' high' (length zs) ≡ end_at (length (before ++ rs) + length ss))
          → siblings R (subtree R l) (suc n) (length before) low' high' (length (ys ++ zs)) ≡ end_at (length before + length (rs ++ ss))
      go one rest =
          let x1 = siblings-next R (subtree R l) 0 (length before) low' mid (length ys) (length before + length rs) one in
          let ended = siblings-ended R (subtree R l) x1.next (region_at R (length before)).after mid (length ys - (region_at R (length before)).yards) (length
          before + length rs) x1.rest in
          let r = rest (region_at R (length before)).after x1.high_ok in
          let i2 : length (before ++ rs) ≡ x1.next = omega (arith, length-append before rs, ended.1) in
          let end : x1.next + length ss ≡ length before + length (rs ++ ss) = omega (arith, ended.1, length-append rs ss) in
          let left2 : length zs ≡ length (ys ++ zs) - (region_at R (length before)).yards = omega (arith, length-append ys zs, ended.0, x1.left_ok) in
          let r2 = rw (i2, left2) at r in
          siblings-step R (subtree R l) n (length before) low' high' (length (ys ++ zs)) x1.next x1.low_ok (omega (arith, x1.high_ok)) (omega (
            arith,
            x1.left_ok,
            length-append ys zs,
          )) x1.found
          ∙ (r2 ∙ ap end_at end)

  -- ---- yards

  -- the regions of a cut forest hold its yards
  pub forest_yards : {k n low high : ℕ} {ys : List ℕ} {rs : List Region} → CutForest g junctions k n low high ys rs → (R before after : List Region)
      → R ≡ before ++ (rs ++ after) → Sane R → Same (span R (length before) (length before + length rs)) ys
  unfolding leaf_region inner_region
  forest_yards (none h) R before after e s = rw (
    let z : length before + 0 ≡ length before = omega arith in
        z,
    span_none R (length before),
  ) (record { to = λ y k. k; from = λ y k. k })
  forest_yards (leaf {a = a} {s = s} {ys = ys} v c w) R before after e sane = go (stands R before after (leaf_region g a s ys) e)
    where
      go : Stands R before (leaf_region g a s ys) → Same (span R (length before) (length before + 1)) ys
      go z =
          let q : (region_at R (length before)).children ≡ 0 = rw z.here refl in
          rw (let u : length before + 1 ≡ suc (length before) = omega arith in u, span-leaf R sane (length before) q, z.here) (leaf-same g a s ys m-low)
  forest_yards (inner {a = a} {s = s} {q = n} {ys = ys} {rs = rs} v c w u f) R before after e sane =
      go (stands R before (rs ++ after) (inner_region g a s n ys) e) (forest_yards f R (before ++ (inner_region g a s n ys ∷ [])) after (next-is R before (rs ++
      after) (inner_region g a s n ys) e) sane)
    where
      go : Stands R before (inner_region g a s n ys)
          → Same (span R (length (before ++ (inner_region g a s n ys ∷ []))) (length (before ++ (inner_region g a s n ys ∷ [])) + length rs)) ys
          → Same (span R (length before) (length before + suc (length rs))) ys
      go z rec =
          let q : 0 < (region_at R (length before)).children = rw z.here (omega arith) in
          let y : length before + suc (length rs) ≡ suc (length before) + length rs = omega arith in
          rw (span-inner R sane (length before) (length before + suc (length rs)) (omega arith) q, y) (rw (next-length before (inner_region g a s n ys)) at rec)
  forest_yards (widen a b c f) R before after e s = forest_yards f R before after e s
  forest_yards (join {ys = ys} {zs = zs} {rs = rs} {ss = ss} h f t) R before after e s =
      go (forest_yards f R before (ss ++ after) first-at s) (forest_yards t R (before ++ rs) after second_at s)
    where
      first-at : R ≡ before ++ (rs ++ (ss ++ after))
      first-at = e ∙ ap (λ (z : List Region). before ++ z) (append_assoc rs ss after)

      second_at : R ≡ (before ++ rs) ++ (ss ++ after)
      second_at = first-at ∙ sym (append_assoc before rs (ss ++ after))

      go : Same (span R (length before) (length before + length rs)) ys → Same (span R (length (before ++ rs)) (length (before ++ rs) + length ss)) zs
          → Same (span R (length before) (length before + length (rs ++ ss))) (ys ++ zs)
      go x y =
          let i2 : length (before ++ rs) ≡ length before + length rs = length-append before rs in
          let e2 : length before + length (rs ++ ss) ≡ length before + length rs + length ss = omega (arith, length-append rs ss) in
          rw (e2, span_split R (length before) (length before + length rs) (length before + length rs + length ss) (omega arith) (omega arith))
          (same-append (span R (length before) (length before + length rs)) ys (span R (length before + length rs) (length before + length rs + length ss)) zs
          x (rw i2 at y))

  -- ---- each region

  -- what a leaf and an inner region say of their yards, in whatever order, holds of each region and the yards below it
  module _ (Says : List ℕ → Region → Type 0) (any_order : (ys zs : List ℕ) (r : Region) → Same ys zs → Says ys r → Says zs r)
      (of-leaf : (a s : ℕ) (ys : List ℕ) → Says ys (leaf_region g a s ys))
      (of_inner : (a s q : ℕ) (ys : List ℕ) → 0 < q → 0 < length ys → Says ys (inner_region g a s q ys)) where
    pub forest_each : {k n low high : ℕ} {ys : List ℕ} {rs : List Region} → CutForest g junctions k n low high ys rs → (R before after : List Region)
        → R ≡ before ++ (rs ++ after) → Sane R → k ≤ levels → (j : ℕ) → length before ≤ j → j < length before + length rs
        → Says (yards_below R j) (region_at R j)
    unfolding leaf_region inner_region
    forest_each (none h) R before after e s q j p w = absurd (omega arith)
    forest_each (leaf {k = k} {a = a} {s = s} {ys = ys} v c w) R before after e sane q j p u =
        let z = stands R before after (leaf_region g a s ys) e in
        let i : j ≡ length before = omega arith in
        let n : suc (length before) ≡ length before + 1 = omega arith in
        let end : end_of R (length before) ≡ length before + 1 = end_is R (length before) (length before + 1)
        (subtree-leaf R 7 (length before) z.inside (rw z.here refl) (rw z.here (leaf-passes g a s ys v)) ∙ ap end_at n) in
        let below : yards_below R (length before) ≡ span R (length before) (length before + 1) = below_span R (length before) ∙ ap (span R (length before)) end in
        let held = same_swap (span R (length before) (length before + 1)) ys (forest_yards (leaf {k = k} v c w) R before after e sane) in
        rw (i, below, z.here) (any_order ys (span R (length before) (length before + 1)) (leaf_region g a s ys) held (of-leaf a s ys))
    forest_each (inner {k = k} {a = a} {s = s} {q = n} {ys = ys} {rs = rs} v c w u f) R before after e sane q j p x =
        go (ℕ_discrete j (length before)) (stands R before (rs ++ after) (inner_region g a s n ys) e) (forest_siblings f R (before ++ (inner_region g a s n ys ∷
        [])) after next-at 7 (omega arith) a (a + s) (omega arith) (omega arith))
        (forest_yards f R (before ++ (inner_region g a s n ys ∷ [])) after next-at sane) (λ lo hi. forest_each f R (before ++ (inner_region g a s n ys ∷ [])) after
        next-at sane (omega arith) j lo hi)
      where
        next-at : R ≡ (before ++ (inner_region g a s n ys ∷ [])) ++ (rs ++ after)
        next-at = next-is R before (rs ++ after) (inner_region g a s n ys) e

        root : Stands R before (inner_region g a s n ys)
            → siblings R (subtree R 7) n (length (before ++ (inner_region g a s n ys ∷ []))) a (a + s) (length ys)
            ≡ end_at (length (before ++ (inner_region g a s n ys ∷ [])) + length rs)
            → Same (span R (length (before ++ (inner_region g a s n ys ∷ []))) (length (before ++ (inner_region g a s n ys ∷ [])) + length rs)) ys
            → Says (yards_below R (length before)) (region_at R (length before))
        root z b y =
            let q1 : 0 < (region_at R (length before)).children = rw z.here (omega arith) in
            let e1 : end_of R (length before) ≡ suc (length before) + length rs = end_is R (length before) (suc (length before) + length rs)
            ((rw z.here at (subtree-inner R 7 (length before) z.inside q1)) ∙ (rw (next-length before (inner_region g a s n ys)) at b)) in
            let e2 : yards_below R (length before) ≡ span R (suc (length before)) (suc (length before) + length rs) = below_span R (length before)
            ∙ (ap (span R (length before)) e1 ∙ span-inner R sane (length before) (suc (length before) + length rs) (omega arith) q1) in
            let y2 = same_swap (span R (suc (length before)) (suc (length before) + length rs)) ys (rw (next-length before (inner_region g a s n ys)) at y) in
            rw (e2, z.here) (any_order ys (span R (suc (length before)) (suc (length before) + length rs)) (inner_region g a s n ys) y2 (of_inner a s n ys
            (omega arith) v.some))

        go : Dec (j ≡ length before) → Stands R before (inner_region g a s n ys)
            → siblings R (subtree R 7) n (length (before ++ (inner_region g a s n ys ∷ []))) a (a + s) (length ys)
            ≡ end_at (length (before ++ (inner_region g a s n ys ∷ [])) + length rs)
            → Same (span R (length (before ++ (inner_region g a s n ys ∷ []))) (length (before ++ (inner_region g a s n ys ∷ [])) + length rs)) ys
            → (length (before ++ (inner_region g a s n ys ∷ [])) ≤ j → j < length (before ++ (inner_region g a s n ys ∷ [])) + length rs
            → Says (yards_below R j) (region_at R j)) → Says (yards_below R j) (region_at R j)
        go (yes i) z b y rec = rw i (root z b y)
        go (no i) z b y rec = rec (omega (arith, next-length before (inner_region g a s n ys))) (omega (arith, next-length before (inner_region g a s n ys)))
    forest_each (widen a b c f) R before after e s q j p w = forest_each f R before after e s (omega arith) j p w
    forest_each (join {ys = ys} {zs = zs} {rs = rs} {ss = ss} h f t) R before after e s q j p w =
        go (dec_lt j (length before + length rs)) (λ x. forest_each f R before (ss ++ after) first-at s q j p x) (λ lo hi. forest_each t R (before ++ rs) after
        second_at s q j lo hi)
      where
        first-at : R ≡ before ++ (rs ++ (ss ++ after))
        first-at = e ∙ ap (λ (z : List Region). before ++ z) (append_assoc rs ss after)

        second_at : R ≡ (before ++ rs) ++ (ss ++ after)
        second_at = first-at ∙ sym (append_assoc before rs (ss ++ after))

        go : Dec (j < length before + length rs) → (j < length before + length rs → Says (yards_below R j) (region_at R j))
            → (length (before ++ rs) ≤ j → j < length (before ++ rs) + length ss → Says (yards_below R j) (region_at R j))
            → Says (yards_below R j) (region_at R j)
        go (yes x) one rest = one x
        go (no x) one rest = rest (omega (arith, length-append before rs)) (omega (arith, length-append before rs, length-append rs ss))
