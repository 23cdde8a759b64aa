-- What cutting gives: some trees side by side over neighbouring ranges, as one inductive type. Assumes nothing.
use mathlib.Core.Path.{◌≡◌, refl, ap, ◌∙◌}
use mathlib.Core.Logic.{◌≢◌}
use mathlib.Core.List.{List, [], ◌∷◌, ◌++◌, Memᴰ as Mem}
use Prim.Native.Nat.{ℕ, zero, suc, ◌+◌, ◌-◌, ◌*◌, ◌≤◌, ◌<◌}
use native.Mathlib.Decide.{ℕ_discrete}
use native.Mathlib.Omega.{arith}
use lib.ListN.{length, length-append}
use lib.Dec.{leb, eqb, eqb→eq, leb→le}
use Rattle.book.proofs.Choosing.{choose_case}
use Rattle.book.proofs.Lists.{neqb→ne}
use Rattle.tree_layout.specs.Values.{Region}
use Rattle.check_rules.specs.Truth.{within}
use Rattle.check_rules.proofs.Within.{within-mem}
use Rattle.build_rules.specs.Cut.{Given, leaf_region, inner_region, cut_at, cut_part, part_count, part_regions, cut}
use Rattle.build_rules.proofs.Parts.{fours, Rising, within-rising, within_none, within_all, within_split, few, cut-first, cut_last, cut-rise}
use Rattle.build_rules.proofs.Parts.{cut_small, cut-top, parts-count, part-is, count-drop, count-keep, regions-drop, regions-keep, count_none}
use Rattle.build_rules.proofs.Parts.{regions-none}

-- some yards, rising, in the range from a with s junctions
pub record Held (a s : ℕ) (ys : List ℕ) : Type 0 where
  pub some : 0 < length ys
  pub in_range_lem : (y : ℕ) → Mem y ys → (a ≤ y) × (y < a + s)
  pub rising : Rising ys

-- n trees of at most k levels side by side, in the range from low up to high, with their yards and their regions in preorder
pub data CutForest (g : Given) (junctions : ℕ) : ℕ → ℕ → ℕ → ℕ → List ℕ → List Region → Type 0 where
  none : {k low high : ℕ} → low ≤ high → CutForest g junctions k 0 low high [] []
  leaf : {k a s : ℕ} {ys : List ℕ} → Held a s ys → a + s ≤ junctions → length ys ≤ g.limit
      → CutForest g junctions (suc k) 1 a (a + s) ys (leaf_region g a s ys ∷ [])
  inner : {k a s q : ℕ} {ys : List ℕ} {rs : List Region} → Held a s ys → a + s ≤ junctions → 2 ≤ q → q ≤ 4 → CutForest g junctions k q a (a + s) ys rs
      → CutForest g junctions (suc k) 1 a (a + s) ys (inner_region g a s q ys ∷ rs)
  widen : {k k' n low low' high high' : ℕ} {ys : List ℕ} {rs : List Region} → k' ≤ k → low ≤ low' → high' ≤ high
      → CutForest g junctions k' n low' high' ys rs → CutForest g junctions k n low high ys rs
  join : {k n low mid high : ℕ} {ys zs : List ℕ} {rs ss : List Region} → mid ≤ high → CutForest g junctions k 1 low mid ys rs
      → CutForest g junctions k n mid high zs ss → CutForest g junctions k (suc n) low high (ys ++ zs) (rs ++ ss)

module _ (g : Given) (junctions : ℕ) where
  -- no trees, no yards
  pub forest_none : {k n low high : ℕ} {ys : List ℕ} {rs : List Region} → CutForest g junctions k n low high ys rs → n ≡ 0 → length ys ≡ 0
  forest_none (none h) e = refl
  forest_none (leaf h b c) e = absurd (omega arith)
  forest_none (inner h b c x f) e = absurd (omega arith)
  forest_none (widen a b c f) e = forest_none f e
  forest_none (join h f t) e = absurd (omega arith)

  -- a region for each tree at least
  pub forest_length : {k n low high : ℕ} {ys : List ℕ} {rs : List Region} → CutForest g junctions k n low high ys rs → n ≤ length rs
  forest_length (none h) = omega arith
  forest_length (leaf h b c) = omega arith
  forest_length (inner h b c x f) = omega arith
  forest_length (widen a b c f) = forest_length f
  forest_length (join {rs = rs} {ss = ss} h f t) = omega (arith, length-append rs ss, forest_length f, forest_length t)

  module _ (one : 1 ≤ g.limit) where
    -- the yards of a part are held in its range
    pub part_held : (a s : ℕ) (ys : List ℕ) (j : ℕ) → Rising ys → 0 < length (cut_part a s ys j)
        → Held (cut_at a s j) (cut_at a s (suc j) - cut_at a s j) (cut_part a s ys j)
    part_held a s ys j r h =
        let e = part-is a s ys j in
        let z : cut_at a s j + (cut_at a s (suc j) - cut_at a s j) ≡ cut_at a s (suc j) = omega (arith, cut-rise a s j) in
        record {
          some = h;
          in_range_lem = λ y i. let x = within-mem (cut_at a s j) (cut_at a s (suc j)) ys y (rw e at i) in (x.1, rw z x.2);
          rising = rw e (within-rising (cut_at a s j) (cut_at a s (suc j)) ys r);
        }

    -- what cutting with k cuts gives
    abbrev Cuts : ℕ → Type 0
    Cuts k = (a s : ℕ) (ys : List ℕ) → Held a s ys → a + s ≤ junctions → s ≤ fours k → CutForest g junctions (suc k) 1 a (a + s) ys (cut g k a s ys)

    -- each part that stays is a tree, from the j-th part on
    parts_forest : (k a s : ℕ) (ys : List ℕ) → a + s ≤ junctions → Rising ys → s ≤ 4 * fours k → Cuts k → (n j : ℕ) → n + j ≡ 4
        → CutForest g junctions (suc k) (part_count a s ys n j) (cut_at a s j) (a + s) (within (cut_at a s j) (a + s) ys) (part_regions (cut g k) a s ys n j)
    parts_forest k a s ys b r h rec zero j e =
        let last = cut_last a s j (omega arith) in
        let le : cut_at a s j ≤ a + s = omega arith in
        rw (within_none (cut_at a s j) (a + s) ys (λ y i x z. omega arith), count_none a s ys j, regions-none (cut g k) a s ys j) (none le)
    parts_forest k a s ys b r h rec (suc n) j e = go (ℕ_discrete (length (cut_part a s ys j)) 0) (parts_forest k a s ys b r h rec n (suc j) (omega arith))
      where
        low : ℕ
        low = cut_at a s j

        mid : ℕ
        mid = cut_at a s (suc j)

        both : within low (a + s) ys ≡ cut_part a s ys j ++ within mid (a + s) ys
        both = rw (part-is a s ys j) (within_split low mid (a + s) (cut-rise a s j) (cut-top a s (suc j) n (omega arith)) ys r)

        empty : (l : List ℕ) → length l ≡ 0 → l ≡ []
        empty [] z = refl
        empty (x ∷ xs) z = absurd (omega arith)

        go : Dec (length (cut_part a s ys j) ≡ 0) → CutForest g junctions (suc k) (part_count a s ys n (suc j)) mid (a + s) (within mid (a + s) ys) (part_regions
            (cut g k) a s ys n (suc j))
            → CutForest g junctions (suc k) (part_count a s ys (suc n) j) low (a + s) (within low (a + s) ys) (part_regions (cut g k) a s ys (suc n) j)
        go (yes z) f =
            let le : suc k ≤ suc k = omega arith in
            let ge : a + s ≤ a + s = omega arith in
            let same : within low (a + s) ys ≡ within mid (a + s) ys = both ∙ ap (λ (l : List ℕ). l ++ within mid (a + s) ys) (empty (cut_part a s ys j) z) in
            rw (count-drop (cut g k) a s ys n j z, regions-drop (cut g k) a s ys n j z, same) (widen le (cut-rise a s j) ge f)
        go (no z) f =
            let p : 0 < length (cut_part a s ys j) = omega arith in
            let q : low + (mid - low) ≡ mid = omega (arith, cut-rise a s j) in
            let top = cut-top a s (suc j) n (omega arith) in
            let w = rec low (mid - low) (cut_part a s ys j) (part_held a s ys j r p) (omega (arith, top)) (cut_small a s j (fours k) h) in
            rw (count-keep (cut g k) a s ys n j p, regions-keep (cut g k) a s ys n j p, both) (join top (rw q at w) f)

    -- cutting a range gives a tree
    pub cut_forest : (k : ℕ) → Cuts k
    unfolding cut fours
    cut_forest zero a s ys v b h = leaf v b (omega (arith, few a s ys v.rising v.in_range_lem h))
    cut_forest (suc k) a s ys v b h = go (parts_forest k a s ys b v.rising h (cut_forest k) 4 0 refl)
      where
        two : (q : ℕ) → q ≢ 1 → (q ≡ 0 → length ys ≡ 0) → 2 ≤ q
        two zero x f = absurd (omega (arith, f refl, v.some))
        two (suc q) x f = omega arith

        go : CutForest g junctions (suc k) (part_count a s ys 4 0) (cut_at a s 0) (a + s) (within (cut_at a s 0) (a + s) ys) (part_regions (cut g k) a s ys 4 0)
            → CutForest g junctions (suc (suc k)) 1 a (a + s) ys (cut g (suc k) a s ys)
        go f0 =
            let f : CutForest g junctions (suc k) (part_count a s ys 4 0) a (a + s) ys (part_regions (cut g k) a s ys 4 0) = rw (
              cut-first a s,
              within_all a (a +
                  s) ys v.in_range_lem,
            ) at f0 in
            choose_case (λ (rs : List Region). CutForest g junctions (suc (suc k)) 1 a (a + s) ys rs) (leb (length ys) g.limit) (λ t. leaf v b (leb→le
            (length ys) g.limit t))
            (λ t. choose_case (λ (rs : List Region). CutForest g junctions (suc (suc k)) 1 a (a + s) ys rs) (eqb (part_count a s ys 4 0) 1)
            (λ e. let le : suc k ≤ suc (suc k) = omega arith in let ge : a + s ≤ a + s = omega arith in let ae : a ≤ a = omega arith in
            widen le ae ge (rw (eqb→eq (part_count a s ys 4 0) 1 e) at f))
            (λ e. inner v b (two (part_count a s ys 4 0) (neqb→ne (part_count a s ys 4 0) 1 e) (forest_none f)) (parts-count a s ys 4 0) f))

    -- some part of a range with yards has yards
    pub count-some : (k a s : ℕ) (ys : List ℕ) → Held a s ys → a + s ≤ junctions → s ≤ 4 * fours k → 1 ≤ part_count a s ys 4 0
    count-some k a s ys v b h = go (part_count a s ys 4 0) refl
      where
        go : (q : ℕ) → part_count a s ys 4 0 ≡ q → 1 ≤ part_count a s ys 4 0
        go zero e = absurd (omega (
          arith,
          v.some,
          rw (cut-first a s, within_all a (a + s) ys v.in_range_lem) at
              (forest_none (parts_forest k a s ys b v.rising h (cut_forest k) 4 0 refl) e),
        ))
        go (suc q) e = omega arith
