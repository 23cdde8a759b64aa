-- The regions that cutting gives are those that the stated cuts give, and no others are. Assumes nothing.
use mathlib.Core.Path.{◌≡◌, refl, sym, ap, ◌∙◌}
use mathlib.Core.List.{List, [], ◌∷◌, ◌++◌}
use Prim.Native.Nat.{ℕ, zero, suc, ◌+◌, ◌-◌, ◌*◌, ◌≤◌, ◌<◌}
use native.Mathlib.Decide.{ℕ_discrete, dec_le}
use native.Mathlib.Omega.{arith}
use lib.ListN.{length}
use Rattle.tree_layout.specs.Values.{Region}
use Rattle.check_rules.specs.Truth.{within}
use Rattle.check_rules.proofs.Within.{within-mem}
use Rattle.build_rules.specs.Cut.{Given, leaf_region, inner_region, cut_at, cut_part, part_count, part_regions, cut}
use Rattle.build_rules.specs.Cuts.{IsPart, CutRange, CutParts, leaf, replaced, inner, end, dropped, kept}
use Rattle.build_rules.specs.code.Facts.{terms_of, Measures, Marks}
use Rattle.build_rules.proofs.Parts.{fours, few, cut-is, cut-rise, cut_small, cut-top, part-is, count-drop}
use Rattle.build_rules.proofs.Parts.{count-keep, regions-drop, regions-keep, count_none, Rising, regions-none}
use Rattle.build_rules.proofs.Cutting.{Held, part_held, count-some}
use Rattle.build_rules.proofs.Steps.{cut-none, cut-leaf, cut-one, cut_many}
use Rattle.build_rules.proofs.Described.{marks-part, leaf-exact, inner-exact, leaf-one, inner-one}

-- part i, from one cut up to the next, and no other
part-exact : (a s i : ℕ) → i < 4 → IsPart a s i (cut_at a s i) (cut_at a s (suc i))
part-exact a s i h = record { number = h; starts = cut-is a s i; ends = cut-is a s (suc i) }

part_low : (a s i low high : ℕ) → IsPart a s i low high → low ≡ cut_at a s i
part_low a s i low high p = p.starts ∙ sym (cut-is a s i)

part-high : (a s i low high : ℕ) → IsPart a s i low high → high ≡ cut_at a s (suc i)
part-high a s i low high p = p.ends ∙ sym (cut-is a s (suc i))

module _ (g : Given) (D : ℕ → ℕ → ℕ → Type 0) (K : ℕ → ℕ → Type 0) (n : ℕ) (known : Measures D g.d n) (one : 1 ≤ g.limit) where
  -- a range of one junction is a leaf
  small : (a s : ℕ) (ys : List ℕ) → Held a s ys → s ≤ fours 0 → length ys ≤ g.limit
  unfolding fours
  small a s ys v h = omega (arith, few a s ys v.rising v.in_range_lem h)

  parts-small : (k s : ℕ) → s ≤ fours (suc k) → s ≤ 4 * fours k
  unfolding fours
  parts-small k s h = h

  -- the kinds of the yards of a range, and of a part
  within-marks : (low high : ℕ) (ys : List ℕ) → Marks K g.kinds ys → Marks K g.kinds (within low high ys)
  within-marks low high ys = marks-part K g.kinds ys (within low high ys) (λ y m. (within-mem low high ys y m).0)

  part-marks : (a s : ℕ) (ys : List ℕ) (i : ℕ) → Marks K g.kinds ys → Marks K g.kinds (cut_part a s ys i)
  part-marks a s ys i o = rw (part-is a s ys i) (within-marks (cut_at a s i) (cut_at a s (suc i)) ys o)

  -- ---- cutting gives what is stated

  abbrev Exact : ℕ → Type 0
  Exact k = (a s : ℕ) (ys : List ℕ) → Marks K g.kinds ys → Held a s ys → a + s ≤ n → s ≤ fours k → CutRange (terms_of g D K) a s ys (cut g k a s ys)

  parts-exact : (k a s : ℕ) (ys : List ℕ) → Marks K g.kinds ys → Held a s ys → a + s ≤ n → s ≤ 4 * fours k → Exact k → (c j : ℕ) → c + j ≡ 4
      → CutParts (terms_of g D K) a s ys j (part_count a s ys c j) (part_regions (cut g k) a s ys c j)
  parts-exact k a s ys o v b h rec zero j e = let last : j ≡ 4 = omega arith in rw (count_none a s ys j, regions-none (cut g k) a s ys j) (end last)
  parts-exact k a s ys o v b h rec (suc c) j e = go (ℕ_discrete (length (cut_part a s ys j)) 0) (parts-exact k a s ys o v b h rec c (suc j) (omega arith))
    where
      part : IsPart a s j (cut_at a s j) (cut_at a s (suc j))
      part = part-exact a s j (omega arith)

      moved : {rs : List Region} → CutRange (terms_of g D K) (cut_at a s j) (cut_at a s (suc j) - cut_at a s j) (cut_part a s ys j) rs
          → CutRange (terms_of g D K) (cut_at a s j) (cut_at a s (suc j) - cut_at a s j) (within (cut_at a s j) (cut_at a s (suc j)) ys) rs
      moved w = rw (part-is a s ys j) at w

      go : Dec (length (cut_part a s ys j) ≡ 0) → CutParts (terms_of g D K) a s ys (suc j) (part_count a s ys c (suc j)) (part_regions (cut g k) a s ys c (suc j))
          → CutParts (terms_of g D K) a s ys j (part_count a s ys (suc c) j) (part_regions (cut g k) a s ys (suc c) j)
      go (yes z) f = rw (count-drop (cut g k) a s ys c j z, regions-drop (cut g k) a s ys c j z) (dropped part (rw (part-is a s ys j) at z) f)
      go (no z) f =
          let p : 0 < length (cut_part a s ys j) = omega arith in
          let held = part_held g n one a s ys j v.rising p in
          let inside : cut_at a s j + (cut_at a s (suc j) - cut_at a s j) ≤ n = omega (arith, cut-top a s (suc j) c (omega arith), cut-rise a s j) in
          let w = rec (cut_at a s j) (cut_at a s (suc j) - cut_at a s j) (cut_part a s ys j) (part-marks a s ys j o) held inside (cut_small a s j (fours k) h) in
          rw (count-keep (cut g k) a s ys c j p, regions-keep (cut g k) a s ys c j p) (kept part (rw (part-is a s ys j) at p) (moved w) f)

  pub cut-exact : (k : ℕ) → Exact k
  cut-exact zero a s ys o v b h = rw (cut-none g 0 a s ys) (leaf (small a s ys v h) (leaf-exact g D K n known a s ys o v b))
  cut-exact (suc k) a s ys o v b h = go (dec_le (length ys) g.limit) (ℕ_discrete (part_count a s ys 4 0) 1)
      (parts-exact k a s ys o v b (parts-small k s h) (cut-exact k) 4 0 refl)
    where
      go : Dec (length ys ≤ g.limit) → Dec (part_count a s ys 4 0 ≡ 1) → CutParts (terms_of g D K) a s ys 0 (part_count a s ys 4 0) (part_regions (cut g k) a s ys 4
          0) → CutRange (terms_of g D K) a s ys (cut g (suc k) a s ys)
      go (yes z) e f = rw (cut-leaf g k a s ys z) (leaf z (leaf-exact g D K n known a s ys o v b))
      go (no z) (yes e) f = let p : g.limit < length ys = omega arith in rw (cut-one g k a s ys p e) (replaced p (rw e at f))
      go (no z) (no e) f =
          let p : g.limit < length ys = omega arith in
          let two : 2 ≤ part_count a s ys 4 0 = omega (arith, count-some g n one k a s ys v b (parts-small k s h), e) in
          rw (cut_many g k a s ys p e) (inner p two f (inner-exact g D K n known a s ys o v b (part_count a s ys 4 0)))

  -- ---- and what is stated is what cutting gives

  -- the parts from number i on
  record PartsOne (k a s : ℕ) (ys : List ℕ) (i q c : ℕ) (rs : List Region) : Type 0 where
    pub number : q ≡ part_count a s ys c i
    pub regions : rs ≡ part_regions (cut g k) a s ys c i

  leaf-same : (k a s : ℕ) (ys : List ℕ) → length ys ≤ g.limit → cut g k a s ys ≡ leaf_region g a s ys ∷ []
  leaf-same zero a s ys h = cut-none g 0 a s ys
  leaf-same (suc k) a s ys h = cut-leaf g k a s ys h

  replaced-same : (k a s : ℕ) (ys : List ℕ) (rs : List Region) → Held a s ys → s ≤ fours k → g.limit < length ys
      → ((j : ℕ) → s ≤ 4 * fours j → PartsOne j a s ys 0 1 4 rs) → rs ≡ cut g k a s ys
  replaced-same zero a s ys rs v b h f = absurd (omega (arith, small a s ys v b))
  replaced-same (suc k) a s ys rs v b h f = let x = f k (parts-small k s b) in x.regions ∙ sym (cut-one g k a s ys h (sym x.number))

  inner-same : (k a s q : ℕ) (ys : List ℕ) (rs : List Region) → Held a s ys → s ≤ fours k → g.limit < length ys → 2 ≤ q
      → ((j : ℕ) → s ≤ 4 * fours j → PartsOne j a s ys 0 q 4 rs) → inner_region g a s q ys ∷ rs ≡ cut g k a s ys
  inner-same zero a s q ys rs v b h t f = absurd (omega (arith, small a s ys v b))
  inner-same (suc k) a s q ys rs v b h t f =
      let x = f k (parts-small k s b) in
      let e : inner_region g a s q ys ∷ rs ≡ inner_region g a s (part_count a s ys 4 0) ys ∷ part_regions (cut g k) a s ys 4 0 =
      λ i. inner_region g a s (x.number i) ys ∷ x.regions i in
      e ∙ sym (cut_many g k a s ys h (omega (arith, x.number)))

  end_same : (k a s : ℕ) (ys : List ℕ) (i c : ℕ) → i ≡ 4 → c + i ≡ 4 → PartsOne k a s ys i 0 c []
  end_same k a s ys i zero e h = record { number = sym (count_none a s ys i); regions = sym (regions-none (cut g k) a s ys i) }
  end_same k a s ys i (suc c) e h = absurd (omega arith)

  module _ (k a s : ℕ) (ys : List ℕ) (i low high : ℕ) (p : IsPart a s i low high) where
    -- the yards of a part
    yards-same : within low high ys ≡ cut_part a s ys i
    yards-same = rw (part-is a s ys i, part_low a s i low high p, part-high a s i low high p) refl

    dropped-same : (q c : ℕ) (rs : List Region) → c + i ≡ 4 → length (within low high ys) ≡ 0 → ((d : ℕ) → d + suc i ≡ 4 → PartsOne k a s ys (suc i) q d rs)
        → PartsOne k a s ys i q c rs
    dropped-same q zero rs e z f = absurd (omega (arith, p.number))
    dropped-same q (suc c) rs e z f =
        let y : length (cut_part a s ys i) ≡ 0 = rw yards-same at z in
        let x = f c (omega arith) in
        record {
          number = x.number ∙ sym (count-drop (cut g k) a s ys c i y);
          regions = x.regions ∙ sym (regions-drop (cut g k) a s ys c i y);
        }

    kept_same : (q c : ℕ) (rs ss : List Region) → Rising ys → a + s ≤ n → s ≤ 4 * fours k → c + i ≡ 4 → 0 < length (within low high ys)
        → (Held low (high - low) (within low high ys) → low + (high - low) ≤ n → (j : ℕ) → high - low ≤ fours j
        → rs ≡ cut g j low (high - low) (within low high ys))
        → ((d : ℕ) → d + suc i ≡ 4 → PartsOne k a s ys (suc i) q d ss) → PartsOne k a s ys i (suc q) c (rs ++ ss)
    kept_same q zero rs ss r b h e z w f = absurd (omega (arith, p.number))
    kept_same q (suc c) rs ss r b h e z w f =
        let y : 0 < length (cut_part a s ys i) = rw yards-same at z in
        let x = f c (omega arith) in
        let l = part_low a s i low high p in
        let t = part-high a s i low high p in
        let v : Held low (high - low) (within low high ys) = rw (yards-same, l, t) (part_held g n one a s ys i r y) in
        let m : rs ≡ cut g k low (high - low) (within low high ys) =
        w v (omega (arith, l, t, cut-rise a s i, cut-top a s (suc i) c (omega arith), b)) k (rw (l, t) (cut_small a s i (fours k) h)) in
        let o : rs ≡ cut g k (cut_at a s i) (cut_at a s (suc i) - cut_at a s i) (cut_part a s ys i) = m ∙ rw (yards-same, l, t) refl in
        record {
          number = ap suc x.number ∙ sym (count-keep (cut g k) a s ys c i y);
          regions = joined o x.regions ∙ sym (regions-keep (cut g k) a s ys c i y);
        }
      where
        joined : {ts zs us vs : List Region} → ts ≡ us → zs ≡ vs → ts ++ zs ≡ us ++ vs
        joined e f = λ i. e i ++ f i

  -- what is to be shown of a range, and of the parts from number i on
  abbrev RangeOne : (a s : ℕ) (ys : List ℕ) (rs : List Region) → CutRange (terms_of g D K) a s ys rs → Type 0
  RangeOne a s ys rs x = Marks K g.kinds ys → Held a s ys → a + s ≤ n → (k : ℕ) → s ≤ fours k → rs ≡ cut g k a s ys

  abbrev EachOne : (a s : ℕ) (ys : List ℕ) (i q : ℕ) (rs : List Region) → CutParts (terms_of g D K) a s ys i q rs → Type 0
  EachOne a s ys i q rs x = Marks K g.kinds ys → Rising ys → a + s ≤ n → (k : ℕ) → s ≤ 4 * fours k → (c : ℕ) → c + i ≡ 4 → PartsOne k a s ys i q c rs

  pub range-one : {a s : ℕ} {ys : List ℕ} {rs : List Region} → CutRange (terms_of g D K) a s ys rs → Marks K g.kinds ys → Held a s ys → a + s ≤ n → (k : ℕ)
      → s ≤ fours k
      → rs ≡ cut g k a s ys
  range-one x = elim x as RangeOne EachOne [
    | leaf {a} {s} {ys} {r} h y ↦ λ o v b k f. ap (λ (z : Region). z ∷ []) (leaf-one g D K n known a s ys o v b r y) ∙ sym (leaf-same k a s ys h)
    | replaced {a} {s} {ys} {rs} h (p → each) ↦ λ o v b k f. replaced-same k a s ys rs v f h (λ j z. each o v.rising b j z 4 refl)
    | inner {a} {s} {q} {ys} {r} {rs} h t (p → each) y ↦ λ o v b k f.
        ap (λ (z : Region). z ∷ rs) (inner-one g D K n known a s ys o v b q r y) ∙ inner-same k a s q ys rs v f h t (λ j z. each o v.rising b j z 4 refl)
    | end {a} {s} {i} {ys} e ↦ λ o r b k f c h. end_same k a s ys i c e h
    | dropped {a} {s} {i} {q} {low} {high} {ys} {rs} p z (t → each) ↦ λ o r b k f c h.
        dropped-same k a s ys i low high p q c rs h z (λ d y. each o r b k f d y)
    | kept {a} {s} {i} {q} {low} {high} {ys} {rs} {ss} p z (w → this) (t → each) ↦ λ o r b k f c h.
        kept_same k a s ys i low high p q c rs ss r b f h z (this (within-marks low high ys o)) (λ d y. each o r b k f d y)
  ]
