-- A road book passes tests 1 to 5 exactly if it has the stated layout. Assumes nothing.
use mathlib.Core.Path.{◌≡◌, ◌∙◌}
use mathlib.Core.Logic.{◌⊎◌, inl, inr, ◌↔◌}
use mathlib.Core.Bool.{◌&&◌}
use mathlib.Core.List.Memᴰ
use mathlib.Core.List.{List, Memᴰ}
use Prim.Native.Nat.{ℕ, zero, suc, ◌+◌, ◌≤◌, ◌<◌}
use native.Mathlib.Decide.{ℕ_discrete}
use native.Mathlib.Numerals.{add-one}
use native.Mathlib.Omega.{arith}
use lib.Dec.{T, ltb, leb, eqb, ltb→lt, lt→ltb, leb→le, le→leb, eqb→eq}
use Rattle.book.specs.Open.{open_refusal}
use Rattle.book.proofs.Choosing.{and_left, and_right, and_both, or_cases, or_left, or_right, eq→eqb}
use Rattle.book.proofs.Choosing.{passes, passed, first-none, first-later, first-low, refuse-low}
use Rattle.book.proofs.Opening.{opens, open_zero, open_most}
use Rattle.road_layout.specs.Road.{Road, junctions, road_count, road_at, roads_to, roads}
use Rattle.road_layout.specs.Layout.{after, road_ok, roads_ok, road_layout_refusal}
use Rattle.road_layout.specs.Facts.{RoadFits, EndsBefore, RoadLayout}
use Rattle.road_layout.specs.Tests.{RoadValues}

-- the pair (l, h) comes before a road's
abbrev Follows : ℕ → ℕ → Road → Type 0
Follows l h r = (l < r.low) ⊎ ((l ≡ r.low) × (h < r.high))

module _ (l h : ℕ) (r : Road) where
  after_follows : T (after l h r.low r.high) → Follows l h r
  unfolding after
  after_follows t = go (or_cases (ltb l r.low) _ t)
    where
      go : T (ltb l r.low) ⊎ T (eqb l r.low && ltb h r.high) → Follows l h r
      go (inl s) = inl (ltb→lt l r.low s)
      go (inr s) = inr (eqb→eq l r.low (and_left (eqb l r.low) (ltb h r.high) s), ltb→lt h r.high (and_right (eqb l r.low) (ltb h r.high) s))

  follows_after : Follows l h r → T (after l h r.low r.high)
  unfolding after
  follows_after (inl s) = or_left (ltb l r.low) _ (lt→ltb _ _ s)
  follows_after (inr s) = or_right (ltb l r.low) _ (and_both (eqb l r.low) _ (eq→eqb _ _ s.0) (lt→ltb _ _ s.1))

  -- a road passes exactly if it fits and follows
  road-fits : (n : ℕ) → T (road_ok n l h r) → RoadFits n r × Follows l h r
  unfolding road_ok
  road-fits n t =
      let t1 = and_right (ltb r.low r.high) _ t in
      let t2 = and_right (ltb r.high n) _ t1 in
      let t3 = and_right (leb 1 r.seconds) _ t2 in
      let fits : RoadFits n r = record {
        ends = ltb→lt _ _ (and_left (ltb r.low r.high) _ t);
        within = ltb→lt _ _ (and_left (ltb r.high n) _ t1);
        some = leb→le _ _ (and_left (leb 1 r.seconds) _ t2);
        few = leb→le _ _ (and_left (leb r.seconds 65535) _ t3);
      } in
      (fits, after_follows (and_right (leb r.seconds 65535) _ t3))

  fits-road : (n : ℕ) → RoadFits n r → Follows l h r → T (road_ok n l h r)
  unfolding road_ok
  fits-road n f s =
      and_both (ltb r.low r.high) _ (lt→ltb _ _ f.ends)
      (and_both (ltb r.high n) _ (lt→ltb _ _ f.within)
      (and_both (leb 1 r.seconds) _ (le→leb _ _ f.some)
      (and_both (leb r.seconds 65535) _ (le→leb _ _ f.few) (follows_after s))))

module _ (b : List ℕ) (n : ℕ) where
  -- the first of the roads that are left
  first-road : (left k l h : ℕ) → T (roads_ok b n (suc left) k l h)
      → T (road_ok n l h (road_at b k)) × T (roads_ok b n left (k + 1) (road_at b k).low (road_at b k).high)
  unfolding roads_ok
  first-road left k l h t = (and_left (road_ok n l h (road_at b k)) _ t, and_right (road_ok n l h (road_at b k)) _ t)

  roads_fit : (left k l h : ℕ) → T (roads_ok b n left k l h) → (j : ℕ) → k ≤ j → j < k + left → RoadFits n (road_at b j)
  roads_fit zero k l h t j p q = absurd (omega arith)
  roads_fit (suc left) k l h t j p q = go (ℕ_discrete j k) (λ r. roads_fit left (k + 1) _ _ (first-road left k l h t).1 j r (omega arith))
    where
      go : Dec (j ≡ k) → (k + 1 ≤ j → RoadFits n (road_at b j)) → RoadFits n (road_at b j)
      go (yes e) rest = rw e (road-fits l h (road_at b k) n (first-road left k l h t).0).0
      go (no e) rest = rest (omega arith)

  roads-rise : (left k l h : ℕ) → T (roads_ok b n left k l h) → (j : ℕ) → k ≤ j → suc j < k + left → EndsBefore (road_at b j) (road_at b (suc j))
  roads-rise zero k l h t j p q = absurd (omega arith)
  roads-rise (suc zero) k l h t j p q = absurd (omega arith)
  roads-rise (suc (suc left)) k l h t j p q =
      go (ℕ_discrete j k) (first-road (suc left) k l h t).1 (λ r. roads-rise (suc left) (k + 1) _ _ (first-road (suc left) k l h t).1 j r (omega arith))
    where
      go : Dec (j ≡ k) → T (roads_ok b n (suc left) (k + 1) (road_at b k).low (road_at b k).high) → (k + 1 ≤ j → EndsBefore (road_at b j) (road_at b (suc j)))
          → EndsBefore (road_at b j) (road_at b (suc j))
      go (yes e) s rest =
          rw e (rw (add-one k) at (road-fits (road_at b k).low (road_at b k).high (road_at b (k + 1)) n (first-road left (k + 1) _ _ s).0).1)
      go (no e) s rest = rest (omega arith)

  roads_pass : (left k l h : ℕ) → ((j : ℕ) → k ≤ j → j < k + left → RoadFits n (road_at b j))
      → ((j : ℕ) → k ≤ j → suc j < k + left → EndsBefore (road_at b j) (road_at b (suc j)))
      → (0 < left → Follows l h (road_at b k)) → T (roads_ok b n left k l h)
  unfolding roads_ok
  roads_pass zero k l h f g s = tt
  roads_pass (suc left) k l h f g s =
      and_both (road_ok n l h (road_at b k)) _ (fits-road l h (road_at b k) n (f k (omega arith) (omega arith)) (s (omega arith)))
      (roads_pass left (k + 1) _ _ (λ j p q. f j (omega arith) (omega arith)) (λ j p q. g j (omega arith) (omega arith))
      (λ p. rw (add-one k) (g k (omega arith) (omega arith))))

module _ (b : List ℕ) where
  -- test 5 holds exactly if all roads fit and rise
  pub roads-values : T (roads_ok b (junctions b) (road_count b) 0 0 0) → RoadValues b
  roads-values t = record {
    fits = λ k h. roads_fit b (junctions b) (road_count b) 0 0 0 t k (omega arith) (omega arith);
    rising = λ k h. roads-rise b (junctions b) (road_count b) 0 0 0 t k (omega arith) (omega arith);
  }

  pub values-roads : RoadValues b → T (roads_ok b (junctions b) (road_count b) 0 0 0)
  values-roads v = roads_pass b (junctions b) (road_count b) 0 0 0 (λ j p q. v.fits j (omega arith)) (λ j p q. v.rising j (omega arith)) first
    where
      first : 0 < road_count b → Follows 0 0 (road_at b 0)
      first h = go (ℕ_discrete 0 (road_at b 0).low)
        where
          go : Dec (0 ≡ (road_at b 0).low) → Follows 0 0 (road_at b 0)
          go (yes e) = inr (e, omega (arith, (v.fits 0 h).ends))
          go (no e) = inl (omega arith)

  pub passing_layout : road_layout_refusal b ≡ 0 → RoadLayout b
  unfolding road_layout_refusal
  passing_layout e =
      let o = first-none (open_refusal b 1 4) _ e in
      let a = passed _ _ _ o.1 (omega arith) in
      let c = passed _ _ _ a.1 (omega arith) in
      let d = passed _ _ _ c.1 (omega arith) in
      let f = passed _ _ _ d.1 (omega arith) in
      let g = passed _ _ _ f.1 (omega arith) in
      let v = roads-values g.0 in
      record {
        opens = opens b 1 4 o.0;
        some-junction = leb→le _ _ a.0;
        few-junctions = leb→le _ _ c.0;
        few-roads = leb→le _ _ d.0;
        whole = eqb→eq _ _ f.0;
        fits = v.fits;
        rising = v.rising;
      }

  pub layout-passes : RoadLayout b → road_layout_refusal b ≡ 0
  unfolding road_layout_refusal
  layout-passes r =
      first-later _ _ (open_zero b 1 4 r.opens)
      ∙ passes _ _ _ (le→leb _ _ r.some-junction) ∙ passes _ _ _ (le→leb _ _ r.few-junctions) ∙ passes _ _ _ (le→leb _ _ r.few-roads)
      ∙ passes _ _ _ (eq→eqb _ _ r.whole) ∙ passes _ _ _ (values-roads (record { fits = r.fits; rising = r.rising }))

  -- tests 1 to 5 all pass exactly if the layout is the stated one
  pub layout-exact : (road_layout_refusal b ≡ 0) ↔ RoadLayout b
  layout-exact = (passing_layout, layout-passes)

-- a road of the book is one of its numbered roads, and fits
to_member : (b : List ℕ) (k : ℕ) (r : Road) → Memᴰ r (roads_to b k) → (j : ℕ) × (j < k) × (r ≡ road_at b j)
unfolding roads_to
to_member b zero r m = absurd (Memᴰ.not-nil m)
to_member b (suc k) r (Memᴰ.head e) = (k, omega arith, e)
to_member b (suc k) r (Memᴰ.tail m) =
    let (j, h, e) = to_member b k r m in
    (j, omega arith, e)

pub roads_member : (b : List ℕ) → RoadLayout b → (r : Road) → Memᴰ r (roads b) → RoadFits (junctions b) r
unfolding roads
roads_member b layout r m =
    let (j, h, e) = to_member b (road_count b) r m in
    rw e (layout.fits j h)

-- no refusal of the layout is above 5
pub layout-low : (b : List ℕ) → road_layout_refusal b ≤ 5
unfolding road_layout_refusal
layout-low b =
    first-low (open_refusal b 1 4) _ 5 (omega (arith, open_most b 1 4))
    (refuse-low _ 3 _ 5 (omega arith) (refuse-low _ 3 _ 5 (omega arith) (refuse-low _ 3 _ 5 (omega arith)
    (refuse-low _ 4 _ 5 (omega arith) (refuse-low _ 5 _ 5 (omega arith) (omega arith))))))
