-- What is proved of road books and their distances. Assumes nothing.
use mathlib.Core.Path.{◌≡◌, refl, sym, ◌∙◌}
use mathlib.Core.Logic.{◌⊎◌, inl, inr, ◌≢◌, ◌↔◌}
use mathlib.Core.Bool.{Bool, true, false, not, ◌&&◌}
use mathlib.Core.List.{List, Memᴰ}
use Prim.Native.Nat.{ℕ, zero, suc, ◌+◌, ◌≤◌, ◌<◌}
use native.Mathlib.Decide.{ℕ_discrete}
use native.Mathlib.Omega.{arith}
use lib.Dec.{T, not_T, ltb, ltb→lt, lt→ltb, nltb→le}
use Rattle.book.specs.Choose.{refuse, first_of}
use Rattle.book.specs.Tests.{FirstFailing}
use Rattle.book.proofs.Choosing.{and_left, and_right, and_both, T-split, passes, fails, passed, first-none, first-later, first-earlier}
use Rattle.book.proofs.FirstFailing.{first-end, first-test, first_join}
use Rattle.road_layout.specs.Road.{Road, junctions, roads}
use Rattle.road_layout.specs.Layout.{road_layout_refusal}
use Rattle.road_layout.specs.Facts.{RoadFits, RoadLayout}
use Rattle.road_layout.specs.Tests.{road_layout_tests}
use Rattle.road_layout.proofs.Layouts.{passing_layout, layout-passes, layout-low, roads_member}
use Rattle.road_layout.proofs.FirstFailing.{road-layout_tests}
use Rattle.adjacency.specs.Arcs.{arcs, net}
use Rattle.adjacency.proofs.Netting.{arc, net-is, each_arc}
use Rattle.road.specs.Walk.{Walk, Least, Fit, SoundArcs}
use Rattle.road.specs.Dijkstra.{far, width, at, distances, dist}
use Rattle.road.specs.Refusal.{all_reached, road_refusal}
use Rattle.road.specs.Facts.{Joined, Passing, IsJunction, Metric, LeastFrom}
use Rattle.road.specs.Tests.{road_tests, CutOff}
use Rattle.road.proofs.Walks.{join, turn}
use Rattle.road.proofs.Distances

-- the arcs of roads that fit are sound
arcs_sound : (n : ℕ) (rs : List Road) → ((r : Road) → Memᴰ r rs → RoadFits n r) → SoundArcs n (arcs rs)
arcs_sound n rs h = each_arc (Fit n) rs both
  where
    both : (r : Road) → Memᴰ r rs → Fit n (arc r.low r.high r.seconds) × Fit n (arc r.high r.low r.seconds)
    both r m =
        let f = h r m in (
          record { from = omega (arith, f.ends, f.within); to = f.within; some = f.some; few = f.few },
          record { from = f.within; to = omega (arith, f.ends, f.within); some = f.some; few = f.few },
        )

-- a distance stands in the list of distances from its source
pub dist-at : (b : List ℕ) (u v : ℕ) → at (distances (net b) (junctions b) u) v ≡ dist b u v
unfolding dist
dist-at b u v = refl

-- ---- of any book of sound layout

module _ (b : List ℕ) (layout : RoadLayout b) where
  pub net_sound : SoundArcs (junctions b) (net b)
  net_sound = rw (net-is b) (arcs_sound (junctions b) (roads b) (λ r m. roads_member b layout r m))

  -- a distance that is not `far` is the least total of a walk
  pub dist-least : (u v : ℕ) → IsJunction b u → dist b u v ≢ far → Least (net b) u v (dist b u v)
  unfolding dist
  dist-least u v h n = Distances.dist-least (net b) (junctions b) layout.few-junctions net_sound u h v n

  -- `far` stands where there is no walk, and only there
  pub dist-far : (u v : ℕ) → IsJunction b u → (dist b u v ≡ far) ↔ (Joined (net b) u v → ⊥)
  unfolding dist
  dist-far u v h = (
    (λ e w. Distances.dist-none (net b) (junctions b) layout.few-junctions net_sound u h v e w.0 w.1),
    (λ n. go n (ℕ_discrete (dist b u v) far)),
  )
    where
      go : (Joined (net b) u v → ⊥) → Dec (dist b u v ≡ far) → dist b u v ≡ far
      go n (yes e) = e
      go n (no e) = absurd (n (dist b u v, (dist-least u v h e).walk))

  -- where a walk exists the distance is its least total
  pub walk-least : (u v : ℕ) → IsJunction b u → Joined (net b) u v → Least (net b) u v (dist b u v)
  walk-least u v h w = dist-least u v h (λ e. (dist-far u v h).0 e w)

-- ---- refusal 6, and what passes

-- the first n distances are none of them `far`
reached-all : (ds : List ℕ) (n : ℕ) → T (all_reached ds n) → (v : ℕ) → v < n → at ds v ≢ far
unfolding all_reached
reached-all ds zero t v h = absurd (omega arith)
reached-all ds (suc n) t v h = go (ℕ_discrete v n) (λ p. reached-all ds n (and_left (all_reached ds n) (ltb (at ds n) far) t) v p)
  where
    go : Dec (v ≡ n) → (v < n → at ds v ≢ far) → at ds v ≢ far
    go (yes e) rest = rw e (λ f. omega (arith, ltb→lt (at ds n) far (and_right (all_reached ds n) (ltb (at ds n) far) t)))
    go (no e) rest = rest (omega arith)

all-reached : (ds : List ℕ) (n : ℕ) → ((v : ℕ) → v < n → at ds v < far) → T (all_reached ds n)
unfolding all_reached
all-reached ds zero h = tt
all-reached ds (suc n) h = and_both (all_reached ds n) _ (all-reached ds n (λ v p. h v (omega arith))) (lt→ltb _ _ (h n (omega arith)))

not-reached : (ds : List ℕ) (n : ℕ) → T (not (all_reached ds n)) → (v : ℕ) × (v < n) × (far ≤ at ds v)
unfolding all_reached
not-reached ds zero t = absurd t
not-reached ds (suc n) t = go (T-split (all_reached ds n)) (λ p. not-reached ds n p)
  where
    last : (a c : Bool) → T a → T (not (a && c)) → T (not c)
    last true c s t = t
    last false c s t = absurd s

    go : T (all_reached ds n) ⊎ T (not (all_reached ds n)) → (T (not (all_reached ds n)) → (v : ℕ) × (v < n) × (far ≤ at ds v))
        → (v : ℕ) × (v < suc n) × (far ≤ at ds v)
    go (inl p) rest = (n, omega arith, nltb→le (at ds n) far (last (all_reached ds n) (ltb (at ds n) far) p t))
    go (inr p) rest =
        let (v, q, r) = rest p in
        (v, omega arith, r)

module _ (b : List ℕ) where
  abbrev from_zero : List ℕ
  from_zero = distances (net b) (junctions b) 0

  walks : (layout : RoadLayout b) → T (all_reached from_zero (junctions b)) → (v : ℕ) → v < junctions b → Joined (net b) 0 v
  unfolding dist
  walks layout r v h = (dist b 0 v, (dist-least b layout 0 v layout.some-junction (reached-all from_zero (junctions b) r v h)).walk)

  -- where every junction can be reached none has `far`
  unmarked : (p : Passing b) → T (all_reached from_zero (junctions b))
  unfolding dist
  unmarked p = all-reached from_zero (junctions b) (λ v h. near v h)
    where
      near : (v : ℕ) → v < junctions b → at from_zero v < far
      near v h =
          let n : dist b 0 v ≢ far = λ e. (dist-far b p.layout 0 v p.layout.some-junction).0 e (p.connected v h) in
          omega (arith, Distances.dist-bound-all (net b) (junctions b) p.layout.few-junctions (net_sound b p.layout) 0 p.layout.some-junction v n)

  pub passing : road_refusal b ≡ 0 → Passing b
  unfolding road_refusal
  passing e =
      let p = first-none (road_layout_refusal b) _ e in
      let layout = passing_layout b p.0 in
      let r = (passed _ _ _ p.1 (omega arith)).0 in
      record { layout = layout; connected = λ v h. walks layout r v h }

  pub passes-all : Passing b → road_refusal b ≡ 0
  unfolding road_refusal
  passes-all p = first-later _ _ (layout-passes b p.layout) ∙ passes _ _ _ (unmarked p)

  -- a book passes exactly if it has the stated layout, limits, order and connection
  pub passing_exact : (road_refusal b ≡ 0) ↔ Passing b
  passing_exact = (passing, passes-all)

  -- the refusal is the number of the first of tests 1 to 6 that fails
  pub road_tests_lem : FirstFailing (road_tests b) (road_refusal b)
  unfolding road_refusal
  road_tests_lem =
      first_join (road_layout_tests b) _ (road_layout_refusal b) _ tt (road-layout_tests b) (λ e.
      let layout = passing_layout b e in
      first-test (all_reached from_zero (junctions b)) 6 0 _ (walks layout) (λ c. unmarked (record { layout = layout; connected = c })) (λ _. first-end))

  -- refusal 6 exactly if the layout is sound and some junction has no walk from junction 0
  pub cut_off_exact : (road_refusal b ≡ 6) ↔ (RoadLayout b × CutOff b)
  unfolding road_refusal
  cut_off_exact = (λ e. there e (ℕ_discrete (road_layout_refusal b) 0), λ c. back_again c.0 c.1)
    where
      last : refuse (all_reached from_zero (junctions b)) 6 0 ≡ 6
          → T (all_reached from_zero (junctions b)) ⊎ T (not (all_reached from_zero (junctions b))) → T (not (all_reached from_zero (junctions b)))
      last e (inl t) = absurd (omega (arith, sym (passes (all_reached from_zero (junctions b)) 6 0 t) ∙ e))
      last e (inr t) = t

      far_off : (layout : RoadLayout b) → (v : ℕ) × (v < junctions b) × (far ≤ at from_zero v) → CutOff b
      far_off layout (v, h, f) = (
        v,
        h,
        λ w.
            omega (
              arith,
              f,
              Distances.dist-bound-all (net b) (junctions b) layout.few-junctions (net_sound b layout) 0 layout.some-junction v
                  (λ e. Distances.dist-none (net b) (junctions b) layout.few-junctions (net_sound b layout) 0 layout.some-junction v e w.0 w.1),
            ),
      )

      there : first_of (road_layout_refusal b) (refuse (all_reached from_zero (junctions b)) 6 0) ≡ 6 → Dec (road_layout_refusal b ≡ 0) → RoadLayout b × CutOff b
      there e (yes z) =
          let layout = passing_layout b z in
          let t = last (sym (first-later (road_layout_refusal b) _ z) ∙ e) (T-split (all_reached from_zero (junctions b))) in
          (layout, far_off layout (not-reached from_zero (junctions b) t))
      there e (no z) = absurd (omega (arith, layout-low b, sym (first-earlier (road_layout_refusal b) _ (omega arith)) ∙ e))

      back_again : (layout : RoadLayout b) → CutOff b → first_of (road_layout_refusal b) (refuse (all_reached from_zero (junctions b)) 6 0) ≡ 6
      back_again layout (v, h, n) =
          first-later (road_layout_refusal b) _ (layout-passes b layout)
          ∙ fails (all_reached from_zero (junctions b)) 6 0 (not_T (all_reached from_zero (junctions b)) (λ t. n (walks layout t v h)))

-- ---- of a book that passes

-- a walk of a road book, the other way round
turned : (b : List ℕ) {u v t : ℕ} → Walk (net b) u v t → Walk (net b) v u t
turned b x = rw (net-is b) (turn (roads b) (rw (net-is b) at x))

module _ (b : List ℕ) (p : Passing b) where
  -- every two junctions have a walk: back to junction 0 and on
  pub all-joined : (u v : ℕ) → IsJunction b u → IsJunction b v → Joined (net b) u v
  all-joined u v hu hv =
      let (s, x) = p.connected u hu in
      let (t, y) = p.connected v hv in
      (s + t, join (turned b x) y)

  not-marked : (u v : ℕ) → IsJunction b u → IsJunction b v → dist b u v ≢ far
  not-marked u v hu hv e = (dist-far b p.layout u v hu).0 e (all-joined u v hu hv)

  pub metric : Metric b
  unfolding dist
  metric = record {
    joined = all-joined;
    least = λ u v hu hv. dist-least b p.layout u v hu (not-marked u v hu hv);
    self = λ u hu. Distances.dist-self (net b) (junctions b) small sound u hu;
    triangle = λ u v w hu hv hw. (Distances.dist-triangle (net b) (junctions b) small sound u v w hu hv (not-marked u v hu hv) (not-marked v w hv hw)).1;
    bounded = λ u v hu hv. Distances.dist-bound-all (net b) (junctions b) small sound u hu v (not-marked u v hu hv);
  }
    where
      small : junctions b ≤ width
      small = p.layout.few-junctions

      sound : SoundArcs (junctions b) (net b)
      sound = net_sound b p.layout

  -- the distances from a junction, as they stand in a list, are the least totals of walks
  pub row-least : (u : ℕ) (ds : List ℕ) → IsJunction b u → ds ≡ distances (net b) (junctions b) u → LeastFrom b u ds
  row-least u ds hu e v hv = rw (e, dist-at b u v) (metric.least u v hu hv)

  -- the differences that bounds are made of: away from a landmark l, and towards it
  pub away : (l q x : ℕ) → IsJunction b l → IsJunction b q → IsJunction b x → dist b l x ≤ dist b l q + dist b q x
  away l q x hl hq hx = metric.triangle l q x hl hq hx

  pub towards : (l q x : ℕ) → IsJunction b l → IsJunction b q → IsJunction b x → dist b q l ≤ dist b q x + dist b x l
  towards l q x hl hq hx = metric.triangle q x l hq hx hl

-- "A road runs both ways": the distance there is the distance back
pub symmetric : (b : List ℕ) → RoadLayout b → (u v : ℕ) → IsJunction b u → IsJunction b v → dist b u v ≡ dist b v u
unfolding dist
symmetric b layout u v hu hv =
    rw (net-is b) (Distances.dist-symmetric (roads b) (junctions b) layout.few-junctions (rw (net-is b) at (net_sound b layout)) u v hu hv)
