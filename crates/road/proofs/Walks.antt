-- Walks join and turn round, and have a last arc; least totals are unique and symmetric.
use mathlib.Core.Path.{◌≡◌, refl}
use mathlib.Core.Logic.{◌⊎◌, inl, inr}
use mathlib.Core.List.{List, Memᴰ}
use Prim.Native.Nat.{ℕ, ◌+◌}
use native.Mathlib.Nat.{zero-add, add-zero, add_comm, add_assoc}
use native.Mathlib.Omega.{arith}
use Rattle.road_layout.specs.Road.{Road}
use Rattle.adjacency.specs.Arcs.{Arc, arcs}
use Rattle.adjacency.proofs.Netting.{arc, back-mem}
use Rattle.road.specs.Walk.{Walk, stay, step, Least}

module _ {net : List Arc} where
  -- One walk after another.
  pub join : {u v w s t : ℕ} → Walk net u v s → Walk net v w t → Walk net u w (s + t)
  join stay y = rw zero-add y
  join (step a m x) y = rw add_assoc (step a m (join x y))

  -- One more arc at the end of a walk.
  pub snoc : {u t : ℕ} (a : Arc) → Memᴰ a net → Walk net u a.from t → Walk net u a.to (t + a.seconds)
  snoc a m x = join x (rw add-zero at (step a m stay))

  pub least_unique : {u v s t : ℕ} → Least net u v s → Least net u v t → s ≡ t
  least_unique {s = s} {t = t} x y = omega (arith, x.least t y.walk, y.least s x.walk)

-- The last arc of a walk from u to v that takes t seconds, and the walk before it.
pub record LastArc (net : List Arc) (u v t : ℕ) : Type 0 where
  pub arc : Arc
  pub is : Memᴰ arc net
  pub into : arc.to ≡ v
  pub before : ℕ
  pub walk : Walk net u arc.from before
  pub total : before + arc.seconds ≡ t

-- A walk stays put or has a last arc.
pub last_arc_lem : {net : List Arc} {u v t : ℕ} → Walk net u v t → ((u ≡ v) × (t ≡ 0)) ⊎ LastArc net u v t
last_arc_lem stay = inl (refl, refl)
last_arc_lem {net = net} {v = v} (step {t = t} a m x) = inr (go (last_arc_lem x))
  where
    go : ((a.to ≡ v) × (t ≡ 0)) ⊎ LastArc net a.to v t → LastArc net a.from v (a.seconds + t)
    go (inl (e, z)) = record { arc = a; is = m; into = e; before = 0; walk = stay; total = omega arith }
    go (inr l) = record {
      arc = l.arc;
      is = l.is;
      into = l.into;
      before = a.seconds + l.before;
      walk = step a m l.walk;
      total = omega (arith, l.total);
    }

-- A walk along roads, the other way round.
pub turn : (rs : List Road) {u v t : ℕ} → Walk (arcs rs) u v t → Walk (arcs rs) v u t
turn rs stay = stay
turn rs (step {t = t} a m x) = rw (add_comm a.seconds t) (snoc (arc a.to a.from a.seconds) (back-mem rs a m) (turn rs x))

pub least-symmetric : (rs : List Road) {u v s t : ℕ} → Least (arcs rs) u v s → Least (arcs rs) v u t → s ≡ t
least-symmetric rs {s = s} {t = t} x y = omega (arith, x.least t (turn rs y.walk), y.least s (turn rs x.walk))
