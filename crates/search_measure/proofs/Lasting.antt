-- The first arc which the row fits is the last of a least walk, and there is one at every junction but the crew's.
-- Assumes nothing.
use mathlib.Core.Path.{◌≡◌, refl, sym}
use mathlib.Core.Logic.{◌⊎◌, inl, inr, ◌≢◌}
use mathlib.Core.Bool.{not}
use mathlib.Core.List.Memᴰ.{head}
use mathlib.Core.List.Memᴰ.{tail}
use mathlib.Core.List.{List, [], ◌∷◌, Memᴰ as Mem}
use mathlib.Core.List.Memᴰ.{cases_cons}
use mathlib.Core.List.Memᴰ.{not-nil}
use Prim.Native.Nat.{ℕ, ◌+◌, ◌<◌}
use native.Mathlib.Omega.{arith}
use lib.Dec.{T, T_not, eqb, eqb→eq}
use Rattle.book.proofs.Choosing.{choose_case, and_left, and_right, and_both, eq→eqb}
use Rattle.adjacency.specs.Arcs.{Arc}
use Rattle.road.specs.Walk.{Walk, stay, SoundArcs}
use Rattle.road.proofs.Walks.{snoc, LastArc, last_arc_lem}
use Rattle.search_measure.specs.Way.{comes_by, came_by}
use Rattle.search_measure.specs.Facts.{RowOf, Comes}

-- ---- the first of a list that the row fits

module _ (row : ℕ → ℕ) (v : ℕ) where
  pub comes-is : (a : Arc) → T (comes_by row v a) → (a.to ≡ v) × (row a.from + a.seconds ≡ row v)
  unfolding comes_by
  comes-is a t = (eqb→eq _ _ (and_left (eqb a.to v) _ t), eqb→eq _ _ (and_right (eqb a.to v) _ t))

  pub is-comes : (a : Arc) → a.to ≡ v → row a.from + a.seconds ≡ row v → T (comes_by row v a)
  unfolding comes_by
  is-comes a e f = and_both (eqb a.to v) _ (eq→eqb _ _ e) (eq→eqb _ _ f)

  pub came : (arcs : List Arc) (a : Arc) → Mem a arcs → T (comes_by row v a)
      → Mem (came_by row v arcs) arcs × T (comes_by row v (came_by row v arcs))
  unfolding came_by
  came [] a m t = absurd (not-nil m)
  came (x ∷ xs) a m t =
      choose_case (λ (y : Arc). Mem y (x ∷ xs) × T (comes_by row v y)) (comes_by row v x) (λ u. (head refl, u)) (λ u.
      later (go u (cases_cons m) (λ k. came xs a k t)))
    where
      later : Mem (came_by row v xs) xs × T (comes_by row v (came_by row v xs)) → Mem (came_by row v xs) (x ∷ xs) × T (comes_by row v (came_by row v xs))
      later r = (tail r.0, r.1)

      go : T (not (comes_by row v x)) → (a ≡ x) ⊎ Mem a xs → (Mem a xs → Mem (came_by row v xs) xs × T (comes_by row v (came_by row v xs)))
          → Mem (came_by row v xs) xs × T (comes_by row v (came_by row v xs))
      go u (inl e) rest = absurd (T_not (comes_by row v x) u (rw e at t))
      go u (inr k) rest = rest k

-- ---- by a true row

module _ {arcs : List Arc} {n crew : ℕ} {row : ℕ → ℕ} (sound : SoundArcs n arcs) (rows : RowOf arcs n crew row) where
  -- a least walk's last arc: the row at its other end and its seconds are the row at v
  last_fits : (v : ℕ) → v < n → LastArc arcs crew v (row v) → (a : Arc) × Mem a arcs × T (comes_by row v a)
  last_fits v h l =
      let a = l.arc in
      let less = (rows a.from (sound a l.is).from).least l.before l.walk in
      let e = l.into in
      let on : Walk arcs crew v (row a.from + a.seconds) = rw e at (snoc a l.is (rows a.from (sound a l.is).from).walk) in
      (a, l.is, is-comes row v a l.into (omega (arith, less, l.total, (rows v h).least _ on)))

  -- an arc that is taken always exists
  pub always_comes : (v : ℕ) → v < n → v ≢ crew → Comes arcs row v (came_by row v arcs)
  always_comes v h z = go (last_arc_lem (rows v h).walk)
    where
      known : (a : Arc) × Mem a arcs × T (comes_by row v a) → Comes arcs row v (came_by row v arcs)
      known (a, m, t) =
          let c = came row v arcs a m t in
          let k = comes-is row v (came_by row v arcs) c.1 in
          record { is = c.0; into = k.0; falls = k.1; some = (sound (came_by row v arcs) c.0).some }

      go : ((crew ≡ v) × (row v ≡ 0)) ⊎ LastArc arcs crew v (row v) → Comes arcs row v (came_by row v arcs)
      go (inl (e, y)) = absurd (z (sym e))
      go (inr l) = known (last_fits v h l)

  -- the row is 0 at the crew
  pub home : crew < n → row crew ≡ 0
  home h = omega (arith, (rows crew h).least 0 stay)
