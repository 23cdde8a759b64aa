-- Dijkstra's distances are the least totals, and `far` stands where there is no walk; they are a metric along roads, and bounded.
use mathlib.Core.Path.{◌≡◌, sym, ◌∙◌}
use mathlib.Core.Logic.{◌⊎◌, inl, inr, ◌≢◌}
use mathlib.Core.List.{List}
use Prim.Native.Nat.{ℕ, ◌+◌, ◌*◌, ◌≤◌, ◌<◌}
use native.Mathlib.Decide.{ℕ_discrete}
use native.Mathlib.Omega.{arith}
use lib.Dec.{T}
use Rattle.road_layout.specs.Road.{Road}
use Rattle.adjacency.specs.Arcs.{Arc, arcs}
use Rattle.road.specs.Walk.{Walk, stay, step, Least, SoundArcs}
use Rattle.road.specs.Dijkstra.{far, width, at, WalkState, walked, walk_from, distances}
use Rattle.road.proofs.Walks.{join, turn, least-symmetric}
use Rattle.road.proofs.Picking.{tally, tally_full}
use Rattle.road.proofs.Rounds.{Inv, Finished, after-rounds}

-- The distance from u to v along arcs, among n junctions.
abbrev pub along-arcs : List Arc → ℕ → ℕ → ℕ → ℕ
along-arcs net n u v = at (distances net n u) v

module _ (net : List Arc) (n : ℕ) (small : n ≤ width) (sound : SoundArcs n net) where
  module _ (source : ℕ) (below : source < n) where
    inv : Inv net n source n (walk_from net n source)
    unfolding walk_from
    inv = (after-rounds net n source small sound below n).inv

    finished : Finished n (walk_from net n source)
    unfolding walk_from
    finished = go (after-rounds net n source small sound below n).so_far
      where
        st : WalkState
        st = walk_from net n source

        go : Finished n st ⊎ (tally n st.done ≡ n) → Finished n st
        go (inl f) = f
        go (inr e) = λ v b l. tally_full n st.done e v b

    -- A walk leads on to junctions that are walked on from, and no nearer than it is long.
    follow : {u v t : ℕ} → Walk net u v t → T (walked (walk_from net n source).done u)
        → (at (walk_from net n source).ds v ≤ at (walk_from net n source).ds u + t) × T (walked (walk_from net n source).done v)
    follow stay k = (omega arith, k)
    follow (step a m x) k =
        let edge = inv.settled a m k in
        let on = follow x (finished a.to (sound a m).to (omega (arith, inv.low a.from k, (sound a m).few))) in
        (omega arith, on.1)

    home : T (walked (walk_from net n source).done source)
    home = finished source below (omega (arith, inv.home))

    -- A distance that is not the mark is the least total of a walk.
    pub dist-least : (v : ℕ) → along-arcs net n source v ≢ far → Least net source v (along-arcs net n source v)
    unfolding distances
    dist-least v h = record {
      walk = inv.walk v (omega (arith, inv.most v));
      least = λ s w. omega (arith, (follow w home).0, inv.home);
    }

    -- Where the distance is the mark there is no walk.
    pub dist-none : (v : ℕ) → along-arcs net n source v ≡ far → (t : ℕ) → Walk net source v t → ⊥
    unfolding distances
    dist-none v h t w = omega (arith, inv.low v (follow w home).1)

    -- Every reached distance is n - 1 times 65535 seconds at most.
    pub dist-bound : (v : ℕ) → along-arcs net n source v ≢ far → along-arcs net n source v + 65535 ≤ n * 65535
    unfolding distances
    dist-bound v h = inv.low v (follow (dist-least v h).walk home).1

    pub dist-bound-all : (v : ℕ) → along-arcs net n source v ≢ far → along-arcs net n source v ≤ 1023 * 65535
    dist-bound-all v h = omega (arith, dist-bound v h)

    pub dist-self : along-arcs net n source source ≡ 0
    unfolding distances
    dist-self = inv.home

  -- Where the two legs are reached, so is the end, and no later than by both legs.
  pub dist-triangle : (u v w : ℕ) → u < n → v < n → along-arcs net n u v ≢ far → along-arcs net n v w ≢ far
      → (along-arcs net n u w ≢ far) × (along-arcs net n u w ≤ along-arcs net n u v + along-arcs net n v w)
  dist-triangle u v w bu bv x y = (reached, (dist-least u bu w reached).least (along-arcs net n u v + along-arcs net n v w) legs)
    where
      legs : Walk net u w (along-arcs net n u v + along-arcs net n v w)
      legs = join (dist-least u bu v x).walk (dist-least v bv w y).walk

      reached : along-arcs net n u w ≢ far
      reached e = dist-none u bu w e (along-arcs net n u v + along-arcs net n v w) legs

-- Along roads the distance there is the distance back, the mark too.
pub dist-symmetric : (rs : List Road) (n : ℕ) → n ≤ width → SoundArcs n (arcs rs) → (u v : ℕ) → u < n → v < n
    → along-arcs (arcs rs) n u v ≡ along-arcs (arcs rs) n v u
dist-symmetric rs n small sound u v bu bv = go (ℕ_discrete (along-arcs (arcs rs) n u v) far) (ℕ_discrete (along-arcs (arcs rs) n v u) far)
  where
    none : (u v : ℕ) → u < n → v < n → along-arcs (arcs rs) n u v ≡ far → along-arcs (arcs rs) n v u ≢ far → ⊥
    none u v bu bv e f = dist-none (arcs rs) n small sound u bu v e (along-arcs (arcs rs) n v u) (turn rs (dist-least (arcs rs) n small sound v bv u f).walk)

    go : Dec (along-arcs (arcs rs) n u v ≡ far) → Dec (along-arcs (arcs rs) n v u ≡ far) → along-arcs (arcs rs) n u v ≡ along-arcs (arcs rs) n v u
    go (yes e) (yes f) = e ∙ sym f
    go (yes e) (no f) = absurd (none u v bu bv e f)
    go (no e) (yes f) = absurd (none v u bv bu f e)
    go (no e) (no f) = least-symmetric rs (dist-least (arcs rs) n small sound u bu v e) (dist-least (arcs rs) n small sound v bv u f)
