-- Dijkstra's rounds: what holds after each, and that the distances are least at the end.
use mathlib.Core.Path.{◌≡◌, refl, ap, ◌∙◌}
use mathlib.Core.Logic.{◌⊎◌, inl, inr, ◌≢◌}
use mathlib.Core.Bool.{Bool, true, false, not}
use mathlib.Core.List.{List, Memᴰ}
use Prim.Native.Nat.{ℕ, zero, suc, ◌+◌, ◌*◌, ◌≤◌, ◌<◌}
use native.Mathlib.Nat.{le_trans}
use native.Mathlib.Decide.{ℕ_discrete}
use native.Mathlib.Omega.{arith}
use lib.ListN.{length, set, replicate, length-set, length-replicate}
use lib.Dec.{T, ltb, ltb→lt, nltb→le, T_not}
use Rattle.book.proofs.Choosing.{choose_case}
use Rattle.adjacency.specs.Arcs.{Arc}
use Rattle.road.specs.Walk.{Walk, stay, SoundArcs}
use Rattle.road.specs.Dijkstra.{far, width, at, WalkState, walked, score, pick_nearest, relax, walk_on, round_at, rounds, start_walk}
use Rattle.road.proofs.Walks.{snoc}
use Rattle.road.proofs.Relaxing.{Arrival, Relaxed, relax-is, at_set_same, at_set_other}
use Rattle.road.proofs.Picking.{score_open, score-low, pick-below, pick-least, tally, tally_start, tally_set, walked_start, walked_new, walked-not}

-- What holds after j rounds.
pub record Inv (net : List Arc) (n source j : ℕ) (st : WalkState) : Type 0 where
  pub size : length st.ds ≡ width
  pub marks : length st.done ≡ width
  pub home : at st.ds source ≡ 0
  pub most : (v : ℕ) → at st.ds v ≤ far
  -- a reached distance is the total of a walk, and takes at most j arcs' worth of seconds
  pub walk : (v : ℕ) → at st.ds v < far → Walk net source v (at st.ds v)
  pub near : (v : ℕ) → at st.ds v < far → at st.ds v ≤ j * 65535
  -- a junction that is walked on from lies before those that are not, and its arcs are relaxed
  pub low : (v : ℕ) → T (walked st.done v) → at st.ds v + 65535 ≤ j * 65535
  pub ahead : (w v : ℕ) → v < n → T (walked st.done w) → T (not (walked st.done v)) → at st.ds w ≤ at st.ds v
  pub settled : (a : Arc) → Memᴰ a net → T (walked st.done a.from) → at st.ds a.to ≤ at st.ds a.from + a.seconds

-- Every junction that is reached is walked on from.
abbrev pub Finished : ℕ → WalkState → Type 0
Finished n st = (v : ℕ) → v < n → at st.ds v < far → T (walked st.done v)

module _ {net : List Arc} {n source j : ℕ} {st : WalkState} (small : n ≤ width) (sound : SoundArcs n net) (inv : Inv net n source j st) where
  -- Walking on from u, the nearest junction that is reached and not walked on from, keeps it all.
  module _ (u : ℕ) (below : u < n) (open-u : T (not (walked st.done u))) (reached : at st.ds u < far)
      (nearest : (v : ℕ) → v < n → T (not (walked st.done v)) → at st.ds u ≤ at st.ds v) where
    below-width : {v : ℕ} → v < n → v < width
    below-width h = omega arith

    es : List ℕ
    es = relax u (at st.ds u) net st.ds

    relaxed : Relaxed net u (at st.ds u) st.ds es
    unfolding es
    relaxed = relax-is u (at st.ds u) net st.ds (λ a m. rw inv.size (below-width (sound a m).to))

    -- No nearer junction changes.
    keep : (v : ℕ) → at st.ds v ≤ at st.ds u → at es v ≡ at st.ds v
    keep v h = go (relaxed.cause v)
      where
        go : (at es v ≡ at st.ds v) ⊎ Arrival net u (at st.ds u) v (at es v) → at es v ≡ at st.ds v
        go (inl e) = e
        go (inr x) = omega (arith, relaxed.lower v)

    -- No farther junction gets nearer than u.
    floor : (v : ℕ) → at st.ds u ≤ at st.ds v → at st.ds u ≤ at es v
    floor v h = go (relaxed.cause v)
      where
        go : (at es v ≡ at st.ds v) ⊎ Arrival net u (at st.ds u) v (at es v) → at st.ds u ≤ at es v
        go (inl e) = omega arith
        go (inr x) = omega arith

    done : List Bool
    done = set st.done u true

    new : (v : ℕ) → T (walked done v) → (v ≡ u) ⊎ T (walked st.done v)
    unfolding done
    new v t = walked_new st.done u (rw inv.marks (below-width below)) v t

    before : (v : ℕ) → T (walked done v) → at st.ds v ≤ at st.ds u
    before v t = go (new v t)
      where
        go : (v ≡ u) ⊎ T (walked st.done v) → at st.ds v ≤ at st.ds u
        go (inl f) = rw f (omega arith)
        go (inr k) = inv.ahead v u below k open-u

    kept : (v : ℕ) → T (walked done v) → at es v ≡ at st.ds v
    kept v t = keep v (before v t)

    walk_on_lem : Inv net n source (suc j) (walk_on net st u)
    unfolding walk_on es done
    walk_on_lem = record {
      size = relaxed.size ∙ inv.size;
      marks = length-set st.done u true ∙ inv.marks;
      home = keep source (omega (arith, inv.home)) ∙ inv.home;
      most = λ v. le_trans (relaxed.lower v) (inv.most v);
      walk = λ v h. walk' v h (relaxed.cause v);
      near = λ v h. near' v h (relaxed.cause v);
      low = λ v t. omega (arith, kept v t, before v t, inv.near u reached);
      ahead = λ w v h t s. omega (arith, kept w t, before w t, floor v (nearest v h (walked-not st.done u (rw inv.marks (below-width below)) v s)));
      settled = λ a m t. settled' a m t (new a.from t);
    }
      where
        walk' : (v : ℕ) → at es v < far → (at es v ≡ at st.ds v) ⊎ Arrival net u (at st.ds u) v (at es v) → Walk net source v (at es v)
        walk' v h (inl e) = rw e (inv.walk v (rw e at h))
        walk' v h (inr x) = rw (x.total, ← x.ends) (snoc x.arc x.mem (rw x.leaves (inv.walk u reached)))

        near' : (v : ℕ) → at es v < far → (at es v ≡ at st.ds v) ⊎ Arrival net u (at st.ds u) v (at es v) → at es v ≤ suc j * 65535
        near' v h (inl e) = omega (arith, inv.near v (rw e at h))
        near' v h (inr x) = omega (arith, (sound x.arc x.mem).few, inv.near u reached)

        settled' : (a : Arc) → Memᴰ a net → T (walked done a.from) → (a.from ≡ u) ⊎ T (walked st.done a.from)
            → at es a.to ≤ at es a.from + a.seconds
        settled' a m t (inl f) = rw (kept a.from t, f) (relaxed.arrive a m f)
        settled' a m t (inr k) = omega (arith, kept a.from t, inv.settled a m k, relaxed.lower a.to)

-- What holds after j rounds, and how far they are: finished, or j junctions walked on from.
pub record After (net : List Arc) (n source j : ℕ) (st : WalkState) : Type 0 where
  pub inv : Inv net n source j st
  pub so_far : Finished n st ⊎ (tally n st.done ≡ j)

-- The start.
pub at-replicate : (n v : ℕ) → at (replicate n far) v ≡ far
unfolding at
at-replicate zero v = refl
at-replicate (suc n) zero = refl
at-replicate (suc n) (suc v) = at-replicate n v

module _ (net : List Arc) (n source : ℕ) (small : n ≤ width) (below : source < n) where
  started : After net n source 0 (start_walk source)
  unfolding start_walk
  started = record {
    inv = record {
      size = length-set (replicate width far) source 0 ∙ length-replicate width far;
      marks = length-replicate width false;
      home = home;
      most = λ v. most v (ℕ_discrete v source);
      walk = λ v h. walk v h (ℕ_discrete v source);
      near = λ v h. near v h (ℕ_discrete v source);
      low = λ v t. absurd (rw (walked_start width v) at t);
      ahead = λ w v h t s. absurd (rw (walked_start width w) at t);
      settled = λ a m t. absurd (rw (walked_start width a.from) at t);
    };
    so_far = inr (tally_start width n);
  }
    where
      ds : List ℕ
      ds = set (replicate width far) source 0

      home : at ds source ≡ 0
      home = at_set_same (replicate width far) source 0 (rw length-replicate (omega arith))

      rest : (v : ℕ) → v ≢ source → at ds v ≡ far
      rest v f = at_set_other (replicate width far) source v 0 f ∙ at-replicate width v

      most : (v : ℕ) → Dec (v ≡ source) → at ds v ≤ far
      most v (yes f) = rw f (omega (arith, home))
      most v (no f) = omega (arith, rest v f)

      walk : (v : ℕ) → at ds v < far → Dec (v ≡ source) → Walk net source v (at ds v)
      walk v h (yes f) = rw (f, home) stay
      walk v h (no f) = absurd (omega (arith, rest v f))

      near : (v : ℕ) → at ds v < far → Dec (v ≡ source) → at ds v ≤ 0 * 65535
      near v h (yes f) = rw (f, home) (omega arith)
      near v h (no f) = omega (arith, rest v f)

-- A round.
module _ {net : List Arc} {n source j : ℕ} {st : WalkState} (small : n ≤ width) (sound : SoundArcs n net) (below : source < n) (after : After net n source j
    st) where
  -- There is none to walk on from.
  rest-round : far ≤ score st (pick_nearest st n) → After net n source (suc j) st
  rest-round h = record {
    inv = record {
      size = i.size;
      marks = i.marks;
      home = i.home;
      most = i.most;
      walk = i.walk;
      near = λ v l. omega (arith, i.near v l);
      low = λ v t. omega (arith, i.low v t);
      ahead = i.ahead;
      settled = i.settled;
    };
    so_far = inl (λ v b l. finished v b l);
  }
    where
      i : Inv net n source j st
      i = after.inv

      finished : (v : ℕ) → v < n → at st.ds v < far → T (walked st.done v)
      finished v b l = go (walked st.done v) (λ t. omega (arith, score_open st v t, pick-least st n v b))
        where
          go : (b : Bool) → (T (not b) → ⊥) → T b
          go true f = tt
          go false f = f tt

  walk-round : score st (pick_nearest st n) < far → After net n source (suc j) (walk_on net st (pick_nearest st n))
  unfolding walk_on
  walk-round h = record {
    inv = walk_on_lem small sound after.inv u b o (omega (arith, score_open st u o))
        (λ v l t. omega (arith, score_open st u o, score_open st v t, pick-least st n v l));
    so_far = more after.so_far;
  }
    where
      u : ℕ
      u = pick_nearest st n

      b : u < n
      b = pick-below st n (omega arith)

      o : T (not (walked st.done u))
      o = score-low st u h

      more : Finished n st ⊎ (tally n st.done ≡ j) → Finished n (walk_on net st u) ⊎ (tally n (walk_on net st u).done ≡ suc j)
      more (inl f) = absurd (T_not (walked st.done u) o (f u b (omega (arith, score_open st u o))))
      more (inr e) = inr (tally_set st.done u (rw after.inv.marks (omega (arith, b))) n b o ∙ ap suc e)

  a-round : After net n source (suc j) (round_at net st (pick_nearest st n))
  unfolding round_at
  a-round = choose_case (After net n source (suc j)) (ltb (score st (pick_nearest st n)) far)
      (λ t. walk-round (ltb→lt (score st (pick_nearest st n)) far t)) (λ t. rest-round (nltb→le (score st (pick_nearest st n)) far t))

module _ (net : List Arc) (n source : ℕ) (small : n ≤ width) (sound : SoundArcs n net) (below : source < n) where
  pub after-rounds : (j : ℕ) → After net n source j (rounds net n j (start_walk source))
  unfolding rounds
  after-rounds zero = started net n source small below
  after-rounds (suc j) = a-round small sound below (after-rounds j)
