-- One round of a walk by its arrays is one round of the definition. Assumes nothing.
use mathlib.Core.Path.{◌≡◌, refl, sym, ap, ◌∙◌}
use mathlib.Core.Logic.{◌⊎◌, inl, inr}
use mathlib.Core.Bool.{Bool, true, false, not}
use mathlib.Core.List.{List}
use Prim.Native.Nat.{ℕ, ◌+◌, ◌/◌, ◌%◌, ◌≤◌, ◌<◌}
use native.Mathlib.Decide.{ℕ_discrete, dec_lt}
use native.Mathlib.Numerals.{add-one}
use native.Mathlib.Omega.{arith}
use lib.ListN.{length, set, replicate, length-replicate}
use lib.Dec.{T, ltb, lt→ltb}
use borrow.Author.Tests.{le-ltb}
use Rattle.book.proofs.Choosing.{choose_yes, choose_no, false_T}
use Rattle.tournament.specs.code.Tournament.{queue_words, put_leaf, leaf, top}
use Rattle.tournament.proofs.Laws.{put_tournament, put_same, put_other, top_least, top-leaf, cleared, cleared_leaf}
use Rattle.road_layout.specs.Road.{junctions}
use Rattle.road_layout.specs.Layout.{road_layout_refusal}
use Rattle.road_layout.proofs.Layouts.{passing_layout}
use Rattle.adjacency.specs.Arcs.{Arc, net}
use Rattle.adjacency.specs.Adjacency.{count_in, Adjacency, IsAdjacency}
use Rattle.road.specs.Walk.{Walk, stay, step, SoundArcs}
use Rattle.road.specs.Dijkstra.{far, width, at, WalkState, walked, score, pick_nearest, relax, walk_on, round_at, rounds, start_walk, walk_from, distances}
use Rattle.road.specs.code.Queue.{state, absent, word, queue_word, QueueHolds, Reach, reach, Above, relax_both, Walking, WalkingIn, Roomy}
use Rattle.road.proofs.Picking.{score_open, score-low, pick-below, pick-least, pick_first, walked_same, walked-other, walked_new, walked_start}
use Rattle.road.proofs.Relaxing.{at_set_same, at_set_other}
use Rattle.road.proofs.Rounds.{Inv, after-rounds, at-replicate}
use Rattle.road.proofs.Queueing.{Fine, fine_above, word-queued, word-marked, word_same, score-same, score-done, relax_fine, relax-ds}
use Rattle.road.proofs.Theorems.{net_sound}

-- ---- the top of the queue

-- u is the junction that the next round walks on from, and d its distance
pub record Nearest (st : WalkState) (n u d : ℕ) : Type 0 where
  pub inside : u < width
  pub picked : u ≡ pick_nearest st n
  pub scored : score st u ≡ d
  pub reached : d < far

module _ (queue : List ℕ) (st : WalkState) (q : QueueHolds queue st) where
  -- a top word below the absent word is that of the junction of least score, ties to the lower number
  pub top-nearest : (n : ℕ) → 0 < n → n ≤ width → ((v : ℕ) → v < width → score st v < far → v < n) → top queue < absent
      → Nearest st n (top queue % 1024) (top queue / 1024)
  top-nearest n some small within h = go (top-leaf queue q.tournament)
    where
      -- v, whose word is the top's, is the junction picked
      least : (v : ℕ) → top queue ≡ word (score st v) v → pick_nearest st n < n → score st (pick_nearest st n) ≤ score st v → v ≡ pick_nearest st n
      least v w a c = tie (dec_lt v (pick_nearest st n)) (dec_lt (pick_nearest st n) v)
        where
          over : pick_nearest st n < 1024
          over = omega arith

          picked-word : top queue ≤ word (score st (pick_nearest st n)) (pick_nearest st n)
          picked-word =
              omega (
                arith,
                top_least queue q.tournament (pick_nearest st n) over,
                q.words (pick_nearest st n) over,
                word-queued st (pick_nearest st n) (omega
                    arith),
              )

          tie : Dec (v < pick_nearest st n) → Dec (pick_nearest st n < v) → v ≡ pick_nearest st n
          tie (yes x) y = absurd (omega (arith, pick_first st n v x, picked-word))
          tie (no x) (yes y) = absurd (omega (arith, picked-word))
          tie (no x) (no y) = omega arith

      go : (v : ℕ) × (v < 1024) × (top queue ≡ leaf queue v) → Nearest st n (top queue % 1024) (top queue / 1024)
      go (v, b, e) = by_score (dec_lt (score st v) far)
        where
          by_score : Dec (score st v < far) → Nearest st n (top queue % 1024) (top queue / 1024)
          by_score (no f) = absurd (omega (arith, e ∙ q.words v b ∙ word-marked st v (omega arith)))
          by_score (yes f) =
              let w : top queue ≡ word (score st v) v = e ∙ q.words v b ∙ word-queued st v f in
              let num : top queue % 1024 ≡ v = omega arith in
              let dis : top queue / 1024 ≡ score st v = omega arith in
              let r = least v w (pick-below st n some) (pick-least st n v (within v b f)) in
              record { inside = omega arith; picked = num ∙ r; scored = rw (num, dis) refl; reached = omega arith }

  -- a top word that is the mark leaves none to walk on from
  pub top-none : (v : ℕ) → v < width → absent ≤ top queue → far ≤ score st v
  top-none v b h = go (dec_lt (score st v) far)
    where
      go : Dec (score st v < far) → far ≤ score st v
      go (yes f) = absurd (omega (arith, top_least queue q.tournament v b, q.words v b, word-queued st v f))
      go (no f) = omega arith

-- ---- walking on

-- u marked, its arcs are about to be relaxed
marked_fine : (ds : List ℕ) (done : List Bool) (queue : List ℕ) (u : ℕ) → u < width → length ds ≡ width → length done ≡ width
    → ((v : ℕ) → at ds v ≤ far) → ((w : ℕ) → T (walked done w) → at ds w ≤ at ds u) → QueueHolds queue (state ds done)
    → Fine (set done u true) (at ds u) (reach ds (put_leaf queue u absent))
marked_fine ds done queue u hu sd sn most low q = record {
  size = sd;
  most = most;
  low = λ w t. new w (walked_new done u inside w t);
  queued = record { tournament = put_tournament queue u absent hu q.tournament; words = λ w b. words w b (ℕ_discrete w u) };
}
  where
    inside : u < length done
    inside = rw sn hu

    new : (w : ℕ) → (w ≡ u) ⊎ T (walked done w) → at ds w ≤ at ds u
    new w (inl e) = rw e (omega arith)
    new w (inr t) = low w t

    words : (w : ℕ) → w < width → Dec (w ≡ u) → leaf (put_leaf queue u absent) w ≡ queue_word (state ds (set done u true)) w
    words w b (yes e) =
        rw e (put_same queue u absent hu q.tournament.size
        ∙ sym (word-marked (state ds (set done u true)) u (rw (score-done ds (set done u true) u (rw (walked_same done u inside) tt)) (omega arith))))
    words w b (no n) =
        put_other queue u absent w hu n ∙ q.words w b
        ∙ word_same (state ds done) (state ds (set done u true)) w (score-same ds ds done (set done u true) w refl (sym (walked-other done u inside w n)))

-- ---- a round

-- walks stay among the junctions
walk_inside : {arcs : List Arc} {n u v t : ℕ} → SoundArcs n arcs → Walk arcs u v t → u < n → v < n
walk_inside sound stay h = h
walk_inside sound (step a m x) h = walk_inside sound x (sound a m).to

-- what walking on from u gives, by its parts
on_state : (ds' ds : List ℕ) (done : List Bool) (u : ℕ) (arcs : List Arc) → ds' ≡ relax u (at ds u) arcs ds
    → state ds' (set done u true) ≡ walk_on arcs (state ds done) u
unfolding walk_on
on_state ds' ds done u arcs e = rw e refl

-- one more round
rounds-more : (arcs : List Arc) (n k : ℕ) (st r : WalkState) → r ≡ rounds arcs n k st → rounds arcs n (k + 1) st ≡ round_at arcs r (pick_nearest r n)
unfolding rounds
rounds-more arcs n k st r e = rw (add-one, e) refl

round_on : (arcs : List Arc) (st : WalkState) (u : ℕ) → score st u < far → round_at arcs st u ≡ walk_on arcs st u
unfolding round_at
round_on arcs st u h = choose_yes (ltb (score st u) far) _ _ (lt→ltb _ _ h)

round_off : (arcs : List Arc) (st : WalkState) (u : ℕ) → far ≤ score st u → round_at arcs st u ≡ st
unfolding round_at
round_off arcs st u h = choose_no (ltb (score st u) far) _ _ (false_T (le-ltb _ _ h))

module _ (b : List ℕ) (source k : ℕ) (ds : List ℕ) (done : List Bool) (queue : List ℕ)
    (pass : road_layout_refusal b ≡ 0) (below : source < junctions b) (w : Walking b source k ds done queue) where
  abbrev st : WalkState
  st = state ds done

  small : junctions b ≤ width
  small = (passing_layout b pass).few-junctions

  sound : SoundArcs (junctions b) (net b)
  sound = net_sound b (passing_layout b pass)

  inv : Inv (net b) (junctions b) source k st
  inv = rw w.rounded (after-rounds (net b) (junctions b) source small sound below k).inv

  sizes : Roomy ds done queue
  sizes = record { distances = inv.size; marks = inv.marks; words = w.queued.tournament.size }

  within : (v : ℕ) → v < width → score st v < far → v < junctions b
  within v h f = walk_inside sound (inv.walk v (omega (arith, score_open st v (score-low st v f)))) below

  nearest : top queue < absent → Nearest st (junctions b) (top queue % 1024) (top queue / 1024)
  nearest h = top-nearest queue st w.queued (junctions b) (omega arith) small within h

  -- the distance of the junction that is walked on from
  own : (h : top queue < absent) → at ds (top queue % 1024) ≡ top queue / 1024
  own h =
      let n = nearest h in
      sym (score_open st (top queue % 1024) (score-low st (top queue % 1024) (rw n.scored n.reached))) ∙ n.scored

  near-enough : top queue < absent → k < junctions b → top queue / 1024 ≤ 67042305
  near-enough h less = omega (arith, own h, inv.near (top queue % 1024) (rw (own h) (nearest h).reached), small)

  -- u, the nearest junction, marked
  fine_marked : (h : top queue < absent) → Fine (set done (top queue % 1024) true) (top queue / 1024) (reach ds (put_leaf queue (top queue % 1024) absent))
  fine_marked h =
      rw (← own h) (marked_fine ds done queue (top queue % 1024) (nearest h).inside inv.size inv.marks inv.most
      (λ v t. inv.ahead v (top queue % 1024) (within (top queue % 1024) (nearest h).inside (rw (nearest h).scored (nearest h).reached)) t
      (score-low st (top queue % 1024) (rw (nearest h).scored (nearest h).reached))) w.queued)

  round_walks : (ds' queue' : List ℕ) (done' : List Bool) → top queue < absent
      → reach ds' queue' ≡ relax_both (top queue % 1024) (top queue / 1024) (net b) (reach ds (put_leaf queue (top queue % 1024) absent))
      → done' ≡ set done (top queue % 1024) true → Walking b source (k + 1) ds' done' queue'
  round_walks ds' queue' done' h e f = record {
    rounded = rw f (rounded' ∙ sym (rounds-more (net b) (junctions b) k (start_walk source) st w.rounded));
    queued = rw f (queued' (relax_both u d (net b) (reach ds (put_leaf queue u absent))) e fine);
  }
    where
      u : ℕ
      u = top queue % 1024

      d : ℕ
      d = top queue / 1024

      fine : Fine (set done u true) d (relax_both u d (net b) (reach ds (put_leaf queue u absent)))
      fine =
          relax_fine (set done u true) d u (net b) (reach ds (put_leaf queue u absent)) wide (fine_marked h)
        where
          wide : SoundArcs width (net b)
          wide a m =
              let g = sound a m in
              record { from = omega (arith, g.from, small); to = omega (arith, g.to, small); some = g.some; few = g.few }

      queued' : (r : Reach) → reach ds' queue' ≡ r → Fine (set done u true) d r → QueueHolds queue' (state ds' (set done u true))
      queued' r g x = rw (← g) at x.queued

      rounded' : state ds' (set done u true) ≡ round_at (net b) st (pick_nearest st (junctions b))
      rounded' =
          on_state ds' ds done u (net b)
          (ap (λ (r : Reach). r.ds) e ∙ relax-ds u d (net b) (reach ds (put_leaf queue u absent)) ∙ ap (λ (x : ℕ). relax u x (net b) ds) (sym (own h)))
          ∙ rw (nearest h).picked (sym (round_on (net b) st (pick_nearest st (junctions b)) (rw (← (nearest h).picked) (rw (nearest h).scored (nearest h
          ).reached))))

  -- none is left to walk on from
  round_rests : absent ≤ top queue → Walking b source (k + 1) ds done queue
  round_rests h = record {
    rounded = sym (round_off (net b) st (pick_nearest st (junctions b))
        (top-none queue st w.queued (pick_nearest st (junctions b)) (omega (arith, pick-below st (junctions b) (omega arith), small)) h))
        ∙ sym (rounds-more (net b) (junctions b) k (start_walk source) st w.rounded);
    queued = w.queued;
  }

  -- the same, by the word that was read
  near_by : (t : ℕ) → t ≡ top queue → t < absent → k < junctions b → t / 1024 ≤ 67042305
  near_by t e h less = rw e (near-enough (rw e at h) less)

  above_by : (t : ℕ) → t ≡ top queue → t < absent → Above ds (put_leaf queue (t % 1024) absent)
  above_by t e h = rw e (fine_above _ _ _ (fine_marked (rw e at h)))

  walks_by : (t : ℕ) → t ≡ top queue → (ds' queue' : List ℕ) (done' : List Bool) → t < absent
      → reach ds' queue' ≡ relax_both (t % 1024) (t / 1024) (net b) (reach ds (put_leaf queue (t % 1024) absent))
      → done' ≡ set done (t % 1024) true → Walking b source (k + 1) ds' done' queue'
  walks_by t e ds' queue' done' h f g = round_walks ds' queue' done' (rw e at h) (rw e at f) (rw e at g)

  rests_by : (t : ℕ) → t ≡ top queue → absent ≤ t → Walking b source (k + 1) ds done queue
  rests_by t e h = round_rests (rw e at h)

-- the same, along an adjacency
module _ (adj : List ℕ) (source k : ℕ) (ds : List ℕ) (done : List Bool) (queue : List ℕ)
    (below : source < count_in adj) (w : WalkingIn adj source k ds done queue) where
  junction-below : (b : List ℕ) → Adjacency b adj → source < junctions b
  junction-below b a = omega (arith, a.count)

  pub walking-sizes : IsAdjacency adj → Roomy ds done queue
  walking-sizes i =
      let a = i.adjacent in
      sizes i.book source k ds done queue a.layout (junction-below i.book a) (w i.book a)

  module _ (t : ℕ) (e : t ≡ top queue) where
    pub walking-near : IsAdjacency adj → t < absent → k < count_in adj → t / 1024 ≤ 67042305
    walking-near i h less =
        let a = i.adjacent in
        near_by i.book source k ds done queue a.layout (junction-below i.book a) (w i.book a) t e h (omega (arith, a.count))

    pub walking-above : IsAdjacency adj → t < absent → Above ds (put_leaf queue (t % 1024) absent)
    walking-above i h =
        let a = i.adjacent in
        above_by i.book source k ds done queue a.layout (junction-below i.book a) (w i.book a) t e h

    pub walking_on : (ds' queue' : List ℕ) (done' : List Bool) → t < absent
        → ((b : List ℕ) → Adjacency b adj → reach ds' queue' ≡ relax_both (t % 1024) (t / 1024) (net b) (reach ds (put_leaf queue (t % 1024) absent)))
        → done' ≡ set done (t % 1024) true → WalkingIn adj source (k + 1) ds' done' queue'
    walking_on ds' queue' done' h f g b a = walks_by b source k ds done queue a.layout (junction-below b a) (w b a) t e ds' queue' done' h (f b a) g

    pub walking_rests : absent ≤ t → WalkingIn adj source (k + 1) ds done queue
    walking_rests h b a = rests_by b source k ds done queue a.layout (junction-below b a) (w b a) t e h

-- ---- the start and the end

start_state : (b : List ℕ) (source : ℕ) → state (set (replicate 1024 far) source 0) (replicate 1024 false) ≡ rounds (net b) (junctions b) 0 (start_walk source)
unfolding rounds start_walk
start_state b source = refl

started : (b : List ℕ) (source : ℕ) → source < width
    → Walking b source 0 (set (replicate 1024 far) source 0) (replicate 1024 false) (put_leaf (replicate queue_words absent) source source)
started b source h = record {
  rounded = start_state b source;
  queued = record { tournament = put_tournament _ source source h (cleared absent); words = λ v l. words v l (ℕ_discrete v source) };
}
  where
    ds : List ℕ
    ds = set (replicate 1024 far) source 0

    done : List Bool
    done = replicate 1024 false

    none : (v : ℕ) → T (not (walked done v))
    none v = rw (walked_start 1024 v) tt

    home : at ds source ≡ 0
    home = at_set_same (replicate 1024 far) source 0 (rw length-replicate h)

    words : (v : ℕ) → v < width → Dec (v ≡ source) → leaf (put_leaf (replicate queue_words absent) source source) v ≡ queue_word (state ds done) v
    words v l (yes e) =
        let s : score (state ds done) source ≡ 0 = score_open (state ds done) source (none source) ∙ home in
        let z : source ≡ word 0 source = omega arith in
        rw e (put_same (replicate queue_words absent) source source h (cleared absent).size ∙ z
        ∙ sym (word-queued (state ds done) source (rw s (omega arith)) ∙ ap (λ (y : ℕ). word y source) s))
    words v l (no n) =
        put_other (replicate queue_words absent) source source v h n ∙ cleared_leaf absent v l
        ∙ sym (word-marked (state ds done) v (rw (score_open (state ds done) v (none v)
        ∙ at_set_other (replicate 1024 far) source v 0 n ∙ at-replicate 1024 v) (omega arith)))

-- the same, by the parts that were written
pub starts_by : (b : List ℕ) (source : ℕ) (ds queue queue' : List ℕ) (done : List Bool) → source < width → ds ≡ replicate 1024 far → done ≡ replicate 1024 false
    → queue ≡ replicate queue_words absent → queue' ≡ put_leaf queue source source → Walking b source 0 (set ds source 0) done queue'
starts_by b source ds queue queue' done h e f g i = rw (e, f, i, g) (started b source h)

-- a start is one along any adjacency
pub walking_start : (adj : List ℕ) {source : ℕ} {ds : List ℕ} {done : List Bool} {queue : List ℕ}
    → ((b : List ℕ) → Walking b source 0 ds done queue) → WalkingIn adj source 0 ds done queue
walking_start adj w b a = w b

-- after as many rounds as there are junctions
ended : (b : List ℕ) (source k : ℕ) (ds : List ℕ) (done : List Bool) (queue : List ℕ) → k ≡ junctions b
    → Walking b source k ds done queue → ds ≡ distances (net b) (junctions b) source
unfolding distances walk_from
ended b source k ds done queue e w = ap (λ (s : WalkState). s.ds) (rw e at w.rounded)

pub finished : (adj : List ℕ) (source k : ℕ) (ds : List ℕ) (done : List Bool) (queue : List ℕ) → k ≡ count_in adj
    → WalkingIn adj source k ds done queue → (b : List ℕ) → Adjacency b adj → ds ≡ distances (net b) (junctions b) source
finished adj source k ds done queue e w b a = ended b source k ds done queue (e ∙ a.count) (w b a)
