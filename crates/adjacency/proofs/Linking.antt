-- Laws of the adjacency: what putting an arc does. Assumes nothing.
use mathlib.Core.Path.{◌≡◌, refl, sym, ◌∙◌}
use mathlib.Core.Logic.{◌≢◌}
use mathlib.Core.List.{List, [], ◌∷◌}
use Prim.Native.Nat.{ℕ, zero, suc, ◌+◌, ◌*◌, ◌≤◌, ◌<◌}
use native.Mathlib.Decide.{ℕ_discrete}
use native.Mathlib.Numerals.{add-one}
use native.Mathlib.Omega.{arith}
use lib.ListN.{length, get_or, set, length-set}
use lib.Seq.{get_or-set_same, get_or-set_other}
use lib.Dec.{eqb}
use Rattle.book.proofs.Choosing.{choose_case, choose_yes, choose_no, eq→eqb}
use Rattle.book.proofs.Tests.{ne→neqb}
use Rattle.road_layout.specs.Road.{junctions, road_at, roads_to, road_count}
use Rattle.road_layout.specs.Layout.{road_layout_refusal}
use Rattle.road_layout.proofs.Roads.{roads-none, roads-more, roads-all}
use Rattle.road_layout.proofs.Layouts.{passing_layout}
use Rattle.adjacency.specs.Arcs.{Arc, along, back, arcs, net}
use Rattle.adjacency.specs.Adjacency.{adjacency_words, head_place, arc_place, count_in, head_at, next_at, to_at, cost_at}
use Rattle.adjacency.specs.Adjacency.{push_arc, push_road, last_arc, Linked, Bare, Adjacency}

-- no arc, no newest
pub last_none : (u : ℕ) → last_arc u [] ≡ 0
unfolding last_arc
last_none u = refl

-- the newest arc of u, where the newest of all leaves u, and where it does not
pub last_own : (u : ℕ) (a : Arc) (xs : List Arc) → a.from ≡ u → last_arc u (a ∷ xs) ≡ suc (length xs)
unfolding last_arc
last_own u a xs e = choose_yes (eqb a.from u) _ _ (eq→eqb _ _ e)

pub last_other : (u : ℕ) (a : Arc) (xs : List Arc) → a.from ≢ u → last_arc u (a ∷ xs) ≡ last_arc u xs
unfolding last_arc
last_other u a xs n = choose_no (eqb a.from u) _ _ (ne→neqb _ _ n)

pub last_low : (u : ℕ) (xs : List Arc) → last_arc u xs ≤ length xs
unfolding last_arc
last_low u [] = omega arith
last_low u (a ∷ xs) = choose_case (λ x. x ≤ suc (length xs)) (eqb a.from u) (λ t. omega arith) (λ t. omega (arith, last_low u xs))

-- the newest of linked arcs, and the others
pub linked-parts : (a : Arc) (xs : List Arc) (adj : List ℕ) → Linked (a ∷ xs) adj
    → (to_at adj (suc (length xs)) ≡ a.to) × (cost_at adj (suc (length xs)) ≡ a.seconds)
    × (next_at adj (suc (length xs)) ≡ last_arc a.from xs) × Linked xs adj
unfolding Linked
linked-parts a xs adj k = k

-- ---- putting an arc

module _ (adj : List ℕ) (i u v s : ℕ) where
  pub push_length : length (push_arc adj i u v s) ≡ length adj
  unfolding push_arc
  push_length = simp length-set

  -- the array after one, two and three of the four stores
  abbrev next_put : List ℕ
  next_put = set adj (arc_place i) (head_at adj u)

  abbrev to_put : List ℕ
  to_put = set next_put (arc_place i + 1) v

  abbrev cost_put : List ℕ
  cost_put = set to_put (arc_place i + 2) s

  -- a word that is none of the four
  other : (p : ℕ) → p ≢ arc_place i → p ≢ arc_place i + 1 → p ≢ arc_place i + 2 → p ≢ head_place u → get_or (push_arc adj i u v s) p 0 ≡ get_or adj p 0
  unfolding push_arc
  other p a b c d =
      get_or-set_other cost_put (head_place u) p i 0 d ∙ get_or-set_other to_put (arc_place i + 2) p s 0 c ∙ get_or-set_other next_put (arc_place i + 1) p v 0 b
      ∙ get_or-set_other adj (arc_place i) p (head_at adj u) 0 a

  module _ (first : 1 ≤ i) (inside : u < 1024) where
    pub push_count : count_in (push_arc adj i u v s) ≡ count_in adj
    unfolding count_in
    push_count = other 0 (λ e. omega arith) (λ e. omega arith) (λ e. omega arith) (λ e. omega arith)

    -- other junctions and arcs stay
    pub head_other : (w : ℕ) → w < 1024 → w ≢ u → head_at (push_arc adj i u v s) w ≡ head_at adj w
    unfolding head_at
    head_other w h n = other (head_place w) (λ e. omega arith) (λ e. omega arith) (λ e. omega arith) (λ e. n (omega arith))

    module _ (j : ℕ) (one : 1 ≤ j) (n : j ≢ i) where
      next-other : next_at (push_arc adj i u v s) j ≡ next_at adj j
      unfolding next_at
      next-other = other (arc_place j) (λ e. n (omega arith)) (λ e. omega arith) (λ e. omega arith) (λ e. omega arith)

      to-other : to_at (push_arc adj i u v s) j ≡ to_at adj j
      unfolding to_at
      to-other = other (arc_place j + 1) (λ e. omega arith) (λ e. n (omega arith)) (λ e. omega arith) (λ e. omega arith)

      cost_other : cost_at (push_arc adj i u v s) j ≡ cost_at adj j
      unfolding cost_at
      cost_other = other (arc_place j + 2) (λ e. omega arith) (λ e. omega arith) (λ e. n (omega arith)) (λ e. omega arith)

    -- arcs of lower numbers stay
    kept : (xs : List Arc) → length xs < i → Linked xs adj → Linked xs (push_arc adj i u v s)
    unfolding Linked
    kept [] h k = tt
    kept (a ∷ xs) h (t, c, n, k) = (
      to-other (suc (length xs)) (omega arith) (λ e. omega arith) ∙ t,
      cost_other (suc (length xs)) (omega arith) (λ e. omega arith) ∙ c,
      next-other (suc (length xs)) (omega arith) (λ e. omega arith) ∙ n,
      kept xs (omega arith) k,
    )

    module _ (last : i ≤ 8192) (size : length adj ≡ adjacency_words) where
      head_same : head_at (push_arc adj i u v s) u ≡ i
      unfolding head_at push_arc
      head_same = get_or-set_same cost_put (head_place u) i 0 (simp length-set (omega arith))

      next-same : next_at (push_arc adj i u v s) i ≡ head_at adj u
      unfolding next_at push_arc
      next-same =
          get_or-set_other cost_put (head_place u) (arc_place i) i 0 (λ e. omega arith) ∙ get_or-set_other to_put (arc_place i + 2) (arc_place i) s 0 (λ e. omega arith)
          ∙ get_or-set_other next_put (arc_place i + 1) (arc_place i) v 0 (λ e. omega arith) ∙ get_or-set_same adj (arc_place i) (head_at adj u) 0 (omega arith)

      to_same : to_at (push_arc adj i u v s) i ≡ v
      unfolding to_at push_arc
      to_same =
          get_or-set_other cost_put (head_place u) (arc_place i + 1) i 0 (λ e. omega arith)
          ∙ get_or-set_other to_put (arc_place i + 2) (arc_place i + 1) s 0 (λ e. omega arith)
          ∙ get_or-set_same next_put (arc_place i + 1) v 0 (simp length-set (omega arith))

      cost_same : cost_at (push_arc adj i u v s) i ≡ s
      unfolding cost_at push_arc
      cost_same =
          get_or-set_other cost_put (head_place u) (arc_place i + 2) i 0 (λ e. omega arith)
          ∙ get_or-set_same to_put (arc_place i + 2) s 0 (simp length-set (omega arith))

-- the array is the adjacency of a list of arcs between n junctions
pub record Holds (n : ℕ) (xs : List Arc) (adj : List ℕ) : Type 0 where
  pub size : length adj ≡ adjacency_words
  pub count : count_in adj ≡ n
  pub newest : (u : ℕ) → u < 1024 → head_at adj u ≡ last_arc u xs
  pub linked : Linked xs adj

module _ (n : ℕ) (xs : List Arc) (adj : List ℕ) (a : Arc) (below : a.from < 1024) (few : length xs < 8192) (h : Holds n xs adj) where
  -- the array with the arc put in
  after : List ℕ
  after = push_arc adj (suc (length xs)) a.from a.to a.seconds

  newest-after : (u : ℕ) → Dec (a.from ≡ u) → u < 1024 → head_at after u ≡ last_arc u (a ∷ xs)
  unfolding after
  newest-after u (yes e) b =
      rw (last_own u a xs e, ← e) (head_same adj (suc (length xs)) a.from a.to a.seconds (omega arith) below (omega arith) h.size)
  newest-after u (no n) b =
      rw (last_other u a xs n) (head_other adj (suc (length xs)) a.from a.to a.seconds (omega arith) below u b (λ e. n (sym e)) ∙ h.newest u b)

  linked-after : Linked (a ∷ xs) after
  unfolding after Linked
  linked-after = (
    to_same adj (suc (length xs)) a.from a.to a.seconds (omega arith) below (omega arith) h.size,
    cost_same adj (suc (length xs)) a.from a.to a.seconds (omega arith) below (omega arith) h.size,
    next-same adj (suc (length xs)) a.from a.to a.seconds (omega arith) below (omega arith) h.size ∙ h.newest a.from below,
    kept adj (suc (length xs)) a.from a.to a.seconds (omega arith) below xs (omega arith) h.linked,
  )

  push_holds : Holds n (a ∷ xs) (push_arc adj (suc (length xs)) a.from a.to a.seconds)
  unfolding after
  push_holds = record {
    size = push_length adj (suc (length xs)) a.from a.to a.seconds ∙ h.size;
    count = push_count adj (suc (length xs)) a.from a.to a.seconds (omega arith) below ∙ h.count;
    newest = λ u b. newest-after u (ℕ_discrete a.from u) b;
    linked = linked-after;
  }

  -- the same, with the number named
  pub push_at : (i : ℕ) → suc (length xs) ≡ i → Holds n (a ∷ xs) (push_arc adj i a.from a.to a.seconds)
  push_at i e = rw (← e) push_holds

-- ---- putting roads

pub arcs-length : (b : List ℕ) (k : ℕ) → length (arcs (roads_to b k)) ≡ 2 * k
unfolding arcs
arcs-length b zero = rw (roads-none b) refl
arcs-length b (suc k) = rw (roads-more b k) (omega (arith, arcs-length b k))

pub net-length : (b : List ℕ) → length (net b) ≡ 2 * road_count b
unfolding net
net-length b = rw (roads-all b) (arcs-length b (road_count b))

-- no arc at all
pub none-holds : (b adj : List ℕ) (n k : ℕ) → k ≡ 0 → n ≡ junctions b → Bare n adj → Holds (junctions b) (arcs (roads_to b k)) adj
unfolding arcs last_arc Linked
none-holds b adj n k f e z = rw (f, roads-none b) (record { size = z.size; count = z.count ∙ e; newest = z.none; linked = tt })

-- what a road of a book of sound layout asks for to be put
pub record RoadReady (b : List ℕ) (k : ℕ) : Type 0 where
  pub place : 9 + 6 * k + 6 ≤ length b
  pub few : k < 4096
  pub low : (road_at b k).low < 1024
  pub high : (road_at b k).high < 1024

module _ (b : List ℕ) (count k : ℕ) (pass : road_layout_refusal b ≡ 0) (counted : count ≡ road_count b) where
  pub road-ready : k < count → RoadReady b k
  road-ready h =
      let l = passing_layout b pass in
      let f = l.fits k (omega arith) in
      record {
        place = omega (arith, l.whole);
        few = omega (arith, l.few-roads);
        low = omega (arith, f.ends, f.within, l.few-junctions);
        high = omega (arith, f.within, l.few-junctions);
      }

  -- all roads put: the array is the book's adjacency
  pub all_put : (adj : List ℕ) → k ≡ count → Holds (junctions b) (arcs (roads_to b k)) adj → Adjacency b adj
  unfolding net
  all_put adj e h =
      let f : k ≡ road_count b = e ∙ counted in
      let g : Holds (junctions b) (arcs (roads_to b (road_count b))) adj = rw f at h in
      record { layout = pass; size = g.size; count = g.count; newest = rw (roads-all b) g.newest; linked = rw (roads-all b) g.linked }

pub road-holds : (b : List ℕ) (k : ℕ) (adj : List ℕ) → k < 4096 → (road_at b k).low < 1024 → (road_at b k).high < 1024
    → Holds (junctions b) (arcs (roads_to b k)) adj → Holds (junctions b) (arcs (roads_to b (k + 1))) (push_road adj (road_at b k) k)
unfolding push_road arcs along back
road-holds b k adj few low high h =
    let n = arcs-length b k in
    let one = push_at (junctions b) (arcs (roads_to b k)) adj (along (road_at b k)) low (omega arith) h (2 * k + 1) (omega arith) in
    let two = push_at (junctions b) (along (road_at b k) ∷ arcs (roads_to b k)) _ (back (along (road_at b k))) high (omega arith) one (2 * k + 2) (omega arith) in
    rw (add-one k, roads-more b k) two

-- the next road put
pub road_put : (b : List ℕ) (k : ℕ) (adj adj' : List ℕ) → RoadReady b k → adj' ≡ push_road adj (road_at b k) k
    → Holds (junctions b) (arcs (roads_to b k)) adj → Holds (junctions b) (arcs (roads_to b (k + 1))) adj'
road_put b k adj adj' r e h = rw e (road-holds b k adj r.few r.low r.high h)

-- two arcs put one after the other are a road's
module _ (b : List ℕ) (k low high seconds : ℕ) (el : low ≡ (road_at b k).low) (eh : high ≡ (road_at b k).high) (es : seconds ≡ (road_at b k).seconds) where
  pub pushed_road : (adj adj1 adj2 : List ℕ) (i j : ℕ) → i ≡ 2 * k + 1 → j ≡ 2 * k + 2
      → adj1 ≡ push_arc adj i low high seconds → adj2 ≡ push_arc adj1 j high low seconds → adj2 ≡ push_road adj (road_at b k) k
  unfolding push_road
  pushed_road adj adj1 adj2 i j ei ej f g = rw (g, f, ei, ej, el, eh, es) refl

-- ---- what an adjacency is

module _ {b adj : List ℕ} (a : Adjacency b adj) where
  -- as many junctions as a road book may have
  pub some-junction : 1 ≤ count_in adj
  some-junction = omega (arith, a.count, (passing_layout b a.layout).some-junction)

  pub few-junctions : count_in adj ≤ 1024
  few-junctions = omega (arith, a.count, (passing_layout b a.layout).few-junctions)
