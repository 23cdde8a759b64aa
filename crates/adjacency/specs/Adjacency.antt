-- A road book's adjacency in one array of words: its junction count, and for each junction its arcs, newest first.
-- Arcs count from 1, in the order in which they are written; 0 is none. Assumes nothing: these are definitions.
use Rattle.std.specs.Prelude.{◌≡◌, List, [], ◌∷◌, ℕ, suc, ◌+◌, ◌*◌, ◌<◌, length, get_or, set, eqb}
use Rattle.book.specs.Choose.{choose}
use Rattle.road_layout.specs.Road.{Road, junctions}
use Rattle.road_layout.specs.Layout.{road_layout_refusal}
use Rattle.adjacency.specs.Arcs.{Arc, net}

-- a word for the count, one for each of 1,024 junctions, and three for each of the arcs of 4,096 roads
abbrev pub adjacency_words : ℕ
adjacency_words = 25601

-- where junction u's word stands
abbrev pub head_place : ℕ → ℕ
head_place u = 1 + u

-- where the three words of arc a begin, a from 1 on
abbrev pub arc_place : ℕ → ℕ
arc_place a = 1022 + 3 * a

-- the junction count
unfoldable pub count_in : List ℕ → ℕ
count_in adj = get_or adj 0 0

-- the newest arc of junction u
unfoldable pub head_at : List ℕ → ℕ → ℕ
head_at adj u = get_or adj (head_place u) 0

-- the arc of the same junction before arc a
unfoldable pub next_at : List ℕ → ℕ → ℕ
next_at adj a = get_or adj (arc_place a) 0

-- the junction that arc a leads to
unfoldable pub to_at : List ℕ → ℕ → ℕ
to_at adj a = get_or adj (arc_place a + 1) 0

-- its seconds
unfoldable pub cost_at : List ℕ → ℕ → ℕ
cost_at adj a = get_or adj (arc_place a + 2) 0

-- arc number a, from u to v in s seconds, put before the arcs of u
unfoldable pub push_arc : List ℕ → ℕ → ℕ → ℕ → ℕ → List ℕ
push_arc adj a u v s =
    set (set (set (set adj (arc_place a) (head_at adj u)) (arc_place a + 1) v) (arc_place a + 2) s) (head_place u) a

-- both arcs of road number k
unfoldable pub push_road : List ℕ → Road → ℕ → List ℕ
push_road adj r k =
    push_arc (push_arc adj (2 * k + 1) r.low r.high r.seconds) (2 * k + 2) r.high r.low r.seconds

-- the number of the newest arc that leaves u: an arc's number is how many there are from it on
unfoldable pub last_arc : ℕ → List Arc → ℕ
last_arc u [] = 0
last_arc u (a ∷ arcs) = let r = last_arc u arcs in choose (eqb a.from u) (suc (length arcs)) r

-- each arc stands at its number, and leads on to the one before it of the same junction
unfoldable pub Linked : List Arc → List ℕ → Type 0
Linked [] adj = Unit {0}
Linked (a ∷ arcs) adj =
    (to_at adj (suc (length arcs)) ≡ a.to) × (cost_at adj (suc (length arcs)) ≡ a.seconds)
    × (next_at adj (suc (length arcs)) ≡ last_arc a.from arcs) × Linked arcs adj

-- n junctions, none of which has an arc
pub record Bare (n : ℕ) (adj : List ℕ) : Type 0 where
  pub size : length adj ≡ adjacency_words
  pub count : count_in adj ≡ n
  pub none : (u : ℕ) → u < 1024 → head_at adj u ≡ 0

-- The array is the adjacency of a road book of sound layout.
pub record Adjacency (b adj : List ℕ) : Type 0 where
  pub layout : road_layout_refusal b ≡ 0
  pub size : length adj ≡ adjacency_words
  pub count : count_in adj ≡ junctions b
  pub newest : (u : ℕ) → u < 1024 → head_at adj u ≡ last_arc u (net b)
  pub linked : Linked (net b) adj

-- the adjacency of some road book of sound layout
pub record IsAdjacency (adj : List ℕ) : Type 0 where
  pub book : List ℕ
  pub adjacent : Adjacency book adj
