-- The walk's queue: a tournament over the junctions, by distance and then number.
-- Assumes nothing: these are definitions.
use Rattle.std.specs.Prelude.{◌≡◌, Bool, List, [], ◌∷◌, ℕ, ◌+◌, ◌*◌, ◌≤◌, ◌<◌, length, set, ltb, eqb}
use Rattle.book.specs.Choose.{choose}
use Rattle.tournament.specs.code.Tournament.{queue_words, put_leaf, leaf, Tournament}
use Rattle.road_layout.specs.Road.{junctions}
use Rattle.adjacency.specs.Arcs.{Arc, net}
use Rattle.adjacency.specs.Adjacency.{count_in, Adjacency}
use Rattle.road.specs.Dijkstra.{far, width, at, WalkState, score, start_walk, rounds}

abbrev pub state : List ℕ → List Bool → WalkState
state ds done = record { ds = ds; done = done }

-- the word of a junction that is not queued: above every other
abbrev pub absent : ℕ
absent = 4398046510080

-- the word of a queued junction: by distance, then by number
abbrev pub word : ℕ → ℕ → ℕ
word d v = d * 1024 + v

-- junction v's word: it is queued while it is reached and not walked on from
unfoldable pub queue_word : WalkState → ℕ → ℕ
queue_word st v = choose (ltb (score st v) far) (word (score st v) v) absent

-- The queue holds each junction's word.
pub record QueueHolds (queue : List ℕ) (st : WalkState) : Type 0 where
  pub tournament : Tournament queue
  pub words : (v : ℕ) → v < width → leaf queue v ≡ queue_word st v

-- the distances and the queue
pub record Reach : Type 0 where
  pub ds : List ℕ
  pub queue : List ℕ

abbrev pub reach : List ℕ → List ℕ → Reach
reach ds queue = record { ds = ds; queue = queue }

-- No junction's word is below its distance, so that the word of a shorter one only falls.
pub record Above (ds queue : List ℕ) : Type 0 where
  pub tournament : Tournament queue
  pub below : (v : ℕ) → v < width → at ds v * 1024 ≤ leaf queue v

-- x for junction v if that is shorter, in both
unfoldable pub shorten_both : Reach → ℕ → ℕ → Reach
shorten_both s v x = choose (ltb x (at s.ds v)) (reach (set s.ds v x) (put_leaf s.queue v (word x v))) s

-- every arc of a list relaxed that leaves u, which is at distance d
unfoldable pub relax_both : ℕ → ℕ → List Arc → Reach → Reach
relax_both u d [] s = s
relax_both u d (a ∷ arcs) s = relax_both u d arcs (choose (eqb a.from u) (shorten_both s a.to (d + a.seconds)) s)

-- The arrays of a walk from a source in a road book hold what k rounds give.
pub record Walking (b : List ℕ) (source k : ℕ) (ds : List ℕ) (done : List Bool) (queue : List ℕ) : Type 0 where
  pub rounded : state ds done ≡ rounds (net b) (junctions b) k (start_walk source)
  pub queued : QueueHolds queue (state ds done)

-- They do so in every road book whose adjacency the array is.
abbrev pub WalkingIn : List ℕ → ℕ → ℕ → List ℕ → List Bool → List ℕ → Type 0
WalkingIn adj source k ds done queue = (b : List ℕ) → Adjacency b adj → Walking b source k ds done queue

-- The arrays are those of some walk that has a round left.
pub record IsWalking (adj ds : List ℕ) (done : List Bool) (queue : List ℕ) : Type 0 where
  pub source : ℕ
  pub round : ℕ
  pub below : source < count_in adj
  pub unfinished : round < count_in adj
  pub walking : WalkingIn adj source round ds done queue

-- The arrays' lengths.
pub record Roomy (ds : List ℕ) (done : List Bool) (queue : List ℕ) : Type 0 where
  pub distances : length ds ≡ width
  pub marks : length done ≡ width
  pub words : length queue ≡ queue_words
