-- Laws of the walk's queue: what shortening and walking on do to it, and that its top is the nearest junction. Assumes nothing.
use mathlib.Core.Path.{◌≡◌, refl, sym, ap, ◌∙◌}
use mathlib.Core.Logic.{◌⊎◌, inl, inr}
use mathlib.Core.Bool.{Bool, not}
use mathlib.Core.List.Memᴰ
use mathlib.Core.List.{List, [], ◌∷◌}
use Prim.Native.Nat.{ℕ, ◌+◌, ◌*◌, ◌≤◌, ◌<◌}
use native.Mathlib.Decide.{ℕ_discrete, dec_lt}
use native.Mathlib.Omega.{arith}
use lib.ListN.{length, set, length-set}
use lib.Dec.{T, T_not, ltb, eqb, ltb→lt, lt→ltb}
use borrow.Author.Tests.{le-ltb}
use Rattle.book.specs.Choose.{choose}
use Rattle.book.proofs.Choosing.{choose_case, choose_yes, choose_no, choose-map, false_T, T-split}
use Rattle.tournament.specs.code.Tournament.{put_leaf, leaf}
use Rattle.tournament.proofs.Laws.{put_tournament, put_same, put_other}
use Rattle.adjacency.specs.Arcs.{Arc}
use Rattle.road.specs.Walk.{SoundArcs}
use Rattle.road.specs.Dijkstra.{far, width, at, WalkState, walked, score, shorten, relax_arc, relax}
use Rattle.road.specs.code.Queue.{state, absent, word, queue_word, QueueHolds, Reach, reach, Above, shorten_both, relax_both}
use Rattle.road.proofs.Relaxing.{at_set_same, at_set_other}
use Rattle.road.proofs.Picking.{score_open, score-low}

-- ---- words

pub word-queued : (st : WalkState) (v : ℕ) → score st v < far → queue_word st v ≡ word (score st v) v
unfolding queue_word
word-queued st v h = choose_yes (ltb (score st v) far) _ _ (lt→ltb _ _ h)

pub word-marked : (st : WalkState) (v : ℕ) → far ≤ score st v → queue_word st v ≡ absent
unfolding queue_word
word-marked st v h = choose_no (ltb (score st v) far) _ _ (false_T (le-ltb _ _ h))

pub word_same : (st st' : WalkState) (v : ℕ) → score st v ≡ score st' v → queue_word st v ≡ queue_word st' v
unfolding queue_word
word_same st st' v e = rw e refl

pub score-same : (ds ds' : List ℕ) (done done' : List Bool) (v : ℕ) → at ds v ≡ at ds' v → walked done v ≡ walked done' v
    → score (state ds done) v ≡ score (state ds' done') v
unfolding score
score-same ds ds' done done' v e f = rw (e, f) refl

-- a junction that is walked on from has `far` for a score
pub score-done : (ds : List ℕ) (done : List Bool) (v : ℕ) → T (walked done v) → score (state ds done) v ≡ far
unfolding score
score-done ds done v t = choose_yes (walked done v) far (at ds v) t

-- ---- relaxing

-- While u's arcs are relaxed: no distance is above `far`, those of junctions walked on from are at most d, and the queue holds the words.
pub record Fine (done : List Bool) (d : ℕ) (s : Reach) : Type 0 where
  pub size : length s.ds ≡ width
  pub most : (v : ℕ) → at s.ds v ≤ far
  pub low : (w : ℕ) → T (walked done w) → at s.ds w ≤ d
  pub queued : QueueHolds s.queue (state s.ds done)

-- no word is below its junction's distance
pub fine_above : (done : List Bool) (d : ℕ) (s : Reach) → Fine done d s → Above s.ds s.queue
fine_above done d s f = record { tournament = f.queued.tournament; below = λ v b. below v b (dec_lt (score st v) far) }
  where
    st : WalkState
    st = state s.ds done

    below : (v : ℕ) → v < width → Dec (score st v < far) → at s.ds v * 1024 ≤ leaf s.queue v
    below v b (yes h) = omega (arith, f.queued.words v b, word-queued st v h, score_open st v (score-low st v h))
    below v b (no h) = omega (arith, f.queued.words v b, word-marked st v (omega arith), f.most v)

module _ (done : List Bool) (d : ℕ) where
  shorten_fine : (s : Reach) (v x : ℕ) → v < width → d ≤ x → Fine done d s → Fine done d (shorten_both s v x)
  unfolding shorten_both
  shorten_fine s v x hv hx f = choose_case (Fine done d) (ltb x (at s.ds v)) (λ t. shorter (ltb→lt x (at s.ds v) t)) (λ t. f)
    where
      es : List ℕ
      es = set s.ds v x

      inside : v < length s.ds
      inside = rw f.size hv

      shorter : x < at s.ds v → Fine done d (reach (set s.ds v x) (put_leaf s.queue v (word x v)))
      shorter h = record {
        size = length-set s.ds v x ∙ f.size;
        most = λ w. most w (ℕ_discrete w v);
        low = λ w t. low w t (ℕ_discrete w v);
        queued = record { tournament = put_tournament s.queue v (word x v) hv f.queued.tournament; words = λ w b. words w b (ℕ_discrete w v) };
      }
        where
          open_v : T (not (walked done v))
          open_v = go (T-split (walked done v))
            where
              go : T (walked done v) ⊎ T (not (walked done v)) → T (not (walked done v))
              go (inl t) = absurd (omega (arith, f.low v t))
              go (inr t) = t

          most : (w : ℕ) → Dec (w ≡ v) → at es w ≤ far
          most w (yes e) = rw (e, at_set_same s.ds v x inside) (omega (arith, f.most v))
          most w (no n) = rw (at_set_other s.ds v w x n) (f.most w)

          low : (w : ℕ) → T (walked done w) → Dec (w ≡ v) → at es w ≤ d
          low w t (yes e) = absurd (T_not (walked done v) open_v (rw e at t))
          low w t (no n) = rw (at_set_other s.ds v w x n) (f.low w t)

          new_score : score (state es done) v ≡ x
          new_score = score_open (state es done) v open_v ∙ at_set_same s.ds v x inside

          words : (w : ℕ) → w < width → Dec (w ≡ v) → leaf (put_leaf s.queue v (word x v)) w ≡ queue_word (state es done) w
          words w b (yes e) =
              rw e (put_same s.queue v (word x v) hv f.queued.tournament.size
              ∙ sym (word-queued (state es done) v (rw new_score (omega (arith, f.most v))) ∙ ap (λ (y : ℕ). word y v) new_score))
          words w b (no n) =
              put_other s.queue v (word x v) w hv n ∙ f.queued.words w b
              ∙ word_same (state s.ds done) (state es done) w (score-same s.ds es done done w (sym (at_set_other s.ds v w x n)) refl)

  pub relax_fine : (u : ℕ) (arcs : List Arc) (s : Reach) → SoundArcs width arcs → Fine done d s → Fine done d (relax_both u d arcs s)
  unfolding relax_both
  relax_fine u [] s sound f = f
  relax_fine u (a ∷ arcs) s sound f =
      relax_fine u arcs _ (λ b m. sound b (Memᴰ.tail m))
      (choose_case (Fine done d) (eqb a.from u) (λ t. shorten_fine s a.to (d + a.seconds) (sound a (Memᴰ.head refl)).to (omega arith) f) (λ t. f))

shorten-ds : (s : Reach) (v x : ℕ) → (shorten_both s v x).ds ≡ shorten s.ds v x
unfolding shorten_both shorten
shorten-ds s v x = choose-map (λ (r : Reach). r.ds) (ltb x (at s.ds v)) (reach (set s.ds v x) (put_leaf s.queue v (word x v))) s

-- the distances are relaxed as without a queue
pub relax-ds : (u d : ℕ) (arcs : List Arc) (s : Reach) → (relax_both u d arcs s).ds ≡ relax u d arcs s.ds
unfolding relax_both relax relax_arc
relax-ds u d [] s = refl
relax-ds u d (a ∷ arcs) s =
    relax-ds u d arcs _
    ∙ ap (relax u d arcs) (choose-map (λ (r : Reach). r.ds) (eqb a.from u) (shorten_both s a.to (d + a.seconds)) s
    ∙ ap (λ (es : List ℕ). choose (eqb a.from u) es s.ds) (shorten-ds s a.to (d + a.seconds)))

-- the same queue gives the same
pub relax-from : (u d : ℕ) (arcs : List Arc) (ds queue queue' : List ℕ) (r : Reach) → r ≡ relax_both u d arcs (reach ds queue) → queue ≡ queue'
    → r ≡ relax_both u d arcs (reach ds queue')
relax-from u d arcs ds queue queue' r e f = rw (← f) e
