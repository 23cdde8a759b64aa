-- One distance shortened, in the distances and in the queue. Assumes nothing.
use mathlib.Core.Path.{◌≡◌, refl, sym}
use mathlib.Core.List.{List, [], ◌∷◌}
use Prim.Native.Nat.{ℕ, zero, suc, ◌*◌, ◌≤◌, ◌<◌}
use native.Mathlib.Nat.{le_of_suc-le-suc}
use native.Mathlib.Decide.{ℕ_discrete}
use native.Mathlib.Omega.{arith}
use lib.ListN.{length, get_or, set, length-set}
use lib.Dec.{ltb, lt→ltb}
use borrow.Author.Tests.{le-ltb}
use Rattle.book.proofs.Choosing.{choose_yes, choose_no, choose_case, false_T}
use Rattle.tournament.specs.code.Tournament.{put_leaf, leaf}
use Rattle.tournament.proofs.Laws.{put_length, put_tournament, put_same, put_other}
use Rattle.road.specs.Dijkstra.{far, width, at}
use Rattle.road.specs.code.Queue.{Reach, reach, word, Above, shorten_both}
use Rattle.road.proofs.Relaxing.{at_set_same, at_set_other}

-- inside the list the default does not matter
pub at-inside : (ds : List ℕ) (v : ℕ) → v < length ds → get_or ds v 0 ≡ at ds v
unfolding at
at-inside [] v h = absurd (omega arith)
at-inside (x ∷ ds) zero h = refl
at-inside (x ∷ ds) (suc v) h = at-inside ds v (le_of_suc-le-suc h)

-- past its end it is the mark
pub at-outside : (ds : List ℕ) (v : ℕ) → length ds ≤ v → at ds v ≡ far
unfolding at
at-outside [] v h = refl
at-outside (x ∷ ds) zero h = absurd (omega arith)
at-outside (x ∷ ds) (suc v) h = at-outside ds v (le_of_suc-le-suc h)

module _ (ds queue : List ℕ) (v x : ℕ) (inside : v < length ds) where
  pub shortened : (queue' : List ℕ) → x < get_or ds v 0 → queue' ≡ put_leaf queue v (word x v)
      → reach (set ds v x) queue' ≡ shorten_both (reach ds queue) v x
  unfolding shorten_both
  shortened queue' h e = rw e (sym (choose_yes (ltb x (at ds v)) _ (reach ds queue) (lt→ltb _ _ (rw (at-inside ds v inside) at h))))

  pub short-enough : get_or ds v 0 ≤ x → reach ds queue ≡ shorten_both (reach ds queue) v x
  unfolding shorten_both
  short-enough h = sym (choose_no (ltb x (at ds v)) _ (reach ds queue) (false_T (le-ltb _ _ (rw (at-inside ds v inside) at h))))

-- lengths stay
pub shorten-sizes : (s : Reach) (v x : ℕ)
    → (length (shorten_both s v x).ds ≡ length s.ds) × (length (shorten_both s v x).queue ≡ length s.queue)
unfolding shorten_both
shorten-sizes s v x =
    choose_case (λ (r : Reach). (length r.ds ≡ length s.ds) × (length r.queue ≡ length s.queue)) (ltb x (at s.ds v))
    (λ t. (length-set s.ds v x, put_length s.queue v (word x v))) (λ t. (refl, refl))

-- a shorter distance's word is at most the one queued
pub word-falls : (ds queue : List ℕ) (v x : ℕ) → v < width → length ds ≡ width → Above ds queue → x < get_or ds v 0 → word x v ≤ leaf queue v
word-falls ds queue v x b n r h = omega (arith, at-inside ds v (omega arith), r.below v b)

-- and the queue stays so
pub shorten-above : (s : Reach) (v x : ℕ) → v < width → length s.ds ≡ width → Above s.ds s.queue
    → Above (shorten_both s v x).ds (shorten_both s v x).queue
unfolding shorten_both
shorten-above s v x b n r =
    choose_case (λ (q : Reach). Above q.ds q.queue) (ltb x (at s.ds v))
    (λ t. record { tournament = put_tournament s.queue v (word x v) b r.tournament; below = λ w h. below w h (ℕ_discrete w v) })
    (λ t. r)
  where
    below : (w : ℕ) → w < width → Dec (w ≡ v) → at (set s.ds v x) w * 1024 ≤ leaf (put_leaf s.queue v (word x v)) w
    below w h (yes e) =
        rw e (omega (arith, at_set_same s.ds v x (omega arith), put_same s.queue v (word x v) b r.tournament.size))
    below w h (no m) =
        omega (arith, at_set_other s.ds v w x m, put_other s.queue v (word x v) w b m, r.below w h)
