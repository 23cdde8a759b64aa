-- The choice of the nearest junction, and the marks.
use mathlib.Core.Path.{◌≡◌, refl, sym, ap, ◌∙◌}
use mathlib.Core.Logic.{◌⊎◌, inl, inr, ◌≢◌}
use mathlib.Core.Bool.{Bool, true, false, not}
use mathlib.Core.List.{List}
use Prim.Native.Nat.{ℕ, zero, suc, ◌≤◌, ◌<◌}
use native.Mathlib.Decide.{ℕ_discrete}
use native.Mathlib.Omega.{arith}
use lib.ListN.{length, set, replicate}
use lib.Seq.{get_or-set_same, get_or-set_other}
use lib.Dec.{T, ltb, ltb→lt, nltb→le}
use Rattle.road.specs.Dijkstra.{far, at, WalkState, walked, score, nearer, pick_nearest}
use Rattle.book.specs.Choose.{choose}
use Rattle.book.proofs.Choosing.{choose_case, choose_yes, choose_no, choose-map, T-split}

-- ---- the choice

-- The score of a junction that is not walked on from.
pub score_open : (st : WalkState) (v : ℕ) → T (not (walked st.done v)) → score st v ≡ at st.ds v
unfolding score
score_open st v h = choose_no (walked st.done v) far (at st.ds v) h

-- A score below `far` is that of a junction that is not walked on from.
pub score-low : (st : WalkState) (v : ℕ) → score st v < far → T (not (walked st.done v))
unfolding score
score-low st v h = go (T-split (walked st.done v))
  where
    go : T (walked st.done v) ⊎ T (not (walked st.done v)) → T (not (walked st.done v))
    go (inl t) = absurd (omega (arith, choose_yes (walked st.done v) far (at st.ds v) t))
    go (inr t) = t

module _ (st : WalkState) where
  pub pick-below : (n : ℕ) → 0 < n → pick_nearest st n < n
  unfolding pick_nearest nearer
  pick-below zero h = omega arith
  pick-below (suc zero) h = choose_case (λ p. p < 1) (ltb (score st 0) (score st 0)) (λ t. omega arith) (λ t. omega arith)
  pick-below (suc (suc k)) h =
      choose_case (λ p. p < suc (suc k)) (ltb (score st (suc k)) (score st (pick_nearest st (suc k)))) (λ t. omega arith)
      (λ t. omega (arith, pick-below (suc k) (omega arith)))

  pub pick-least : (k v : ℕ) → v < k → score st (pick_nearest st k) ≤ score st v
  unfolding pick_nearest nearer
  pick-least zero v h = absurd (omega arith)
  pick-least (suc k) v h =
      choose_case (λ p. score st p ≤ score st v) (ltb (score st k) (score st (pick_nearest st k)))
      (λ t. go (ltb→lt (score st k) (score st (pick_nearest st k)) t) (ℕ_discrete v k) (λ f. pick-least k v (omega arith)))
      (λ t. stays (nltb→le (score st k) (score st (pick_nearest st k)) t) (ℕ_discrete v k) (λ f. pick-least k v (omega arith)))
    where
      go : score st k < score st (pick_nearest st k) → Dec (v ≡ k) → (v ≢ k → score st (pick_nearest st k) ≤ score st v) → score st k ≤ score st v
      go t (yes f) below = rw f (omega arith)
      go t (no f) below = omega (arith, below f)

      stays : score st (pick_nearest st k) ≤ score st k → Dec (v ≡ k) → (v ≢ k → score st (pick_nearest st k) ≤ score st v)
          → score st (pick_nearest st k) ≤ score st v
      stays t (yes f) below = rw f t
      stays t (no f) below = below f

  -- Ties go to the lower number: every junction below the one picked has a higher score.
  pub pick_first : (k v : ℕ) → v < pick_nearest st k → score st (pick_nearest st k) < score st v
  unfolding pick_nearest nearer
  pick_first zero v = λ h. omega arith
  pick_first (suc k) v =
      choose_case (λ p. v < p → score st p < score st v) (ltb (score st k) (score st (pick_nearest st k)))
      (λ t h. omega (arith, ltb→lt (score st k) (score st (pick_nearest st k)) t, pick-least k v h))
      (λ t h. pick_first k v h)

-- ---- the marks

pub walked_start : (n v : ℕ) → walked (replicate n false) v ≡ false
unfolding walked
walked_start zero v = refl
walked_start (suc n) zero = refl
walked_start (suc n) (suc v) = walked_start n v

-- How many of the first n junctions are walked on from.
pub tally : ℕ → List Bool → ℕ
tally zero l = 0
tally (suc n) l = let r = tally n l in choose (walked l n) (suc r) r

pub tally_start : (w n : ℕ) → tally n (replicate w false) ≡ 0
unfolding tally
tally_start w zero = refl
tally_start w (suc n) = choose_no (walked (replicate w false) n) _ _ (rw (walked_start w n) tt) ∙ tally_start w n

pub tally_le : (n : ℕ) (l : List Bool) → tally n l ≤ n
unfolding tally
tally_le zero l = omega arith
tally_le (suc n) l = choose_case (λ t. t ≤ suc n) (walked l n) (λ t. omega (arith, tally_le n l)) (λ t. omega (arith, tally_le n l))

-- all of them are, if as many are
pub tally_full : (n : ℕ) (l : List Bool) → tally n l ≡ n → (v : ℕ) → v < n → T (walked l v)
unfolding tally
tally_full zero l e v h = absurd (omega arith)
tally_full (suc n) l e v h = go (T-split (walked l n)) (λ f. tally_full n l f)
  where
    go : T (walked l n) ⊎ T (not (walked l n)) → (tally n l ≡ n → (v : ℕ) → v < n → T (walked l v)) → T (walked l v)
    go (inl t) rest = last (ℕ_discrete v n)
      where
        last : Dec (v ≡ n) → T (walked l v)
        last (yes f) = rw f t
        last (no f) = rest (omega (arith, sym (choose_yes (walked l n) (suc (tally n l)) (tally n l) t) ∙ e)) v (omega arith)
    go (inr t) rest = absurd (omega (arith, sym (choose_no (walked l n) (suc (tally n l)) (tally n l) t) ∙ e, tally_le n l))

module _ (l : List Bool) (u : ℕ) (h : u < length l) where
  pub walked_same : walked (set l u true) u ≡ true
  unfolding walked
  walked_same = get_or-set_same l u true false h

  pub walked-other : (v : ℕ) → v ≢ u → walked (set l u true) v ≡ walked l v
  unfolding walked
  walked-other v f = get_or-set_other l u v true false f

  -- Walked on from after u is marked: u, or one that was already.
  pub walked_new : (v : ℕ) → T (walked (set l u true) v) → (v ≡ u) ⊎ T (walked l v)
  walked_new v t = go (ℕ_discrete v u)
    where
      go : Dec (v ≡ u) → (v ≡ u) ⊎ T (walked l v)
      go (yes f) = inl f
      go (no f) = inr (rw (walked-other v f) at t)

  -- Not walked on from after u is marked: nor before.
  pub walked-not : (v : ℕ) → T (not (walked (set l u true) v)) → T (not (walked l v))
  walked-not v t = go (ℕ_discrete v u)
    where
      go : Dec (v ≡ u) → T (not (walked l v))
      go (yes f) = absurd (rw (f, walked_same) at t)
      go (no f) = rw (walked-other v f) at t

  -- marking one that was not makes one more
  tally_past : (n : ℕ) → n ≤ u → tally n (set l u true) ≡ tally n l
  unfolding tally
  tally_past zero p = refl
  tally_past (suc n) p = rw (walked-other n (λ e. omega arith), tally_past n (omega arith)) refl

  pub tally_set : (n : ℕ) → u < n → T (not (walked l u)) → tally n (set l u true) ≡ suc (tally n l)
  unfolding tally
  tally_set zero p t = absurd (omega arith)
  tally_set (suc n) p t = go (ℕ_discrete n u) (λ q. tally_set n q t)
    where
      go : Dec (n ≡ u) → (u < n → tally n (set l u true) ≡ suc (tally n l)) → tally (suc n) (set l u true) ≡ suc (tally (suc n) l)
      go (yes e) rest =
          choose_yes (walked (set l u true) n) _ _ (rw (e, walked_same) tt)
          ∙ ap suc (tally_past n (omega arith) ∙ sym (choose_no (walked l n) _ _ (rw e t)))
      go (no e) rest = rw (walked-other n e, rest (omega arith)) (sym (choose-map suc (walked l n) (suc (tally n l)) (tally n l)))
