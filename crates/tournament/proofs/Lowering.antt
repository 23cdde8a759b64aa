-- A leaf's word that falls: each word above it becomes the lesser of itself and the new word. Assumes nothing.
use mathlib.Core.Path.{◌≡◌, refl, sym, ap, ◌∙◌}
use mathlib.Core.List.{List}
use Prim.Native.Nat.{ℕ, zero, suc, ◌+◌, ◌-◌, ◌/◌, min, ◌≤◌, ◌<◌}
use native.Mathlib.Decide.{ℕ_discrete}
use native.Mathlib.Omega.{arith}
use lib.ListN.{length, get_or, set, length-set}
use lib.Seq.{get_or-set_same, get_or-set_other}
use Rattle.tournament.specs.code.Tournament.{queue_words, lesser_of, mend, repair, put_leaf, leaf, Tournament}
use Rattle.tournament.proofs.Laws.{Child, Low, Found, least-low, least-found, Good, LeastBut, stored, higher, Level, level_up, level_leaf}

-- t with f words above word i made the lesser of themselves and x
unfoldable pub lowered : ℕ → List ℕ → ℕ → ℕ → List ℕ
lowered zero t i x = t
lowered (suc f) t i x = lowered f (set t (i / 4) (min (get_or t (i / 4) 0) x)) (i / 4) x

-- ---- one word at a time, as a loop counts: `n - k` words are left

module _ (n k : ℕ) (t : List ℕ) (i x : ℕ) where
  pub one_lowered : (r : ℕ) → k < n → r ≡ min (get_or t (i / 4) 0) x
      → lowered (n - (k + 1)) (set t (i / 4) r) (i / 4) x ≡ lowered (n - k) t i x
  unfolding lowered
  one_lowered r p e =
      let s : n - k ≡ suc (n - (k + 1)) = omega arith in
      rw (s, e) refl

  pub all_lowered : n ≤ k → lowered (n - k) t i x ≡ t
  unfolding lowered
  all_lowered p =
      let s : n - k ≡ 0 = omega arith in
      simp s

-- ---- in a tournament this is a put

module _ (x : ℕ) where
  -- word p of four falls to the lesser of itself and x: so does the least of the four
  least-falls : (t s : List ℕ) (q p m n : ℕ) → Child q p → Low t q m → Found t q m → Low s q n → Found s q n
      → get_or s p 0 ≡ min (get_or t p 0) x → ((k : ℕ) → (k ≡ p → ⊥) → get_or s k 0 ≡ get_or t k 0) → min m x ≡ n
  least-falls t s q p m n c lt (j, cj, ft) ls (k, ck, fs) e same =
      omega (arith, lt p c, ls p c, e, down (ℕ_discrete j p), up (ℕ_discrete k p))
    where
      down : Dec (j ≡ p) → n ≤ m
      down (yes z) = omega (arith, ls p c, e, ft ∙ ap (λ (i : ℕ). get_or t i 0) z)
      down (no z) = omega (arith, ls j cj, same j z, ft)

      up : Dec (k ≡ p) → min m x ≤ n
      up (yes z) = omega (arith, lt p c, e, fs ∙ ap (λ (i : ℕ). get_or s i 0) z)
      up (no z) = omega (arith, lt k ck, same k z, fs)

  -- word p falls: the word above it has to fall to the lesser of itself and x
  falls : (t : List ℕ) (q p y : ℕ) → 1 ≤ q → Child q p → p < length t → Good t q → y ≡ min (get_or t p 0) x
      → min (get_or (set t p y) q 0) x ≡ lesser_of (set t p y) q
  falls t q p y a c b g e =
      let o : get_or (set t p y) q 0 ≡ lesser_of t q = get_or-set_other t p q y 0 (λ z. omega arith) ∙ g in
      rw o (least-falls t (set t p y) q p (lesser_of t q) (lesser_of (set t p y) q) c (least-low t q) (least-found t q)
      (least-low (set t p y) q) (least-found (set t p y) q) (get_or-set_same t p y 0 b ∙ e) (λ k n. get_or-set_other t p k y 0 n))

  -- only the word above i is wrong, and the lesser of itself and x is right
  lowers : (f : ℕ) (t : List ℕ) (i : ℕ) → length t ≡ queue_words → i < queue_words → Level f i → LeastBut t i
      → (4 ≤ i → min (get_or t (i / 4) 0) x ≡ lesser_of t (i / 4)) → lowered f t i x ≡ repair f t i
  unfolding lowered repair
  lowers zero t i l b u g h = refl
  lowers (suc f) t i l b u g h =
      let (a, v) = level_up f i u in
      let e : min (get_or t (i / 4) 0) x ≡ lesser_of t (i / 4) = h (omega arith) in
      rw e (lowers f (mend t (i / 4)) (i / 4) (simp length-set l) (omega arith) v (higher t i (i / 4) refl l g)
      (λ four.
      falls t (i / 4 / 4) (i / 4) (lesser_of t (i / 4)) (omega arith) (omega arith, omega arith) (omega arith)
      (g (i / 4 / 4) (omega arith) (omega arith) (λ c. omega arith)) (sym e)))

-- a leaf's word that falls, and those above it
pub lowered_put : (t : List ℕ) (v x : ℕ) → v < 1024 → Tournament t → x ≤ leaf t v → lowered 5 (set t (1024 + v) x) (1024 + v) x ≡ put_leaf t v x
unfolding put_leaf leaf
lowered_put t v x b g h =
    lowers x 5 (set t (1024 + v) x) (1024 + v) (simp length-set g.size) (omega arith) (level_leaf v b) (stored t (1024 + v) x (omega arith) g.least)
    (λ four.
    falls x t ((1024 + v) / 4) (1024 + v) x (omega arith) (omega arith, omega arith) (omega (arith, g.size))
    (g.least ((1024 + v) / 4) (omega arith) (omega arith)) (omega arith))
