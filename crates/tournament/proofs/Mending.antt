-- `repair`, one word at a time, as a loop counts: `n - k` words are left. Assumes nothing.
use mathlib.Core.Path.{◌≡◌, refl}
use mathlib.Core.List.{List}
use Prim.Native.Nat.{ℕ, suc, ◌+◌, ◌-◌, ◌*◌, ◌/◌, ◌≤◌, ◌<◌, min}
use native.Mathlib.Omega.{arith}
use lib.ListN.{get_or, set}
use Rattle.tournament.specs.code.Tournament.{lesser_of, other, across, least_beside, repair}
use Rattle.tournament.proofs.Laws.{Child, child_case}

module _ (n k : ℕ) (t : List ℕ) (i : ℕ) where
  pub mended : (r : ℕ) → k < n → r ≡ lesser_of t (i / 4) → repair (n - (k + 1)) (set t (i / 4) r) (i / 4) ≡ repair (n - k) t i
  unfolding repair
  mended r p e =
      let s : n - k ≡ suc (n - (k + 1)) = omega arith in
      rw (s, e) refl

  pub all_mended : n ≤ k → repair (n - k) t i ≡ t
  unfolding repair
  all_mended p =
      let s : n - k ≡ 0 = omega arith in
      simp s

-- the lesser of a word and the least beside it is the least of the four below their parent
pub beside : (t : List ℕ) (i word least r : ℕ) → word ≡ get_or t i 0 → least ≡ least_beside t i → r ≡ min word least → r ≡ lesser_of t (i / 4)
beside t i word least r ew el er = rw (er, ew, el) (go (i / 4) (omega arith, omega arith))
  where
    -- word k and the three at places a, b and c are the four below word p
    Four : ℕ → ℕ → ℕ → ℕ → ℕ → Type 0
    Four p k a b c = min (get_or t k 0) (min (get_or t a 0) (min (get_or t b 0) (get_or t c 0))) ≡ lesser_of t p

    at : (p k a b c : ℕ) → a ≡ other k → b ≡ across k → c ≡ other (across k) → Four p k a b c → Four p k (other k) (across k) (other (across k))
    at p k a b c ea eb ec h = rw (← ec, ← ea, ← eb) h

    go : (p : ℕ) → Child p i → Four p i (other i) (across i) (other (across i))
    go p c =
        child_case (λ k. Four p k (other k) (across k) (other (across k))) p i c
        (at p (4 * p) (4 * p + 1) (4 * p + 2) (4 * p + 3) (omega arith) (omega arith) (omega arith) (omega arith))
        (at p (4 * p + 1) (4 * p) (4 * p + 3) (4 * p + 2) (omega arith) (omega arith) (omega arith) (omega arith))
        (at p (4 * p + 2) (4 * p + 3) (4 * p) (4 * p + 1) (omega arith) (omega arith) (omega arith) (omega arith))
        (at p (4 * p + 3) (4 * p + 2) (4 * p + 1) (4 * p) (omega arith) (omega arith) (omega arith) (omega arith))
