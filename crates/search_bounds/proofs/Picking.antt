-- The place of the greatest of some numbers, one further. Assumes nothing.
use mathlib.Core.Path.{◌≡◌, refl, sym, ◌∙◌}
use Prim.Native.Nat.{ℕ, zero, suc, ◌+◌, ◌≤◌, ◌<◌}
use native.Mathlib.Numerals.{add-one}
use native.Mathlib.Omega.{arith}
use lib.Dec.{ltb, lt→ltb, ltb→lt, not_T}
use Rattle.book.specs.Choose.{choose}
use Rattle.book.proofs.Choosing.{choose_case, choose_yes, choose_no}
use Rattle.search_bounds.specs.code.Bounds.{first_greatest}

module _ (g : ℕ → ℕ) where
  first-none : first_greatest g 0 ≡ 0
  unfolding first_greatest
  first-none = refl

  pub first-suc : (n : ℕ) → first_greatest g (suc n) ≡ choose (ltb (g (first_greatest g n)) (g n)) n (first_greatest g n)
  unfolding first_greatest
  first-suc n = refl

  -- of the first one
  pub first_one : first_greatest g 1 ≡ 0
  first_one = first-suc 0 ∙ choose_case (λ z. z ≡ 0) (ltb (g (first_greatest g 0)) (g 0)) (λ t. refl) (λ t. first-none)

  -- it is one of them
  pub first_below : (n : ℕ) → 0 < n → first_greatest g n < n
  first_below zero h = absurd (omega arith)
  first_below (suc zero) h = omega (arith, first_one)
  first_below (suc (suc n)) h =
      let r = first_below (suc n) (omega arith) in
      rw (first-suc (suc n))
      (choose_case (λ z. z < suc (suc n)) (ltb (g (first_greatest g (suc n))) (g (suc n))) (λ t. omega arith) (λ t. omega arith))

-- p is the place of the greatest of the first j numbers, and best is that number
pub record Picked (g : ℕ → ℕ) (j p best : ℕ) : Type 0 where
  pub place : p ≡ first_greatest g j
  pub value : best ≡ g p

module _ (g : ℕ → ℕ) where
  pub picked_first : (best : ℕ) → best ≡ g 0 → Picked g 1 0 best
  picked_first best e = record { place = sym (first_one g); value = e }

  module _ (j p best w : ℕ) (s : Picked g j p best) (k : w ≡ g j) where
    -- one more number is greater, or not
    pub picked_greater : best < w → Picked g (j + 1) j w
    picked_greater h = record {
      place = rw (add-one j, first-suc g j, ← s.place, ← s.value, ← k) (sym (choose_yes (ltb best w) j p (lt→ltb best w h)));
      value = k;
    }

    pub picked_same : w ≤ best → Picked g (j + 1) p best
    picked_same h = record {
      place = rw (add-one j, first-suc g j, ← s.place, ← s.value, ← k)
          (sym (choose_no (ltb best w) j p (not_T (ltb best w) (λ t. omega (arith, ltb→lt best w t)))));
      value = s.value;
    }
