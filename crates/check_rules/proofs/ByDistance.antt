-- The least and the greatest of some distances: of a function's values, and at most one of each. Assumes nothing.
use mathlib.Core.Path.{◌≡◌}
use mathlib.Core.List.{List, Memᴰ as Mem}
use Prim.Native.Nat.{ℕ, ◌≤◌}
use native.Mathlib.Omega.{arith}
use Rattle.check_rules.specs.Extremes.{LeastOf, GreatestOf}
use Rattle.check_rules.specs.Facts.{IsLeast, IsGreatest}

-- at most one number is the least, or the greatest
module _ (Yard : ℕ → Type 0) (Away : ℕ → ℕ → Type 0) (x z : ℕ) where
  pub least_of_one : LeastOf Yard Away x → LeastOf Yard Away z → x ≡ z
  least_of_one p q = omega (arith, p.low q.reached.0 z q.reached.1 q.reached.2, q.low p.reached.0 x p.reached.1 p.reached.2)

  pub greatest_of_one : GreatestOf Yard Away x → GreatestOf Yard Away z → x ≡ z
  greatest_of_one p q = omega (arith, p.high q.reached.0 z q.reached.1 q.reached.2, q.high p.reached.0 x p.reached.1 p.reached.2)

-- where f gives each yard's distance, and no other number is it
module _ (f : ℕ → ℕ) (ys : List ℕ) (Away : ℕ → ℕ → Type 0) (away : (y : ℕ) → Mem y ys → Away y (f y)) (one : (y s t : ℕ) → Away y s → Away y t → s ≡ t) where
  pub least_away : (x : ℕ) → IsLeast f ys x → LeastOf (λ y. Mem y ys) Away x
  least_away x l = record {
    reached = (l.reached.0, l.reached.1, rw (← l.reached.2) (away l.reached.0 l.reached.1));
    low = λ y t k p. omega (arith, l.low y k, one y t (f y) p (away y k));
  }

  pub greatest_away : (x : ℕ) → IsGreatest f ys x → GreatestOf (λ y. Mem y ys) Away x
  greatest_away x l = record {
    reached = (l.reached.0, l.reached.1, rw (← l.reached.2) (away l.reached.0 l.reached.1));
    high = λ y t k p. omega (arith, l.high y k, one y t (f y) p (away y k));
  }
