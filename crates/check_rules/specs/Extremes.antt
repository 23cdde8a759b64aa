-- "least and greatest distance to its yards", by any distance: `Away y t` says that t is the distance to yard y.
-- Assumes nothing: these are definitions.
use Rattle.std.specs.Prelude.{ℕ, ◌≤◌}

-- x is the least of the distances to the yards of some kind: it is one of them, and none is below it
pub record LeastOf (Yard : ℕ → Type 0) (Away : ℕ → ℕ → Type 0) (x : ℕ) : Type 0 where
  pub reached : (y : ℕ) × Yard y × Away y x
  pub low : (y t : ℕ) → Yard y → Away y t → x ≤ t

-- x is the greatest of them
pub record GreatestOf (Yard : ℕ → Type 0) (Away : ℕ → ℕ → Type 0) (x : ℕ) : Type 0 where
  pub reached : (y : ℕ) × Yard y × Away y x
  pub high : (y t : ℕ) → Yard y → Away y t → t ≤ x
