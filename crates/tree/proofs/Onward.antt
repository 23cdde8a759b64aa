-- What a descent answers, taken apart. Assumes nothing.
use mathlib.Core.Path.{◌≡◌, refl, ap}
use mathlib.Core.Bool.{Bool}
use Prim.Native.Nat.{ℕ}
use native.Mathlib.Omega.{arith}
use lib.Dec.{T, eqb→eq}
use Rattle.std.specs.Prelude.{Some, None}
use Rattle.book.specs.Choose.{choose}
use Rattle.book.proofs.Choosing.{choose_case}
use Rattle.tree.specs.Shape.{End, end_at, onward, is_at}
use Rattle.tree.specs.Yards.{number_or}

-- an answer is one region, or that a rule doesn't hold
pub same_region : (i j : ℕ) → end_at i ≡ end_at j → i ≡ j
same_region i j e = ap (number_or 0) e

pub never : (i : ℕ) → None ≡ end_at i → ⊥
never i e = let z : ◌≡◌ {A = ℕ} 0 1 = cc in omega arith

-- a test that has to hold
pub kept : (t : Bool) (o : End) (i : ℕ) → choose t o None ≡ end_at i → T t × (o ≡ end_at i)
kept t o i = choose_case (λ (x : End). x ≡ end_at i → T t × (o ≡ end_at i)) t (λ h e. (h, e)) (λ h e. absurd (never i e))

-- what goes on came to a region first
pub went_on : (o : End) (next : ℕ → End) (i : ℕ) → onward o next ≡ end_at i → (m : ℕ) × (o ≡ end_at m) × (next m ≡ end_at i)
went_on (Some r) next i e = (r.number, refl, e)
went_on None next i e = absurd (never i e)

pub came_to : (o : End) (i : ℕ) → T (is_at o i) → o ≡ end_at i
came_to (Some r) i t = ap end_at (eqb→eq r.number i t)
came_to None i t = absurd t
