-- The yards of a book, one at a time, and those between two numbers. Assumes nothing.
use mathlib.Core.Path.{◌≡◌, refl, ap, ◌∙◌}
use mathlib.Core.List.{List, [], ◌∷◌}
use Prim.Native.Nat.{ℕ, zero, suc, ◌+◌, ◌-◌, ◌≤◌}
use native.Mathlib.Omega.{arith}
use lib.ListN.{take, drop}
use lib.Seq.{slice}
use Rattle.yard.specs.Yards.{yard_count, yard_at, yards_from, yards_of}

pub yards-none : (b : List ℕ) (i : ℕ) → yards_from b 0 i ≡ []
unfolding yards_from
yards-none b i = refl

pub yards-next : (b : List ℕ) (n i : ℕ) → yards_from b (suc n) i ≡ yard_at b i ∷ yards_from b n (suc i)
unfolding yards_from
yards-next b n i = refl

pub yards-all : (b : List ℕ) → yards_of b ≡ yards_from b (yard_count b) 0
unfolding yards_of
yards-all b = refl

take-from : (b : List ℕ) (n i t : ℕ) → t ≤ n → take t (yards_from b n i) ≡ yards_from b t i
unfolding yards_from
take-from b zero i zero h = refl
take-from b zero i (suc t) h = absurd (omega arith)
take-from b (suc n) i zero h = refl
take-from b (suc n) i (suc t) h = ap (λ (l : List ℕ). yard_at b i ∷ l) (take-from b n (suc i) t (omega arith))

drop-from : (b : List ℕ) (n i f : ℕ) → f ≤ n → drop f (yards_from b n i) ≡ yards_from b (n - f) (i + f)
unfolding yards_from
drop-from b n i zero h = rw (let e : n - 0 ≡ n = omega arith in e, let e : i + 0 ≡ i = omega arith in e) refl
drop-from b zero i (suc f) h = absurd (omega arith)
drop-from b (suc n) i (suc f) h = drop-from b n (suc i) f (omega arith) ∙ rw (
  let e : suc n - suc f ≡ n - f = omega arith in
      e,
  let e : i + suc f ≡ suc i + f = omega arith in e,
) refl

-- the yards of number f up to t
pub yards_slice : (b : List ℕ) (f t : ℕ) → f ≤ t → t ≤ yard_count b → slice f t (yards_of b) ≡ yards_from b (t - f) f
yards_slice b f t h k =
    rw (yards-all b, take-from b (yard_count b) 0 t k, drop-from b t 0 f h, let e : 0 + f ≡ f = omega arith in e) refl
