-- The least and the greatest of a number for each yard of a list. Assumes nothing.
use mathlib.Core.Path.{◌≡◌, refl, sym, ap, ◌∙◌}
use mathlib.Core.Logic.{◌⊎◌, inl, inr}
use mathlib.Core.List.Memᴰ.{head}
use mathlib.Core.List.Memᴰ.{not-nil}
use mathlib.Core.List.Memᴰ.{tail}
use mathlib.Core.List.{List, [], ◌∷◌, Memᴰ as Mem}
use mathlib.Core.List.Memᴰ.{cases_cons}
use Prim.Native.Nat.{ℕ, zero, suc, ◌+◌, ◌≤◌, ◌<◌, min, max}
use native.Mathlib.Decide.{dec_lt}
use native.Mathlib.Omega.{arith}
use lib.ListN.{length}
use Rattle.check_rules.specs.Truth.{least_distance_from, least, greatest_from, greatest}
use Rattle.check_rules.specs.Facts.{IsLeast, IsGreatest, Same}

-- ---- one yard at a time

module _ (f : ℕ → ℕ) (x : ℕ) where
  pub least-none : least_distance_from f x [] ≡ x
  unfolding least_distance_from
  least-none = refl

  pub least-next : (y : ℕ) (ys : List ℕ) → least_distance_from f x (y ∷ ys) ≡ least_distance_from f (min x (f y)) ys
  unfolding least_distance_from
  least-next y ys = refl

  pub greatest-none : greatest_from f x [] ≡ x
  unfolding greatest_from
  greatest-none = refl

  pub greatest-next : (y : ℕ) (ys : List ℕ) → greatest_from f x (y ∷ ys) ≡ greatest_from f (max x (f y)) ys
  unfolding greatest_from
  greatest-next y ys = refl

-- from a number that none is above, or none below, they are the list's own
pub least-from : (f : ℕ → ℕ) (x : ℕ) (ys : List ℕ) → 0 < length ys → ((y : ℕ) → Mem y ys → f y ≤ x) → least_distance_from f x ys ≡ least f ys
unfolding least_distance_from least
least-from f x [] h m = absurd (omega arith)
least-from f x (y ∷ ys) h m =
    let e : min x (f y) ≡ f y = omega (arith, m y (head refl)) in
    ap (λ (z : ℕ). least_distance_from f z ys) e

pub greatest-from : (f : ℕ → ℕ) (ys : List ℕ) → 0 < length ys → greatest_from f 0 ys ≡ greatest f ys
unfolding greatest_from greatest
greatest-from f [] h = absurd (omega arith)
greatest-from f (y ∷ ys) h =
    let e : max 0 (f y) ≡ f y = omega arith in
    ap (λ (z : ℕ). greatest_from f z ys) e

-- ---- a least that starts from x

least-from-le : (f : ℕ → ℕ) (x : ℕ) (ys : List ℕ) → least_distance_from f x ys ≤ x
unfolding least_distance_from
least-from-le f x [] = omega arith
least-from-le f x (y ∷ ys) = omega (arith, least-from-le f (min x (f y)) ys)

least-from-mem : (f : ℕ → ℕ) (x : ℕ) (ys : List ℕ) (y : ℕ) → Mem y ys → least_distance_from f x ys ≤ f y
unfolding least_distance_from
least-from-mem f x [] y k = absurd (not-nil k)
least-from-mem f x (z ∷ zs) y k = go (cases_cons k) (λ j. least-from-mem f (min x (f z)) zs y j)
  where
    go : (y ≡ z) ⊎ Mem y zs → (Mem y zs → least_distance_from f (min x (f z)) zs ≤ f y) → least_distance_from f (min x (f z)) zs ≤ f y
    go (inl e) rec = rw e (omega (arith, least-from-le f (min x (f z)) zs))
    go (inr j) rec = rec j

least-from-reached : (f : ℕ → ℕ) (x : ℕ) (ys : List ℕ) → (least_distance_from f x ys ≡ x) ⊎ ((y : ℕ) × Mem y ys × (f y ≡ least_distance_from f x ys))
unfolding least_distance_from
least-from-reached f x [] = inl refl
least-from-reached f x (y ∷ ys) = go (least-from-reached f (min x (f y)) ys) (dec_lt x (f y))
  where
    go : (least_distance_from f (min x (f y)) ys ≡ min x (f y)) ⊎ ((z : ℕ) × Mem z ys × (f z ≡ least_distance_from f (min x (f y)) ys)) → Dec (x < f y)
        → (least_distance_from f (min x (f y)) ys ≡ x) ⊎ ((z : ℕ) × Mem z (y ∷ ys) × (f z ≡ least_distance_from f (min x (f y)) ys))
    go (inl e) (yes h) = inl (omega arith)
    go (inl e) (no h) = inr (y, head refl, omega arith)
    go (inr z) h = inr (z.0, tail z.1, z.2)

-- ---- a greatest that starts from x

greatest-from_ge : (f : ℕ → ℕ) (x : ℕ) (ys : List ℕ) → x ≤ greatest_from f x ys
unfolding greatest_from
greatest-from_ge f x [] = omega arith
greatest-from_ge f x (y ∷ ys) = omega (arith, greatest-from_ge f (max x (f y)) ys)

greatest-from-mem : (f : ℕ → ℕ) (x : ℕ) (ys : List ℕ) (y : ℕ) → Mem y ys → f y ≤ greatest_from f x ys
unfolding greatest_from
greatest-from-mem f x [] y k = absurd (not-nil k)
greatest-from-mem f x (z ∷ zs) y k = go (cases_cons k) (λ j. greatest-from-mem f (max x (f z)) zs y j)
  where
    go : (y ≡ z) ⊎ Mem y zs → (Mem y zs → f y ≤ greatest_from f (max x (f z)) zs) → f y ≤ greatest_from f (max x (f z)) zs
    go (inl e) rec = rw e (omega (arith, greatest-from_ge f (max x (f z)) zs))
    go (inr j) rec = rec j

greatest-from-reached : (f : ℕ → ℕ) (x : ℕ) (ys : List ℕ) → (greatest_from f x ys ≡ x) ⊎ ((y : ℕ) × Mem y ys × (f y ≡ greatest_from f x ys))
unfolding greatest_from
greatest-from-reached f x [] = inl refl
greatest-from-reached f x (y ∷ ys) = go (greatest-from-reached f (max x (f y)) ys) (dec_lt x (f y))
  where
    go : (greatest_from f (max x (f y)) ys ≡ max x (f y)) ⊎ ((z : ℕ) × Mem z ys × (f z ≡ greatest_from f (max x (f y)) ys)) → Dec (x < f y)
        → (greatest_from f (max x (f y)) ys ≡ x) ⊎ ((z : ℕ) × Mem z (y ∷ ys) × (f z ≡ greatest_from f (max x (f y)) ys))
    go (inl e) (yes h) = inr (y, head refl, omega arith)
    go (inl e) (no h) = inl (omega arith)
    go (inr z) h = inr (z.0, tail z.1, z.2)

-- ---- of a list with a yard

pub least-is : (f : ℕ → ℕ) (ys : List ℕ) → 0 < length ys → IsLeast f ys (least f ys)
unfolding least
least-is f [] h = absurd (omega arith)
least-is f (y ∷ ys) h = record { reached = some (least-from-reached f (f y) ys); low = λ z k. low z (cases_cons k) }
  where
    some : (least_distance_from f (f y) ys ≡ f y) ⊎ ((z : ℕ) × Mem z ys × (f z ≡ least_distance_from f (f y) ys))
        → (z : ℕ) × Mem z (y ∷ ys) × (f z ≡ least_distance_from f (f y) ys)
    some (inl e) = (y, head refl, sym e)
    some (inr z) = (z.0, tail z.1, z.2)

    low : (z : ℕ) → (z ≡ y) ⊎ Mem z ys → least_distance_from f (f y) ys ≤ f z
    low z (inl e) = rw e (least-from-le f (f y) ys)
    low z (inr k) = least-from-mem f (f y) ys z k

pub greatest-is : (f : ℕ → ℕ) (ys : List ℕ) → 0 < length ys → IsGreatest f ys (greatest f ys)
unfolding greatest
greatest-is f [] h = absurd (omega arith)
greatest-is f (y ∷ ys) h = record { reached = some (greatest-from-reached f (f y) ys); high = λ z k. high z (cases_cons k) }
  where
    some : (greatest_from f (f y) ys ≡ f y) ⊎ ((z : ℕ) × Mem z ys × (f z ≡ greatest_from f (f y) ys)) → (z : ℕ) × Mem z (y ∷ ys) × (f z ≡ greatest_from f (f y) ys)
    some (inl e) = (y, head refl, sym e)
    some (inr z) = (z.0, tail z.1, z.2)

    high : (z : ℕ) → (z ≡ y) ⊎ Mem z ys → f z ≤ greatest_from f (f y) ys
    high z (inl e) = rw e (greatest-from_ge f (f y) ys)
    high z (inr k) = greatest-from-mem f (f y) ys z k

-- ---- at most one number is the least

pub one-least : (f : ℕ → ℕ) (ys : List ℕ) (x z : ℕ) → IsLeast f ys x → IsLeast f ys z → x ≡ z
one-least f ys x z a b = omega (arith, a.low b.reached.0 b.reached.1, b.reached.2, b.low a.reached.0 a.reached.1, a.reached.2)

pub one-greatest : (f : ℕ → ℕ) (ys : List ℕ) (x z : ℕ) → IsGreatest f ys x → IsGreatest f ys z → x ≡ z
one-greatest f ys x z a b = omega (arith, a.high b.reached.0 b.reached.1, b.reached.2, b.high a.reached.0 a.reached.1, a.reached.2)

-- they go by what stands in a list, not by its order
pub least-same : (f : ℕ → ℕ) (ys zs : List ℕ) (x : ℕ) → Same ys zs → IsLeast f ys x → IsLeast f zs x
least-same f ys zs x s l = record { reached = (l.reached.0, s.to l.reached.0 l.reached.1, l.reached.2); low = λ y k. l.low y (s.from y k) }

pub greatest-same : (f : ℕ → ℕ) (ys zs : List ℕ) (x : ℕ) → Same ys zs → IsGreatest f ys x → IsGreatest f zs x
greatest-same f ys zs x s l = record { reached = (l.reached.0, s.to l.reached.0 l.reached.1, l.reached.2); high = λ y k. l.high y (s.from y k) }

pub same_swap : (ys zs : List ℕ) → Same ys zs → Same zs ys
same_swap ys zs s = record { to = s.from; from = s.to }

pub some_same : (ys zs : List ℕ) → Same ys zs → 0 < length ys → 0 < length zs
some_same [] zs s h = absurd (omega arith)
some_same (y ∷ ys) zs s h = go zs (s.to y (head refl))
  where
    go : (l : List ℕ) → Mem y l → 0 < length l
    go [] k = absurd (not-nil k)
    go (x ∷ xs) k = omega arith

-- the least is at most the greatest
pub least-greatest : (f : ℕ → ℕ) (ys : List ℕ) (x z : ℕ) → IsLeast f ys x → IsGreatest f ys z → x ≤ z
least-greatest f ys x z a b = omega (arith, a.low b.reached.0 b.reached.1, b.reached.2)

-- ---- one yard at a time

pub least-cons : (f : ℕ → ℕ) (y : ℕ) (ys : List ℕ) → least f (y ∷ ys) ≡ least_distance_from f (f y) ys
unfolding least
least-cons f y ys = refl

pub greatest-cons : (f : ℕ → ℕ) (y : ℕ) (ys : List ℕ) → greatest f (y ∷ ys) ≡ greatest_from f (f y) ys
unfolding greatest
greatest-cons f y ys = refl

-- they go by the numbers that the list's yards have
pub least_by : (f g : ℕ → ℕ) (ys : List ℕ) → 0 < length ys → ((y : ℕ) → Mem y ys → f y ≡ g y) → least f ys ≡ least g ys
least_by f g ys h e =
    let l = least-is f ys h in
    one-least g ys (least f ys) (least g ys) (record {
      reached = (l.reached.0, l.reached.1, sym (e l.reached.0 l.reached.1) ∙ l.reached.2);
      low = λ y k. rw (← e y k) (l.low y k);
    }) (least-is g ys h)

pub greatest_by : (f g : ℕ → ℕ) (ys : List ℕ) → 0 < length ys → ((y : ℕ) → Mem y ys → f y ≡ g y) → greatest f ys ≡ greatest g ys
greatest_by f g ys h e =
    let l = greatest-is f ys h in
    one-greatest g ys (greatest f ys) (greatest g ys) (record {
      reached = (
        l.reached.0,
        l.reached.1,
        sym (e l.reached.0 l.reached.1)
            ∙ l.reached.2,
      );
      high = λ y k. rw (← e y k) (l.high y k);
    }) (greatest-is g ys h)
