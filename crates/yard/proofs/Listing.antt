-- The list of yards: its length, its elements, and what test 5 says of them. Assumes nothing.
use mathlib.Core.Path.{◌≡◌, refl, ap, ◌∙◌}
use mathlib.Core.Bool.{◌&&◌}
use mathlib.Core.Logic.{◌⊎◌, inl, inr}
use mathlib.Core.List.Memᴰ.{cases_cons}
use mathlib.Core.List.Memᴰ.{not-nil}
use mathlib.Core.List.{List, [], ◌∷◌, Memᴰ as Mem}
use Prim.Native.Nat.{ℕ, zero, suc, ◌+◌, ◌≤◌, ◌<◌}
use native.Mathlib.Omega.{arith}
use native.Mathlib.Numerals.{add-one}
use lib.ListN.{length, get_or}
use lib.Dec.{T, leb, ltb, leb→le, le→leb, ltb→lt, lt→ltb}
use Rattle.book.specs.Lists.{Distinct}
use Rattle.book.proofs.Choosing.{and_left, and_right, and_both}
use Rattle.yard.specs.Yards.{yard_at, yards_from, yard_kind, yards_rise, kinds_set, inside}

pub from-length : (b : List ℕ) (n i : ℕ) → length (yards_from b n i) ≡ n
unfolding yards_from
from-length b zero i = refl
from-length b (suc n) i = ap suc (from-length b n (suc i))

pub from_at : (b : List ℕ) (n i k : ℕ) → k < n → get_or (yards_from b n i) k 0 ≡ yard_at b (i + k)
unfolding yards_from
from_at b zero i k h = absurd (omega arith)
from_at b (suc n) i zero h =
    let z : i + 0 ≡ i = omega arith in
    rw z refl
from_at b (suc n) i (suc k) h =
    let z : i + suc k ≡ suc i + k = omega arith in
    from_at b n (suc i) k (omega arith) ∙ rw z refl

-- what is said of a list that rises from `low` on
pub record Rises (low : ℕ) (ys : List ℕ) : Type 0 where
  pub above : (i : ℕ) → i < length ys → low ≤ get_or ys i 0
  pub below : (i : ℕ) → i < length ys → get_or ys i 0 < 1024
  pub rising : (i j : ℕ) → i < j → j < length ys → get_or ys i 0 < get_or ys j 0

pub rises_facts : (low : ℕ) (ys : List ℕ) → T (yards_rise low ys) → Rises low ys
unfolding yards_rise
rises_facts low [] t = record {
  above = λ i h. absurd (omega arith);
  below = λ i h. absurd (omega arith);
  rising = λ i j h k. absurd (omega arith);
}
rises_facts low (y ∷ ys) t =
    let p : low ≤ y = leb→le low y (and_left (leb low y) (ltb y 1024 && yards_rise (suc y) ys) t) in
    let q : y < 1024 = ltb→lt y 1024 (and_left (ltb y 1024) (yards_rise (suc y) ys) (and_right (leb low y) _ t)) in
    let r : Rises (suc y) ys = rises_facts (suc y) ys (and_right (ltb y 1024) _ (and_right (leb low y) _ t)) in
    record {
      above = above p r;
      below = below q r;
      rising = rising r;
    }
  where
    above : low ≤ y → Rises (suc y) ys → (i : ℕ) → i < suc (length ys) → low ≤ get_or (y ∷ ys) i 0
    above p r zero h = p
    above p r (suc i) h = omega (arith, r.above i (omega arith))

    below : y < 1024 → Rises (suc y) ys → (i : ℕ) → i < suc (length ys) → get_or (y ∷ ys) i 0 < 1024
    below q r zero h = q
    below q r (suc i) h = r.below i (omega arith)

    rising : Rises (suc y) ys → (i j : ℕ) → i < j → j < suc (length ys) → get_or (y ∷ ys) i 0 < get_or (y ∷ ys) j 0
    rising r i zero h k = absurd (omega arith)
    rising r zero (suc j) h k = r.above j (omega arith)
    rising r (suc i) (suc j) h k = r.rising i j (omega arith) (omega arith)

-- neighbours that rise are enough
pub facts_rises : (low : ℕ) (ys : List ℕ)
    → (0 < length ys → low ≤ get_or ys 0 0)
    → ((i : ℕ) → i < length ys → get_or ys i 0 < 1024)
    → ((i : ℕ) → i + 1 < length ys → get_or ys i 0 < get_or ys (i + 1) 0)
    → T (yards_rise low ys)
unfolding yards_rise
facts_rises low [] f g h = tt
facts_rises low (y ∷ ys) f g h =
    and_both (leb low y) _ (le→leb low y (f (omega arith)))
    (and_both (ltb y 1024) _ (lt→ltb y 1024 (g 0 (omega arith)))
    (facts_rises (suc y) ys (λ p. h 0 (omega arith)) (λ i p. g (suc i) (omega arith)) (λ i p. simp add-one (simp add-one at (h (suc i) (omega arith))))))

-- a list that rises names nothing below where it starts, and nothing twice
rises_above : (low : ℕ) (ys : List ℕ) → T (yards_rise low ys) → (x : ℕ) → Mem x ys → low ≤ x
unfolding yards_rise
rises_above low [] t x k = absurd (not-nil k)
rises_above low (y ∷ ys) t x k = go (cases_cons k) (λ j. rises_above (suc y) ys (and_right (ltb y 1024) _ (and_right (leb low y) _ t)) x j)
  where
    go : (x ≡ y) ⊎ Mem x ys → (Mem x ys → suc y ≤ x) → low ≤ x
    go (inl e) f = omega (arith, leb→le low y (and_left (leb low y) (ltb y 1024 && yards_rise (suc y) ys) t))
    go (inr j) f = omega (arith, f j, leb→le low y (and_left (leb low y) (ltb y 1024 && yards_rise (suc y) ys) t))

pub rises_distinct : (low : ℕ) (ys : List ℕ) → T (yards_rise low ys) → Distinct ys
unfolding yards_rise
rises_distinct low [] t = tt
rises_distinct low (y ∷ ys) t =
    let r : T (yards_rise (suc y) ys) = and_right (ltb y 1024) _ (and_right (leb low y) _ t) in
    ((λ k. omega (arith, rises_above (suc y) ys r y k)), rises_distinct (suc y) ys r)

-- test 8, of every yard
pub inside-all : (n : ℕ) (ys : List ℕ) → T (inside n ys) → (i : ℕ) → i < length ys → get_or ys i 0 < n
unfolding inside
inside-all n [] t i h = absurd (omega arith)
inside-all n (y ∷ ys) t zero h = ltb→lt y n (and_left (ltb y n) (inside n ys) t)
inside-all n (y ∷ ys) t (suc i) h = inside-all n ys (and_right (ltb y n) _ t) i (omega arith)

pub all-inside : (n : ℕ) (ys : List ℕ) → ((i : ℕ) → i < length ys → get_or ys i 0 < n) → T (inside n ys)
unfolding inside
all-inside n [] f = tt
all-inside n (y ∷ ys) f = and_both (ltb y n) _ (lt→ltb y n (f 0 (omega arith))) (all-inside n ys (λ i h. f (suc i) (omega arith)))

-- kinds "not 0", of n yards from number i on
pub kinds-facts : (b : List ℕ) (n i : ℕ) → T (kinds_set b n i) → (k : ℕ) → k < n → 1 ≤ yard_kind b (i + k)
unfolding kinds_set
kinds-facts b zero i t k h = absurd (omega arith)
kinds-facts b (suc n) i t zero h =
    let z : i + 0 ≡ i = omega arith in
    rw z (leb→le 1 (yard_kind b i) (and_left (leb 1 (yard_kind b i)) (kinds_set b n (suc i)) t))
kinds-facts b (suc n) i t (suc k) h =
    let z : i + suc k ≡ suc i + k = omega arith in
    rw z (kinds-facts b n (suc i) (and_right (leb 1 (yard_kind b i)) _ t) k (omega arith))

pub facts-kinds : (b : List ℕ) (n i : ℕ) → ((k : ℕ) → k < n → 1 ≤ yard_kind b (i + k)) → T (kinds_set b n i)
unfolding kinds_set
facts-kinds b zero i f = tt
facts-kinds b (suc n) i f =
    let z : i + 0 ≡ i = omega arith in
    and_both (leb 1 (yard_kind b i)) _ (le→leb 1 (yard_kind b i) (rw z at (f 0 (omega arith))))
    (facts-kinds b n (suc i) (λ k h. later k (f (suc k) (omega (arith, h)))))
  where
    later : (k : ℕ) → 1 ≤ yard_kind b (i + suc k) → 1 ≤ yard_kind b (suc i + k)
    later k h =
        let z : i + suc k ≡ suc i + k = omega arith in
        rw z at h
