-- Test 5, one yard at a time, as a loop counts: `count - i` yards are left. Assumes nothing.
use mathlib.Core.Path.{◌≡◌}
use mathlib.Core.Bool.{true, false}
use mathlib.Core.List.{List}
use Prim.Native.Nat.{ℕ, suc, ◌+◌, ◌-◌, ◌≤◌, ◌<◌}
use native.Mathlib.Omega.{arith}
use native.Mathlib.Numerals.{add-one}
use borrow.Author.Tests.{le-ltb, le-leb, lt-leb}
use Rattle.yard.specs.Yards.{yard_at, yards_from, yard_kind, yards_rise, kinds_set}

module _ (b : List ℕ) (count i low y : ℕ) where
  -- a yard that is above the one before and below 1,024: the rest decides
  pub goes_on : i < count → y ≡ yard_at b i → low ≤ y → y < 1024
      → yards_rise (y + 1) (yards_from b (count - (i + 1)) (i + 1)) ≡ yards_rise low (yards_from b (count - i) i)
  unfolding yards_rise yards_from
  goes_on p e h l =
      let s : count - i ≡ suc (count - (i + 1)) = omega arith in
      simp (s, ← e, le-leb, add-one)

  -- one that is not above the one before decides
  pub falls : i < count → y ≡ yard_at b i → y < low → yards_rise low (yards_from b (count - i) i) ≡ false
  unfolding yards_rise yards_from
  falls p e h =
      let s : count - i ≡ suc (count - (i + 1)) = omega arith in
      simp (s, ← e, lt-leb)

  -- so does one that is not below 1,024
  pub high : i < count → y ≡ yard_at b i → low ≤ y → 1024 ≤ y → yards_rise low (yards_from b (count - i) i) ≡ false
  unfolding yards_rise yards_from
  high p e h l =
      let s : count - i ≡ suc (count - (i + 1)) = omega arith in
      simp (s, ← e, le-leb, le-ltb)

-- none is left
pub ends : (b : List ℕ) (count i low : ℕ) → count ≤ i → yards_rise low (yards_from b (count - i) i) ≡ true
unfolding yards_rise yards_from
ends b count i low p =
    let s : count - i ≡ 0 = omega arith in
    simp s

-- ---- kinds

module _ (b : List ℕ) (count i k : ℕ) where
  -- a kind that is set: the rest decides
  pub kinds_on : i < count → k ≡ yard_kind b i → (k ≡ 0 → ⊥)
      → kinds_set b (count - (i + 1)) (i + 1) ≡ kinds_set b (count - i) i
  unfolding kinds_set
  kinds_on p e h =
      let s : count - i ≡ suc (count - (i + 1)) = omega arith in
      let t : 1 ≤ k = omega (arith, h) in
      simp (s, ← e, le-leb, add-one)

  -- one that is not decides
  pub unset : i < count → k ≡ yard_kind b i → k ≡ 0 → kinds_set b (count - i) i ≡ false
  unfolding kinds_set
  unset p e h =
      let s : count - i ≡ suc (count - (i + 1)) = omega arith in
      let t : k < 1 = omega (arith, h) in
      simp (s, ← e, lt-leb)

-- none is left
pub kinds-end : (b : List ℕ) (count i : ℕ) → count ≤ i → kinds_set b (count - i) i ≡ true
unfolding kinds_set
kinds-end b count i p =
    let s : count - i ≡ 0 = omega arith in
    simp s
