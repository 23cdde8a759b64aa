-- Eight words that are no less than the least so far change nothing. Assumes nothing.
use mathlib.Core.Path.{◌≡◌, refl, ◌∙◌}
use mathlib.Core.Bool.{Bool, true, false, ◌&&◌}
use mathlib.Core.List.{List}
use Prim.Native.Nat.{ℕ, zero, suc, ◌+◌, ◌-◌, ◌≤◌, ◌<◌, min}
use native.Mathlib.Decide.{dec_lt}
use native.Mathlib.Omega.{arith}
use borrow.Author.Tests.{lt-leb, le-leb}
use lib.ListN.{length, get_or}
use lib.Dec.{T, leb, leb→le}
use Rattle.book.proofs.Choosing.{true_T, and_left, and_right}
use Rattle.search_queue.specs.code.Eights.{least_of_four, least_of_eight, eight_pass}
use Rattle.search_queue.proofs.Picking.{Picked, picked_same}

module _ (ws : List ℕ) (j : ℕ) where
  pub four_is : (a b x : ℕ) → a ≡ min (get_or ws j 0) (get_or ws (j + 1) 0) → b ≡ min (get_or ws (j + 2) 0) (get_or ws (j + 3) 0) → x ≡ min a b → x ≡ least_of_four ws j
  unfolding least_of_four
  four_is a b x e f g = rw (← e, ← f) g

  pub eight_is : (a b x : ℕ) → a ≡ least_of_four ws j → b ≡ least_of_four ws (j + 4) → x ≡ min a b → x ≡ least_of_eight ws j
  unfolding least_of_eight
  eight_is a b x e f g = rw (← e, ← f) g

  -- the test's two answers
  pub pass_short : (w : ℕ) → length ws - j < 8 → j ≤ length ws → false ≡ eight_pass ws j w
  unfolding eight_pass
  pass_short w h k = rw (lt-leb (j + 8) (length ws) (omega arith)) refl

  pub pass_long : (w x : ℕ) (r : Bool) → 8 ≤ length ws - j → x ≡ least_of_eight ws j → r ≡ leb w x → r ≡ eight_pass ws j w
  unfolding eight_pass
  pass_long w x r h e f = f ∙ rw (e, le-leb (j + 8) (length ws) (omega arith)) refl

-- none of four words is less than their least
four_low : (ws : List ℕ) (j m : ℕ) → m < 4 → least_of_four ws j ≤ get_or ws (j + m) 0
unfolding least_of_four
four_low ws j zero h = let z : j + 0 ≡ j = omega arith in rw z (omega arith)
four_low ws j (suc zero) h = omega arith
four_low ws j (suc (suc zero)) h = omega arith
four_low ws j (suc (suc (suc zero))) h = omega arith
four_low ws j (suc (suc (suc (suc m)))) h = absurd (omega arith)

-- nor of eight
eight_low : (ws : List ℕ) (j n : ℕ) → n < 8 → least_of_eight ws j ≤ get_or ws (j + n) 0
unfolding least_of_eight
eight_low ws j n h = go (dec_lt n 4)
  where
    go : Dec (n < 4) → least_of_eight ws j ≤ get_or ws (j + n) 0
    go (yes k) = omega (arith, four_low ws j n k)
    go (no k) = let z : j + n ≡ j + 4 + (n - 4) = omega arith in rw z (omega (arith, four_low ws (j + 4) (n - 4) (omega arith)))

-- the words that are passed over change nothing
module _ (ws : List ℕ) (j p w : ℕ) (k : Picked ws j p w) (t : eight_pass ws j w ≡ true) where
  test : T (leb (j + 8) (length ws) && leb w (least_of_eight ws j))
  unfolding eight_pass
  test = true_T t

  pub eight_room : j + 8 ≤ length ws
  eight_room = leb→le (j + 8) (length ws) (and_left (leb (j + 8) (length ws)) (leb w (least_of_eight ws j)) test)

  low : w ≤ least_of_eight ws j
  low = leb→le w (least_of_eight ws j) (and_right (leb (j + 8) (length ws)) (leb w (least_of_eight ws j)) test)

  passed : (n : ℕ) → n ≤ 8 → Picked ws (j + n) p w
  passed zero h = let z : j + 0 ≡ j = omega arith in rw z k
  passed (suc n) h =
      let z : j + suc n ≡ j + n + 1 = omega arith in
      rw z (picked_same ws (j + n) p w (passed n (omega arith)) (omega (arith, eight_room)) p w refl refl
      (omega (arith, low, eight_low ws j n (omega arith))))

  pub eight_passed : Picked ws (j + 8) p w
  eight_passed = passed 8 (omega arith)
