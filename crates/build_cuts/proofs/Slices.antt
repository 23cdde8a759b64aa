-- The yards of a range are those of a book from one number up to another. Assumes nothing.
use mathlib.Core.Path.{◌≡◌, ap, ◌∙◌}
use mathlib.Core.List.{List}
use Prim.Native.Nat.{ℕ, suc, ◌+◌, ◌-◌, ◌≤◌, ◌<◌}
use native.Mathlib.Omega.{arith}
use lib.ListN.{length}
use Rattle.yard.specs.Yards.{yard_count, yards_from, yards_of, yard_refusal}
use Rattle.yard.proofs.Listing.{from-length}
use Rattle.yard.proofs.YardLayout.{rising-yards}
use Rattle.yard.proofs.Turns.{yards_slice}
use Rattle.check_rules.specs.Truth.{within}
use Rattle.build_rules.specs.Cut.{cut_at, cut_part}
use Rattle.build_rules.specs.code.Facts.{count_below}
use Rattle.build_rules.proofs.Parts.{Rising, rising-places, cut-rise}
use Rattle.build_rules.proofs.Steps.{count_most, count-rise, within_slice, part-within}

module _ (yb : List ℕ) (ok : yard_refusal yb ≡ 0) where
  pub yards-rising : Rising (yards_of yb)
  yards-rising = rising-places (yards_of yb) (rising-yards yb ok).rising

  -- no more than the book has
  pub below-most : (x : ℕ) → count_below x (yards_of yb) ≤ yard_count yb
  below-most x = omega (arith, count_most x (yards_of yb), (rising-yards yb ok).counted)

  pub below-rise : (low high : ℕ) → low ≤ high → count_below low (yards_of yb) ≤ count_below high (yards_of yb)
  below-rise low high h = count-rise low high (yards_of yb) h

  -- the yards from junction low up to junction high
  pub within-yards : (low high : ℕ) → low ≤ high
      → within low high (yards_of yb) ≡ yards_from yb (count_below high (yards_of yb) - count_below low (yards_of yb)) (count_below low (yards_of yb))
  within-yards low high h =
      within_slice low high (yards_of yb) yards-rising h
      ∙ yards_slice yb (count_below low (yards_of yb)) (count_below high (yards_of yb)) (below-rise low high h) (below-most high)

  within-length : (low high : ℕ) → low ≤ high → length (within low high (yards_of yb)) ≡ count_below high (yards_of yb) - count_below low (yards_of yb)
  within-length low high h =
      ap length (within-yards low high h)
      ∙ from-length yb (count_below high (yards_of yb) - count_below low (yards_of yb)) (count_below low (yards_of yb))

  -- the yards of a part of a range
  pub part-yards : (a s i : ℕ) → i < 4 → cut_part a s (within a (a + s) (yards_of yb)) i ≡ within (cut_at a s i) (cut_at a s (suc i)) (yards_of yb)
  part-yards a s i h = part-within a s (yards_of yb) i h

  pub part_length : (a s i : ℕ) → i < 4
      → length (cut_part a s (within a (a + s) (yards_of yb)) i) ≡ count_below (cut_at a s (suc i)) (yards_of yb) - count_below (cut_at a s i) (yards_of yb)
  part_length a s i h = ap length (part-yards a s i h) ∙ within-length (cut_at a s i) (cut_at a s (suc i)) (cut-rise a s i)
