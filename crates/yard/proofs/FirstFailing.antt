-- The refusal of a yard book is the number of the first of its tests that fails. Assumes nothing.
use mathlib.Core.List.{List}
use mathlib.Core.Bool.{◌&&◌}
use Prim.Native.Nat.{ℕ}
use native.Mathlib.Omega.{arith}
use lib.ListN.{length}
use Rattle.book.specs.Open.{open_refusal}
use Rattle.book.specs.Tests.{FirstFailing, open_tests}
use Rattle.book.proofs.FirstFailing.{first-end, first-test, first-le, first_eq, first_join, open_tests_lem}
use Rattle.yard.specs.Yards.{yard_count, yard_place, yards_of, yards_rise, kinds_set, inside, yard_body_refusal, yard_refusal, yard_refusal_in}
use Rattle.yard.specs.Tests.{yard_tests, yard_tests_in}
use Rattle.yard.proofs.YardLayout.{rise-values, values-rise, inside-yards, yards-within}

module _ (b : List ℕ) where
  pub yard_tests_lem : FirstFailing (yard_tests b) (yard_refusal b)
  unfolding yard_refusal yard_body_refusal
  yard_tests_lem =
      first_join (open_tests b 2 2) _ (open_refusal b 2 2) _ tt (open_tests_lem b 2 2) (λ _.
      first-le 1 (yard_count b) 3 _ _ (λ _.
      first-le (yard_count b) 256 3 _ _ (λ _.
      first_eq (length b) (yard_place b (yard_count b)) 4 _ _ (λ _.
      first-test (yards_rise 0 (yards_of b) && kinds_set b (yard_count b) 0) 5 0 _ (rise-values b) (values-rise b) (λ _. first-end)))))

  pub yard_tests_in_lem : (n : ℕ) → FirstFailing (yard_tests_in b n) (yard_refusal_in b n)
  unfolding yard_refusal_in
  yard_tests_in_lem n =
      first_join (yard_tests b) _ (yard_refusal b) _ tt yard_tests_lem (λ _.
      first-test (inside n (yards_of b)) 8 0 _
      (λ t i h. omega (arith, inside-yards b n t i h))
      (λ f. yards-within b n (λ i h. omega (arith, f i h))) (λ _. first-end))
