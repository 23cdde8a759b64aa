-- The refusal of a query book is the number of the first of its tests that fails. Assumes nothing.
use mathlib.Core.List.{List}
use Prim.Native.Nat.{ℕ, ◌+◌, ◌*◌}
use native.Mathlib.Omega.{arith}
use lib.ListN.{length}
use Rattle.book.specs.Open.{open_refusal}
use Rattle.book.specs.Tests.{FirstFailing, open_tests}
use Rattle.book.proofs.FirstFailing.{first-end, first-test, first-le, first_eq, first_join, open_tests_lem}
use Rattle.query.specs.Query.{aggregate_of, k_of, crew_count, crews_of, inside, value_refusal, query_body_refusal, query_refusal}
use Rattle.query.specs.Tests.{query_tests}
use Rattle.query.proofs.CrewList.{each-inside, inside-all}

pub query_tests_lem : (b : List ℕ) (n : ℕ) → FirstFailing (query_tests b n) (query_refusal b n)
unfolding query_refusal query_body_refusal value_refusal crews_of
query_tests_lem b n =
    first_join (open_tests b 1 7) _ (open_refusal b 1 7) _ tt (open_tests_lem b 1 7) (λ _.
    first_eq (length b) (12 + 2 * crew_count b) 4 _ _ (λ _.
    first-le 1 (crew_count b) 10 _ _ (λ _.
    first-le (crew_count b) 16 10 _ _ (λ _.
    first-test (inside n (crews_of b)) 10 _ _
    (λ t i h. omega (arith, each-inside b n (crew_count b) 0 t i (omega arith) (omega arith)))
    (λ f. inside-all b n (crew_count b) 0 (λ i p q. omega (arith, f i (omega arith)))) (λ _.
    first-le (aggregate_of b) 1 11 _ _ (λ _.
    first-le 1 (k_of b) 11 _ _ (λ _.
    first-le (k_of b) 64 11 0 _ (λ _. first-end))))))))
