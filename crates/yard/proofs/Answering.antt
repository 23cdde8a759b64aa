-- What the readers answer for the numbers that they found. Assumes nothing.
use mathlib.Core.Path.{◌≡◌, refl, sym, ap, ◌∙◌}
use mathlib.Core.List.{List, [], ◌∷◌}
use Prim.Native.Nat.{ℕ, zero, suc, ◌-◌, ◌≤◌, ◌<◌}
use native.Mathlib.Omega.{arith}
use lib.ListN.{get_or}
use Rattle.book.specs.Cases.{case_of}
use Rattle.yard.specs.Yards.{yard_count, yards_of, yard_refusal, yard_refusal_in, Yards, Refused, yard_book, yard_case}
use Rattle.yard.proofs.YardLayout.{last_inside, last_outside, own_tests, outside, within}

-- the answer's cases
pub answer-refused : (n count : ℕ) → 1 ≤ n → yard_book n count ≡ Refused n
unfolding yard_book
answer-refused zero count h = absurd (omega arith)
answer-refused (suc n) count h = refl

pub answer-yards : (n count : ℕ) → n ≡ 0 → yard_book n count ≡ Yards count
unfolding yard_book
answer-yards zero count e = refl
answer-yards (suc n) count e = absurd (omega arith)

-- and back to the number
pub yards-number : (n count found : ℕ) → yard_book n count ≡ Yards found → (n ≡ 0) × (count ≡ found)
unfolding yard_book
yards-number zero count found e = (refl, cc)
yards-number (suc n) count found e = let z : ◌≡◌ {A = ℕ} 0 1 = cc in absurd (omega arith)

pub refused-number : (n count why : ℕ) → yard_book n count ≡ Refused why → (n ≡ why) × (1 ≤ why)
unfolding yard_book
refused-number zero count why e = let z : ◌≡◌ {A = ℕ} 0 1 = cc in absurd (omega arith)
refused-number (suc n) count why e =
    let q : suc n ≡ why = cc in
    (q, omega arith)

-- an answer in the paper's numbers
pub case_is : (n count : ℕ) → yard_case (yard_book n count) ≡ case_of n (count ∷ [])
unfolding yard_case yard_book
case_is zero count = refl
case_is (suc n) count = refl

-- what a reader answers for the number that it found
pub answers-refused : (b : List ℕ) (why : ℕ) → why ≡ yard_refusal b → 1 ≤ why → Refused why ≡ yard_book (yard_refusal b) (yard_count b)
answers-refused b why e h = rw (← e) (sym (answer-refused why (yard_count b) h))

pub answers-yards : (b : List ℕ) (count : ℕ) → yard_refusal b ≡ 0 → count ≡ yard_count b → Yards count ≡ yard_book (yard_refusal b) (yard_count b)
answers-yards b count e h = rw h (sym (answer-yards (yard_refusal b) (yard_count b) e))

-- the answer beside a road book with n junctions, from that of the book alone
module _ (b : List ℕ) (n : ℕ) where
  pub beside-refused : (why : ℕ) → Refused why ≡ yard_book (yard_refusal b) (yard_count b)
      → Refused why ≡ yard_book (yard_refusal_in b n) (yard_count b)
  beside-refused why e =
      let q = refused-number _ _ why (sym e) in
      e ∙ ap (λ (r : ℕ). yard_book r (yard_count b)) (sym (own_tests b n (omega arith)))

  module _ (count : ℕ) (e : Yards count ≡ yard_book (yard_refusal b) (yard_count b)) where
    pub beside-found : (yard_refusal b ≡ 0) × (yard_count b ≡ count)
    beside-found = yards-number _ _ count (sym e)

    module _ (last : ℕ) (l : last ≡ get_or (yards_of b) (count - 1) 0) where
      pub beside-outside : n ≤ last → Refused 8 ≡ yard_book (yard_refusal_in b n) (yard_count b)
      beside-outside h =
          let q = beside-found in
          let k : n ≤ get_or (yards_of b) (yard_count b - 1) 0 = rw (q.1, ← l) h in
          rw (outside b n q.0 (last_outside b n q.0 k)) (sym (answer-refused 8 (yard_count b) (omega arith)))

      pub beside-inside : last < n → Yards count ≡ yard_book (yard_refusal_in b n) (yard_count b)
      beside-inside h =
          let q = beside-found in
          let k : get_or (yards_of b) (yard_count b - 1) 0 < n = rw (q.1, ← l) h in
          rw (within b n q.0 (last_inside b n q.0 k)) (sym (answer-yards 0 (yard_count b) refl ∙ ap Yards q.1))
