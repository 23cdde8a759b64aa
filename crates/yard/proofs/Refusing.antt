-- Which facts lead to which answer of `yard_refusal`. Assumes nothing.
use mathlib.Core.Path.{◌≡◌, ◌∙◌}
use mathlib.Core.Bool.{true, false, ◌&&◌}
use mathlib.Core.List.{List}
use Prim.Native.Nat.{ℕ, ◌≤◌, ◌<◌}
use native.Mathlib.Omega.{arith}
use borrow.Author.Tests.{le-leb, lt-leb, eq-eqb, ne_eqb}
use lib.ListN.{length}
use lib.Dec.{eqb}
use Rattle.book.specs.Choose.{refuse}
use Rattle.book.specs.Bytes.{u16_at}
use Rattle.book.specs.Open.{open_refusal}
use Rattle.book.proofs.Choosing.{passes, fails, true_T, false_T, first-earlier, first-later}
use Rattle.yard.specs.Yards.{yard_count, yard_place, yards_from, yards_of, yards_rise, kinds_set, yard_body_refusal, yard_refusal}

-- a book that does not open
pub unopened : (b : List ℕ) (why : ℕ) → open_refusal b 2 2 ≡ why → 1 ≤ why → yard_refusal b ≡ why
unfolding yard_refusal
unopened b why e h = first-earlier _ _ (omega arith) ∙ e

module _ (b : List ℕ) (o : open_refusal b 2 2 ≡ 0) (count : ℕ) (e : count ≡ u16_at b 5) where
  body : yard_refusal b ≡ yard_body_refusal b
  unfolding yard_refusal
  body = first-later _ _ o

  pub none : count < 1 → yard_refusal b ≡ 3
  unfolding yard_body_refusal yard_count
  none p = body ∙ fails _ _ _ (false_T (lt-leb 1 (u16_at b 5) (omega arith)))

  module _ (p : 1 ≤ count) where
    pub many : 256 < count → yard_refusal b ≡ 3
    unfolding yard_body_refusal yard_count
    many q =
        body
        ∙ passes _ _ _ (true_T (le-leb 1 (u16_at b 5) (omega arith)))
        ∙ fails _ _ _ (false_T (lt-leb (u16_at b 5) 256 (omega arith)))

    module _ (q : count ≤ 256) where
      rest : yard_refusal b ≡ refuse (eqb (length b) (yard_place b count)) 4 (refuse (yards_rise 0 (yards_from b count 0) && kinds_set b count 0) 5 0)
      unfolding yard_body_refusal yard_count yards_of
      rest =
          rw e
          (body
          ∙ passes _ _ _ (true_T (le-leb 1 (u16_at b 5) (omega arith)))
          ∙ passes _ _ _ (true_T (le-leb (u16_at b 5) 256 (omega arith))))

      pub unsized : (length b ≡ yard_place b count → ⊥) → yard_refusal b ≡ 4
      unsized r = rest ∙ fails _ _ _ (false_T (ne_eqb _ _ r))

      module _ (r : length b ≡ yard_place b count) where
        pub unordered : yards_rise 0 (yards_from b count 0) ≡ false → yard_refusal b ≡ 5
        unordered t = rest ∙ passes _ _ _ (true_T (eq-eqb _ _ r)) ∙ fails _ _ _ (rw t tt)

        pub unkinded : yards_rise 0 (yards_from b count 0) ≡ true → kinds_set b count 0 ≡ false → yard_refusal b ≡ 5
        unkinded t k = rest ∙ passes _ _ _ (true_T (eq-eqb _ _ r)) ∙ fails _ _ _ (rw (t, k) tt)

        pub sound : yards_rise 0 (yards_from b count 0) ≡ true → kinds_set b count 0 ≡ true → yard_refusal b ≡ 0
        sound t k = rest ∙ passes _ _ _ (true_T (eq-eqb _ _ r)) ∙ passes _ _ _ (rw (t, k) tt)
