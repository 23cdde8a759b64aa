-- Which facts lead to which answer of `tree_layout_refusal`. Assumes nothing.
use mathlib.Core.Path.{◌≡◌, refl, sym, ap, ◌∙◌}
use mathlib.Core.Bool.{Bool, true, false}
use mathlib.Core.List.{List}
use Prim.Native.Nat.{ℕ, zero, suc, ◌≤◌}
use native.Mathlib.Omega.{arith}
use Rattle.book.specs.Choose.{refuse}
use Rattle.book.specs.Bytes.{u8_at, u16_at}
use Rattle.book.specs.Cases.{case_of}
use Rattle.book.specs.Open.{open_refusal}
use Rattle.book.proofs.Choosing.{passes, fails, true_T, false_T, first-earlier, first-later}
use Rattle.tree_layout.specs.Decode.{read_regions, decode, junction_count, region_count, tree_yard_count, landmark_count}
use Rattle.tree_layout.specs.Refusal.{between, all, records_ok, region_ok, values_ok, tree_layout_refusal}
use Rattle.tree_layout.specs.Reading.{header_of, header_values, Laid, Refused, tree_book, layout_case}
use Rattle.tree_layout.specs.declared.Header.{Header}

-- a book that does not open
pub unopened : (b : List ℕ) (why : ℕ) → open_refusal b 2 7 ≡ why → 1 ≤ why → tree_layout_refusal b ≡ why
unfolding tree_layout_refusal
unopened b why e h = first-earlier _ _ (omega arith) ∙ e

-- the tests after the opening
module _ (b : List ℕ) (o : open_refusal b 2 7 ≡ 0) where
  opened : tree_layout_refusal b
      ≡ refuse (between 1 1024 (junction_count b)) 3
      (refuse (between 1 511 (region_count b)) 3
      (refuse (between 1 256 (tree_yard_count b)) 3
      (refuse (between 1 4 (landmark_count b)) 3
      (refuse (records_ok b (landmark_count b) (region_count b) 12) 4
      (refuse (values_ok (decode b)) 5 0)))))
  unfolding tree_layout_refusal
  opened = first-later _ _ o

  pub junctions_out : between 1 1024 (junction_count b) ≡ false → tree_layout_refusal b ≡ 3
  junctions_out t = opened ∙ fails _ _ _ (false_T t)

  module _ (t1 : between 1 1024 (junction_count b) ≡ true) where
    past1 : tree_layout_refusal b
        ≡ refuse (between 1 511 (region_count b)) 3
        (refuse (between 1 256 (tree_yard_count b)) 3
        (refuse (between 1 4 (landmark_count b)) 3
        (refuse (records_ok b (landmark_count b) (region_count b) 12) 4
        (refuse (values_ok (decode b)) 5 0))))
    past1 = opened ∙ passes _ _ _ (true_T t1)

    pub regions_out : between 1 511 (region_count b) ≡ false → tree_layout_refusal b ≡ 3
    regions_out t = past1 ∙ fails _ _ _ (false_T t)

    module _ (t2 : between 1 511 (region_count b) ≡ true) where
      past2 : tree_layout_refusal b
          ≡ refuse (between 1 256 (tree_yard_count b)) 3
          (refuse (between 1 4 (landmark_count b)) 3
          (refuse (records_ok b (landmark_count b) (region_count b) 12) 4
          (refuse (values_ok (decode b)) 5 0)))
      past2 = past1 ∙ passes _ _ _ (true_T t2)

      pub yards_out : between 1 256 (tree_yard_count b) ≡ false → tree_layout_refusal b ≡ 3
      yards_out t = past2 ∙ fails _ _ _ (false_T t)

      module _ (t3 : between 1 256 (tree_yard_count b) ≡ true) where
        past3 : tree_layout_refusal b
            ≡ refuse (between 1 4 (landmark_count b)) 3
            (refuse (records_ok b (landmark_count b) (region_count b) 12) 4
            (refuse (values_ok (decode b)) 5 0))
        past3 = past2 ∙ passes _ _ _ (true_T t3)

        pub landmarks_out : between 1 4 (landmark_count b) ≡ false → tree_layout_refusal b ≡ 3
        landmarks_out t = past3 ∙ fails _ _ _ (false_T t)

        module _ (t4 : between 1 4 (landmark_count b) ≡ true) where
          past4 : tree_layout_refusal b
              ≡ refuse (records_ok b (landmark_count b) (region_count b) 12) 4
              (refuse (values_ok (decode b)) 5 0)
          past4 = past3 ∙ passes _ _ _ (true_T t4)

          pub records_out : records_ok b (landmark_count b) (region_count b) 12 ≡ false → tree_layout_refusal b ≡ 4
          records_out t = past4 ∙ fails _ _ _ (false_T t)

          module _ (t5 : records_ok b (landmark_count b) (region_count b) 12 ≡ true) where
            past5 : tree_layout_refusal b ≡ refuse (all (region_ok (junction_count b)) (read_regions b (landmark_count b) (region_count b) 12)) 5 0
            unfolding values_ok decode
            past5 = past4 ∙ passes _ _ _ (true_T t5)

            pub values_out : all (region_ok (junction_count b)) (read_regions b (landmark_count b) (region_count b) 12) ≡ false → tree_layout_refusal b ≡ 5
            values_out t = past5 ∙ fails _ _ _ (false_T t)

            pub laid_out : all (region_ok (junction_count b)) (read_regions b (landmark_count b) (region_count b) 12) ≡ true → tree_layout_refusal b ≡ 0
            laid_out t = past5 ∙ passes _ _ _ (true_T t)

-- a test of a header's number, as the reader makes it
pub limit : (low high x y : ℕ) (r t : Bool) → r ≡ between low high x → x ≡ y → r ≡ t → between low high y ≡ t
limit low high x y r t e f g = ap (λ (z : ℕ). between low high z) (sym f) ∙ sym e ∙ g

-- tests 4 and 5, as the reader makes them
module _ (b : List ℕ) (m n : ℕ) (e : m ≡ landmark_count b) (f : n ≡ region_count b) (r t : Bool) (g : r ≡ t) where
  pub records_read : r ≡ records_ok b m n 12 → records_ok b (landmark_count b) (region_count b) 12 ≡ t
  records_read h = rw (← e, ← f) (sym h ∙ g)

  pub values_read : (j : ℕ) → j ≡ junction_count b → r ≡ all (region_ok j) (read_regions b m n 12)
      → all (region_ok (junction_count b)) (read_regions b (landmark_count b) (region_count b) 12) ≡ t
  values_read j k h = rw (← e, ← f, ← k) (sym h ∙ g)

-- the header's fields as the reader finds them
module _ (b : List ℕ) where
  pub junctions_read : u16_at b 5 ≡ junction_count b
  unfolding junction_count
  junctions_read = refl

  pub regions_read : u16_at b 7 ≡ region_count b
  unfolding region_count
  regions_read = refl

  pub yards_read : u16_at b 9 ≡ tree_yard_count b
  unfolding tree_yard_count
  yards_read = refl

  pub landmarks_read : u8_at b 11 ≡ landmark_count b
  unfolding landmark_count
  landmarks_read = refl

-- the answer's cases
pub answer-refused : (n : ℕ) (h : Header) → 1 ≤ n → tree_book n h ≡ Refused n
unfolding tree_book
answer-refused zero h l = absurd (omega arith)
answer-refused (suc n) h l = refl

pub answer-laid : (n : ℕ) (h : Header) → n ≡ 0 → tree_book n h ≡ Laid h
unfolding tree_book
answer-laid zero h e = refl
answer-laid (suc n) h e = absurd (omega arith)

-- and back to the number
pub laid-number : (n : ℕ) (h found : Header) → tree_book n h ≡ Laid found → (n ≡ 0) × (h ≡ found)
unfolding tree_book
laid-number zero h found e = (refl, cc)
laid-number (suc n) h found e = let z : ◌≡◌ {A = ℕ} 0 1 = cc in absurd (omega arith)

pub refused-number : (n : ℕ) (h : Header) (why : ℕ) → tree_book n h ≡ Refused why → (n ≡ why) × (1 ≤ why)
unfolding tree_book
refused-number zero h why e = let z : ◌≡◌ {A = ℕ} 0 1 = cc in absurd (omega arith)
refused-number (suc n) h why e =
    let q : suc n ≡ why = cc in
    (q, omega arith)

-- an answer in the paper's numbers
pub case_is : (n : ℕ) (h : Header) → layout_case (tree_book n h) ≡ case_of n (header_values h)
unfolding layout_case tree_book
case_is zero h = refl
case_is (suc n) h = refl

-- what a reader answers for the number that it found
pub answers-refused : (b : List ℕ) (why : ℕ) → why ≡ tree_layout_refusal b → 1 ≤ why → Refused why ≡ tree_book (tree_layout_refusal b) (header_of b)
answers-refused b why e h = rw (← e) (sym (answer-refused why (header_of b) h))

pub answers-laid : (b : List ℕ) (h : Header) → tree_layout_refusal b ≡ 0 → h ≡ header_of b → Laid h ≡ tree_book (tree_layout_refusal b) (header_of b)
answers-laid b h e f = rw f (sym (answer-laid (tree_layout_refusal b) (header_of b) e))
